-- A carried unit at its place: what it goes on to, and one more behind all others.
use Rattle.std.proofs.Common.{◌≡◌, ℕ, ◌+◌, ◌<◌, zero, suc, List, [], ◌∷◌, ◌++◌, length, Bool, true, false, true≢false, inl, inr, refl, sym, ap, ◌∙◌, subst, arith, map, Some}
use Rattle.std.specs.Prelude.{get_or, slice_get, slice_set}
use Rattle.std.proofs.lemmas.List.{length-map}
use Rattle.std.proofs.lemmas.Option.{get_or_from_slice_get, slice_get_read}
use Rattle.std.specs.List.{AllByRecursion}
use Rattle.base_types.specs.declared.calls.Call.{Call}
use Rattle.base_types.specs.declared.calls.Origin.{Origin}
use Rattle.base_types.specs.declared.calls.Origin.TheVariants.{Child}
use Rattle.cell_model.proofs.Units.{Member-append}
use Rattle.cell_model.specs.Units.{UnitsAscend}
use Rattle.core_model.specs.CoreState.{UnitNo, Member, CoreState, nobody}
use Rattle.core_model.specs.Changes.{new_unit}
use Rattle.core_model.specs.Events.{applies}
use Rattle.core_model.specs.LegalRuns.{Run, ends}
use Rattle.core_model.specs.declared.events.CoreEvent.{CoreEvent}
use Rattle.core_model.specs.declared.events.CoreEvent.TheVariants.{Begin, Want}
use Rattle.core_model.specs.declared.events.CoreReply.{CoreReply}
use Rattle.core_model.specs.declared.events.CoreReply.TheVariants as reply
use Rattle.core_access.specs.Sights.{Sight, run_seen, Counts, Tells}
use Rattle.core_access.proofs.Sights.{reply-alone, run-alone, tells-on}
use Rattle.core_access.specs.OneHolder.{none_comes}
use Rattle.script_tree.specs.Programs.{ProgramTree}
use Rattle.script_meaning.specs.Play.{IsTransaction}
use Rattle.turn_rules.specs.NextEvent.{is_own}
use Rattle.turn_rules.proofs.Numbers.{older-last, next-begun}
use Rattle.turn_rules.proofs.Growth.{ends-more}
use Rattle.worker_rules.proofs.CallPromises.{is-harmless}
use Rattle.txn_agent.specs.declared.agent.Advanced.{Advanced}
use Rattle.txn_agent.specs.declared.agent.Advanced.TheVariants as came
use Rattle.txn_agent.specs.declared.agent.Agent.{Agent}
use Rattle.txn_agent.specs.declared.work.Carried.{Carried}
use Rattle.txn_agent.specs.CoreLink.{IfOwn, IsNew, Knows}
use Rattle.txn_agent.specs.AgentStep.{Acts, AnswerSays, children_of}
use Rattle.txn_agent.proofs.ChildBegins.{began-reply}
use Rattle.txn_agent.proofs.StepPromises.{knows-steps, knows-tells, new-carried}
use Rattle.txn_agent.specs.Wishes.{Wishes}
use Rattle.txn_agent.proofs.WishAnswers.{knows-wishes}
use Rattle.unit_carrier.specs.CarriedUnits.{HasCoreAlone, AreCarried, CameAs, CarriesOneMore, StepsOn, as_carried, units_carried, unit_at, went_by, with_child}
use Rattle.unit_carrier.proofs.MoverSearch.{all-at, all-set, map-set, map-at}
use Rattle.unit_carrier.proofs.CarriedUnits.{acts-holds, acts-next, acts-origin, below-more, all-each, came-still, map-member, tells-holds, tells-next, tells-origin}

-- ---- units by what is carried of them

-- the units of what is carried
units-as : (agents : List Agent) → units_carried agents ≡ map (λ (c : Carried). c.unit) (as_carried agents)
units-as [] = refl
units-as (a ∷ agents) = ap (λ (us : List UnitNo). a.carried.unit ∷ us) (units-as agents)

-- where the same is carried, the units are the same
pub units-same : (xs ys : List Agent) → as_carried xs ≡ as_carried ys → units_carried xs ≡ units_carried ys
units-same xs ys e = units-as xs ∙ ap (map (λ (c : Carried). c.unit)) e ∙ sym (units-as ys)

-- and there are as many
same-length : (xs ys : List Agent) → as_carried xs ≡ as_carried ys → length xs ≡ length ys
same-length xs ys e = sym (length-map xs carried) ∙ ap (λ (cs : List Carried). length cs) e ∙ length-map ys carried
  where
    carried : Agent → Carried
    carried a = a.carried

-- the agent at an index, read where as many are carried as first
pub agent-here : (first now : List Agent) (n i : ℕ) (a : Agent) → as_carried now ≡ as_carried first → n ≡ length first → i < n → a ≡ get_or now i a → slice_get now i ≡ Some a
agent-here first now n i a e q low value = slice_get_read now n i a (q ∙ sym (same-length now first e)) low value

-- an agent in the place of one that carries the same unit
pub units-set : (agents : List Agent) (i : ℕ) (old new : Agent) → slice_get agents i ≡ Some old → new.carried ≡ old.carried → units_carried (slice_set agents i new) ≡ units_carried agents
units-set agents i old new q e = map-set (λ (a : Agent). a.carried.unit) agents i old new q (ap (λ (c : Carried). c.unit) e)

-- it came from where the other did
came-set : (s : Sight) (agents : List Agent) (i : ℕ) (old new : Agent) → slice_get agents i ≡ Some old → new.carried ≡ old.carried → AllByRecursion (CameAs s) agents → AllByRecursion (CameAs s) (slice_set agents i new)
came-set s agents i old new q e all =
    all-set (CameAs s) agents i new all (subst (λ (c : Carried). (ends (run_seen s)).units.origin c.unit ≡ c.origin) (sym e) (all-at (CameAs s) agents i old q all))

-- it is known in that place
pub set-carried : (types : ProgramTree) (may : CoreEvent → Bool) (s : Sight) (agents : List Agent) (i : ℕ) (old new : Agent) → slice_get agents i ≡ Some old → new.carried ≡ old.carried
    → Knows types s new → AreCarried types may s agents → AreCarried types may s (slice_set agents i new)
set-carried types may s agents i old new q e knows c =
    let same = units-set agents i old new q e in record {
      holds = c.holds;
      known = all-set (Knows types s) agents i new c.known knows;
      came = came-set s agents i old new q e c.came;
      older = subst UnitsAscend (sym same) c.older;
      below = λ u m. c.below u (subst (Member u) same m);
    }

-- ---- a step of one

-- an element that stands at an index is one of them
at-member : {A : Type 0} (xs : List A) (i : ℕ) (x : A) → slice_get xs i ≡ Some x → Member x xs
at-member [] i x q = absurd cc
at-member {A} (y ∷ xs) zero x q = inl (same x y (sym q))
  where
    same : (a b : A) → Some a ≡ Some b → a ≡ b
    same a b e = cc
at-member (y ∷ xs) (suc i) x q = inr (at-member xs i x q)

-- an older unit is another
older-apart : (u v : UnitNo) → u.0 < v.0 → u ≡ v → ⊥
older-apart u v less e = let n : u.0 ≡ v.0 = ap (λ (x : UnitNo). x.0) e in absurd (omega (arith, n, less))

-- each other agent knows its unit still, and the one at the index does
pub others-known : (types : ProgramTree) (s t : Sight) (agents : List Agent) (i : ℕ) (old new : Agent) → ((b : Agent) → (b.carried.unit ≡ old.carried.unit → ⊥) → Knows types s b → Knows types t b)
    → slice_get agents i ≡ Some old → Knows types t new → UnitsAscend (units_carried agents) → AllByRecursion (Knows types s) agents → AllByRecursion (Knows types t) (slice_set agents i new)
others-known types s t [] i old new others q knows older all = absurd cc
others-known types s t (a ∷ agents) zero old new others q knows older all =
    (knows, all-each (Knows types s) (Knows types t) agents (λ b m k. others b (apart b m) k) all.1)
  where
    first : (x y : Agent) → Some x ≡ Some y → x ≡ y
    first x y e = cc

    apart : (b : Agent) → Member b agents → b.carried.unit ≡ old.carried.unit → ⊥
    apart b m e = older-apart a.carried.unit b.carried.unit (older.0 b.carried.unit (map-member (λ (x : Agent). x.carried.unit) agents b m))
        (ap (λ (x : Agent). x.carried.unit) (first a old q) ∙ sym e)
others-known types s t (a ∷ agents) (suc i) old new others q knows older all = (
  others a (older-apart a.carried.unit old.carried.unit (older.0 old.carried.unit (map-member (λ (x : Agent). x.carried.unit) agents old (at-member agents i old q)))) all.0,
  others-known types s t agents i old new others q knows older.1 all.1,
)

module _ (types : ProgramTree) (may : CoreEvent → Bool) (s t : Sight) (counts : Counts s) where
  -- so behind a step
  pub steps-known : (agents : List Agent) (i : ℕ) (old new : Agent) → Acts may types old.carried.unit s t → slice_get agents i ≡ Some old → Knows types t new
      → UnitsAscend (units_carried agents) → AllByRecursion (Knows types s) agents → AllByRecursion (Knows types t) (slice_set agents i new)
  steps-known agents i old new acts q knows older all =
      others-known types s t agents i old new (λ b apart k. knows-steps may types b.carried b.doing old.carried.unit s t acts apart counts k) q knows older all

-- what is known of all, behind the step of one
pub steps-carried : (types : ProgramTree) (may : CoreEvent → Bool) (s t : Sight) (agents : List Agent) (i : ℕ) (old new : Agent) → slice_get agents i ≡ Some old → new.carried ≡ old.carried
    → Acts may types old.carried.unit s t → Knows types t new → AreCarried types may s agents → AreCarried types may t (slice_set agents i new)
steps-carried types may s t agents i old new q e acts knows c =
    let same = units-set agents i old new q e in record {
      holds = acts-holds may types old.carried.unit s t acts c.holds;
      known = steps-known types may s t c.holds.counts agents i old new acts q knows c.older c.known;
      came = came-set t agents i old new q e (came-still s t agents (λ v less. acts-origin may types old.carried.unit s t v c.holds.none acts less) c.below c.came);
      older = subst UnitsAscend (sym same) c.older;
      below = λ u m. below-more (units_carried agents) (ends (run_seen s)).units.next (ends (run_seen t)).units.next (acts-next may types old.carried.unit s t c.holds.none acts) c.below u (subst (Member u) same m);
    }

-- and behind a wish of one
pub wishes-carried : (types : ProgramTree) (may : CoreEvent → Bool) (s t : Sight) (agents : List Agent) (i : ℕ) (old new : Agent) → slice_get agents i ≡ Some old → new.carried ≡ old.carried
    → Wishes may types old.carried.unit s t → Knows types t new → AreCarried types may s agents → AreCarried types may t (slice_set agents i new)
wishes-carried types may s t agents i old new q e (inl l) knows c =
    steps-carried types may s t agents i old new q e (inl l) knows c
wishes-carried types may s t agents i old new q e (inr (r, p)) knows c =
    let told = tells-on may s p.seen t p.waits.looked (Want old.carried.unit p.grain) r p.told in
    let same = units-set agents i old new q e in record {
      holds = tells-holds may s t (Want old.carried.unit p.grain) r told c.holds;
      known = others-known types s t agents i old new (λ b apart k. knows-wishes may types b.carried b.doing old.carried.unit s t (inr (r, p)) apart c.holds.counts k) q knows c.older c.known;
      came = came-set t agents i old new q e (came-still s t agents (λ v less. tells-origin may s t (Want old.carried.unit p.grain) r v c.holds.none told less) c.below c.came);
      older = subst UnitsAscend (sym same) c.older;
      below = λ u m. below-more (units_carried agents) (ends (run_seen s)).units.next (ends (run_seen t)).units.next (tells-next may s t (Want old.carried.unit p.grain) r c.holds.none told) c.below u (subst (Member u) same m);
    }

-- the unit at the index
pub unit-here : (agents : List Agent) (i : ℕ) (a : Agent) → slice_get agents i ≡ Some a → unit_at agents i ≡ a.carried.unit
unit-here agents i a q = get_or_from_slice_get (units_carried agents) i a.carried.unit nobody (map-at (λ (x : Agent). x.carried.unit) agents i a q)

-- ---- an event of no unit

-- what is known stays
pub tells-carried : (types : ProgramTree) (may : CoreEvent → Bool) (s t : Sight) (e : CoreEvent) (r : CoreReply) (agents : List Agent)
    → Tells may s e r t → ((u : UnitNo) → is_own u e ≡ false) → AreCarried types may s agents → AreCarried types may t agents
tells-carried types may s t e r agents l none c = record {
  holds = tells-holds may s t e r l c.holds;
  known = all-each (Knows types s) (Knows types t) agents (λ a m k. knows-tells may types a.carried a.doing s t e r l (is-harmless a.carried.unit e (none a.carried.unit)) c.holds.counts k) c.known;
  came = came-still s t agents (λ v less. tells-origin may s t e r v c.holds.none l less) c.below c.came;
  older = c.older;
  below = below-more (units_carried agents) (ends (run_seen s)).units.next (ends (run_seen t)).units.next (tells-next may s t e r c.holds.none l) c.below;
}

-- ---- one more

-- its unit stands behind the others
pub units-last : (agents : List Agent) (agent : Agent) → units_carried (agents ++ (agent ∷ [])) ≡ units_carried agents ++ (agent.carried.unit ∷ [])
units-last [] agent = refl
units-last (a ∷ agents) agent = ap (λ (us : List UnitNo). a.carried.unit ∷ us) (units-last agents agent)

-- all of a list with one more behind it
pub all-last : {A : Type 0} (P : A → Type 0) (xs : List A) (x : A) → AllByRecursion P xs → P x → AllByRecursion P (xs ++ (x ∷ []))
all-last P [] x all p = (p, tt)
all-last P (y ∷ xs) x all p = (all.0, all-last P xs x all.1 p)

-- the units with the one that is carried
pub carries-units : (types : ProgramTree) (unit : UnitNo) (origin : Origin) (call : Call) (plain : Bool) (before after : List Agent) → CarriesOneMore types unit origin call plain before after
    → units_carried after ≡ units_carried before ++ (unit ∷ [])
carries-units types unit origin call plain before after k =
    ap (λ (l : List Agent). units_carried l) k.list ∙ units-last before k.agent ∙ ap (λ (c : Carried). units_carried before ++ (c.unit ∷ [])) k.carried

-- a unit that began is known, behind all that were there before it
pub begins-carried : (types : ProgramTree) (may : CoreEvent → Bool) (s t : Sight) (origin : Origin) (call : Call) (plain : Bool) (unit : UnitNo) (agents after : List Agent)
    → Tells may s (Begin origin call plain) (reply.Began unit) t → (plain ≡ true → IsTransaction types call → ⊥) → HasCoreAlone may s
    → ((u : UnitNo) → Member u (units_carried agents) → u.0 < (ends (run_seen s)).units.next) → AreCarried types may t agents
    → CarriesOneMore types unit origin call plain agents after → AreCarried types may t after
begins-carried types may s t origin call plain unit agents after l plainly h below c k = record {
  holds = c.holds;
  known = subst (AllByRecursion (Knows types t)) (sym k.list) (all-last (Knows types t) agents k.agent c.known (k.knows t fresh));
  came = subst (AllByRecursion (CameAs t)) (sym k.list) (all-last (CameAs t) agents k.agent c.came (fresh (c.holds.alone _)).came);
  older = subst UnitsAscend (sym units) (older-last (units_carried agents) unit older c.older);
  below = λ u m. within u (subst (Member u) units m);
}
  where
    e : CoreEvent
    e = Begin origin call plain

    alone : Tells none_comes s e (reply.Began unit) t
    alone = subst (λ (m : CoreEvent → Bool). Tells m s e (reply.Began unit) t) h.none l

    began : (applies (ends (run_seen s)) e ≡ true) × (unit ≡ new_unit (ends (run_seen s)))
    began = began-reply (ends (run_seen s)) origin call plain unit (reply-alone s t e (reply.Began unit) alone)

    number : unit.0 ≡ (ends (run_seen s)).units.next
    number = ap (λ (u : UnitNo). u.0) began.1

    next : (ends (run_seen t)).units.next ≡ (ends (run_seen s)).units.next + 1
    next = ap (λ (r : Run). (ends r).units.next) (run-alone s t e (reply.Began unit) alone) ∙ ap (λ (w : CoreState). w.units.next) (ends-more (run_seen s) e)
        ∙ next-begun (ends (run_seen s)) origin call plain began.0

    fresh : IfOwn k.agent.carried t (λ r. IsNew types r k.agent.carried call)
    fresh = subst (λ (x : Carried). IfOwn x t (λ r. IsNew types r x call)) (sym k.carried)
        (new-carried may types s t (record { unit = unit; origin = origin; plain = plain }) call l h.counts h.above plainly)

    units : units_carried after ≡ units_carried agents ++ (unit ∷ [])
    units = carries-units types unit origin call plain agents after k

    older : (v : UnitNo) → Member v (units_carried agents) → v.0 < unit.0
    older v m = let b = below v m in omega (arith, b, number)

    within : (u : UnitNo) → Member u (units_carried agents ++ (unit ∷ [])) → u.0 < (ends (run_seen t)).units.next
    within u m = elim (Member-append u (units_carried agents) (unit ∷ []) m) [
      | inl old ↦ c.below u old
      | inr new ↦ elim new [ inl q ↦ (let n : u.0 ≡ unit.0 = ap (λ (x : UnitNo). x.0) q in omega (arith, n, number, next)) | inr none ↦ absurd none ]
    ]

-- ---- what a step answers

-- the step of the unit at the index, by what it answered
pub steps-on : (types : ProgramTree) (may : CoreEvent → Bool) (s t : Sight) (agents after : List Agent) (i : ℕ) (old : Agent) (answer : Advanced) → slice_get agents i ≡ Some old
    → AnswerSays may types old.carried.unit (children_of old.doing) s t answer → units_carried after ≡ with_child (units_carried agents) answer
    → StepsOn may types (unit_at agents i) s t (units_carried agents) (units_carried after) (went_by answer)
steps-on types may s t agents after i old answer q says units = record {
  answer = answer;
  kids = children_of old.doing;
  says = subst (λ (u : UnitNo). AnswerSays may types u (children_of old.doing) s t answer) (sym (unit-here agents i old q)) says;
  units = units;
  is = refl;
}

-- what it did
pub acts-here : (types : ProgramTree) (may : CoreEvent → Bool) (s t : Sight) (agents : List Agent) (i : ℕ) (old : Agent) → slice_get agents i ≡ Some old
    → Acts may types old.carried.unit s t → Acts may types (unit_at agents i) s t
acts-here types may s t agents i old q acts = subst (λ (u : UnitNo). Acts may types u s t) (sym (unit-here agents i old q)) acts

module _ (types : ProgramTree) (may : CoreEvent → Bool) (s t : Sight) (agents : List Agent) (i : ℕ) (old new : Agent) (q : slice_get agents i ≡ Some old) (e : new.carried ≡ old.carried)
    (child : UnitNo) (call : Call) (depth : ℕ) (says : AnswerSays may types old.carried.unit (children_of old.doing) s t (came.Began child call depth))
    (unit : UnitNo) (of : unit ≡ old.carried.unit) (kids : ℕ) (number : kids ≡ children_of old.doing)
    (after : List Agent) (k : CarriesOneMore types child (Child unit kids depth) call false (slice_set agents i new) after) where
  -- the units, with a child that began
  pub child-units : units_carried after ≡ units_carried agents ++ (child ∷ [])
  child-units = carries-units types child (Child unit kids depth) call false (slice_set agents i new) after k ∙ ap (λ (us : List UnitNo). us ++ (child ∷ [])) (units-set agents i old new q e)

  -- and it is known too
  pub child-carried : Knows types t new → AreCarried types may s agents → AreCarried types may t after
  child-carried knows c =
      begins-carried types may s t (Child unit kids depth) call false child (slice_set agents i new) after tells (λ f. absurd (true≢false (sym f))) c.holds
      (λ u m. c.below u (subst (Member u) (units-set agents i old new q e) m))
      (steps-carried types may s t agents i old new q e (inr (_, (_, says))) knows c) k
    where
      tells : Tells may s (Begin (Child unit kids depth) call false) (reply.Began child) t
      tells = subst (λ (u : UnitNo). Tells may s (Begin (Child u kids depth) call false) (reply.Began child) t) (sym of)
          (subst (λ (n : ℕ). Tells may s (Begin (Child old.carried.unit n depth) call false) (reply.Began child) t) (sym number) says.told)
