-- What is known of a crew, as calls follow one another: by the step of one of its units, and by a line's event.
use Rattle.std.proofs.Common.{◌≡◌, ◌⊎◌, ℕ, zero, suc, ◌≤◌, ◌<◌, List, [], ◌∷◌, inl, inr, Bool, true, false, refl, sym, ap, ◌∙◌, subst, arith, Some}
use Rattle.std.specs.Prelude.{slice_get, slice_set}
use Rattle.std.specs.List.{AllByRecursion}
use Rattle.base_types.specs.declared.calls.Origin.TheVariants.{Line, Child}
use Rattle.cell_model.proofs.Units.{same_unit-true}
use Rattle.cell_model.specs.Units.{UnitsAscend}
use Rattle.core_model.specs.CoreState.{UnitNo, Member, same_unit}
use Rattle.core_model.specs.declared.events.CoreEvent.{CoreEvent}
use Rattle.core_model.specs.declared.events.CoreEvent.TheVariants.{Bad, Begin, Grant, Refuse, Finish, EndPlain, EndSnapshot, Release, Take, Vote, Decide, Sealed, NotSealed, Doubt, Learn, Emitted, Halt, Want, Load}
use Rattle.core_model.specs.declared.events.CoreReply.{CoreReply}
use Rattle.core_model.specs.declared.events.CoreReply.TheVariants as reply
use Rattle.core_model.specs.LegalRuns.{Run, ends}
use Rattle.core_access.specs.Histories.{Told}
use Rattle.core_access.specs.Sights.{Sight, Counts, IfAlone, Looks, Tells, run_seen, saw, told}
use Rattle.core_access.proofs.Sights.{looks-counts, tells-counts, tells-on, run-told}
use Rattle.script_tree.specs.Programs.{ProgramTree}
use Rattle.promise_spec.specs.TurnRule.{OfLine, OfWant, OfLoad, OfUnit, OfSettler, mover_of}
use Rattle.promise_spec.specs.UnitRule.{Basis}
use Rattle.turn_cell.specs.History.{entry}
use Rattle.turn_cell.proofs.Lists.{in_append, in_left}
use Rattle.turn_rules.specs.NextEvent.{is_own, with_event}
use Rattle.worker_rules.specs.UnitOwnership.{leaves_unit, BeganHere}
use Rattle.worker_rules.specs.Work.{OnlyWorks, is_work}
use Rattle.worker_rules.proofs.CallPromises.{is-harmless}
use Rattle.txn_agent.specs.declared.agent.Agent.{Agent}
use Rattle.txn_agent.specs.declared.work.Carried.{Carried}
use Rattle.txn_agent.specs.CoreLink.{Knows}
use Rattle.txn_agent.specs.AgentStep.{Acts}
use Rattle.txn_agent.specs.Wishes.{Wishes}
use Rattle.txn_agent.proofs.ComposedSteps.{acts-counts}
use Rattle.txn_agent.proofs.WishAnswers.{knows-wishes, wishes-began, wishes-counts}
use Rattle.txn_agent.proofs.StepPromises.{acts-began, knows-looks, knows-tells}
use Rattle.unit_carrier.specs.CarriedUnits.{units_carried}
use Rattle.unit_carrier.proofs.MoverSearch.{all-at, all-set}
use Rattle.unit_carrier.proofs.CarriedUnits.{all-each, next-more}
use Rattle.unit_carrier.proofs.Places.{others-known, steps-known, units-set}
use Rattle.unit_carrier.proofs.MoverSearch.{map-at}
use Rattle.unit_crew.specs.Crews.{IsCrew, IsOwnUnit}
use Rattle.unit_crew.specs.FinishedUnits.{IsThrough}
use Rattle.unit_crew.proofs.FinishedUnits.{looks-through, saw-next, tells-through}
use Rattle.unit_crew.proofs.Works.{works-acts, works-tells, works-wishes}

-- ---- whose event it is

own-by : (u v w : UnitNo) → OfUnit v ≡ OfUnit u → same_unit v w ≡ true → w ≡ u
own-by u v w q s = sym (same_unit-true v w s) ∙ (let e : v ≡ u = cc in e)

line-not : {A : Type 0} (u : UnitNo) → OfLine ≡ OfUnit u → A
line-not u e = absurd cc

settler-not : {A : Type 0} (u : UnitNo) → OfSettler ≡ OfUnit u → A
settler-not u e = absurd cc

want-not : {A : Type 0} (v u : UnitNo) → OfWant v ≡ OfUnit u → A
want-not v u e = absurd cc

load-not : {A : Type 0} (u : UnitNo) → OfLoad ≡ OfUnit u → A
load-not u e = absurd cc

-- a unit's event is one of no other unit
moves-one : (u w : UnitNo) (e : CoreEvent) → mover_of e ≡ OfUnit u → is_own w e ≡ true → w ≡ u
moves-one u w (Bad n why) q o = line-not u q
moves-one u w (Begin (Line n) call plain) q o = line-not u q
moves-one u w (Begin (Child parent index depth) call plain) q o = own-by u parent w q o
moves-one u w (Grant v g mode) q o = own-by u v w q o
moves-one u w (Refuse v g mode) q o = own-by u v w q o
moves-one u w (Finish v e) q o = own-by u v w q o
moves-one u w (EndPlain v e) q o = own-by u v w q o
moves-one u w (EndSnapshot v at outcome) q o = own-by u v w q o
moves-one u w (Release v g) q o = own-by u v w q o
moves-one u w Take q o = settler-not u q
moves-one u w (Vote n g kept) q o = settler-not u q
moves-one u w (Decide n) q o = settler-not u q
moves-one u w (Sealed n) q o = settler-not u q
moves-one u w (NotSealed n) q o = settler-not u q
moves-one u w (Doubt n) q o = settler-not u q
moves-one u w (Learn v g) q o = settler-not u q
moves-one u w Emitted q o = settler-not u q
moves-one u w Halt q o = settler-not u q
moves-one u w (Want v g) q o = want-not v u q
moves-one u w (Load g v state) q o = load-not u q

-- what stands at a place is in the list
at-member : {A : Type 0} (xs : List A) (i : ℕ) (x : A) → slice_get xs i ≡ Some x → Member x xs
at-member [] i x q = absurd cc
at-member {A} (y ∷ xs) zero x q = inl (same x y (sym q))
  where
    same : (a b : A) → Some a ≡ Some b → a ≡ b
    same a b e = cc
at-member (y ∷ xs) (suc i) x q = inr (at-member xs i x q)

-- What is known of agents behind a call, of the units that began before it.
pub record IsCrewSo (types : ProgramTree) (s t : Sight) (agents : List Agent) : Type 0 where
  pub counts : Counts t
  pub above : 0 < t.first.base
  pub only : OnlyWorks t.mine
  pub next : (ends (run_seen s)).units.next ≤ (ends (run_seen t)).units.next
  pub below : (u : UnitNo) → BeganHere u s → u.0 < (ends (run_seen s)).units.next
  pub began : (u : UnitNo) → BeganHere u s → BeganHere u t
  pub known : AllByRecursion (Knows types t) agents
  pub own : AllByRecursion (IsOwnUnit s) agents
  pub older : UnitsAscend (units_carried agents)
  pub rest : (u : UnitNo) → BeganHere u s → Member u (units_carried agents) ⊎ IfAlone (leaves_unit u) t (λ r. IsThrough r u)

-- the agent at an index knows its unit
pub crew-knows : (types : ProgramTree) (s : Sight) (agents : List Agent) → IsCrew types s agents → (i : ℕ) (a : Agent) → slice_get agents i ≡ Some a → Knows types s a
crew-knows types s agents c i a q = all-at (Knows types s) agents i a q c.known

-- where no unit began, that is all
pub crew-so : (types : ProgramTree) (s t : Sight) (agents : List Agent) → ((u : UnitNo) → BeganHere u t → BeganHere u s) → IsCrewSo types s t agents → IsCrew types t agents
crew-so types s t agents back c = record {
  counts = c.counts;
  above = c.above;
  only = c.only;
  below = λ u b. (let low : u.0 < (ends (run_seen s)).units.next = c.below u (back u b) in let n = c.next in omega (arith, low, n));
  known = c.known;
  own = all-each (IsOwnUnit s) (IsOwnUnit t) agents (λ a m k. c.began a.carried.unit k) c.own;
  older = c.older;
  rest = λ u b. c.rest u (back u b);
}

-- ---- which units began

-- by a look none did
pub looks-back : (may : CoreEvent → Bool) (u : UnitNo) (s t : Sight) → Looks may s t → BeganHere u t → BeganHere u s
looks-back may u s t l b = subst (BeganHere u) l.sight b

-- by an event the one that the reply names did
pub tells-back : (may : CoreEvent → Bool) (u : UnitNo) (s t : Sight) (e : CoreEvent) (r : CoreReply) → Tells may s e r t → BeganHere u t → BeganHere u s ⊎ (r ≡ reply.Began u)
tells-back may u s t e r l b = by (subst (BeganHere u) l.sight b)
  where
    by : BeganHere u (told (saw s l.rest) e r) → BeganHere u s ⊎ (r ≡ reply.Began u)
    by x = elim (in_append x.0 s.mine (entry s.number e r ∷ []) x.1) [
      | inl old ↦ inl (x.0, old, x.2)
      | inr new ↦ elim new [ inl is ↦ inr (sym (ap (λ (z : Told). z.reply) is) ∙ x.2) | inr none ↦ absurd none ]
    ]

-- what began stays so
tells-began : (may : CoreEvent → Bool) (u : UnitNo) (s t : Sight) (e : CoreEvent) (r : CoreReply) → Tells may s e r t → BeganHere u s → BeganHere u t
tells-began may u s t e r l b = subst (BeganHere u) (sym l.sight) (b.0, in_left b.0 s.mine (entry s.number e r ∷ []) b.1, b.2)

-- ---- numbers

looks-next : (may : CoreEvent → Bool) (s t : Sight) → Looks may s t → (ends (run_seen s)).units.next ≤ (ends (run_seen t)).units.next
looks-next may s t l = subst (λ (x : Sight). (ends (run_seen s)).units.next ≤ (ends (run_seen x)).units.next) (sym l.sight) (saw-next s l.rest)

-- the run behind an event
pub tells-run : (may : CoreEvent → Bool) (s t : Sight) (e : CoreEvent) (r : CoreReply) (l : Tells may s e r t) → run_seen t ≡ with_event (run_seen (saw s l.rest)) e
tells-run may s t e r l = ap run_seen l.sight ∙ run-told (saw s l.rest) e r

tells-next : (may : CoreEvent → Bool) (s t : Sight) (e : CoreEvent) (r : CoreReply) → Tells may s e r t → (ends (run_seen s)).units.next ≤ (ends (run_seen t)).units.next
tells-next may s t e r l =
    let one : (ends (run_seen s)).units.next ≤ (ends (run_seen (saw s l.rest))).units.next = saw-next s l.rest in
    let two : (ends (run_seen (saw s l.rest))).units.next ≤ (ends (with_event (run_seen (saw s l.rest)) e)).units.next = next-more (run_seen (saw s l.rest)) e in
    let same : (ends (run_seen t)).units.next ≡ (ends (with_event (run_seen (saw s l.rest)) e)).units.next = ap (λ (r : Run). (ends r).units.next) (tells-run may s t e r l) in
    omega (arith, one, two, same)

-- ---- a look

module _ (types : ProgramTree) (may : CoreEvent → Bool) (s t : Sight) (agents : List Agent) (c : IsCrew types s agents) where
  looks-so : Looks may s t → IsCrewSo types s t agents
  looks-so l = record {
    counts = looks-counts may s t l c.counts;
    above = subst (λ (x : Sight). 0 < x.first.base) (sym l.sight) c.above;
    only = subst (λ (x : Sight). OnlyWorks x.mine) (sym l.sight) c.only;
    next = looks-next may s t l;
    below = c.below;
    began = λ u b. subst (BeganHere u) (sym l.sight) b;
    known = all-each (Knows types s) (Knows types t) agents (λ a m k. knows-looks may types a.carried a.doing s t l c.counts k) c.known;
    own = c.own;
    older = c.older;
    rest = λ u b. elim (c.rest u b) [ inl m ↦ inl m | inr k ↦ inr (looks-through may u s t l c.counts k) ];
  }

  -- all of a crew is known behind a look
  pub looks-crew : Looks may s t → IsCrew types t agents
  looks-crew l = crew-so types s t agents (λ u b. looks-back may u s t l b) (looks-so l)

  -- behind an event of no unit
  pub tells-so : (e : CoreEvent) (r : CoreReply) → Tells may s e r t → is_work e ≡ true → ((u : UnitNo) → is_own u e ≡ false) → IsCrewSo types s t agents
  tells-so e r l work none = record {
    counts = tells-counts may s t e r l c.counts;
    above = subst (λ (x : Sight). 0 < x.first.base) (sym l.sight) c.above;
    only = (works-tells (λ (b : Basis). ⊥) may s t e r l work (λ b no p. absurd no)).only c.only;
    next = tells-next may s t e r l;
    below = c.below;
    began = λ u b. tells-began may u s t e r l b;
    known = all-each (Knows types s) (Knows types t) agents (λ a m k. knows-tells may types a.carried a.doing s t e r l (is-harmless a.carried.unit e (none a.carried.unit)) c.counts k) c.known;
    own = c.own;
    older = c.older;
    rest = λ u b. elim (c.rest u b) [ inl m ↦ inl m | inr k ↦ inr (tells-through may u s t e r l (is-harmless u e (none u)) c.counts k) ];
  }

  -- ---- the step of the unit at an index

  module _ (i : ℕ) (old new : Agent) (q : slice_get agents i ≡ Some old) (same : new.carried ≡ old.carried) where
    -- it began here
    pub own-here : BeganHere old.carried.unit s
    own-here = all-at (IsOwnUnit s) agents i old q c.own

    -- it is one of the crew
    member-here : Member old.carried.unit (units_carried agents)
    member-here = at-member (units_carried agents) i old.carried.unit (map-at (λ (a : Agent). a.carried.unit) agents i old q)

    -- a unit that is through stays so, or is the one that steps
    rest-acts : (u : UnitNo) → Acts may types old.carried.unit s t → IfAlone (leaves_unit u) s (λ r. IsThrough r u) → Member u (units_carried agents) ⊎ IfAlone (leaves_unit u) t (λ r. IsThrough r u)
    rest-acts u (inl l) k = inr (looks-through may u s t l c.counts k)
    rest-acts u (inr (e, (r, p))) k = by (is_own u e) refl
      where
        by : (b : Bool) → is_own u e ≡ b → Member u (units_carried agents) ⊎ IfAlone (leaves_unit u) t (λ r. IsThrough r u)
        by true o = inl (subst (λ (x : UnitNo). Member x (units_carried agents)) (sym (moves-one old.carried.unit u e p.own o)) member-here)
        by false o = inr (tells-through may u s t e r p.told (is-harmless u e o) c.counts k)

    acts-next : Acts may types old.carried.unit s t → (ends (run_seen s)).units.next ≤ (ends (run_seen t)).units.next
    acts-next (inl l) = looks-next may s t l
    acts-next (inr (e, (r, p))) = tells-next may s t e r p.told

    -- all is known, of those units that began before
    pub acts-so : Acts may types old.carried.unit s t → Knows types t new → IsCrewSo types s t (slice_set agents i new)
    acts-so acts knows =
        let works = works-acts may types old.carried.unit s t acts own-here in
        let units = units-set agents i old new q same in record {
          counts = acts-counts may types old.carried.unit s t acts c.counts;
          above = subst (λ (r : Run). 0 < r.base) (sym works.first) c.above;
          only = works.only c.only;
          next = acts-next acts;
          below = c.below;
          began = λ u b. acts-began may types old.carried.unit u s t acts b;
          known = steps-known types may s t c.counts agents i old new acts q knows c.older c.known;
          own = all-set (IsOwnUnit s) agents i new c.own (subst (λ (x : Carried). BeganHere x.unit s) (sym same) own-here);
          older = subst UnitsAscend (sym units) c.older;
          rest = λ u b. subst (λ (us : List UnitNo). Member u us ⊎ IfAlone (leaves_unit u) t (λ r. IsThrough r u)) (sym units)
              (elim (c.rest u b) [ inl m ↦ inl m | inr k ↦ rest-acts u acts k ]);
        }

    -- ---- its wish

    -- the same list, with the same agent in its place
    set-same : {A : Type 0} (xs : List A) (k : ℕ) (x : A) → slice_get xs k ≡ Some x → slice_set xs k x ≡ xs
    set-same [] k x e = refl
    set-same {A} (y ∷ xs) zero x e = ap (λ (z : A). z ∷ xs) (one y x e)
      where
        one : (a b : A) → Some a ≡ Some b → b ≡ a
        one a b q = cc
    set-same (y ∷ xs) (suc k) x e = ap (λ (zs : List _). y ∷ zs) (set-same xs k x e)

    -- a unit that is through stays so, or is the one that wishes
    rest-wishes : (u : UnitNo) → Wishes may types old.carried.unit s t → IfAlone (leaves_unit u) s (λ r. IsThrough r u) → Member u (units_carried agents) ⊎ IfAlone (leaves_unit u) t (λ r. IsThrough r u)
    rest-wishes u (inl l) k = inr (looks-through may u s t l c.counts k)
    rest-wishes u (inr (r, p)) k = by (same_unit old.carried.unit u) refl
      where
        by : (b : Bool) → same_unit old.carried.unit u ≡ b → Member u (units_carried agents) ⊎ IfAlone (leaves_unit u) t (λ r. IsThrough r u)
        by true o = inl (subst (λ (x : UnitNo). Member x (units_carried agents)) (same_unit-true old.carried.unit u o) member-here)
        by false o = inr (tells-through may u s t (Want old.carried.unit p.grain) r (tells-on may s p.seen t p.waits.looked (Want old.carried.unit p.grain) r p.told) (is-harmless u (Want old.carried.unit p.grain) o) c.counts k)

    wishes-next : Wishes may types old.carried.unit s t → (ends (run_seen s)).units.next ≤ (ends (run_seen t)).units.next
    wishes-next (inl l) = looks-next may s t l
    wishes-next (inr (r, p)) = tells-next may s t (Want old.carried.unit p.grain) r (tells-on may s p.seen t p.waits.looked (Want old.carried.unit p.grain) r p.told)

    -- all is known behind it, of those units that began before
    pub wishes-so : Wishes may types old.carried.unit s t → Knows types t old → IsCrewSo types s t agents
    wishes-so w knows =
        let works = works-wishes may types old.carried.unit s t w own-here in record {
          counts = wishes-counts may types old.carried.unit s t w c.counts;
          above = subst (λ (r : Run). 0 < r.base) (sym works.first) c.above;
          only = works.only c.only;
          next = wishes-next w;
          below = c.below;
          began = λ u b. wishes-began may types old.carried.unit u s t w b;
          known = subst (AllByRecursion (Knows types t)) (set-same agents i old q)
              (others-known types s t agents i old old (λ b apart k. knows-wishes may types b.carried b.doing old.carried.unit s t w apart c.counts k) q knows c.older c.known);
          own = c.own;
          older = c.older;
          rest = λ u b. elim (c.rest u b) [ inl m ↦ inl m | inr k ↦ rest-wishes u w k ];
        }
