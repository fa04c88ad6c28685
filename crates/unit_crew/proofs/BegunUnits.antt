-- Which units begin by a step and by a line's event, and that they are carried.
use Rattle.std.proofs.Common.{◌≡◌, ◌⊎◌, ℕ, ◌+◌, ◌≤◌, ◌<◌, List, [], ◌∷◌, ◌++◌, inl, inr, Bool, true, false, true≢false, refl, sym, ap, ◌∙◌, subst, arith, Option, Some, None, Ok, Err}
use Rattle.std.specs.Prelude.{Result, if◌then◌else◌, slice_get, slice_set}
use Rattle.std.specs.List.{AllByRecursion}
use Rattle.base_types.specs.declared.calls.Call.{Call}
use Rattle.base_types.specs.declared.calls.Origin.{Origin}
use Rattle.base_types.specs.declared.calls.Origin.TheVariants.{Line as OfLine, Child}
use Rattle.base_types.specs.declared.entries.BadRequest.{BadRequest}
use Rattle.cell_model.specs.Units.{UnitsAscend}
use Rattle.core_model.specs.CoreState.{UnitNo, GrainId, Member, CoreState}
use Rattle.core_model.specs.Changes.{swept}
use Rattle.core_model.specs.Events.{applies, does, reply_to, step}
use Rattle.core_model.specs.declared.events.CoreEvent.{CoreEvent}
use Rattle.core_model.specs.declared.events.CoreEvent.TheVariants.{Bad, Begin, Want}
use Rattle.core_model.specs.declared.events.CoreReply.{CoreReply}
use Rattle.core_model.specs.declared.events.CoreReply.TheVariants as reply
use Rattle.core_model.specs.LegalRuns.{Run, ends}
use Rattle.std.proofs.lemmas.Bool.{cond-false}
use Rattle.core_access.specs.Histories.{reply_in}
use Rattle.core_access.specs.Sights.{Sight, Counts, IfAlone, Tells, run_seen, saw}
use Rattle.script_tree.specs.Programs.{ProgramTree}
use Rattle.script_meaning.specs.Play.{IsTransaction}
use Rattle.request_wire.specs.declared.requests.Line.{Line}
use Rattle.turn_rules.proofs.Growth.{ends-more}
use Rattle.turn_rules.proofs.Numbers.{older-last}
use Rattle.worker_rules.specs.UnitOwnership.{leaves_unit, BeganHere}
use Rattle.worker_rules.proofs.Numbers.{began-next}
use Rattle.txn_agent.specs.declared.agent.Agent.{Agent}
use Rattle.txn_agent.specs.declared.agent.Advanced.TheVariants as came
use Rattle.txn_agent.specs.declared.work.Carried.{Carried}
use Rattle.txn_agent.specs.CoreLink.{IfOwn, IsNew, Knows}
use Rattle.txn_agent.specs.AgentStep.{AnswerSays, Misses, Puts, children_of}
use Rattle.txn_agent.proofs.StepPromises.{new-began, new-carried}
use Rattle.txn_agent.specs.Replies.{began_by}
use Rattle.txn_agent.specs.Wishes.{Wishes}
use Rattle.unit_carrier.specs.CarriedUnits.{CarriesOneMore, units_carried}
use Rattle.unit_carrier.specs.Lines.{CarriesBegun, PutsLine, StartsCall, StartsLine}
use Rattle.unit_carrier.proofs.LineUnit.{bad-none, began-is, plain-makes-none, puts-call}
use Rattle.unit_carrier.proofs.CarriedUnits.{all-each}
use Rattle.unit_carrier.proofs.Places.{all-last, carries-units}
use Rattle.unit_crew.specs.Crews.{IsBasisOf, IsCrew, IsOwnUnit, WorksOn}
use Rattle.unit_crew.specs.FinishedUnits.{IsThrough}
use Rattle.unit_crew.proofs.CrewKnowledge.{IsCrewSo, acts-so, crew-so, looks-back, tells-back, tells-run, tells-so}
use Rattle.unit_crew.proofs.FinishedUnits.{saw-next}
use Rattle.unit_crew.proofs.Works.{works-puts}

-- ---- steps by which no unit begins

-- two replies that differ
granted-began : {A : Type 0} (r : CoreReply) (u : UnitNo) → began_by r ≡ None → r ≡ reply.Began u → A
granted-began r u unnamed q = (let e : None ≡ Some u = sym unnamed ∙ ap began_by q in absurd cc)

-- an event that doesn't apply begins none
missed-began : {A : Type 0} (r : Run) (e : CoreEvent) (u : UnitNo) → applies (ends r) e ≡ false → reply_in r e ≡ reply.Began u → A
missed-began r e u a q =
    let n : (step (ends r) e).units.next ≡ (ends r).units.next + 1 = (began-next (ends r) e u q).1 in
    let same : (step (ends r) e).units.next ≡ (ends r).units.next = ap (λ (w : CoreState). w.units.next) (cond-false (applies (ends r) e) (swept (does (ends r) e)) (ends r) a) in
    absurd (omega (arith, n, same))

module _ (may : CoreEvent → Bool) (types : ProgramTree) (u : UnitNo) (kids : ℕ) (s t : Sight) (v : UnitNo) where
  -- an event whose reply names none
  puts-back : (e : CoreEvent) (r : CoreReply) → began_by r ≡ None → Puts may types u s e r t → BeganHere v t → BeganHere v s
  puts-back e r unnamed p b = elim (tells-back may v s t e r p.told b) [ inl old ↦ old | inr q ↦ granted-began r v unnamed q ]

  misses-back : Misses may types u s t → BeganHere v t → BeganHere v s
  misses-back m b = elim (tells-back may v m.seen t m.e m.r m.put.told b) [
    | inl old ↦ looks-back may v s m.seen m.before old
    | inr q ↦ missed-began (run_seen (saw m.seen m.put.told.rest)) m.e v m.missed (sym m.put.told.reply ∙ q)
  ]

  pub granted-back : (grain : _) (source : UnitNo) → AnswerSays may types u kids s t (came.Granted grain source) → BeganHere v t → BeganHere v s
  granted-back grain source says b = puts-back _ (reply.Granted says.1.0 source) refl says.1.1 b

  pub moved-back : AnswerSays may types u kids s t came.Moved → BeganHere v t → BeganHere v s
  moved-back (inl (e, p)) b = puts-back e reply.Done refl p b
  moved-back (inr (inl m)) b = misses-back m b
  moved-back (inr (inr x)) b = looks-back may v s t x.looked b

  pub waits-back : (holder : UnitNo) → AnswerSays may types u kids s t (came.Waits holder) → BeganHere v t → BeganHere v s
  waits-back holder says b = looks-back may v s t says.looked b

  pub waits-load-back : (grain : _) → AnswerSays may types u kids s t (came.WaitsLoad grain) → BeganHere v t → BeganHere v s
  waits-load-back grain says b = looks-back may v s t says.looked b

  pub waits-for-back : (child : UnitNo) → AnswerSays may types u kids s t (came.WaitsFor child) → BeganHere v t → BeganHere v s
  waits-for-back child says b = looks-back may v s t says.looked b

  pub ended-back : AnswerSays may types u kids s t came.Ended → BeganHere v t → BeganHere v s
  ended-back says b = looks-back may v s t says.0 b

-- a wish's reply names no unit
wish-names-none : (w : CoreState) (u : UnitNo) (g : GrainId) → began_by (reply_to w (Want u g)) ≡ None
wish-names-none w u g = by (applies w (Want u g))
  where
    by : (b : Bool) → began_by (if b then reply.Done else reply.Unapplied) ≡ None
    by true = refl
    by false = refl

-- nor does one begin by a wish
pub wishes-back : (may : CoreEvent → Bool) (types : ProgramTree) (u : UnitNo) (s t : Sight) (v : UnitNo) → Wishes may types u s t → BeganHere v t → BeganHere v s
wishes-back may types u s t v (inl l) b = looks-back may v s t l b
wishes-back may types u s t v (inr (r, p)) b = elim (tells-back may v p.seen t (Want u p.grain) r p.told b) [
  | inl old ↦ looks-back may v s p.seen p.waits.looked old
  | inr q ↦ granted-began r v (ap began_by p.told.reply ∙ wish-names-none (ends (run_seen (saw p.seen p.told.rest))) u p.grain) q
]

-- ---- one unit begins

-- the unit of an agent began here
member-own : (s : Sight) (agents : List Agent) (v : UnitNo) → Member v (units_carried agents) → AllByRecursion (IsOwnUnit s) agents → BeganHere v s
member-own s [] v m own = absurd m
member-own s (a ∷ agents) v (inl q) own = subst (λ (x : UnitNo). BeganHere x s) (sym q) own.0
member-own s (a ∷ agents) v (inr m) own = member-own s agents v m own.1

module _ (types : ProgramTree) (may : CoreEvent → Bool) (s t : Sight) (origin : Origin) (call : Call) (plain : Bool) (unit : UnitNo)
    (l : Tells may s (Begin origin call plain) (reply.Began unit) t) where
  -- it has the next number
  number : unit.0 ≡ (ends (run_seen (saw s l.rest))).units.next
  number = (began-next (ends (run_seen (saw s l.rest))) (Begin origin call plain) unit (sym l.reply)).0

  -- which is given
  given : (ends (run_seen t)).units.next ≡ unit.0 + 1
  given =
      let n : (step (ends (run_seen (saw s l.rest))) (Begin origin call plain)).units.next ≡ (ends (run_seen (saw s l.rest))).units.next + 1 =
      (began-next (ends (run_seen (saw s l.rest))) (Begin origin call plain) unit (sym l.reply)).1 in
      let m : (ends (run_seen t)).units.next ≡ (step (ends (run_seen (saw s l.rest))) (Begin origin call plain)).units.next =
      ap (λ (r : Run). (ends r).units.next) (tells-run may s t (Begin origin call plain) (reply.Began unit) l)
      ∙ ap (λ (w : CoreState). w.units.next) (ends-more (run_seen (saw s l.rest)) (Begin origin call plain)) in
      let k = number in
      omega (arith, n, m, k)

  -- which units began by now
  now-begun : (v : UnitNo) → BeganHere v t → BeganHere v s ⊎ (v ≡ unit)
  now-begun v b = elim (tells-back may v s t (Begin origin call plain) (reply.Began unit) l b) [ inl old ↦ inl old | inr q ↦ inr (let e : v ≡ unit = cc in e) ]

  -- a unit that began is known behind all others
  pub one-more : (agents after : List Agent) → (plain ≡ true → IsTransaction types call → ⊥) → Counts s → 0 < s.first.base
      → IsCrewSo types s t agents → CarriesOneMore types unit origin call plain agents after → IsCrew types t after
  one-more agents after plainly counts above c k = record {
    counts = c.counts;
    above = c.above;
    only = c.only;
    below = λ v b. elim (now-begun v b) [
      | inl old ↦ (let low : v.0 < (ends (run_seen s)).units.next = c.below v old in let n = c.next in omega (arith, low, n))
      | inr is ↦ (let same : v.0 ≡ unit.0 = ap (λ (x : UnitNo). x.0) is in let g = given in omega (arith, same, g))
    ];
    known = subst (AllByRecursion (Knows types t)) (sym k.list) (all-last (Knows types t) agents k.agent c.known (k.knows t fresh));
    own = subst (AllByRecursion (IsOwnUnit t)) (sym k.list)
        (all-last (IsOwnUnit t) agents k.agent (all-each (IsOwnUnit s) (IsOwnUnit t) agents (λ a m x. c.began a.carried.unit x) c.own)
        (subst (λ (x : Carried). BeganHere x.unit t) (sym k.carried) (new-began may s t (Begin origin call plain) unit l)));
    older = subst UnitsAscend (sym units) (older-last (units_carried agents) unit older c.older);
    rest = λ v b. subst (λ (us : List UnitNo). Member v us ⊎ IfAlone (leaves_unit v) t (λ r. IsThrough r v)) (sym units) (elim (now-begun v b) [
      | inl old ↦ elim (c.rest v old) [ inl m ↦ inl (member-left v (units_carried agents) (unit ∷ []) m) | inr x ↦ inr x ]
      | inr is ↦ inl (member-right v (units_carried agents) (unit ∷ []) (inl is))
    ]);
  }
    where
      fresh : IfOwn k.agent.carried t (λ r. IsNew types r k.agent.carried call)
      fresh = subst (λ (x : Carried). IfOwn x t (λ r. IsNew types r x call)) (sym k.carried)
          (new-carried may types s t (record { unit = unit; origin = origin; plain = plain }) call l counts above plainly)

      units : units_carried after ≡ units_carried agents ++ (unit ∷ [])
      units = carries-units types unit origin call plain agents after k

      older : (v : UnitNo) → Member v (units_carried agents) → v.0 < unit.0
      older v m =
          let low : v.0 < (ends (run_seen s)).units.next = c.below v (member-own s agents v m c.own) in
          let up : (ends (run_seen s)).units.next ≤ (ends (run_seen (saw s l.rest))).units.next = saw-next s l.rest in
          let n = number in
          omega (arith, low, up, n)

      member-left : (x : UnitNo) (us vs : List UnitNo) → Member x us → Member x (us ++ vs)
      member-left x [] vs m = absurd m
      member-left x (y ∷ us) vs (inl q) = inl q
      member-left x (y ∷ us) vs (inr m) = inr (member-left x us vs m)

      member-right : (x : UnitNo) (us vs : List UnitNo) → Member x vs → Member x (us ++ vs)
      member-right x [] vs m = m
      member-right x (y ∷ us) vs m = inr (member-right x us vs m)

-- ---- the child of the unit at an index

pub child-crew : (types : ProgramTree) (may : CoreEvent → Bool) (s t : Sight) (agents : List Agent) (c : IsCrew types s agents) (i : ℕ) (old new : Agent) (q : slice_get agents i ≡ Some old) (same : new.carried ≡ old.carried)
    (child : UnitNo) (call : Call) (depth : ℕ) → AnswerSays may types old.carried.unit (children_of old.doing) s t (came.Began child call depth)
    → (unit : UnitNo) → unit ≡ old.carried.unit → (kids : ℕ) → kids ≡ children_of old.doing → Knows types t new
    → (after : List Agent) → CarriesOneMore types child (Child unit kids depth) call false (slice_set agents i new) after → IsCrew types t after
child-crew types may s t agents c i old new q same child call depth says unit of_unit kids number knows after k =
    one-more types may s t (Child unit kids depth) call false child tells (slice_set agents i new) after (λ f. absurd (true≢false (sym f))) c.counts c.above
    (acts-so types may s t agents c i old new q same (inr (_, (_, says))) knows) k
  where
    tells : Tells may s (Begin (Child unit kids depth) call false) (reply.Began child) t
    tells = subst (λ (u : UnitNo). Tells may s (Begin (Child u kids depth) call false) (reply.Began child) t) (sym of_unit)
        (subst (λ (n : ℕ). Tells may s (Begin (Child old.carried.unit n depth) call false) (reply.Began child) t) (sym number) says.told)

-- ---- a line's event

module _ (types : ProgramTree) (may : CoreEvent → Bool) (s t : Sight) (number : ℕ) (agents after : List Agent) (began : Option UnitNo) (c : IsCrew types s agents) where
  call-crew : (call : Call) (x : StartsCall may types number call s t agents after began) → (b : Option UnitNo) → began ≡ b → CarriesBegun types number call x.plain agents after b → IsCrew types t after
  call-crew call x None q k = subst (IsCrew types t) (sym k)
      (crew-so types s t agents back (tells-so types may s t agents c (Begin (OfLine number) call x.plain) x.r x.told refl (λ u. refl)))
    where
      back : (u : UnitNo) → BeganHere u t → BeganHere u s
      back u b = elim (tells-back may u s t (Begin (OfLine number) call x.plain) x.r x.told b) [ inl old ↦ old | inr is ↦ granted-began x.r u (sym x.is ∙ q) is ]
  call-crew call x (Some unit) q k =
      one-more types may s t (OfLine number) call x.plain unit tells agents after (plain-makes-none types call x.plain x.of_kind) c.counts c.above
      (tells-so types may s t agents c (Begin (OfLine number) call x.plain) x.r x.told refl (λ u. refl)) k
    where
      tells : Tells may s (Begin (OfLine number) call x.plain) (reply.Began unit) t
      tells = subst (λ (z : CoreReply). Tells may s (Begin (OfLine number) call x.plain) z t) (began-is x.r unit (sym x.is ∙ q)) x.told

  -- the crew behind it
  pub starts-crew : (what : Result Call BadRequest) → StartsLine may types number what s t agents after began → IsCrew types t after
  starts-crew (Ok call) x = call-crew call x began refl x.carries
  starts-crew (Err why) x = subst (IsCrew types t) (sym x.same)
      (crew-so types s t agents back (tells-so types may s t agents c (Bad number why) x.r x.told refl (λ u. refl)))
    where
      back : (u : UnitNo) → BeganHere u t → BeganHere u s
      back u b = elim (tells-back may u s t (Bad number why) x.r x.told b) [
        | inl old ↦ old
        | inr is ↦ granted-began x.r u (sym (bad-none (ends (run_seen (saw s x.told.rest))) number why x.r x.told.reply)) is
      ]

-- it was put
starts-puts : (types : ProgramTree) (may : CoreEvent → Bool) (s t : Sight) (number : ℕ) (agents after : List Agent) (began : Option UnitNo) (what : Result Call BadRequest)
    → StartsLine may types number what s t agents after began → (r : CoreReply) × PutsLine may types number what s t r
starts-puts types may s t number agents after began (Ok call) x = (x.r, puts-call types may s t number call call refl x.plain x.of_kind x.r x.told)
starts-puts types may s t number agents after began (Err why) x = (x.r, record { e = Bad number why; is = refl; told = x.told })

-- so the promise is kept
pub works-starts : (may : CoreEvent → Bool) (types : ProgramTree) (before place : ℕ) (lines : List Line) (line : Line) (s t : Sight) (agents after : List Agent) (began : Option UnitNo)
    → slice_get lines place ≡ Some line → StartsLine may types line.number line.what s t agents after began → WorksOn (IsBasisOf types before lines) s t
works-starts may types before place lines line s t agents after began here x =
    let p = starts-puts types may s t line.number agents after began line.what x in
    works-puts may types before place lines line s t p.0 here p.1
