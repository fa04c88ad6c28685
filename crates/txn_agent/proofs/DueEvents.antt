-- What an agent puts is due, and applies unless there is a doubt or a stop.
use Rattle.std.proofs.Common.{◌≡◌, ℕ, suc, length, List, [], ◌∷◌, Bool, true, false, true≢false, inl, inr, refl, sym, ap, ◌∙◌, subst, arith, Option, Some, None, eq-eqb}
use Rattle.std.specs.Prelude.{◌&&◌, ◌==◌, map, is_some, option_and_then}
use Rattle.std.specs.List.{All, Contains}
use Rattle.std.proofs.lemmas.Bool.{and_from, and_parts, not_from_false}
use Rattle.base_types.specs.declared.calls.Mode.{Mode}
use Rattle.base_types.specs.declared.calls.Origin.{Origin}
use Rattle.base_types.specs.declared.calls.Origin.TheVariants.{Line, Child}
use Rattle.base_types.specs.declared.calls.Outcome.{Outcome}
use Rattle.base_types.specs.declared.calls.Outcome.TheVariants as outcome
use Rattle.base_types.specs.declared.calls.Value.{Value}
use Rattle.base_types.specs.declared.calls.Value.TheVariants.{Int, Text}
use Rattle.std.specs.Cmp.{signed_Decides}
use Rattle.cell_model.proofs.Units.{same_unit-is, same_grain-is}
use Rattle.core_model.specs.CoreState.{UnitNo, GrainId, Call, Write, same_grain, CoreState}
use Rattle.core_model.specs.declared.effects.Effect.{Effect}
use Rattle.core_model.specs.declared.effects.Read.{Read}
use Rattle.core_model.specs.declared.events.CoreEvent.TheVariants.{Begin, Grant, Refuse, Finish, EndPlain}
use Rattle.core_model.specs.Equality.{same_list, same_text, same_value, same_state, same_outcome, same_call, same_origin, same_read, same_reads}
use Rattle.core_model.specs.Tests.{all, answered_by, is_answer, is_decided, is_empty, is_running, outcome_of}
use Rattle.core_model.specs.Events.{can, holds_alone, is_of_call}
use Rattle.core_model.specs.LegalRuns.{Run, ends}
use Rattle.script_tree.specs.Programs.{ProgramTree}
use Rattle.script_meaning.specs.Play.{GrainState, IsTransaction, Played, asks, next, play_over}
use Rattle.script_meaning.specs.Trails.{Given, GivenLock, GivenRaise, GivenOutcome, answers_of, exclusive_in, locks_of, states_of}
use Rattle.script_meaning.proofs.Plays.{plain_runs_lock_nothing_lem}
use Rattle.script_machine.specs.declared.machine.Pause.TheVariants.{NeedGrain, NeedUnit}
use Rattle.script_machine.specs.Machines.{pause_for, rest}
use Rattle.base_types.specs.Origins.{depth_of}
use Rattle.promise_spec.specs.UnitAnswers.{Got, GotLock, GotRaise, GotChild, and_given, given_by, got_in}
use Rattle.promise_spec.specs.UnitRule.{Basis, IsDue, IsPlayOf}
use Rattle.promise_spec.proofs.Lists.{some_is}
use Rattle.promise_spec.specs.UnitAnswers.{kids_got}
use Rattle.turn_rules.specs.Links.{asks_next}
use Rattle.turn_rules.proofs.RunCounts.{counted-ends}
use Rattle.turn_rules.proofs.AgentLinks.{due-lock, due-raise, due-refusal, due-raise-refusal, due-child, due-finish, due-end}
use Rattle.txn_agent.specs.declared.work.Carried.{Carried}
use Rattle.txn_agent.specs.declared.work.Work.{Work}
use Rattle.txn_agent.specs.MachineState.{IsAtWork, IsEffectOf, found_by, source_of}
use Rattle.txn_agent.specs.CoreLink.{IsPaused}
use Rattle.txn_agent.specs.AgentStep.{IsDueFor}
use Rattle.txn_agent.proofs.Trails.{contains-any, grain-wants, unit-wants, next-own}

-- ---- what is one with itself

list-itself : {A : Type 0} (same : A → A → Bool) → ((x : A) → same x x ≡ true) → (xs : List A) → same_list same xs xs ≡ true
list-itself same each [] = refl
list-itself same each (x ∷ xs) = and_from (same x x) (same_list same xs xs) (each x) (list-itself same each xs)

text-itself : (a : List ℕ) → same_text a a ≡ true
text-itself a = list-itself (λ x y. x == y) (λ x. eq-eqb x x refl) a

value-itself : (a : Value) → same_value a a ≡ true
value-itself (Int a) = (signed_Decides a a).1 refl
value-itself (Text a) = text-itself a

state-itself : (a : List Value) → same_state a a ≡ true
state-itself a = list-itself same_value value-itself a

outcome-itself : (a : Outcome) → same_outcome a a ≡ true
outcome-itself (outcome.Value a) = value-itself a
outcome-itself (outcome.Fault a) = text-itself a
outcome-itself outcome.Aborted = refl

call-itself : (a : Call) → same_call a a ≡ true
call-itself a = and_from (same_grain a.grain a.grain) ((a.method == a.method) && same_state a.args a.args) (same_grain-is a.grain a.grain refl)
    (and_from (a.method == a.method) (same_state a.args a.args) (eq-eqb a.method a.method refl) (state-itself a.args))

origin-itself : (a : Origin) → same_origin a a ≡ true
origin-itself (Line a) = eq-eqb a a refl
origin-itself (Child p i d) = and_from _ ((i == i) && (d == d)) (same_unit-is p p refl) (and_from (i == i) (d == d) (eq-eqb i i refl) (eq-eqb d d refl))

read-itself : (a : Read) → same_read a a ≡ true
read-itself a = and_from (same_grain a.grain a.grain) _ (same_grain-is a.grain a.grain refl) (and_from (same_state a.state a.state) _ (state-itself a.state) (same_unit-is a.source a.source refl))

reads-itself : (xs : List Read) → same_reads xs xs ≡ true
reads-itself xs = list-itself same_read read-itself xs

-- ---- children

-- what was given answers each child
given-kids : (w : CoreState) (got : List Got) (trail : List Given) → given_by w got ≡ Some trail → answered_by w (kids_got got) (answers_of trail) ≡ true
given-kids w [] trail e = subst (λ (l : List Given). answered_by w [] (answers_of l) ≡ true) (some_is [] trail e) refl
given-kids w (GotLock g mode state ∷ got) trail e = by (given_by w got) (given-kids w got) e
  where
    by : (o : Option (List Given)) → ((more : List Given) → o ≡ Some more → answered_by w (kids_got got) (answers_of more) ≡ true) → and_given (GivenLock g mode state) o ≡ Some trail → answered_by w (kids_got got) (answers_of trail) ≡ true
    by None ih h = absurd cc
    by (Some more) ih h = subst (λ (l : List Given). answered_by w (kids_got got) (answers_of l) ≡ true) (some_is (GivenLock g mode state ∷ more) trail h) (ih more refl)
given-kids w (GotRaise g ∷ got) trail e = by (given_by w got) (given-kids w got) e
  where
    by : (o : Option (List Given)) → ((more : List Given) → o ≡ Some more → answered_by w (kids_got got) (answers_of more) ≡ true) → and_given (GivenRaise g) o ≡ Some trail → answered_by w (kids_got got) (answers_of trail) ≡ true
    by None ih h = absurd cc
    by (Some more) ih h = subst (λ (l : List Given). answered_by w (kids_got got) (answers_of l) ≡ true) (some_is (GivenRaise g ∷ more) trail h) (ih more refl)
given-kids w (GotChild call d child ∷ got) trail e = first (outcome_of w child) refl (given-kids w got) e
  where
    by : (out : Outcome) → outcome_of w child ≡ Some out → (o : Option (List Given)) → ((more : List Given) → o ≡ Some more → answered_by w (kids_got got) (answers_of more) ≡ true) → and_given (GivenOutcome call d out) o ≡ Some trail →
        answered_by w (child ∷ kids_got got) (answers_of trail) ≡ true
    by out is None ih h = absurd cc
    by out is (Some more) ih h = subst (λ (l : List Given). answered_by w (child ∷ kids_got got) (answers_of l) ≡ true) (some_is (GivenOutcome call d out ∷ more) trail h)
        (and_from (is_answer (outcome_of w child) out) (answered_by w (kids_got got) (answers_of more)) (ap (λ (x : Option Outcome). is_answer x out) is ∙ outcome-itself out) (ih more refl))

    first : (x : Option Outcome) → outcome_of w child ≡ x → ((more : List Given) → given_by w got ≡ Some more → answered_by w (kids_got got) (answers_of more) ≡ true) → option_and_then (λ out. and_given (GivenOutcome call d out) (given_by w got)) x ≡ Some trail →
        answered_by w (child ∷ kids_got got) (answers_of trail) ≡ true
    first None q ih h = absurd cc
    first (Some out) q ih h = by out q (given_by w got) ih h

-- who is answered is decided
answered-decided : (w : CoreState) (kids : List UnitNo) (answers : List Outcome) → answered_by w kids answers ≡ true → (all (is_decided w) kids ≡ true) × (length kids ≡ length answers)
answered-decided w [] [] e = (refl, refl)
answered-decided w [] (a ∷ answers) e = absurd (true≢false (sym e))
answered-decided w (k ∷ kids) [] e = absurd (true≢false (sym e))
answered-decided w (k ∷ kids) (a ∷ answers) e =
    let p = and_parts (is_answer (outcome_of w k) a) (answered_by w kids answers) e in
    let rest = answered-decided w kids answers p.1 in
    (and_from (is_decided w k) (all (is_decided w) kids) (decided (outcome_of w k) p.0) rest.0, ap suc rest.1)
  where
    decided : (o : Option Outcome) → is_answer o a ≡ true → is_some o ≡ true
    decided None q = absurd (true≢false (sym q))
    decided (Some x) q = refl

-- reads are told by what was found and by whom it was written
reads-are : (xs ys : List Read) → map found_by xs ≡ map found_by ys → map source_of xs ≡ map source_of ys → xs ≡ ys
reads-are [] [] e f = refl
reads-are [] (y ∷ ys) e f = absurd cc
reads-are (x ∷ xs) [] e f = absurd cc
reads-are (x ∷ xs) (y ∷ ys) e f =
    let front : found_by x ≡ found_by y = cc in
    let g : x.grain ≡ y.grain = ap (λ (z : GrainState). z.0) front in
    let s : x.state ≡ y.state = ap (λ (z : GrainState). z.1) front in
    let u : x.source ≡ y.source = cc in
    let more : map found_by xs ≡ map found_by ys = cc in
    let others : map source_of xs ≡ map source_of ys = cc in
    λ i. record { grain = g i; state = s i; source = u i } ∷ reads-are xs ys more others i

-- none were found
no-reads : (xs : List Read) → map found_by xs ≡ [] → is_empty xs ≡ true
no-reads [] e = refl
no-reads (x ∷ xs) e = absurd cc

-- ---- what is due

module _ (types : ProgramTree) (r : Run) (c : Carried) (work : Work) (trail : List Given) (kids : ℕ) (m : IsAtWork types c work trail kids) (p : IsPaused types r c work trail) where
  -- what the core's run says that the script asks for is what comes first in what the machine has left
  pub next-is : asks_next types r c.unit trail ≡ asks (rest types work.machine)
  next-is = (λ i. next types (p.linked.call i) (depth_of (p.linked.came i)) (locks_of trail) (answers_of trail)) ∙ next-own types work.call (depth_of c.origin) work.machine trail m.follows

  -- so by each basis with these types
  next-by : (b : Basis) → b.types ≡ types → asks_next b.types r c.unit trail ≡ asks (rest types work.machine)
  next-by b q = ap (λ (t : ProgramTree). asks_next t r c.unit trail) q ∙ next-is

  -- the lock may be granted, or refused
  pub due-grant : (g : GrainId) (mode : Mode) → NeedGrain g mode ≡ pause_for (asks (rest types work.machine)) → IsDueFor types r (Grant c.unit g mode)
  due-grant g mode e b q a = elim (grain-wants (asks (rest types work.machine)) g mode e) [
    | inl l ↦ due-lock b r c.unit trail p.given g mode (next-by b q ∙ l)
    | inr l ↦ subst (λ (m : Mode). IsDue b (ends r) (got_in r) (Grant c.unit g m)) (sym l.1) (due-raise b r c.unit trail p.given g (next-by b q ∙ l.0))
  ]

  pub due-refuse : (g : GrainId) (mode : Mode) → NeedGrain g mode ≡ pause_for (asks (rest types work.machine)) → IsDueFor types r (Refuse c.unit g mode)
  due-refuse g mode e b q a = elim (grain-wants (asks (rest types work.machine)) g mode e) [
    | inl l ↦ due-refusal b r c.unit trail p.given g mode (next-by b q ∙ l)
    | inr l ↦ subst (λ (m : Mode). IsDue b (ends r) (got_in r) (Refuse c.unit g m)) (sym l.1) (due-raise-refusal b r c.unit trail p.given g (next-by b q ∙ l.0))
  ]

  -- the child may begin
  pub due-begin : (call : Call) (depth index : ℕ) → NeedUnit call depth ≡ pause_for (asks (rest types work.machine)) → IsDueFor types r (Begin (Child c.unit index depth) call false)
  due-begin call depth index e b q a = due-child b r c.unit trail p.given index depth call (next-by b q ∙ unit-wants (asks (rest types work.machine)) call depth e)

  -- the unit may come to its end
  module _ (effect : Effect) (is : IsEffectOf types c work trail effect) where
    pub due-finished : IsDueFor types r (Finish c.unit effect)
    due-finished b q a = due-finish b r c.unit trail p.given effect (next-by b q ∙ is.result) (subst (λ (t : ProgramTree). IsPlayOf t effect) (sym q) is.play)

    pub due-ended : IsDueFor types r (EndPlain c.unit effect)
    due-ended b q a = due-end b r c.unit trail p.given effect (next-by b q ∙ is.result) (subst (λ (t : ProgramTree). IsPlayOf t effect) (sym q) is.play)

  -- ---- what applies, but for a doubt or a stop

  -- each child is answered
  kids-answered : answered_by (ends r) ((ends r).units.kids c.unit) (answers_of trail) ≡ true
  kids-answered = subst (λ (l : List UnitNo). answered_by (ends r) l (answers_of trail) ≡ true) ((counted-ends r p.linked.above).kids c.unit) (given-kids (ends r) (got_in r c.unit) trail p.given.given)

  -- the next child may begin
  pub can-begin : (call : Call) (depth : ℕ) → kids ≡ length (answers_of trail) → can (ends r) (Begin (Child c.unit work.kids depth) call false) ≡ true
  can-begin call depth n =
      let d = answered-decided (ends r) ((ends r).units.kids c.unit) (answers_of trail) kids-answered in
      and_from (is_running ((ends r).units.phase c.unit)) _ (ap is_running p.given.running)
      (and_from (work.kids == length ((ends r).units.kids c.unit)) _ (eq-eqb work.kids (length ((ends r).units.kids c.unit)) (m.kids ∙ n ∙ sym d.1)) d.0)

  module _ (effect : Effect) (is : IsEffectOf types c work trail effect) where
    -- the effect is of the unit's call
    of-call : is_of_call (ends r) c.unit effect ≡ true
    of-call =
        and_from _ _ (same_unit-is effect.unit c.unit is.unit)
        (and_from _ _ (subst (λ (o : Origin). same_origin effect.origin o ≡ true) (is.origin ∙ sym p.linked.came) (origin-itself effect.origin))
        (and_from _ _ (subst (λ (x : Call). same_call effect.call x ≡ true) (is.call ∙ sym p.linked.call) (call-itself effect.call))
        (subst (λ (l : List Outcome). answered_by (ends r) ((ends r).units.kids c.unit) l ≡ true) (sym is.answers) kids-answered)))

    -- and has its reads
    of-reads : effect.reads ≡ (ends r).units.reads c.unit
    of-reads = reads-are effect.reads ((ends r).units.reads c.unit) (is.found ∙ sym p.linked.found) (is.sources ∙ sym p.linked.sources)

    -- what it writes the unit holds alone
    of-writes : (writes : List Write) → All (λ one. Contains (exclusive_in trail) one.0) writes → all (λ (x : Write). holds_alone (ends r) c.unit x.0) writes ≡ true
    of-writes [] each = refl
    of-writes (x ∷ writes) each = and_from (holds_alone (ends r) c.unit x.0) _
        (p.linked.alone x.0 ∙ contains-any (exclusive_in trail) x.0 (each 0 x (omega arith)))
        (of-writes writes (λ k d within. each (suc k) d (omega (arith, within))))

    -- a transaction may come to its end
    pub can-finished : c.plain ≡ false → can (ends r) (Finish c.unit effect) ≡ true
    can-finished kind =
        and_from _ _ (and_from (is_running ((ends r).units.phase c.unit)) _ (ap is_running p.given.running) (not_from_false _ (p.linked.kind ∙ kind)))
        (and_from _ _ of-call (and_from _ _ (subst (λ (l : List Read). same_reads effect.reads l ≡ true) of-reads (reads-itself effect.reads)) (of-writes effect.writes is.locked)))

    -- and so may a plain run
    pub can-ended : c.plain ≡ true → can (ends r) (EndPlain c.unit effect) ≡ true
    can-ended kind =
        let played : Played = play_over types effect.call (depth_of effect.origin) (states_of (map (λ (x : Read). (x.grain, x.state)) effect.reads)) effect.answers in
        let none : (played.reads ≡ []) × (played.writes ≡ []) = plain_runs_lock_nothing_lem types effect.call (depth_of effect.origin) (states_of (map (λ (x : Read). (x.grain, x.state)) effect.reads)) effect.answers
        (λ t. p.linked.plainly kind (subst (λ (x : Call). IsTransaction types x) is.call t)) in
        and_from _ _ (and_from (is_running ((ends r).units.phase c.unit)) _ (ap is_running p.given.running) (p.linked.kind ∙ kind))
        (and_from _ _ of-call (and_from _ _ (no-reads effect.reads (sym is.play.reads ∙ none.0)) (ap is_empty (sym is.play.writes ∙ none.1))))
