-- What a look shows of whether a unit moves.
use Rattle.std.proofs.Common.{◌≡◌, ℕ, length, List, [], ◌∷◌, ◌++◌, Bool, true, false, true≢false, inl, inr, refl, sym, ap, ◌∙◌, subst, arith, eqb-true, Option, Some, None}
use Rattle.std.specs.Prelude.{if◌then◌else◌, not, is_some, ◌&&◌, ◌||◌, ◌==◌, option_map, option_and_then}
use Rattle.std.proofs.lemmas.Bool.{cases_Bool}
use Rattle.base_types.specs.declared.calls.Mode.{Mode}
use Rattle.base_types.specs.declared.calls.Outcome.{Outcome}
use Rattle.cell_model.specs.Locks.{holds_lock, is_hold_of}
use Rattle.cell_model.proofs.Units.{same_unit-true, same_unit-is, same_grain-is, any-true, any-member}
use Rattle.core_model.specs.CoreState.{UnitNo, GrainId, Call, same_grain, CoreState}
use Rattle.core_model.specs.declared.phases.Phase.{Phase}
use Rattle.core_model.specs.declared.phases.Phase.TheVariants.{Unborn, Running, Finished, Refused, Ended}
use Rattle.core_model.specs.declared.questions.AskAnswer.{AskAnswer}
use Rattle.core_model.specs.Tests.{any, ask_answer, is_decided, is_free, is_over, is_running, outcome_of}
use Rattle.core_model.specs.LegalRuns.{Run, ends}
use Rattle.core_model.specs.declared.events.CoreEvent.{CoreEvent}
use Rattle.core_laws.proofs.BatchPrefix.{free-holds, unfree-holds}
use Rattle.script_tree.specs.Programs.{ProgramTree}
use Rattle.script_meaning.specs.Play.{Want, WantLock, WantRaise, WantUnit, Over, asks}
use Rattle.script_meaning.specs.Trails.{Given, GivenLock, GivenRaise, GivenOutcome}
use Rattle.script_machine.specs.declared.machine.Pause.{Pause}
use Rattle.script_machine.specs.declared.machine.Pause.TheVariants.{NeedGrain}
use Rattle.script_machine.specs.Machines.{pause_for, rest}
use Rattle.promise_spec.specs.UnitAnswers.{Got, GotLock, GotRaise, GotChild, and_given, given_by, got_in, wanted_by}
use Rattle.promise_spec.specs.TurnRule.{can_move, is_unhindered, is_wait}
use Rattle.turn_rules.proofs.AgentLinks.{wants}
use Rattle.core_access.specs.Sights.{Sight, run_seen, Looks, Counts}
use Rattle.txn_agent.specs.declared.work.Carried.{Carried}
use Rattle.txn_agent.specs.declared.work.Work.{Work}
use Rattle.txn_agent.specs.declared.work.Doing.{Doing}
use Rattle.txn_agent.specs.declared.work.Doing.TheVariants.{Asks, Awaits, Frees, Stopped}
use Rattle.txn_agent.specs.MachineState.{IsAtWork}
use Rattle.txn_agent.specs.CoreLink.{IfOwn, IsPaused, IsWaiting, IsOver, KnowsDoing}
use Rattle.txn_agent.specs.ShownMoves.{ShowsMove, moves}
use Rattle.txn_agent.proofs.Trails.{grain-wants}
use Rattle.txn_agent.proofs.DueEvents.{next-is}
use Rattle.txn_agent.proofs.AgentCalls.{paused-looks, waiting-looks, over-looks}
use Rattle.core_laws.proofs.LoadlessKept.{loadless-ends}

-- a running unit moves where nothing hinders it
pub running-moves : (types : ProgramTree) (r : Run) (u : UnitNo) → (ends r).units.phase u ≡ Running → can_move types (ends r) (got_in r) u ≡ is_unhindered (ends r) u (wanted_by types (ends r) u (got_in r u))
running-moves types r u e = ap (λ (p : Phase). if is_running p then is_unhindered (ends r) u (wanted_by types (ends r) u (got_in r u)) else is_over p && not (is_free (ends r) u)) e

module _ (types : ProgramTree) (r : Run) (c : Carried) (work : Work) where
  module _ (trail : List Given) (kids : ℕ) (m : IsAtWork types c work trail kids) (p : IsPaused types r c work trail) where
    -- where its script asks
    paused-moves : moves types r c ≡ is_unhindered (ends r) c.unit (Some (asks (rest types work.machine)))
    paused-moves = running-moves types r c.unit p.given.running
        ∙ ap (is_unhindered (ends r) c.unit) (wants types r c.unit trail p.given ∙ ap Some (next-is types r c work trail kids m p))

    -- for a grain
    grain-moves : (g : GrainId) (mode : Mode) → NeedGrain g mode ≡ pause_for (asks (rest types work.machine)) → not (is_wait (ask_answer (ends r) c.unit g mode)) ≡ moves types r c
    grain-moves g mode e = elim (grain-wants (asks (rest types work.machine)) g mode e) [
      | inl l ↦ sym (paused-moves ∙ ap (λ (w : Want). is_unhindered (ends r) c.unit (Some w)) l)
      | inr l ↦ ap (λ (x : Mode). not (is_wait (ask_answer (ends r) c.unit g x))) l.1 ∙ sym (paused-moves ∙ ap (λ (w : Want). is_unhindered (ends r) c.unit (Some w)) l.0)
    ]

-- the pause is for a grain
abbrev pub for_grain : Pause → Bool
for_grain (NeedGrain g mode) = true
for_grain pause = false

-- else nothing hinders
other-moves : (w : CoreState) (u : UnitNo) (want : Want) (pause : Pause) → pause ≡ pause_for want → for_grain pause ≡ false → is_unhindered w u (Some want) ≡ true
other-moves w u (WantLock g m) pause e f = absurd (true≢false (sym (ap for_grain e) ∙ f))
other-moves w u (WantRaise g) pause e f = absurd (true≢false (sym (ap for_grain e) ∙ f))
other-moves w u (WantUnit call depth) pause e f = refl
other-moves w u (Over o) pause e f = refl

-- who waits for a child that isn't decided was given nothing more
pub given-none : (w : CoreState) (call : Call) (d : ℕ) (child : UnitNo) (got : List Got) → outcome_of w child ≡ None → given_by w (got ++ (GotChild call d child ∷ [])) ≡ None
given-none w call d child [] e = ap (λ (x : Option Outcome). option_and_then (λ outcome. and_given (GivenOutcome call d outcome) (Some [])) x) e
given-none w call d child (GotLock g mode state ∷ got) e = ap (and_given (GivenLock g mode state)) (given-none w call d child got e)
given-none w call d child (GotRaise g ∷ got) e = ap (and_given (GivenRaise g)) (given-none w call d child got e)
given-none w call d child (GotChild x k y ∷ got) e = by (given-none w call d child got e) (outcome_of w y)
  where
    by : given_by w (got ++ (GotChild call d child ∷ [])) ≡ None → (o : Option Outcome) → option_and_then (λ outcome. and_given (GivenOutcome x k outcome) (given_by w (got ++ (GotChild call d child ∷ [])))) o ≡ None
    by ih None = refl
    by ih (Some o) = ap (and_given (GivenOutcome x k o)) ih

-- so it doesn't move
waiting-moves : (types : ProgramTree) (r : Run) (c : Carried) (work : Work) (trail : List Given) (child : UnitNo) (call : Call) (depth : ℕ) → IsWaiting types r c work trail child call depth → outcome_of (ends r) child ≡ None → moves types r c ≡ false
waiting-moves types r c work trail child call depth w e =
    running-moves types r c.unit w.awaits.running
    ∙ ap (is_unhindered (ends r) c.unit) (ap (wanted_by types (ends r) c.unit) w.awaits.got ∙ ap (option_map _) (given-none (ends r) call depth child w.awaits.before e))

-- who is over moves while it has a lock
pub over-moves : (p : Phase) (x f : Bool) → is_over p ≡ true → (if is_running p then x else is_over p && not f) ≡ not f
over-moves Unborn x f e = absurd (true≢false (sym e))
over-moves Running x f e = absurd (true≢false (sym e))
over-moves Finished x f e = refl
over-moves Refused x f e = refl
over-moves Ended x f e = refl

not-none : (g : GrainId) (held : List GrainId) → (length (g ∷ held) == 0) ≡ false
not-none g held = elim (cases_Bool (length (g ∷ held) == 0)) [ inl t ↦ absurd (let z = eqb-true (length (g ∷ held)) 0 t in omega (arith, z)) | inr f ↦ f ]

free-is : (r : Run) (c : Carried) (held : List GrainId) → IsOver r c held → is_free (ends r) c.unit ≡ (length held == 0)
free-is r c [] o = elim (cases_Bool (is_free (ends r) c.unit)) [
  | inl e ↦ e
  | inr e ↦ (let t = unfree-holds (ends r) c.unit e in absurd (true≢false (sym (any-member (is_hold_of c.unit) ((ends r).cells.holds t.0) t.1.0 t.1.1 (same_unit-is t.1.0.unit c.unit t.1.2)) ∙ o.locks t.0)))
]
free-is r c (g ∷ held) o = elim (cases_Bool (is_free (ends r) c.unit)) [
  | inr e ↦ e ∙ sym (not-none g held)
  | inl e ↦ (
      let has : holds_lock c.unit ((ends r).cells.holds g) ≡ true = o.locks g ∙ ap (λ (b : Bool). b || any (same_grain g) held) (same_grain-is g g refl) in
      let t = any-true (is_hold_of c.unit) ((ends r).cells.holds g) has in
      absurd (free-holds _ (ends r) (loadless-ends r o.above).0 c.unit e g t.0 t.1 (same_unit-true t.0.unit c.unit t.2)))
]

freeing-moves : (types : ProgramTree) (r : Run) (c : Carried) (held : List GrainId) → IsOver r c held → not (length held == 0) ≡ moves types r c
freeing-moves types r c held o =
    ap not (sym (free-is r c held o))
    ∙ sym (over-moves ((ends r).units.phase c.unit) (is_unhindered (ends r) c.unit (wanted_by types (ends r) c.unit (got_in r c.unit))) (is_free (ends r) c.unit) o.over)

-- ---- by a look

module _ (may : CoreEvent → Bool) (types : ProgramTree) (s t : Sight) (c : Carried) (l : Looks may s t) (counts : Counts s) (doing : Doing) (k : KnowsDoing types s c doing) where
  -- what is known of what it does
  as-known : (two : Doing) → doing ≡ two → KnowsDoing types s c two
  as-known two e = subst (KnowsDoing types s c) e k

  as-shown : (two : Doing) (b : Bool) → doing ≡ two → IfOwn c t (λ r. ShowsMove types r c two b) → IfOwn c t (λ r. ShowsMove types r c doing b)
  as-shown two b e p = subst (λ (x : Doing). IfOwn c t (λ r. ShowsMove types r c x b)) (sym e) p

  -- it asks for a grain
  pub grain_all : (work : Work) (pause : Pause) (g : GrainId) (mode : Mode) (answer : AskAnswer) (waits : Bool) → doing ≡ Asks work pause → pause ≡ NeedGrain g mode → answer ≡ ask_answer (ends (run_seen t)) c.unit g mode → waits ≡ is_wait answer →
      IfOwn c t (λ r. ShowsMove types r c doing (not waits))
  grain_all work pause g mode answer waits d p a w =
      let whole : doing ≡ Asks work (NeedGrain g mode) = d ∙ ap (Asks work) p in
      let there = paused-looks types s c work counts may t (NeedGrain g mode) l (as-known (Asks work (NeedGrain g mode)) whole) in
      as-shown (Asks work (NeedGrain g mode)) (not waits) whole
      (λ alone. ap not (w ∙ ap is_wait a) ∙ grain-moves types (run_seen t) c work there.trail _ there.at_work (there.linked alone) g mode there.ready.asks_for)

  -- or for something else
  pub other_all : (work : Work) (pause found : Pause) → doing ≡ Asks work pause → pause ≡ found → for_grain found ≡ false → IfOwn c t (λ r. ShowsMove types r c doing true)
  other_all work pause found d p f =
      let whole : doing ≡ Asks work found = d ∙ ap (Asks work) p in
      let there = paused-looks types s c work counts may t found l (as-known (Asks work found) whole) in
      as-shown (Asks work found) true whole
      (λ alone. sym (paused-moves types (run_seen t) c work there.trail _ there.at_work (there.linked alone)
      ∙ other-moves (ends (run_seen t)) c.unit (asks (rest types work.machine)) found there.ready.asks_for f))

  -- it waits for its child
  pub waiting_all : (work : Work) (child : UnitNo) (decided : Bool) → doing ≡ Awaits work child → decided ≡ is_decided (ends (run_seen t)) child → IfOwn c t (λ r. ShowsMove types r c doing decided)
  waiting_all work child decided d a =
      let there = waiting-looks types s c work counts may t child l (as-known (Awaits work child) d) in
      as-shown (Awaits work child) decided d
      (λ alone. (a, λ f. waiting-moves types (run_seen t) c work there.trail child there.call there.depth (there.linked alone) (none-of (outcome_of (ends (run_seen t)) child) (sym a ∙ f))))
    where
      none-of : (o : Option Outcome) → is_some o ≡ false → o ≡ None
      none-of None f = refl
      none-of (Some x) f = absurd (true≢false f)

  -- it gives its locks back
  pub freeing_all : (held : List GrainId) (none : Bool) → doing ≡ Frees held → none ≡ (length held == 0) → IfOwn c t (λ r. ShowsMove types r c doing (not none))
  freeing_all held none d e =
      let there = over-looks types s c counts may t held l (as-known (Frees held) d) in
      as-shown (Frees held) (not none) d (λ alone. ap not e ∙ freeing-moves types (run_seen t) c held (there alone))

  -- it was stopped
  pub stopped_all : doing ≡ Stopped → IfOwn c t (λ r. ShowsMove types r c doing false)
  stopped_all d = as-shown Stopped false d (λ alone. refl)
