-- Who can't move, while it runs, and doesn't wait for a grain to be brought into memory, waits for a younger unit.
use Rattle.std.proofs.Common.{◌≡◌, ◌<◌, Option, Some, None, List, [], ◌∷◌, Bool, true, false, ◌⊎◌, inl, inr, refl, ap, arith}
use Rattle.std.specs.Prelude.{◌&&◌, nat_lt, not, if◌then◌else◌, option_map, option_and_then}
use Rattle.std.proofs.lemmas.Bool.{not-false}
use Rattle.base_types.specs.declared.calls.Mode.TheVariants.{Update}
use Rattle.cell_model.specs.declared.locks.Ask.{Ask}
use Rattle.cell_model.specs.declared.locks.Ask.TheVariants.{Free, Held, MustWait, MustDie}
use Rattle.cell_model.specs.Laws.{AnswersExactly}
use Rattle.cell_model.proofs.LockAnswers.{ask-exact}
use Rattle.core_model.specs.CoreState.{UnitNo, GrainId, Hold, Mode, Outcome, Member, CoreState}
use Rattle.core_model.specs.Tests.{ask_answer, ask_lock, ask_doom, doomed_by, is_active, is_running, outcome_of}
use Rattle.script_tree.specs.Programs.{ProgramTree}
use Rattle.script_meaning.specs.Trails.{Given, GivenLock, GivenRaise, GivenOutcome, locks_of, answers_of}
use Rattle.base_types.specs.Origins.{depth_of}
use Rattle.promise_spec.specs.UnitAnswers.{Got, GotLock, GotRaise, GotChild, and_given, given_by, wanted_by, wanted_lock, kids_got}
use Rattle.promise_spec.specs.TurnRule.{is_absent, is_unhindered, is_wait, waits_for_load}
use Rattle.cell_model.specs.Locks as locks
use Rattle.core_model.specs.declared.questions.AskAnswer.TheVariants as answer
use Rattle.script_meaning.specs.Play as script

-- ---- who waits

-- a unit that waits for a lock waits for a younger holder
wait-holder : (w : CoreState) (u : UnitNo) (g : GrainId) (mode : Mode) → is_wait (ask_answer w u g mode) ≡ true → is_absent (ask_answer w u g mode) ≡ false → (h : Hold) × Member h (w.cells.holds g) × (u.0 < h.unit.0)
wait-holder w u g mode e there = by_active (is_active w u g) e there
  where
    Found : Type 0
    Found = (h : Hold) × Member h (w.cells.holds g) × (u.0 < h.unit.0)

    by_lock : (a : Ask) → AnswersExactly (w.cells.holds g) u mode a → (here : Bool) → is_wait (ask_lock here a) ≡ true → is_absent (ask_lock here a) ≡ false → Found
    by_lock Free x true h n = absurd cc
    by_lock Free x false h n = absurd cc
    by_lock Held x here h n = absurd cc
    by_lock (MustDie v) x here h n = absurd cc
    by_lock (MustWait v) x here h n =
        let rival = x.1.rival in
        let e : rival.0.unit.0 ≡ v.0 = ap (λ (z : UnitNo). z.0) rival.3 in
        (rival.0, rival.1, (let less : u.0 < v.0 = x.2 in omega (arith, less, e)))

    by_doom : (o : Option UnitNo) → is_wait (ask_doom o (ask_lock (w.cells.here g) (locks.ask (w.cells.holds g) u mode))) ≡ true
        → is_absent (ask_doom o (ask_lock (w.cells.here g) (locks.ask (w.cells.holds g) u mode))) ≡ false → Found
    by_doom None h n = by_lock (locks.ask (w.cells.holds g) u mode) (ask-exact (w.cells.holds g) u mode) (w.cells.here g) h n
    by_doom (Some s) h n = absurd cc

    by_active : (a : Bool) → is_wait (if a then ask_doom (doomed_by w u) (ask_lock (w.cells.here g) (locks.ask (w.cells.holds g) u mode)) else answer.NotActive) ≡ true
        → is_absent (if a then ask_doom (doomed_by w u) (ask_lock (w.cells.here g) (locks.ask (w.cells.holds g) u mode)) else answer.NotActive) ≡ false → Found
    by_active true h n = by_doom (doomed_by w u) h n
    by_active false h n = absurd cc

-- who doesn't run waits for no grain to be brought into memory
pub idle-waits : (w : CoreState) (u : UnitNo) (o : Option (GrainId × Mode)) → is_running (w.units.phase u) ≡ false → waits_for_load w u o ≡ false
idle-waits w u None q = refl
idle-waits w u (Some asked) q = ap (λ (b : Bool). is_absent (if b && nat_lt asked.0.kind w.units.kinds then ask_doom (doomed_by w u) (ask_lock (w.cells.here asked.0) (locks.ask (w.cells.holds asked.0) u asked.1)) else answer.NotActive)) q

-- a unit that waits for a child has one that isn't decided
and_given-none : (one : Given) (o : Option (List Given)) → and_given one o ≡ None → o ≡ None
and_given-none one None e = refl
and_given-none one (Some more) e = absurd cc

-- a unit that waits for a child has one that isn't decided
undecided-kid : (w : CoreState) (got : List Got) → given_by w got ≡ None → (c : UnitNo) × Member c (kids_got got) × (outcome_of w c ≡ None)
undecided-kid w [] e = absurd cc
undecided-kid w (GotLock g mode state ∷ got) e = undecided-kid w got (and_given-none (GivenLock g mode state) (given_by w got) e)
undecided-kid w (GotRaise g ∷ got) e = undecided-kid w got (and_given-none (GivenRaise g) (given_by w got) e)
undecided-kid w (GotChild call depth child ∷ got) e = by (undecided-kid w got) (outcome_of w child) refl e
  where
    by : (given_by w got ≡ None → (c : UnitNo) × Member c (kids_got got) × (outcome_of w c ≡ None)) → (o : Option Outcome) → outcome_of w child ≡ o →
        option_and_then (λ outcome. and_given (GivenOutcome call depth outcome) (given_by w got)) o ≡ None → (c : UnitNo) × Member c (child ∷ kids_got got) × (outcome_of w c ≡ None)
    by rest None q h = (child, inl refl, q)
    by rest (Some o) q h = (let t = rest (and_given-none (GivenOutcome call depth o) (given_by w got) h) in (t.0, inr t.1, t.2))

-- who wants nothing waits for a child
wanted-none : (types : ProgramTree) (w : CoreState) (u : UnitNo) (got : List Got) → wanted_by types w u got ≡ None → given_by w got ≡ None
wanted-none types w u got e = by (given_by w got) refl e
  where
    by : (o : Option (List Given)) → given_by w got ≡ o → option_map (λ given. script.next types (w.units.call u) (depth_of (w.units.origin u)) (locks_of given) (answers_of given)) o ≡ None → given_by w got ≡ None
    by None q h = q
    by (Some t) q h = absurd cc

-- the children of a unit that waits for one
pub waiting-cases : (types : ProgramTree) (w : CoreState) (u : UnitNo) (got : List Got) → is_unhindered w u (wanted_by types w u got) ≡ false → waits_for_load w u (wanted_lock (wanted_by types w u got)) ≡ false →
    ((h : Hold) × (g : GrainId) × Member h (w.cells.holds g) × (u.0 < h.unit.0)) ⊎ ((c : UnitNo) × Member c (kids_got got) × (outcome_of w c ≡ None))
waiting-cases types w u got e there = by (wanted_by types w u got) refl e there
  where
    lock : (g : GrainId) (mode : Mode) → not (is_wait (ask_answer w u g mode)) ≡ false → is_absent (ask_answer w u g mode) ≡ false → (h : Hold) × (g : GrainId) × Member h (w.cells.holds g) × (u.0 < h.unit.0)
    lock g mode h n = (let t = wait-holder w u g mode (not-false (is_wait (ask_answer w u g mode)) h) n in (t.0, g, t.1, t.2))

    by : (o : Option script.Want) → wanted_by types w u got ≡ o → is_unhindered w u o ≡ false → waits_for_load w u (wanted_lock o) ≡ false →
        ((h : Hold) × (g : GrainId) × Member h (w.cells.holds g) × (u.0 < h.unit.0)) ⊎ ((c : UnitNo) × Member c (kids_got got) × (outcome_of w c ≡ None))
    by None q h n = inr (undecided-kid w got (wanted-none types w u got q))
    by (Some (script.WantLock g mode)) q h n = inl (lock g mode h n)
    by (Some (script.WantRaise g)) q h n = inl (lock g Update h n)
    by (Some (script.WantUnit call depth)) q h n = absurd cc
    by (Some (script.Over outcome)) q h n = absurd cc
