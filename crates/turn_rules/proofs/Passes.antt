-- How a pass of wishes goes on: what a wish and its load leave of units, and how far the pass has come.
use Rattle.std.proofs.Common.{◌≡◌, inl, inr, ℕ, ◌-◌, ◌<◌, ◌≤◌, List, [], ◌∷◌, ◌++◌, Option, Some, None, Bool, true, false, true≢false, refl, sym, ap, ◌∙◌, subst, arith, append-nil}
use Rattle.std.specs.Prelude.{fold, filter, ◌&&◌, not, if◌then◌else◌, option_map, option_and_then}
use Rattle.std.proofs.lemmas.Bool.{and_parts, cases_Bool, cases_lt, cond_both, cond-true}
use Rattle.base_types.specs.declared.calls.Mode.TheVariants.{Update}
use Rattle.cell_model.specs.Locks as locks
use Rattle.cell_model.proofs.Units.{filter-member, filter-stays}
use Rattle.core_model.specs.CoreState.{UnitNo, GrainId, Value, Call, Origin, Outcome, Mode, Hold, Member, CoreState}
use Rattle.core_model.specs.declared.phases.Phase.{Phase}
use Rattle.core_model.specs.declared.phases.Verdict.{Verdict}
use Rattle.core_model.specs.declared.questions.AskAnswer.{AskAnswer}
use Rattle.core_model.specs.declared.questions.AskAnswer.TheVariants as answer
use Rattle.core_model.specs.declared.events.CoreEvent.{CoreEvent}
use Rattle.core_model.specs.declared.events.CoreEvent.TheVariants.{Bad, Begin, Grant, Refuse, Finish, EndPlain, EndSnapshot, Release, Take, Vote, Decide, Sealed, NotSealed, Doubt, Learn, Emitted, Halt, Want, Load}
use Rattle.core_model.specs.Changes.{loaded, swept, swept_by}
use Rattle.core_model.specs.Events.{applies, can, does, step, is_allowed}
use Rattle.core_model.specs.LegalRuns.{Run, begins, ends}
use Rattle.core_model.specs.LockAnswers.{AskedLocks}
use Rattle.core_model.specs.Tests.{ask_answer, ask_doom, ask_lock, doomed_by, is_active, is_free, is_over, is_running, is_wanted, outcome_in, outcome_of}
use Rattle.core_laws.proofs.HeldGrains.{here-ends}
use Rattle.core_laws.proofs.Puts.{grain-same}
use Rattle.core_laws.proofs.LoadlessKept.{loadless-ends}
use Rattle.core_laws.proofs.LockAnswers.{asked-locks}
use Rattle.script_tree.specs.Programs.{ProgramTree}
use Rattle.script_meaning.specs.Play as script
use Rattle.script_meaning.specs.Play.{Want as Wanted, next}
use Rattle.script_meaning.specs.Trails.{Given, GivenLock, GivenRaise, GivenOutcome, answers_of, locks_of}
use Rattle.base_types.specs.Origins.{depth_of}
use Rattle.promise_spec.specs.Cores.{HasBegun, applied_in}
use Rattle.promise_spec.specs.UnitAnswers.{Got, GotLock, GotRaise, GotChild, and_given, given_by, got_by, got_in, wanted_by, wanted_lock}
use Rattle.promise_spec.specs.TurnRule.{Mover, OfWant, OfLoad, can_move, is_absent, is_unhindered, is_wait, lock_asked, mover_of, passed, passed_by, units_of, waits_for_load}
use Rattle.promise_spec.proofs.Lists.{some_is}
use Rattle.turn_rules.specs.NextEvent.{with_event, movers_in}
use Rattle.turn_rules.specs.CarriedUnits.{AreKept, is_flying, is_kept, is_live}
use Rattle.turn_rules.specs.TurnLoop.{waits_in}
use Rattle.turn_rules.proofs.Growth.{applied-more, ends-more, got-event}
use Rattle.turn_rules.proofs.ListTests.{none-passes, or-left}
use Rattle.turn_rules.proofs.Movers.{moves-live}
use Rattle.turn_rules.proofs.SettlerRest.{no-doubt-list}
use Rattle.turn_rules.proofs.Numbers.{units-member}
use Rattle.turn_rules.proofs.RunCounts.{counted-ends}
use Rattle.turn_rules.proofs.WantedHere.{is_wish, wanted-stays}

-- ---- who waits for a grain

-- who does runs
pub waits-run : (w : CoreState) (u : UnitNo) (o : Option (GrainId × Mode)) → waits_for_load w u o ≡ true → is_running (w.units.phase u) ≡ true
waits-run w u None e = absurd (true≢false (sym e))
waits-run w u (Some asked) e = by (is_active w u asked.0) refl e
  where
    by : (b : Bool) → is_active w u asked.0 ≡ b → is_absent (if b then ask_doom (doomed_by w u) (ask_lock (w.cells.here asked.0) (locks.ask (w.cells.holds asked.0) u asked.1)) else answer.NotActive) ≡ true → is_running (w.units.phase u) ≡ true
    by true q h = (and_parts (is_running (w.units.phase u)) _ q).0
    by false q h = absurd (true≢false (sym h))

-- so it has begun
running-begun : (w : CoreState) (u : UnitNo) → is_running (w.units.phase u) ≡ true → HasBegun w u
running-begun w u e q = true≢false (sym e ∙ ap is_running q)

-- and is one of those that are carried
pub waiting-carried : (types : ProgramTree) (r : Run) (units : List UnitNo) → 0 < r.base → AreKept r units → (u : UnitNo) → waits_in types r u ≡ true → Member u units × (r.base ≤ u.0) × (u.0 < (ends r).units.next)
waiting-carried types r units first kept u waits =
    let runs = waits-run (ends r) u (lock_asked types (ends r) (got_in r) u) waits in
    let counted = counted-ends r first in
    let low = counted.numbered u (running-begun (ends r) u runs) in
    let above = counted.above in
    elim (cases_lt u.0 (ends r).units.next) [
      | inl high ↦
          let is : is_kept (ends r) u ≡ true = or-left (is_live (ends r) u) (is_flying (ends r) u) (or-left (is_running ((ends r).units.phase u)) _ runs) in
          let all = units-member ((ends r).units.next - r.base) r.base u low (omega (arith, high, above)) in
          ((filter-member (is_kept (ends r)) units u (subst (Member u) (sym kept.kept) (filter-stays (is_kept (ends r)) (units_of r (ends r)) u all is))).0, low, high)
      | inr le ↦ absurd (true≢false (sym runs ∙ ap is_running ((loadless-ends r first).0.unborn u le)))
    ]

-- ---- what a wish or a load leaves of units

-- of their phases, calls and outcomes
pub record LeavesUnits (w w' : CoreState) : Type 0 where
  pub phase : w'.units.phase ≡ w.units.phase
  pub call : w'.units.call ≡ w.units.call
  pub origin : w'.units.origin ≡ w.units.origin
  pub verdict : w'.manager.verdict ≡ w.manager.verdict
  pub result : w'.manager.result ≡ w.manager.result

-- an event of the pass
abbrev pub is_pass : CoreEvent → Bool
is_pass (Want u g) = true
is_pass (Load g u state) = true
is_pass _ = false

leaves-same : (w : CoreState) → LeavesUnits w w
leaves-same w = record { phase = refl; call = refl; origin = refl; verdict = refl; result = refl }

leaves-swept : (w w' : CoreState) → LeavesUnits w w' → LeavesUnits w (swept w')
leaves-swept w w' l = go w'.cells.capacity
  where
    go : (c : Option ℕ) → LeavesUnits w (swept_by w' c)
    go None = l
    go (Some n) = record { phase = l.phase; call = l.call; origin = l.origin; verdict = l.verdict; result = l.result }

wish-leaves : (w : CoreState) (u : UnitNo) (g : GrainId) → LeavesUnits w (step w (Want u g))
wish-leaves w u g = cond_both (applies w (Want u g)) (swept (does w (Want u g))) w (LeavesUnits w)
    (λ a. leaves-swept w (does w (Want u g)) (record { phase = refl; call = refl; origin = refl; verdict = refl; result = refl }))
    (λ a. leaves-same w)

load-leaves : (w : CoreState) (g : GrainId) (u : UnitNo) (state : List Value) → LeavesUnits w (step w (Load g u state))
load-leaves w g u state = cond_both (applies w (Load g u state)) (swept (does w (Load g u state))) w (LeavesUnits w)
    (λ a. leaves-swept w (does w (Load g u state)) (record { phase = refl; call = refl; origin = refl; verdict = refl; result = refl }))
    (λ a. leaves-same w)

-- so of their outcomes
outcomes-as : (w w' : CoreState) → LeavesUnits w w' → (k : UnitNo) → outcome_of w' k ≡ outcome_of w k
outcomes-as w w' l k = (λ i. outcome_at (l.phase i k) (l.verdict i k) (l.result i k))
  where
    outcome_at : Phase → Verdict → Outcome → Option Outcome
    outcome_at p v o = outcome_in p v o

-- what they were given
given-as : (w w' : CoreState) → ((k : UnitNo) → outcome_of w' k ≡ outcome_of w k) → (got : List Got) → given_by w' got ≡ given_by w got
given-as w w' same [] = refl
given-as w w' same (GotLock g mode state ∷ got) = ap (and_given (GivenLock g mode state)) (given-as w w' same got)
given-as w w' same (GotRaise g ∷ got) = ap (and_given (GivenRaise g)) (given-as w w' same got)
given-as w w' same (GotChild call depth child ∷ got) =
    ap (option_and_then (λ outcome. and_given (GivenOutcome call depth outcome) (given_by w' got))) (same child)
    ∙ ap (λ (l : Option (List Given)). option_and_then (λ outcome. and_given (GivenOutcome call depth outcome) l) (outcome_of w child)) (given-as w w' same got)

-- and what they ask for
pub asked-as : (types : ProgramTree) (w w' : CoreState) → LeavesUnits w w' → (u : UnitNo) (got : List Got) → wanted_by types w' u got ≡ wanted_by types w u got
asked-as types w w' l u got =
    (λ i. option_map (asked (l.call i u) (l.origin i u)) (given_by w' got))
    ∙ ap (option_map (asked (w.units.call u) (w.units.origin u))) (given-as w w' (outcomes-as w w' l) got)
  where
    asked : Call → Origin → List Given → Wanted
    asked call origin given = next types call (depth_of origin) (locks_of given) (answers_of given)

module _ (r : Run) (e : CoreEvent) (p : is_pass e ≡ true) where
  -- units as they were
  pub pass-leaves : LeavesUnits (ends r) (ends (with_event r e))
  pass-leaves = subst (LeavesUnits (ends r)) (sym (ends-more r e)) (by e p)
    where
      by : (e : CoreEvent) → is_pass e ≡ true → LeavesUnits (ends r) (step (ends r) e)
      by (Want u g) q = wish-leaves (ends r) u g
      by (Load g u state) q = load-leaves (ends r) g u state
      by (Bad line why) q = absurd (true≢false (sym q))
      by (Begin origin call plain) q = absurd (true≢false (sym q))
      by (Grant v g mode) q = absurd (true≢false (sym q))
      by (Refuse v g mode) q = absurd (true≢false (sym q))
      by (Finish v effect) q = absurd (true≢false (sym q))
      by (EndPlain v effect) q = absurd (true≢false (sym q))
      by (EndSnapshot v at outcome) q = absurd (true≢false (sym q))
      by (Release v g) q = absurd (true≢false (sym q))
      by Take q = absurd (true≢false (sym q))
      by (Vote n g kept) q = absurd (true≢false (sym q))
      by (Decide n) q = absurd (true≢false (sym q))
      by (Sealed n) q = absurd (true≢false (sym q))
      by (NotSealed n) q = absurd (true≢false (sym q))
      by (Doubt n) q = absurd (true≢false (sym q))
      by (Learn v g) q = absurd (true≢false (sym q))
      by Emitted q = absurd (true≢false (sym q))
      by Halt q = absurd (true≢false (sym q))

  -- and what they got
  pub pass-got : (u : UnitNo) → got_in (with_event r e) u ≡ got_in r u
  pass-got u = got-event r e u ∙ none (applies (ends r) e) e p
    where
      none : (b : Bool) (e : CoreEvent) → is_pass e ≡ true → got_in r u ++ (if b then got_by (ends r) u e else []) ≡ got_in r u
      none false e q = append-nil (got_in r u)
      none true (Want v g) q = append-nil (got_in r u)
      none true (Load g v state) q = append-nil (got_in r u)
      none true (Bad line why) q = append-nil (got_in r u)
      none true (Begin origin call plain) q = absurd (true≢false (sym q))
      none true (Grant v g mode) q = absurd (true≢false (sym q))
      none true (Refuse v g mode) q = append-nil (got_in r u)
      none true (Finish v effect) q = append-nil (got_in r u)
      none true (EndPlain v effect) q = append-nil (got_in r u)
      none true (EndSnapshot v at outcome) q = append-nil (got_in r u)
      none true (Release v g) q = append-nil (got_in r u)
      none true Take q = append-nil (got_in r u)
      none true (Vote n g kept) q = append-nil (got_in r u)
      none true (Decide n) q = append-nil (got_in r u)
      none true (Sealed n) q = append-nil (got_in r u)
      none true (NotSealed n) q = append-nil (got_in r u)
      none true (Doubt n) q = append-nil (got_in r u)
      none true (Learn v g) q = append-nil (got_in r u)
      none true Emitted q = append-nil (got_in r u)
      none true Halt q = append-nil (got_in r u)

  -- so they ask for what they asked for
  pub pass-asked : (types : ProgramTree) (u : UnitNo) → lock_asked types (ends (with_event r e)) (got_in (with_event r e)) u ≡ lock_asked types (ends r) (got_in r) u
  pass-asked types u = ap wanted_lock (ap (wanted_by types (ends (with_event r e)) u) (pass-got u) ∙ asked-as types (ends r) (ends (with_event r e)) pass-leaves u (got_in r u))

  -- and run where they ran
  pub pass-runs : (u : UnitNo) → is_running ((ends (with_event r e)).units.phase u) ≡ is_running ((ends r).units.phase u)
  pass-runs u = ap (λ (f : UnitNo → Phase). is_running (f u)) pass-leaves.phase

-- ---- the grain

-- an answer that the grain isn't in memory
is-absent : (a : AskAnswer) → is_absent a ≡ true → a ≡ answer.Absent
is-absent answer.Absent e = refl
is-absent answer.Free e = absurd (true≢false (sym e))
is-absent answer.NotActive e = absurd (true≢false (sym e))
is-absent (answer.Doomed source) e = absurd (true≢false (sym e))
is-absent answer.Held e = absurd (true≢false (sym e))
is-absent (answer.MustDie holder) e = absurd (true≢false (sym e))
is-absent (answer.MustWait holder) e = absurd (true≢false (sym e))

-- who waits for a grain asks for one of which nobody has a lock
pub waits-free : (r : Run) (u : UnitNo) (g : GrainId) (mode : Mode) → waits_for_load (ends r) u (Some (g, mode)) ≡ true → ((ends r).cells.here g ≡ false) × ((ends r).cells.holds g ≡ [])
waits-free r u g mode e = (gone, unheld ((ends r).cells.holds g) refl)
  where
    gone : (ends r).cells.here g ≡ false
    gone = (subst (AskedLocks (ends r) u g mode) (is-absent (ask_answer (ends r) u g mode) e) (asked-locks (ends r) u g mode)).2

    unheld : (hs : List Hold) → (ends r).cells.holds g ≡ hs → (ends r).cells.holds g ≡ []
    unheld [] q = q
    unheld (h ∷ hs) q = absurd (true≢false (sym (here-ends r g h (subst (Member h) (sym q) (inl refl))) ∙ gone))

-- whoever asks for a grain that is in memory, of which nobody has a lock, doesn't wait
pub there-had : (w : CoreState) (u : UnitNo) (g : GrainId) (mode : Mode) → w.cells.here g ≡ true → w.cells.holds g ≡ [] → is_wait (ask_answer w u g mode) ≡ false
there-had w u g mode here free = elim (cases_Bool (is_active w u g)) [
  | inl a ↦ ap is_wait (ap (λ (b : Bool). if b then ask_doom (doomed_by w u) (ask_lock (w.cells.here g) (locks.ask (w.cells.holds g) u mode)) else answer.NotActive) a
      ∙ (λ i. ask_doom (doomed_by w u) (ask_lock (here i) (locks.ask (free i) u mode)))) ∙ doom (doomed_by w u)
  | inr a ↦ ap is_wait (ap (λ (b : Bool). if b then ask_doom (doomed_by w u) (ask_lock (w.cells.here g) (locks.ask (w.cells.holds g) u mode)) else answer.NotActive) a)
]
  where
    doom : (o : Option UnitNo) → is_wait (ask_doom o (ask_lock true (locks.ask [] u mode))) ≡ false
    doom None = refl
    doom (Some s) = refl

-- a running unit that asks for such a lock can move
pub asks-moves : (types : ProgramTree) (w : CoreState) (got : UnitNo → List Got) (u : UnitNo) (g : GrainId) (mode : Mode) → is_running (w.units.phase u) ≡ true → lock_asked types w got u ≡ Some (g, mode)
    → is_wait (ask_answer w u g mode) ≡ false → can_move types w got u ≡ true
asks-moves types w got u g mode runs asked free =
    ap (λ (b : Bool). if b then is_unhindered w u (wanted_by types w u (got u)) else is_over (w.units.phase u) && not (is_free w u)) runs
    ∙ by (wanted_by types w u (got u)) asked
  where
    by : (o : Option Wanted) → wanted_lock o ≡ Some (g, mode) → is_unhindered w u o ≡ true
    by None q = absurd cc
    by (Some (script.WantLock h m)) q = (let z = some_is (h, m) (g, mode) q in (λ i. not (is_wait (ask_answer w u (z i).0 (z i).1))) ∙ ap not free)
    by (Some (script.WantRaise h)) q = (let z = some_is (h, Update) (g, mode) q in (λ i. not (is_wait (ask_answer w u (z i).0 (z i).1))) ∙ ap not free)
    by (Some (script.WantUnit call depth)) q = absurd cc
    by (Some (script.Over outcome)) q = absurd cc

-- a wish or a load leaves who has a lock
pub pass-holds : (w : CoreState) (e : CoreEvent) → is_pass e ≡ true → (g : GrainId) → (step w e).cells.holds g ≡ w.cells.holds g
pass-holds w e p g = cond_both (applies w e) (swept (does w e)) w (λ (x : CoreState). x.cells.holds g ≡ w.cells.holds g)
    (λ a. sweep (does w e) ∙ by e p)
    (λ a. refl)
  where
    sweep : (x : CoreState) → (swept x).cells.holds g ≡ x.cells.holds g
    sweep x = go x.cells.capacity
      where
        go : (c : Option ℕ) → (swept_by x c).cells.holds g ≡ x.cells.holds g
        go None = refl
        go (Some n) = refl

    by : (e : CoreEvent) → is_pass e ≡ true → (does w e).cells.holds g ≡ w.cells.holds g
    by (Want u h) q = refl
    by (Load h u state) q = refl
    by (Bad line why) q = absurd (true≢false (sym q))
    by (Begin origin call plain) q = absurd (true≢false (sym q))
    by (Grant v h mode) q = absurd (true≢false (sym q))
    by (Refuse v h mode) q = absurd (true≢false (sym q))
    by (Finish v effect) q = absurd (true≢false (sym q))
    by (EndPlain v effect) q = absurd (true≢false (sym q))
    by (EndSnapshot v at outcome) q = absurd (true≢false (sym q))
    by (Release v h) q = absurd (true≢false (sym q))
    by Take q = absurd (true≢false (sym q))
    by (Vote n h kept) q = absurd (true≢false (sym q))
    by (Decide n) q = absurd (true≢false (sym q))
    by (Sealed n) q = absurd (true≢false (sym q))
    by (NotSealed n) q = absurd (true≢false (sym q))
    by (Doubt n) q = absurd (true≢false (sym q))
    by (Learn v h) q = absurd (true≢false (sym q))
    by Emitted q = absurd (true≢false (sym q))
    by Halt q = absurd (true≢false (sym q))

-- a load brings the grain, and it stays, since it is wanted
pub load-brings : (w : CoreState) (g : GrainId) (u : UnitNo) (state : List Value) → applies w (Load g u state) ≡ true → (step w (Load g u state)).cells.here g ≡ true
load-brings w g u state a =
    ap (λ (x : CoreState). x.cells.here g) (cond-true (applies w (Load g u state)) (swept (does w (Load g u state))) w a) ∙ go w.cells.capacity
  where
    wanted : is_wanted w.units.wants g ≡ true
    wanted = (and_parts (not (w.cells.here g)) (is_wanted w.units.wants g) (and_parts (is_allowed w (Load g u state)) (can w (Load g u state)) a).1).1

    go : (c : Option ℕ) → (swept_by (loaded w g u state) c).cells.here g ≡ true
    go None = grain-same w.cells.here g true
    go (Some n) = wanted-stays (loaded w g u state) g wanted (grain-same w.cells.here g true)

-- an event that doesn't apply gives nothing
pub still-got : (r : Run) (e : CoreEvent) (u : UnitNo) → applies (ends r) e ≡ false → got_in (with_event r e) u ≡ got_in r u
still-got r e u a = got-event r e u ∙ ap (λ (b : Bool). got_in r u ++ (if b then got_by (ends r) u e else [])) a ∙ append-nil (got_in r u)

-- nobody can move, where there is no mover
pub nobody-moves : (types : ProgramTree) (r : Run) → 0 < r.base → (ends r).manager.doubt ≡ None → movers_in types r ≡ [] → (u : UnitNo) → can_move types (ends r) (got_in r) u ≡ true → ⊥
nobody-moves types r first doubt none u moves =
    let p = no-doubt-list (ends r) (filter (can_move types (ends r) (got_in r)) (units_of r (ends r))) _ doubt none in
    let begun : HasBegun (ends r) u = can-begun (moves-live types (ends r) (got_in r) u moves) in
    let counted = counted-ends r first in
    let low = counted.numbered u begun in
    let above = counted.above in
    elim (cases_lt u.0 (ends r).units.next) [
      | inr le ↦ begun ((loadless-ends r first).0.unborn u le)
      | inl high ↦ true≢false (sym moves ∙ none-passes (can_move types (ends r) (got_in r)) (units_of r (ends r)) p.0 u (units-member ((ends r).units.next - r.base) r.base u low (omega (arith, high, above))))
    ]
  where
    can-begun : is_kept (ends r) u ≡ true → HasBegun (ends r) u
    can-begun kept q = true≢false (sym moves ∙ ap (λ (p : Phase). if is_running p then is_unhindered (ends r) u (wanted_by types (ends r) u (got_in r u)) else is_over p && not (is_free (ends r) u)) q)

-- ---- how far it has come

-- behind one event more of a list
fold-last : (n : ℕ) (es : List CoreEvent) (e : CoreEvent) → fold passed_by n (es ++ (e ∷ [])) ≡ passed_by (fold passed_by n es) e
fold-last n [] e = refl
fold-last n (x ∷ es) e = fold-last (passed_by n x) es e

-- behind one that applies
pub passed-on : (r : Run) (e : CoreEvent) → applies (ends r) e ≡ true → passed (applied_in (with_event r e)) ≡ passed_by (passed (applied_in r)) e
passed-on r e a =
    ap passed (applied-more r.events (begins r) e ∙ ap (λ (b : Bool). applied_in r ++ (if b then e ∷ [] else [])) a)
    ∙ fold-last 0 (applied_in r) e

-- and behind one that doesn't
pub passed-still : (r : Run) (e : CoreEvent) → applies (ends r) e ≡ false → passed (applied_in (with_event r e)) ≡ passed (applied_in r)
passed-still r e a =
    ap passed (applied-more r.events (begins r) e ∙ ap (λ (b : Bool). applied_in r ++ (if b then e ∷ [] else [])) a ∙ append-nil (applied_in r))

-- an event of a line, of a unit or of the settler is no wish, and ends the pass
pub ends-pass : (e : CoreEvent) → is_pass e ≡ false → (is_wish e ≡ false) × ((n : ℕ) → passed_by n e ≡ 0)
ends-pass (Want u g) q = absurd (true≢false q)
ends-pass (Load g u state) q = absurd (true≢false q)
ends-pass (Bad line why) q = (refl, λ n. refl)
ends-pass (Begin origin call plain) q = (refl, λ n. refl)
ends-pass (Grant v g mode) q = (refl, λ n. refl)
ends-pass (Refuse v g mode) q = (refl, λ n. refl)
ends-pass (Finish v effect) q = (refl, λ n. refl)
ends-pass (EndPlain v effect) q = (refl, λ n. refl)
ends-pass (EndSnapshot v at outcome) q = (refl, λ n. refl)
ends-pass (Release v g) q = (refl, λ n. refl)
ends-pass Take q = (refl, λ n. refl)
ends-pass (Vote n g kept) q = (refl, λ n. refl)
ends-pass (Decide n) q = (refl, λ n. refl)
ends-pass (Sealed n) q = (refl, λ n. refl)
ends-pass (NotSealed n) q = (refl, λ n. refl)
ends-pass (Doubt n) q = (refl, λ n. refl)
ends-pass (Learn v g) q = (refl, λ n. refl)
ends-pass Emitted q = (refl, λ n. refl)
ends-pass Halt q = (refl, λ n. refl)

-- so is whatever has such a mover
abbrev pub moves_pass : Mover → Bool
moves_pass (OfWant u) = true
moves_pass OfLoad = true
moves_pass _ = false

pub no-pass : (e : CoreEvent) → moves_pass (mover_of e) ≡ false → is_pass e ≡ false
no-pass (Want u g) q = absurd (true≢false q)
no-pass (Load g u state) q = absurd (true≢false q)
no-pass (Bad line why) q = refl
no-pass (Begin origin call plain) q = refl
no-pass (Grant v g mode) q = refl
no-pass (Refuse v g mode) q = refl
no-pass (Finish v effect) q = refl
no-pass (EndPlain v effect) q = refl
no-pass (EndSnapshot v at outcome) q = refl
no-pass (Release v g) q = refl
no-pass Take q = refl
no-pass (Vote n g kept) q = refl
no-pass (Decide n) q = refl
no-pass (Sealed n) q = refl
no-pass (NotSealed n) q = refl
no-pass (Doubt n) q = refl
no-pass (Learn v g) q = refl
no-pass Emitted q = refl
no-pass Halt q = refl
