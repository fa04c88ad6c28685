-- Where a run of turns begins.
use Rattle.std.proofs.Common.{◌≡◌, ◌⊎◌, ℕ, zero, suc, ◌+◌, ◌-◌, ◌≤◌, ◌<◌, Option, None, Some, List, [], ◌∷◌, ◌++◌, map, Bool, true, false, true≢false, inl, inr, refl, sym, ap, ◌∙◌, subst, arith}
use Rattle.std.specs.Prelude.{not, ◌&&◌, ◌||◌, is_some, filter, fold, length, nat_lt, if◌then◌else◌}
use Rattle.std.proofs.lemmas.Bool.{and_parts, cases_Bool, cond-false, cond-true}
use Rattle.base_types.specs.declared.calls.Origin.{Origin}
use Rattle.base_types.specs.declared.entries.Entry.{Entry}
use Rattle.base_types.specs.declared.calls.Origin.TheVariants.{Line as OfLineOrigin, Child}
use Rattle.history_core.specs.Cores.{HasFewNumbers}
use Rattle.host_trait.specs.World.{World}
use Rattle.host_trait.specs.declared.channels.Channel.{Channel}
use Rattle.request_wire.specs.declared.requests.Line.{Line}
use Rattle.cell_model.proofs.Units.{same_unit-is, any-member}
use Rattle.core_model.specs.CoreState.{UnitNo, GrainId, Batch, Member, CoreState, same_grain, same_unit}
use Rattle.core_model.specs.Changes.{swept, swept_by}
use Rattle.core_model.specs.Events.{applies, can, does, is_allowed, run, step}
use Rattle.core_model.specs.LearnQueue.{next_learn}
use Rattle.core_model.specs.WantedGrains.{next_wanted}
use Rattle.core_model.specs.declared.events.CoreEvent.{CoreEvent}
use Rattle.core_model.specs.declared.events.CoreEvent.TheVariants.{Bad, Begin, Grant, Refuse, Finish, EndPlain, EndSnapshot, Release, Take, Vote, Decide, Sealed, NotSealed, Doubt, Learn, Emitted, Halt, Want, Load}
use Rattle.core_model.specs.declared.phases.Phase.{Phase}
use Rattle.core_model.specs.declared.phases.Phase.TheVariants.{Finished, Refused, Ended}
use Rattle.cell_model.specs.Locks.{holds_lock}
use Rattle.core_model.specs.Tests.{any, is_active, is_free, is_over, is_running}
use Rattle.core_model.specs.LegalRuns.{Run, begins, ends}
use Rattle.core_model.specs.Lines.{EntriesAreOnce, IsSettled}
use Rattle.core_model.specs.Settler.{Step, Seals, Writes, Rests, batch_step, first_unvoted, has_step, last_step, learn_step, load_step, settler_step, undecided_step}
use Rattle.core_laws.proofs.BatchPrefix.{unfree-holds}
use Rattle.core_laws.proofs.LineEntries.{once-ends}
use Rattle.core_laws.proofs.Replies.{no-change}
use Rattle.script_check.specs.AcceptedPrograms.{IsAcceptedProgram}
use Rattle.script_tree.specs.Programs.{ProgramTree}
use Rattle.promise_spec.specs.Cores.{HasBegun, applied_from, applied_in}
use Rattle.promise_spec.specs.UnitRule.{KeepsUnitRule}
use Rattle.promise_spec.specs.UnitAnswers.{got_in}
use Rattle.promise_spec.specs.TurnRule.{OfUnit, OfSettler, can_move, units_from, is_line, is_settled, lock_asked, passed, passed_by, units_of}
use Rattle.turn_rules.specs.NextEvent.{NobodyGoes}
use Rattle.turn_rules.specs.TurnLoop.{IsPassing, no_pass, waits_in}
use Rattle.turn_rules.proofs.Passes.{waits-run}
use Rattle.turn_rules.proofs.TurnChoices.{none-due, none-wish}
use Rattle.turn_rules.specs.CarriedUnits.{is_flying, is_kept, AreKept}
use Rattle.turn_rules.specs.QuietRun.{IsQuiet}
use Rattle.turn_rules.proofs.RunCounts.{counted-ends}
use Rattle.turn_rules.proofs.ListTests.{filter-none}
use Rattle.turn_rules.proofs.Movers.{movers-kept}
use Rattle.turn_rules.proofs.Numbers.{units-below}
use Rattle.settle_loop.specs.declared.settler.Settler.{Settler}
use Rattle.run_books.specs.Beginnings.{Outset, IsOutset, CanTurn, basis_of}
use Rattle.run_books.specs.Books.{Books}
use Rattle.interleaver.specs.Turns.{KeepsTurns as KeepsRecord, IsFreshRecord}
use Rattle.interleaver.specs.TurnStages.{IsUnderWay}
use Rattle.run_books.proofs.EvenBooks.{even-at-rest}
use Rattle.run_books.specs.Stages.{stage_by}

units-above : (n b : ℕ) (u : UnitNo) → Member u (units_from n b) → b ≤ u.0
units-above zero b u m = absurd m
units-above (suc n) b u (inl q) = (let e : u.0 ≡ b = ap (λ (x : UnitNo). x.0) q in omega (arith, e))
units-above (suc n) b u (inr m) = (let le = units-above n (b + 1) u m in omega (arith, le))

settled-still : (p : Phase) → (p ≡ Refused) ⊎ ((p ≡ Ended) ⊎ (p ≡ Finished)) → is_running p ≡ false
settled-still p (inl q) = ap is_running q
settled-still p (inr (inl q)) = ap is_running q
settled-still p (inr (inr q)) = ap is_running q

module _ (o : Outset) (r : Run) (first : 0 < r.base) (rule : KeepsUnitRule (basis_of o) r) (quiet : IsQuiet (ends r)) where
  free : (u : UnitNo) → is_free (ends r) u ≡ true
  free u = elim (cases_Bool (is_free (ends r) u)) [
    | inl e ↦ e
    | inr e ↦ (let t = unfree-holds (ends r) u e in absurd (quiet.free u t.0 t.1.0 t.1.1 t.1.2))
  ]

  still : (u : UnitNo) → HasBegun (ends r) u → is_running ((ends r).units.phase u) ≡ false
  still u begun = by (quiet.settled u begun)
    where
      by : IsSettled (ends r) u → is_running ((ends r).units.phase u) ≡ false
      by (inl q) = settled-still _ (inl q)
      by (inr (inl q)) = settled-still _ (inr (inl q))
      by (inr (inr q)) = settled-still _ (inr (inr q.0))

  told : (u : UnitNo) → HasBegun (ends r) u → (x : Origin) → (ends r).units.origin u ≡ x → is_line x ≡ true → is_settled (ends r) u ≡ true
  told u begun (OfLineOrigin n) q line =
      let once : EntriesAreOnce (ends r) = once-ends r first in
      let e = once.complete u n (begun, q) (quiet.settled u begun) in
      any-member (λ (x : Entry). same_unit x.unit u) (ends r).manager.settled e.0 e.1 (same_unit-is e.0.unit u e.2)
  told u begun (Child p i d) q line = absurd (true≢false (sym line))

  unkept : (u : UnitNo) → HasBegun (ends r) u → is_kept (ends r) u ≡ false
  unkept u begun =
      let w : CoreState = ends r in
      let flies : is_flying w u ≡ false = elim (cases_Bool (is_line (w.units.origin u))) [
        | inr other ↦ ap (λ (b : Bool). b && (not (is_settled w u) || not (is_free w u))) other
        | inl of-line ↦ ap (λ (b : Bool). b && (not (is_settled w u) || not (is_free w u))) of-line ∙ ap (λ (b : Bool). not b || not (is_free w u)) (told u begun (w.units.origin u) refl of-line) ∙ ap not (free u)
      ] in
      ap (λ (b : Bool). (b || (is_over (w.units.phase u) && not (is_free w u))) || is_flying w u) (still u begun)
      ∙ ap (λ (b : Bool). (is_over (w.units.phase u) && not b) || is_flying w u) (free u)
      ∙ last (is_over (w.units.phase u)) (is_flying w u) flies
    where
      last : (b c : Bool) → c ≡ false → ((b && not true) || c) ≡ false
      last true c q = q
      last false c q = q

  pub kept-none : AreKept r []
  kept-none = record {
    kept = sym (filter-none (is_kept (ends r)) (units_of r (ends r)) (λ u m.
        let counted = counted-ends r first in
        let up = counted.above in
        let lo = units-above ((ends r).units.next - r.base) r.base u m in
        let hi = units-below ((ends r).units.next - r.base) r.base u m in
        unkept u (counted.born u lo (omega (arith, up, hi)))));
    below = λ u m. absurd m;
  }

-- ---- nobody wants a grain

-- what is to be brought into memory is the settler's step
load-rests : (w : CoreState) (o : Option GrainId) → load_step w o ≡ Rests → o ≡ None
load-rests w None q = refl
load-rests w (Some g) q = absurd cc

last-rests : (w : CoreState) (unwritten h : Bool) (o : Option GrainId) → h ≡ false → (if unwritten then Writes else (if true && not h then load_step w o else Rests)) ≡ Rests → o ≡ None
last-rests w true h o going q = absurd cc
last-rests w false h o going q = load-rests w o (sym (ap (λ (x : Bool). if true && not x then load_step w o else Rests) going) ∙ q)

later-rests : (w : CoreState) (d : Option ℕ) (next : Option (UnitNo × GrainId)) → d ≡ None → w.units.halt ≡ false → (if is_some d then last_step w false else learn_step w next) ≡ Rests → next_wanted w ≡ None
later-rests w (Some n) next sure going q = absurd cc
later-rests w None (Some x) sure going q = absurd cc
later-rests w None None sure going q = last-rests w (nat_lt w.manager.emitted (length w.manager.settled)) w.units.halt (next_wanted w) going q

batch-rests : (w : CoreState) (b : Option Batch) → w.manager.doubt ≡ None → w.units.halt ≡ false → batch_step w b ≡ Rests → next_wanted w ≡ None
batch-rests w None sure going q = later-rests w w.manager.doubt (next_learn w) sure going q
batch-rests w (Some b) sure going q = absurd (by (is_some b.decisions) (first_unvoted b) q)
  where
    by : (decided : Bool) (o : Option GrainId) → (if decided then Seals b.number else undecided_step b.number o) ≡ Rests → ⊥
    by true o z = absurd cc
    by false None z = absurd cc
    by false (Some k) z = absurd cc

-- so none is missing where it has no step
pub rests-asks : (w : CoreState) → w.manager.doubt ≡ None → w.units.halt ≡ false → settler_step w ≡ Rests → next_wanted w ≡ None
rests-asks w sure going q = batch-rests w w.manager.batch sure going q

-- ---- how far the pass has come

-- it has come to nobody, or some unit runs
abbrev RunsOn : ℕ → CoreState → Type 0
RunsOn n w = (n ≡ 0) ⊎ ((u : UnitNo) × (is_running (w.units.phase u) ≡ true))

swept-runs : (n : ℕ) (w : CoreState) → RunsOn n w → RunsOn n (swept w)
swept-runs n w p = go w.cells.capacity
  where
    go : (c : Option ℕ) → RunsOn n (swept_by w c)
    go None = p
    go (Some m) = p

-- by an event that applies
event-runs : (n : ℕ) (w : CoreState) (e : CoreEvent) → can w e ≡ true → RunsOn n w → RunsOn (passed_by n e) (does w e)
event-runs n w (Want u g) a p = inr (u, (and_parts (is_running (w.units.phase u)) (nat_lt g.kind w.units.kinds) (and_parts (is_active w u g) (not (holds_lock u (w.cells.holds g)) && not (any (λ t. same_unit t.0 u && same_grain t.1 g) w.units.wants)) a).0).0)
event-runs n w (Load g u state) a p = p
event-runs n w (Bad line why) a p = inl refl
event-runs n w (Begin origin call plain) a p = inl refl
event-runs n w (Grant v g mode) a p = inl refl
event-runs n w (Refuse v g mode) a p = inl refl
event-runs n w (Finish v effect) a p = inl refl
event-runs n w (EndPlain v effect) a p = inl refl
event-runs n w (EndSnapshot v at outcome) a p = inl refl
event-runs n w (Release v g) a p = inl refl
event-runs n w Take a p = inl refl
event-runs n w (Vote m g kept) a p = inl refl
event-runs n w (Decide m) a p = inl refl
event-runs n w (Sealed m) a p = inl refl
event-runs n w (NotSealed m) a p = inl refl
event-runs n w (Doubt m) a p = inl refl
event-runs n w (Learn v g) a p = inl refl
event-runs n w Emitted a p = inl refl
event-runs n w Halt a p = inl refl

step-runs : (n : ℕ) (w : CoreState) (e : CoreEvent) → applies w e ≡ true → RunsOn n w → RunsOn (passed_by n e) (step w e)
step-runs n w e a p =
    subst (RunsOn (passed_by n e)) (sym (cond-true (applies w e) (swept (does w e)) w a))
    (swept-runs (passed_by n e) (does w e) (event-runs n w e (and_parts (is_allowed w e) (can w e) a).1 p))

run-runs : (n : ℕ) (w : CoreState) (es : List CoreEvent) → RunsOn n w → RunsOn (fold passed_by n (applied_from w es)) (run w es)
run-runs n w [] p = p
run-runs n w (e ∷ es) p = elim (cases_Bool (applies w e)) [
  | inl a ↦
      subst (λ (xs : List CoreEvent). RunsOn (fold passed_by n xs) (run (step w e) es)) (sym (cond-true (applies w e) (e ∷ applied_from (step w e) es) (applied_from (step w e) es) a))
      (run-runs (passed_by n e) (step w e) es (step-runs n w e a p))
  | inr a ↦
      subst (λ (xs : List CoreEvent). RunsOn (fold passed_by n xs) (run (step w e) es)) (sym (cond-false (applies w e) (e ∷ applied_from (step w e) es) (applied_from (step w e) es) a))
      (run-runs n (step w e) es (subst (RunsOn n) (sym (no-change w e a)) p))
]

-- so where no unit runs it has come to nobody
pub passed-none : (r : Run) → ((u : UnitNo) → is_running ((ends r).units.phase u) ≡ false) → passed (applied_in r) ≡ 0
passed-none r idle = elim (run-runs 0 (begins r) r.events (inl refl)) [ inl none ↦ none | inr some ↦ absurd (true≢false (sym some.1 ∙ idle some.0)) ]

-- ---- where a run can begin

module _ (types : ProgramTree) (o : Outset) (r : Run) (settler : Settler) (lines : List Line) (above : 0 < r.base) (units : KeepsUnitRule (basis_of o) r) (can : CanTurn r settler lines) where
  -- no unit runs
  idle : (u : UnitNo) → is_running ((ends r).units.phase u) ≡ false
  idle u = elim (cases_Bool (is_running ((ends r).units.phase u))) [
    | inr fails ↦ fails
    | inl runs ↦ absurd (true≢false (sym runs ∙ still o r above units can.quiet u (λ unborn. true≢false (sym runs ∙ ap is_running unborn))))
  ]

  -- so none waits for a grain
  calm : (u : UnitNo) → waits_in types r u ≡ false
  calm u = elim (cases_Bool (waits_in types r u)) [
    | inr fails ↦ fails
    | inl waits ↦ absurd (true≢false (sym (waits-run (ends r) u (lock_asked types (ends r) (got_in r) u) waits) ∙ idle u))
  ]

  -- none is missing
  pub wanted-none : next_wanted (ends r) ≡ None
  wanted-none = rests-asks (ends r) can.going.0 can.going.1 can.rests

  -- and nobody can move or wants a grain
  pub nobody-goes : NobodyGoes types r
  nobody-goes = (
    movers-kept types r [] (kept-none o r above units can.quiet)
        ∙ ap (λ (d : Option ℕ). (if is_some d then [] else map OfUnit (filter (can_move types (ends r) (got_in r)) [])) ++ (if has_step (settler_step (ends r)) then OfSettler ∷ [] else [])) can.going.0
        ∙ ap (λ (s : Step). if has_step s then OfSettler ∷ [] else []) can.rests,
    none-wish (ends r) (units_of r (ends r)) (lock_asked types (ends r) (got_in r)) (passed (applied_in r)) (λ u m from. calm u),
    none-due (ends r) wanted-none,
  )

  -- and no pass has begun
  pub unpassed : IsPassing types o.ruled r no_pass
  unpassed = record {
    missing = wanted-none;
    asked = λ u low high. calm u;
    wished = inl refl;
    after = omega arith;
    still = λ some. absurd (true≢false (sym some));
    reached = λ ruled. passed-none r idle;
  }

module _ (tells : Bool) (o : Outset) (types : ProgramTree) (lines : List Line) (width : ℕ) (picks : List ℕ) (b : Books) (used : ℕ) (r : Run) (settler : Settler) (counts : Channel → ℕ) (now : World) where
  -- all that holds on the way holds where nobody is carried yet
  pub start : IsOutset o types r lines width picks → CanTurn r settler lines → IsFreshRecord o b used r → KeepsRecord tells o b (stage_by r settler counts now) → IsAcceptedProgram types → HasFewNumbers (ends r)
      → IsUnderWay tells o types lines width picks b (record { at = stage_by r settler counts now; agents = []; begun = 0; used = used; pass = no_pass })
  start is can fresh k accepted few = record {
    outset = is;
    numbers = can.numbers;
    accepted = accepted;
    few = few.units;
    room = few.lines;
    turning = record {
      first = k.above;
      passing = unpassed o.program.types o r settler lines k.above k.units can;
      unit_rule = k.units;
      unstopped = can.going.1;
      turn_rule = k.turns;
      within = λ ruled. record {
        start = (ends r).units.lines;
        from = omega arith;
        inner = is.inner;
        first = λ seam same some. nobody-goes o.program.types o r settler lines k.above k.units can;
      };
      kept = kept-none o r k.above k.units can.quiet;
      older = tt;
      count = λ ruled. sym (fresh.picks ruled);
    };
    books = k.books;
    even = even-at-rest tells o b r settler counts now can.quiet.written fresh.rest k.books;
    left = λ d. absurd (true≢false (sym d ∙ can.sure));
  }
