-- Where nobody can move, all is done.
use Rattle.std.proofs.Common.{◌≡◌, ℕ, ◌<◌, ◌≤◌, List, [], ◌∷◌, ◌++◌, length, map, Bool, true, false, true≢false, Option, Some, refl, sym, ap, ◌∙◌, arith}
use Rattle.std.specs.Prelude.{if◌then◌else◌, ◌&&◌, not, is_some, is_none, nat_lt, filter}
use Rattle.std.proofs.lemmas.Bool.{ltb-true}
use Rattle.core_model.specs.CoreState.{UnitNo}
use Rattle.core_model.specs.declared.phases.Phase.{Phase}
use Rattle.core_model.specs.declared.phases.Phase.TheVariants.{Unborn, Running, Finished, Refused, Ended}
use Rattle.core_model.specs.LegalRuns.{ends}
use Rattle.core_model.specs.Lines.{EntriesAreOnce}
use Rattle.core_model.specs.Settler.{has_step, settler_step}
use Rattle.core_model.specs.Tests.{is_running, is_over, is_free}
use Rattle.core_laws.proofs.LineEntries.{once-ends}
use Rattle.promise_spec.specs.UnitAnswers.{got_in, wanted_by}
use Rattle.promise_spec.specs.TurnRule.{OfUnit, OfSettler, can_move, is_unhindered, in_flight, units_of}
use Rattle.promise_spec.specs.UnitRule.{KeepsUnitRule}
use Rattle.turn_rules.specs.NextEvent.{movers_in, line_has_place}
use Rattle.turn_rules.specs.QuietRun.{HasRun}
use Rattle.turn_rules.proofs.Waits.{idle-waits}
use Rattle.turn_rules.proofs.WaitOrder.{without-mover}
use Rattle.turn_rules.proofs.ListTests.{filter-none}
use Rattle.run_books.specs.Beginnings.{Outset, basis_of}
use Rattle.run_books.specs.Books.{Books}
use Rattle.run_books.specs.Records.{KeepsBooks, HasCarriedAll}
use Rattle.run_books.proofs.BooksCounts.{doubt-ends}
use Rattle.run_books.proofs.LineCounts.{so-many}
use Rattle.shared_settling.specs.Endings.{HasNoMover}
use Rattle.run_books.specs.Stages.{Stage}

-- a number that isn't below another
not-below : (m n : ℕ) → n ≤ m → nat_lt m n ≡ false
not-below m n le = by (nat_lt m n) refl
  where
    by : (b : Bool) → nat_lt m n ≡ b → nat_lt m n ≡ false
    by true q = (let less = ltb-true m n q in absurd (omega (arith, less, le)))
    by false q = q

module _ (tells : Bool) (o : Outset) (b : Books) (at : Stage)
    (above : 0 < at.run.base) (units : KeepsUnitRule (basis_of o) at.run) (books : KeepsBooks tells o b at) (n : HasNoMover o at.run) where
  -- no unit runs
  not-running : (u : UnitNo) → is_running ((ends at.run).units.phase u) ≡ false
  not-running u = of-phase ((ends at.run).units.phase u) (n.units u)
    where
      of-phase : (p : Phase) → ((p ≡ Unborn → ⊥) → (is_over p ≡ true) × (is_free (ends at.run) u ≡ true)) → is_running p ≡ false
      of-phase Unborn f = refl
      of-phase Running f = absurd (true≢false (sym (f (λ e. absurd cc)).0))
      of-phase Finished f = refl
      of-phase Refused f = refl
      of-phase Ended f = refl

  -- and none can move
  still : (u : UnitNo) → can_move o.program.types (ends at.run) (got_in at.run) u ≡ false
  still u = of-phase ((ends at.run).units.phase u) (n.units u)
    where
      of-phase : (p : Phase) → ((p ≡ Unborn → ⊥) → (is_over p ≡ true) × (is_free (ends at.run) u ≡ true))
          → (if is_running p then is_unhindered (ends at.run) u (wanted_by o.program.types (ends at.run) u (got_in at.run u)) else is_over p && not (is_free (ends at.run) u)) ≡ false
      of-phase Unborn f = refl
      of-phase Running f = absurd (true≢false (sym (f (λ e. absurd cc)).0))
      of-phase Finished f = ap not (f (λ e. absurd cc)).1
      of-phase Refused f = ap not (f (λ e. absurd cc)).1
      of-phase Ended f = ap not (f (λ e. absurd cc)).1

  -- so nobody does
  nobody : movers_in o.program.types at.run ≡ []
  nobody =
      ap (λ (d : Option ℕ). (if is_some d then [] else map OfUnit (filter (can_move o.program.types (ends at.run) (got_in at.run)) (units_of at.run (ends at.run)))) ++ (if has_step (settler_step (ends at.run)) then OfSettler ∷ [] else [])) n.sure
      ∙ ap (λ (us : List UnitNo). map OfUnit us ++ (if has_step (settler_step (ends at.run)) then OfSettler ∷ [] else [])) (filter-none (can_move o.program.types (ends at.run) (got_in at.run)) (units_of at.run (ends at.run)) (λ u m. still u))
      ∙ ap (λ (s : Bool). if s then OfSettler ∷ [] else []) (ap has_step n.rests)

  -- and no line has a place
  over : line_has_place 1 (ends at.run).units.lines at.run ≡ false
  over = by (is_none (ends at.run).manager.doubt) (nat_lt (in_flight at.run (ends at.run)) 1)
    where
      by : (x y : Bool) → (x && (y && nat_lt (ends at.run).units.lines (ends at.run).units.lines)) ≡ false
      by true true = not-below (ends at.run).units.lines (ends at.run).units.lines (omega arith)
      by true false = refl
      by false y = refl

  all-run : HasRun (ends at.run).units.lines (ends at.run)
  all-run = without-mover o.program.types at.run 1 (ends at.run).units.lines above n.sure n.going (λ u. idle-waits (ends at.run) u _ (not-running u)) nobody (omega arith) over

  pub carried-all : HasCarriedAll o at
  carried-all =
      let once : EntriesAreOnce (ends at.run) = once-ends at.run above in
      let le = once.written in
      let ge = all-run.quiet.written in
      let few = n.lines in
      let many : length (ends at.run).manager.settled ≡ (ends at.run).units.lines =
      so-many (ends at.run).units.lines (ends at.run).manager.settled once.differ (λ x m. let e = once.entry x m in (e.0, e.1)) (λ k lo hi. let a = all-run.answered k lo hi in (a.0, a.1, a.2)) in
      record {
        run = record { quiet = all-run.quiet; answered = λ k lo hi. all-run.answered k lo (omega (arith, hi, few)) };
        none = n.sure;
        never = λ d. none-left (doubt-ends at.run d);
        unstopped = n.going;
        rests = n.rests;
        written = books.written ∙ (let x : (ends at.run).manager.emitted ≡ (ends at.run).units.lines = omega (arith, le, ge, many) in x);
      }
    where
      none-left : (begins : ℕ) × ((ends at.run).manager.doubt ≡ Some begins) → ⊥
      none-left d = absurd (true≢false (sym (ap is_some d.1) ∙ ap is_some n.sure))
