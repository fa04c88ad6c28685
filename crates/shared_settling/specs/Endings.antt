-- Where a run with workers ends: nobody carries a unit any more, and the settler rests.
use Rattle.std.specs.Prelude.{◌≡◌, ◌≤◌, false, true, None, length}
use Rattle.core_model.specs.CoreState.{UnitNo}
use Rattle.core_model.specs.LegalRuns.{Run, ends}
use Rattle.core_model.specs.Settler.{settler_step, Rests}
use Rattle.core_model.specs.Tests.{is_over, is_free}
use Rattle.promise_spec.specs.Cores.{HasBegun}
use Rattle.run_books.specs.Beginnings.{Outset}

-- Each unit that began is over and has no lock, no line is left, no stop stands, nothing is in doubt, and the settler has nothing
-- to do.
pub record HasNoMover (o : Outset) (r : Run) : Type 0 where
  pub units : (u : UnitNo) → HasBegun (ends r) u → (is_over ((ends r).units.phase u) ≡ true) × (is_free (ends r) u ≡ true)
  pub lines : length o.asked ≤ (ends r).units.lines
  pub going : (ends r).units.halt ≡ false
  pub sure : (ends r).manager.doubt ≡ None
  pub rests : settler_step (ends r) ≡ Rests
