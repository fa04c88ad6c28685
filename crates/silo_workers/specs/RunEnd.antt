-- What is known of a core when its cell is closed, and how a run with workers ends.
use Rattle.std.specs.Prelude.{◌≡◌, ◌<◌, Bool, length, Result}
use Rattle.base_types.specs.declared.shapes.Shape.{Shape}
use Rattle.core_model.specs.CoreState.{UnitNo}
use Rattle.core_model.specs.LegalRuns.{Run, ends}
use Rattle.script_check.specs.AcceptedPrograms.{IsAcceptedProgram}
use Rattle.promise_spec.specs.Cores.{HasBegun}
use Rattle.promise_spec.specs.Programs.{shape_in}
use Rattle.promise_spec.specs.UnitRule.{KeepsUnitRule}
use Rattle.run_books.specs.declared.faults.RunFault.{RunFault}
use Rattle.run_books.specs.Beginnings.{Outset, basis_of}
use Rattle.run_books.specs.Books.{Books}
use Rattle.run_books.specs.Stages.{Stage}
use Rattle.shared_settling.specs.SharedSettler.{SettledAmong}
use Rattle.worker_rules.specs.ClosedCore.{IsOverAndFree, HasBegunLines}
use Rattle.silo_workers.specs.declared.work.WorkEnd.{WorkEnd}
use Rattle.silo_workers.specs.declared.work.WorkEnd.TheVariants.{Through}

-- The program is a checked one with this shape, and the run is of its types, with units numbered from 1 or later.
pub record IsOfProgram (o : Outset) (shape : Shape) (r : Run) : Type 0 where
  pub above : 0 < r.base
  pub kinds : r.kinds ≡ length o.program.types
  pub shape_is : shape ≡ shape_in o.program
  pub accepted : IsAcceptedProgram o.program.types

-- The closed core's run keeps the unit rule, and the books go on to it; where the work is through, each unit that began is done and
-- each line has begun.
pub record HasGathered {T : Type 0} (tells : Bool) (o : Outset) (b : Books) (shape : Shape) (before after : Stage) (end : WorkEnd) (settled : Result T RunFault) : Type 0 where
  pub program : IsOfProgram o shape after.run
  pub units : KeepsUnitRule (basis_of o) after.run
  pub books : SettledAmong tells o b before after settled
  pub done : end ≡ Through → (u : UnitNo) → HasBegun (ends after.run) u → IsOverAndFree u after.run
  pub lines : end ≡ Through → HasBegunLines (length o.asked) after.run
