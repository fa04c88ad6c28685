-- What settling beside workers leaves of a pass, of the settler and of the host.
use Rattle.std.specs.Prelude.{◌≡◌, Bool, false, Result}
use Rattle.base_types.specs.declared.shapes.Shape.{Shape}
use Rattle.core_access.specs.PassSights.{all_come}
use Rattle.core_access.specs.Sights.{Sight}
use Rattle.run_books.specs.declared.faults.RunFault.{RunFault}
use Rattle.run_books.specs.SharedSteps.{SeesOn}
use Rattle.run_books.specs.Stages.{Side}
use Rattle.worker_rules.specs.ClosedCore.{PutsNothing}
use Rattle.shared_settling.specs.SharedSettler.{EndsAmong, LeavesBeside}

-- Events of the settler's were put, and a stop last, perhaps, where it failed; and this is left beside them.
pub record SettlesBeside {T : Type 0} (tells : Bool) (shape : Shape) (before after : Side) (result : Result T RunFault) (s t : Sight) : Type 0 where
  pub sees : SeesOn s t
  pub own : EndsAmong all_come s t result
  pub leaves : LeavesBeside tells shape before after result s t

-- So it was; and where no worker was started nothing was put.
pub record HasSettled {T : Type 0} (started tells : Bool) (shape : Shape) (before after : Side) (result : Result T RunFault) (s t : Sight) : Type 0 where
  pub beside : SettlesBeside tells shape before after result s t
  pub none : started ≡ false → PutsNothing t
