-- How a report ends, and what a call of one shows.
use Rattle.std.specs.Prelude.{◌≡◌, ◌⊎◌, ℕ, List, Result, Ok, Err, false}
use Rattle.host_trait.specs.declared.channels.Channel.{Channel}
use Rattle.host_trait.specs.World.{World}
use Rattle.log_reading.specs.declared.faults.FolderFault.{FolderFault}
use Rattle.promise_spec.specs.Words.{Manner}
use Rattle.promise_spec.specs.Courses.{Observed}
use Rattle.promise_spec.specs.Commands.{MayCut}
use Rattle.promise_spec.specs.Endings as ending
use Rattle.log_audit.specs.declared.faults.ReportFault.{ReportFault}

-- the ending that a fault is
abbrev pub fault_ending : ReportFault → ending.Ending
fault_ending ReportFault.NotASilo = ending.NotASilo
fault_ending ReportFault.OldFormat = ending.OldFormat
fault_ending (ReportFault.Damaged file place) = ending.Damaged file place
fault_ending (ReportFault.DiskFault file) = ending.DiskFault file
fault_ending ReportFault.WriteFault = ending.WriteFault
fault_ending ReportFault.Memory = ending.Memory

-- how a report ends with this answer
abbrev pub report_ending : {A : Type 0} → Result A ReportFault → ending.Ending
report_ending (Ok written) = ending.Done
report_ending (Err fault) = fault_ending fault

-- what a call shows that ended with this answer
abbrev pub reported_as : {A : Type 0} → Manner → List (List ℕ) → World → World → (Channel → ℕ) → (Channel → ℕ) → Result A ReportFault → Observed
reported_as manner asked old new before after result =
    record { manner = manner; asked = asked; windowed = false; old = old; new = new; faults_before = before; faults_after = after; ending = report_ending result }

-- a report of an opened folder is done, or was cut
abbrev pub MayEnd : ending.Ending → Type 0
MayEnd e = (e ≡ ending.Done) ⊎ MayCut e

-- the fault of a log that couldn't be read again
abbrev pub from_folder : FolderFault → ReportFault
from_folder (FolderFault.Damaged file place) = ReportFault.Damaged file place
from_folder (FolderFault.Failed file) = ReportFault.DiskFault file
from_folder FolderFault.Memory = ReportFault.Memory
