-- Why a log, or what it names, couldn't be read again.
use Rattle.std.specs.Prelude.{◌≡◌, ◌⊎◌, ℕ, List, [], ◌∷◌, Option, Some, None, Err, ⊤}
use Rattle.base_types.specs.declared.calls.UnitNo.{UnitNo}
use Rattle.base_types.specs.declared.shapes.Shape.{Shape}
use Rattle.host_trait.specs.World.{Image}
use Rattle.host_trait.specs.declared.channels.FileId.TheVariants.{Manager, Grain}
use Rattle.field_codec.specs.declared.formats.Format.TheVariants.{Two}
use Rattle.commit_log.specs.declared.records.CommitRecord.{CommitRecord}
use Rattle.commit_log.specs.declared.records.Written.{Written}
use Rattle.core_model.specs.CoreState.{Member}
use Rattle.script_tree.specs.Programs.{ProgramTree}
use Rattle.program_file.specs.Programs.{Program, shape_in}
use Rattle.log_reading.specs.Blocks.{ReadEntry, ReadRecord, ReadUpgrade, LogRead, log_in_file}
use Rattle.log_reading.specs.Steps.{next_in}
use Rattle.log_reading.specs.Versions.{version_named}
use Rattle.log_reading.specs.declared.faults.FolderFault.{FolderFault}
use Rattle.log_audit.specs.declared.faults.ReportFault.{ReportFault}

-- the manager file of this slot, of these bytes, is damaged there under the program of the folder, or a call on it failed
abbrev pub IsLogFault : ℕ → Program → List ℕ → FolderFault → Type 0
IsLogFault slot p file (FolderFault.Damaged at place) = log_in_file Two p file ≡ Err place
IsLogFault slot p file (FolderFault.Failed at) = at ≡ Manager slot
IsLogFault slot p file FolderFault.Memory = ⊤

-- the version of one of these writes of a unit isn't there, by the shape of its time, or a call on its grain's file failed
abbrev pub IsWriteFault : ℕ → Shape → Image → Option UnitNo → List Written → FolderFault → Type 0
IsWriteFault live shape image unit writes (FolderFault.Damaged at place) =
    (w : Written) × Member w writes × (version_named live Two shape image (record { unit = unit; program = 0; written = w }) ≡ Err place)
IsWriteFault live shape image unit writes (FolderFault.Failed at) = (w : Written) × Member w writes × (at ≡ Grain live w.grain)
IsWriteFault live shape image unit writes FolderFault.Memory = ⊤

-- that of one of these records
abbrev pub IsRecordFault : ℕ → Shape → Image → List CommitRecord → FolderFault → Type 0
IsRecordFault live shape image records fault = (r : CommitRecord) × Member r records × IsWriteFault live shape image (Some r.unit) r.writes fault

-- that of a record among these entries, which are read under this program; or there was no memory
abbrev pub IsEntryFault : ℕ → Program → Image → List ReadEntry → FolderFault → Type 0
IsEntryFault live p image [] fault = fault ≡ FolderFault.Memory
IsEntryFault live p image (ReadRecord r ∷ later) fault = IsWriteFault live (shape_in p) image (Some r.unit) r.writes fault ⊎ IsEntryFault live p image later fault
IsEntryFault live p image (ReadUpgrade q ∷ later) fault = IsEntryFault live q image later fault

-- one or the other, of a log that was read
abbrev pub IsRereadFault : ℕ → Program → Image → LogRead → FolderFault → Type 0
IsRereadFault live p image log fault =
    IsLogFault live p (image (Manager live)) fault ⊎ (IsWriteFault live (shape_in p) image None log.base.writes fault ⊎ IsEntryFault live p image log.entries fault)

-- the log is damaged behind this gate and blocks of sessions up to this one, or there was another fault
abbrev pub IsBlockFault : ProgramTree → ℕ → ℕ → List ℕ → ReportFault → Type 0
IsBlockFault types session gate file ReportFault.NotASilo = ⊥
IsBlockFault types session gate file ReportFault.OldFormat = ⊥
IsBlockFault types session gate file (ReportFault.Damaged at place) = next_in Two types session gate file ≡ Err place
IsBlockFault types session gate file (ReportFault.DiskFault at) = ⊤
IsBlockFault types session gate file ReportFault.WriteFault = ⊤
IsBlockFault types session gate file ReportFault.Memory = ⊤
