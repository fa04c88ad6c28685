-- What the faults of the steps say of the folder.
use Rattle.std.proofs.Common.{◌≡◌, ◌+◌, inl, inr, ℕ, List, Some, Result, Ok, Err, refl, ap}
use Rattle.base_types.specs.declared.shapes.Shape.{Shape}
use Rattle.host_trait.specs.declared.channels.Channel.{Channel}
use Rattle.host_trait.specs.declared.channels.FileId.{FileId}
use Rattle.host_trait.specs.declared.channels.FileId.TheVariants.{Manager}
use Rattle.host_trait.specs.Faults.{NoneFailed}
use Rattle.host_trait.specs.World.{Image}
use Rattle.field_codec.specs.Results.{place_of}
use Rattle.field_codec.specs.declared.faults.CodecFault.{CodecFault}
use Rattle.field_codec.specs.declared.formats.Format.{Format}
use Rattle.commit_log.specs.declared.records.CheckpointPiece.{CheckpointPiece}
use Rattle.commit_log.specs.declared.records.Named.{Named}
use Rattle.program_file.specs.Programs.{Program}
use Rattle.log_reading.specs.declared.faults.FolderFault.{FolderFault}
use Rattle.log_reading.specs.Counts.{ReadFaulted}
use Rattle.log_reading.specs.Steps.{and_next, placed}
use Rattle.log_reading.specs.Blocks.{LogRead, log_in_file, shapes_read}
use Rattle.log_reading.specs.Versions.{named_in, named_by_grain, first_missing}
use Rattle.log_reading.specs.Sums.{StopsAt, AreUnread}
use Rattle.log_reading.specs.Contents.{IsUnread}
use Rattle.log_reading.proofs.Errors.{failed}

-- what a fault of reading the log says, by the clauses of that step
pub read_refused : {A : Type 0} (live : ℕ) (format : Format) (p : Program) (image : Image) (fault : FolderFault)
    → ((file : FileId) (place : ℕ) → failed {A = A} fault ≡ failed (FolderFault.Damaged file place) → (file ≡ Manager live) × (log_in_file format p (image (Manager live)) ≡ Err place))
    → ((file : FileId) → failed {A = A} fault ≡ failed (FolderFault.Failed file) → file ≡ Manager live) → IsUnread live format p image fault
read_refused live format p image (FolderFault.Damaged file place) damaged stopped = inl (damaged file place refl)
read_refused live format p image (FolderFault.Failed file) damaged stopped = inl (stopped file refl)
read_refused live format p image FolderFault.Memory damaged stopped = tt

-- what a fault of reading the versions says, by what each of its cases says
pub versions_unread : (live : ℕ) (format : Format) (shapes : List Shape) (image : Image) (named : List Named) (fault : FolderFault)
    → ((file : FileId) (place : ℕ) → fault ≡ FolderFault.Damaged file place → first_missing live format shapes image named ≡ Some (file, place))
    → ((file : FileId) → fault ≡ FolderFault.Failed file → StopsAt live format shapes image named file) → AreUnread live format shapes image named fault
versions_unread live format shapes image named (FolderFault.Damaged file place) damaged stopped = damaged file place refl
versions_unread live format shapes image named (FolderFault.Failed file) damaged stopped = stopped file refl
versions_unread live format shapes image named FolderFault.Memory damaged stopped = tt

-- it is a fault of the folder, where the log that names them was read
pub versions_refused : (live : ℕ) (format : Format) (p : Program) (image : Image) (log : LogRead) → log_in_file format p (image (Manager live)) ≡ Ok log → (fault : FolderFault)
    → AreUnread live format (shapes_read p log) image (named_by_grain (named_in log)) fault → IsUnread live format p image fault
versions_refused live format p image log read (FolderFault.Damaged file place) unread = inr (log, read, unread)
versions_refused live format p image log read (FolderFault.Failed file) unread = inr (log, read, unread)
versions_refused live format p image log read FolderFault.Memory unread = tt

-- a fault of bytes that were read is no failed call's, and none has failed
pub quiet_fault : {A : Type 0} (fault : FolderFault) (old new : Channel → ℕ) → ((file : FileId) → failed {A = A} fault ≡ failed (FolderFault.Failed file) → ⊥) → NoneFailed old new → ReadFaulted fault old new
quiet_fault (FolderFault.Damaged file place) old new quiet none = none
quiet_fault (FolderFault.Failed file) old new quiet none = absurd (quiet file refl)
quiet_fault FolderFault.Memory old new quiet none = none

-- a place in a piece of a checkpoint that stands behind a gate
pub piece_damaged : (gate size : ℕ) (read : Result CheckpointPiece CodecFault) (place : ℕ) → placed (gate + 5) read ≡ Err place → and_next gate size read ≡ Err place
piece_damaged gate size (Ok piece) place is = absurd cc
piece_damaged gate size (Err fault) place is = (let same : gate + 5 + place_of fault ≡ place = cc in ap (λ (n : ℕ). Err n) same)
