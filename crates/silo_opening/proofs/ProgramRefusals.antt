-- What a fault of reading the program file says of the folder.
use Rattle.std.proofs.Common.{◌≡◌, ◌⊎◌, inl, inr, ℕ, Some, true, Result, Err, refl}
use Rattle.host_trait.specs.declared.channels.FileId.TheVariants.{Manager, Program as ProgramFile}
use Rattle.host_trait.specs.World.{Image}
use Rattle.field_codec.specs.declared.formats.Format.{Format}
use Rattle.program_file.specs.declared.faults.ProgramFileFault.{ProgramFileFault}
use Rattle.promise_spec.specs.Openings.{has_format, program_in_file, live_in, reading_in}
use Rattle.promise_spec.specs.Refusals.{IsRefusedBy}
use Rattle.log_reading.specs.declared.faults.FolderFault.{FolderFault}
use Rattle.silo_opening.specs.OpenedSilo.{in_program_file, in_folder, ending_of}
use Rattle.silo_opening.specs.declared.faults.OpenFault.{OpenFault}
use Rattle.silo_opening.proofs.WholeReadings.{program_read, program_damaged}

-- an answer that is this fault
abbrev pub failed : {A : Type 0} → ProgramFileFault → Result A ProgramFileFault
failed e = Err e

pub program_refused : {A : Type 0} (format : Format) (image : Image) (live : ℕ) → live_in image ≡ Some live → has_format format (image (Manager live)) ≡ true → (fault : ProgramFileFault)
    → ((place : ℕ) → failed {A = A} fault ≡ failed (ProgramFileFault.Damaged place) → program_in_file (image (ProgramFile live)) ≡ Err place)
    → IsRefusedBy format image (reading_in format image) (ending_of (in_program_file live fault))
program_refused format image live is named (ProgramFileFault.Damaged place) damaged = program_damaged format image live is named place (damaged place refl)
program_refused format image live is named ProgramFileFault.Failed damaged = program_read format image live is named
program_refused format image live is named ProgramFileFault.Memory damaged = tt

-- an answer that is a fault of an opening
abbrev pub refused : {A : Type 0} → OpenFault → Result A OpenFault
refused e = Err e

-- no fault of a program file is that of a generation, or of a format
pub never_program : {A : Type 0} (slot : ℕ) (e : OpenFault) (fault : ProgramFileFault) → e ≡ in_program_file slot fault → (refused {A = A} e ≡ refused OpenFault.LastGeneration) ⊎ (refused {A = A} e ≡ refused OpenFault.OldFormat) → ⊥
never_program slot e (ProgramFileFault.Damaged place) is (inl last) = absurd cc
never_program slot e (ProgramFileFault.Damaged place) is (inr old) = absurd cc
never_program slot e ProgramFileFault.Failed is (inl last) = absurd cc
never_program slot e ProgramFileFault.Failed is (inr old) = absurd cc
never_program slot e ProgramFileFault.Memory is (inl last) = absurd cc
never_program slot e ProgramFileFault.Memory is (inr old) = absurd cc

-- nor one of a log, or of a version that it names
pub never_folder : {A : Type 0} (e : OpenFault) (fault : FolderFault) → e ≡ in_folder fault → (refused {A = A} e ≡ refused OpenFault.LastGeneration) ⊎ (refused {A = A} e ≡ refused OpenFault.OldFormat) → ⊥
never_folder e (FolderFault.Damaged file place) is (inl last) = absurd cc
never_folder e (FolderFault.Damaged file place) is (inr old) = absurd cc
never_folder e (FolderFault.Failed file) is (inl last) = absurd cc
never_folder e (FolderFault.Failed file) is (inr old) = absurd cc
never_folder e FolderFault.Memory is (inl last) = absurd cc
never_folder e FolderFault.Memory is (inr old) = absurd cc
