-- What the counts of faults say of several calls of a host, one after the other.
use Rattle.std.proofs.Common.{ℕ, subst}
use Rattle.host_trait.specs.declared.channels.Channel.{Channel}
use Rattle.host_trait.specs.Faults.{NoneFailed, FailedOn}
use Rattle.log_reading.specs.Counts.{ReadFaulted}
use Rattle.log_reading.specs.declared.faults.FolderFault.{FolderFault}
use Rattle.program_file.specs.Answers.{FileFaulted}
use Rattle.program_file.specs.declared.faults.ProgramFileFault.{ProgramFileFault}
use Rattle.silo_opening.specs.Counts.{OpenFaulted}
use Rattle.silo_opening.specs.OpenedSilo.{in_program_file, in_folder}
use Rattle.silo_opening.specs.declared.faults.OpenFault.{OpenFault}

module _ (a b c : Channel → ℕ) (first : NoneFailed a b) where
  -- calls that raised nothing, and then one that failed
  pub failed_then : (channel : Channel) → FailedOn channel b c → FailedOn channel a c
  failed_then channel failed = subst (λ (counts : Channel → ℕ). FailedOn channel counts c) (λ i at. first at i) failed

  -- and then those of a fault
  pub faulted_then : (fault : OpenFault) → OpenFaulted fault b c → OpenFaulted fault a c
  faulted_then fault faulted = subst (λ (counts : Channel → ℕ). OpenFaulted fault counts c) (λ i at. first at i) faulted

-- the fault of a program file, as that of an opening
pub program_faulted : (slot : ℕ) (fault : ProgramFileFault) (a b : Channel → ℕ) → FileFaulted slot fault a b → OpenFaulted (in_program_file slot fault) a b
program_faulted slot (ProgramFileFault.Damaged place) a b faulted = faulted
program_faulted slot ProgramFileFault.Failed a b faulted = faulted
program_faulted slot ProgramFileFault.Memory a b faulted = faulted

-- and that of a log, or of a version that it names
pub folder_faulted : (fault : FolderFault) (a b : Channel → ℕ) → ReadFaulted fault a b → OpenFaulted (in_folder fault) a b
folder_faulted (FolderFault.Damaged file place) a b faulted = faulted
folder_faulted (FolderFault.Failed file) a b faulted = faulted
folder_faulted FolderFault.Memory a b faulted = faulted
