-- What the counts of faults say of a silo that wasn't opened or made.
use Rattle.std.specs.Prelude.{ℕ}
use Rattle.host_trait.specs.declared.channels.Channel.{Channel}
use Rattle.host_trait.specs.declared.channels.Channel.TheVariants.{Input, File}
use Rattle.host_trait.specs.Faults.{NoneFailed, FailedOn}
use Rattle.silo_spec.specs.Silos.{IsMadeFile}
use Rattle.silo_opening.specs.declared.faults.OpenFault.{OpenFault}
use Rattle.silo_opening.specs.declared.faults.CreateFault.{CreateFault}
use Rattle.silo_opening.specs.declared.input.InputFault.{InputFault}
use Rattle.silo_opening.specs.declared.silo_init.InitFault.{InitFault}

-- a call on the file failed where `DiskFault` is answered, and none did where another fault is
abbrev pub OpenFaulted : OpenFault → (Channel → ℕ) → (Channel → ℕ) → Type 0
OpenFaulted OpenFault.NotASilo old new = NoneFailed old new
OpenFaulted OpenFault.OldFormat old new = NoneFailed old new
OpenFaulted (OpenFault.Damaged file place) old new = NoneFailed old new
OpenFaulted (OpenFault.DiskFault file) old new = FailedOn (File file) old new
OpenFaulted OpenFault.LastGeneration old new = NoneFailed old new
OpenFaulted OpenFault.Memory old new = NoneFailed old new

-- a call on the file, one of those that making a silo calls, failed where `DiskFault` is answered, and none did where the folder is a silo
abbrev pub CreateFaulted : CreateFault → (Channel → ℕ) → (Channel → ℕ) → Type 0
CreateFaulted CreateFault.AlreadyASilo old new = NoneFailed old new
CreateFaulted (CreateFault.DiskFault file) old new = IsMadeFile file × FailedOn (File file) old new

-- a call on the input failed where `Failed` is answered, and none did where another fault is
abbrev pub InputFaulted : InputFault → (Channel → ℕ) → (Channel → ℕ) → Type 0
InputFaulted InputFault.Memory old new = NoneFailed old new
InputFaulted InputFault.Failed old new = FailedOn Input old new
InputFaulted InputFault.TooLong old new = NoneFailed old new

-- a call on the input failed where `ReadFault` is answered, one on the file, one of those that making a silo calls, where `DiskFault`
-- is, and none where another fault is
abbrev pub InitFaulted : InitFault → (Channel → ℕ) → (Channel → ℕ) → Type 0
InitFaulted InitFault.ReadFault old new = FailedOn Input old new
InitFaulted InitFault.InputTooLong old new = NoneFailed old new
InitFaulted (InitFault.BadProgram fault) old new = NoneFailed old new
InitFaulted InitFault.AlreadyASilo old new = NoneFailed old new
InitFaulted (InitFault.DiskFault file) old new = IsMadeFile file × FailedOn (File file) old new
InitFaulted InitFault.Memory old new = NoneFailed old new
