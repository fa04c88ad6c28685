-- What the counts of faults say of versions that weren't written, and of one that wasn't read.
use Rattle.std.specs.Prelude.{ℕ}
use Rattle.host_trait.specs.declared.channels.FileId.{FileId}
use Rattle.host_trait.specs.declared.channels.Channel.{Channel}
use Rattle.host_trait.specs.declared.channels.Channel.TheVariants.{File}
use Rattle.host_trait.specs.Faults.{NoneFailed, FailedOn}
use Rattle.grain_log.specs.declared.faults.LogFault.{LogFault}
use Rattle.grain_log.specs.declared.faults.LogFault.TheVariants as log
use Rattle.grain_log.specs.declared.faults.VersionFault.{VersionFault}
use Rattle.grain_log.specs.declared.faults.VersionFault.TheVariants as version

-- a call on the file failed where `Failed` is answered, and none did where memory ran out
abbrev pub WriteFaulted : FileId → LogFault → (Channel → ℕ) → (Channel → ℕ) → Type 0
WriteFaulted file log.Failed old new = FailedOn (File file) old new
WriteFaulted file log.Memory old new = NoneFailed old new

-- a call on the file failed where `Failed` is answered, and none did where another fault is
abbrev pub VersionReadFaulted : FileId → VersionFault → (Channel → ℕ) → (Channel → ℕ) → Type 0
VersionReadFaulted file version.Failed old new = FailedOn (File file) old new
VersionReadFaulted file (version.Damaged place) old new = NoneFailed old new
VersionReadFaulted file version.Memory old new = NoneFailed old new
