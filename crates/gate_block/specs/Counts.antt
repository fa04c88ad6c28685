-- What the counts of faults say of a block that couldn't be read.
use Rattle.std.specs.Prelude.{ℕ}
use Rattle.host_trait.specs.declared.channels.FileId.{FileId}
use Rattle.host_trait.specs.declared.channels.Channel.{Channel}
use Rattle.host_trait.specs.declared.channels.Channel.TheVariants.{File}
use Rattle.host_trait.specs.Faults.{NoneFailed, FailedOn}
use Rattle.gate_block.specs.declared.faults.BlockFault.{BlockFault}
use Rattle.gate_block.specs.declared.faults.BlockFault.TheVariants.{Failed, BadLength, Memory}

-- a call on the file failed where `Failed` is answered, and none did where another fault is
abbrev pub BlockFaulted : FileId → BlockFault → (Channel → ℕ) → (Channel → ℕ) → Type 0
BlockFaulted file Failed old new = FailedOn (File file) old new
BlockFaulted file (BadLength place) old new = NoneFailed old new
BlockFaulted file Memory old new = NoneFailed old new
