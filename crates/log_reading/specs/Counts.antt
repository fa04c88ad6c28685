-- What a fault of reading says: of a text, and of the counts of faults.
use Rattle.std.specs.Prelude.{ℕ, ◌+◌, Option, Some, None}
use Rattle.host_trait.specs.declared.channels.Channel.{Channel}
use Rattle.host_trait.specs.declared.channels.Channel.TheVariants.{File}
use Rattle.host_trait.specs.declared.channels.FileId.TheVariants.{Manager}
use Rattle.host_trait.specs.Faults.{NoneFailed, FailedOn}
use Rattle.log_reading.specs.declared.bodies.EntryFault.{EntryFault}
use Rattle.log_reading.specs.declared.bodies.EntryFault.TheVariants.{Damaged, Memory}
use Rattle.log_reading.specs.declared.faults.FolderFault.{FolderFault}

-- a call on the file failed where `Failed` is answered, and none did where another fault is
abbrev pub ReadFaulted : FolderFault → (Channel → ℕ) → (Channel → ℕ) → Type 0
ReadFaulted (FolderFault.Damaged file place) old new = NoneFailed old new
ReadFaulted (FolderFault.Failed file) old new = FailedOn (File file) old new
ReadFaulted FolderFault.Memory old new = NoneFailed old new

-- the fault of a body that stands at an offset of a slot's manager file
abbrev pub entry_damage : ℕ → ℕ → EntryFault → FolderFault
entry_damage slot start (Damaged place) = FolderFault.Damaged (Manager slot) (start + place)
entry_damage slot start Memory = FolderFault.Memory

-- the fault of a text that stands at an offset of a slot's manager file
abbrev pub damage_in : ℕ → ℕ → Option ℕ → FolderFault
damage_in slot start None = FolderFault.Memory
damage_in slot start (Some place) = FolderFault.Damaged (Manager slot) (start + place)
