-- What is so while the files of the slot that isn't live are written.
use Rattle.std.specs.Prelude.{◌≡◌, ◌≢◌, ℕ, ◌-◌, ◌<◌, List, length, slice_index}
use Rattle.host_trait.specs.declared.channels.FileId.{FileId}
use Rattle.host_trait.specs.declared.channels.FileId.TheVariants.{Manager}
use Rattle.host_trait.specs.Disk.{FileState, MayLeave, settled}
use Rattle.host_trait.specs.Files.{slot_of}
use Rattle.host_trait.specs.World.{Moment, Disk}

-- A manager file is shut: nothing is pending in it, and its header gate is there and closed.
pub record IsShutFile (file : FileState) : Type 0 where
  pub lasts : file ≡ settled file.seen
  pub some : 0 < length file.seen
  pub closed : slice_index file.seen 0 ≢ 1

-- no file of this slot has changed
abbrev pub KeepsSlot : ℕ → Disk → Disk → Type 0
KeepsSlot slot old new = (file : FileId) → slot_of file ≡ slot → new file ≡ old file

-- while the other slot's files are filled: the live one's are as they were, and no crash opens the header gate
pub record IsFilling (live : ℕ) (old : Disk) (m : Moment) : Type 0 where
  pub kept : KeepsSlot live old m.disk
  pub shut : (bytes : List ℕ) → MayLeave (m.disk (Manager (1 - live))) bytes → slice_index bytes 0 ≢ 1
