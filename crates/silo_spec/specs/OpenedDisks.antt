-- What opening a folder does to it: it looks, and syncs once each manager file that is as long as a header and a gate.
use Rattle.std.specs.Prelude.{◌≡◌, ◌⊎◌, ℕ, ◌+◌, ◌≤◌, Bool, false, ◌&&◌, nat_le, if◌then◌else◌, List, length}
use Rattle.host_trait.specs.declared.channels.FileId.{FileId}
use Rattle.host_trait.specs.declared.channels.FileId.TheVariants.{Manager, Program as ProgramFile, Grain}
use Rattle.host_trait.specs.Disk.{FileState, settled}
use Rattle.host_trait.specs.World.{World, Moment, Disk, Image, IsImage, Passes, Arrives, moment_of}

-- whether an opening syncs this file, which reads so: it is the manager file of slot 0 or 1, and has 16 bytes or more
abbrev pub is_synced : FileId → List ℕ → Bool
is_synced (ProgramFile slot) bytes = false
is_synced (Manager slot) bytes = nat_le 16 (length bytes) && nat_le slot 1
is_synced (Grain slot grain) bytes = false

-- how many syncs it asks for of this slot's manager file
abbrev pub slot_syncs : Image → ℕ → ℕ
slot_syncs image slot = if is_synced (Manager slot) (image (Manager slot)) then 1 else 0

-- how many syncs it asks for: one of each manager file that has 16 bytes or more
abbrev pub opening_syncs : Image → ℕ
opening_syncs image = slot_syncs image 0 + slot_syncs image 1

-- a file as an opening leaves it: nothing is pending in one that it synced, and another is as it was
abbrev pub opened_file : FileId → FileState → FileState
opened_file file state = if is_synced file state.seen then settled state.seen else state

-- all of them
abbrev pub opened_disk : Disk → Disk
opened_disk disk file = opened_file file (disk file)

-- A moment of an opening: nothing was emitted, each image is one of those at entry, and each file is as it was then, or as the
-- opening leaves it.
pub record IsInOpening (old : World) (m : Moment) : Type 0 where
  pub output : m.output ≡ old.output
  pub images : (image : Image) → IsImage m.disk image → IsImage old.disk image
  pub files : (file : FileId) → (m.disk file ≡ old.disk file) ⊎ (m.disk file ≡ opened_disk old.disk file)

-- Calls of an opening, with at most so many syncs: no input was taken, each moment was such, and the last of them is now.
pub record OpensBy (most : ℕ) (old new : World) : Type 0 where
  pub input : new.input ≡ old.input
  pub counted : old.syncs ≤ new.syncs
  pub syncs : new.syncs ≤ old.syncs + most
  pub now : IsInOpening old (moment_of new)
  pub moments : Passes (IsInOpening old) old.past new.past
  pub clock : Arrives old new

-- all that an opening does, whatever it answers
abbrev pub OnlyOpens : World → World → Type 0
OnlyOpens old new = OpensBy (opening_syncs (λ file. (old.disk file).seen)) old new
