-- What a command that writes the other slot anew does to a folder, at each moment.
use Rattle.std.specs.Prelude.{◌≡◌, ◌⊎◌, ℕ, ◌+◌, ◌-◌, ◌<◌, ◌≤◌, List, ◌∷◌, length, drop}
use Rattle.host_trait.specs.declared.channels.FileId.{FileId}
use Rattle.host_trait.specs.declared.channels.FileId.TheVariants.{Manager}
use Rattle.host_trait.specs.Disk.{FileState, MayLeave, Tears, settled}
use Rattle.host_trait.specs.World.{World, Moment, Image, IsImage, moment_of, with_bytes}
use Rattle.field_codec.specs.declared.formats.Format.{Format}
use Rattle.silo_spec.specs.Silos.{IsSilo}
use Rattle.silo_spec.specs.Slots.{generation}
pub use Rattle.silo_spec.specs.OtherSlot.{IsShutFile, KeepsSlot, IsFilling}
use Rattle.promise_spec.specs.Entries.{Log}
use Rattle.promise_spec.specs.Logs.{IsMagic, IsLogIn, IsLogOf}
use Rattle.promise_spec.specs.Journals.{AllLogOf}

-- the image has the log in the slot that was live, in the first of these formats, or what stands for the same in the other one, in the
-- second
abbrev pub HasEither : Format → Format → ℕ → Log → Log → Image → Type 0
HasEither from to live log new image = IsLogOf from live image log ⊎ IsLogOf to (1 - live) image new

-- so has each image of the moment
abbrev pub AllEither : Format → Format → ℕ → Log → Log → Moment → Type 0
AllEither from to live log new m = (image : Image) → IsImage m.disk image → HasEither from to live log new image

-- Whatever a crash leaves in the place of the header gate, a file that is a silo's has a generation below this.
abbrev pub StaysBelow : ℕ → FileState → Type 0
StaysBelow bound file = (before after : List ℕ) → MayLeave file before → Tears 0 1 before after → IsSilo IsMagic after → generation after < bound

-- The other slot may be written: each image has the log in the live slot, in this format, whose manager file lasts.
pub record IsCompactable (format : Format) (live : ℕ) (log : Log) (w : World) : Type 0 where
  pub slot : live ≤ 1
  pub seen : (file : FileId) → MayLeave (w.disk file) (w.disk file).seen
  pub lasts : w.disk (Manager live) ≡ settled (w.disk (Manager live)).seen
  pub logged : AllLogOf format live log w.disk

-- a crash while the other slot's header gate is closed leaves it no silo's file of as high a generation as the live one's
abbrev pub MayClose : ℕ → World → Type 0
MayClose live w = StaysBelow (generation (w.disk (Manager live)).seen + (1 - live)) (w.disk (Manager (1 - live)))

-- The other slot's files are filled: with its header gate open each image has this log there, in this format and of the next generation.
pub record IsReadyToOpen (to : Format) (live : ℕ) (new : Log) (old : World) (w : World) : Type 0 where
  pub filling : IsFilling live old.disk (moment_of w)
  pub some : (image : Image) → IsImage w.disk image → 0 < length (image (Manager (1 - live)))
  pub risen : (image : Image) → IsImage w.disk image → generation (image (Manager (1 - live))) ≡ generation (old.disk (Manager live)).seen + 1
  pub whole : (image : Image) → IsImage w.disk image → IsLogIn to (1 - live) (with_bytes image (Manager (1 - live)) (1 ∷ drop 1 (image (Manager (1 - live))))) new
