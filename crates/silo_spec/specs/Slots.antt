-- Which slot of a folder is live.
use Rattle.std.specs.Prelude.{ℕ, ◌+◌, ◌-◌, ◌<◌, ◌≤◌, List, length, take, drop}
use Rattle.std.specs.Int.{w32, from_le_bytes}
use Rattle.host_trait.specs.declared.channels.FileId.TheVariants.{Manager}
use Rattle.host_trait.specs.World.{Disk, Image, IsImage}
use Rattle.silo_spec.specs.Silos.{IsSilo}

-- how often the silo was written anew: bytes 9 to 12 of its manager file
abbrev pub generation : List ℕ → ℕ
generation file = from_le_bytes w32 (take 4 (drop 9 file))

-- the greatest generation that has a place there
abbrev pub last_generation : ℕ
last_generation = 4294967295

-- The live slot: its manager file is a silo's, and the other one's isn't, or has a lower generation; of two with one
-- generation it is slot 0.
pub record IsLive (magic : List ℕ → Type 0) (live : ℕ) (image : Image) : Type 0 where
  pub slot : live ≤ 1
  pub silo : IsSilo magic (image (Manager live))
  pub over : IsSilo magic (image (Manager (1 - live))) → generation (image (Manager (1 - live))) < generation (image (Manager live)) + (1 - live)

-- the image is a silo
abbrev pub IsSiloImage : (List ℕ → Type 0) → Image → Type 0
IsSiloImage magic image = (live : ℕ) × IsLive magic live image

-- no image is a silo by a slot whose manager file reads shorter than 16 bytes
abbrev pub ShowsSilos : (List ℕ → Type 0) → Disk → Type 0
ShowsSilos magic disk = (image : Image) → IsImage disk image → (slot : ℕ) → slot ≤ 1 →
    length (disk (Manager slot)).seen < 16 → IsSilo magic (image (Manager slot)) → ⊥
