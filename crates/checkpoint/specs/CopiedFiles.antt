-- The grains' files of the live slot, copied into the other one.
use Rattle.std.specs.Prelude.{◌≡◌, ℕ, ◌-◌, ◌≤◌, List, length, take, Some}
use Rattle.base_types.specs.declared.calls.GrainId.{GrainId}
use Rattle.base_types.specs.declared.stores.Ends.{Ends}
use Rattle.base_types.specs.Stores.{end_in}
use Rattle.host_trait.specs.declared.channels.FileId.TheVariants.{Grain}
use Rattle.host_trait.specs.Disk.{FileState, settled}
use Rattle.host_trait.specs.World.{Disk}

-- The second file begins with the first one's bytes up to this end, which lies in the first one.
pub record BeginsAs (end : ℕ) (from to : List ℕ) : Type 0 where
  pub within : end ≤ length from
  pub same : take end to ≡ take end from

-- and nothing of it is pending
pub record IsCopyOf (end : ℕ) (from : List ℕ) (to : FileState) : Type 0 where
  pub lasts : to ≡ settled to.seen
  pub begins : BeginsAs end from to.seen

-- The grain's file in the other slot is a copy of that in the live one, up to the end of the places that are named in it, if it has one.
abbrev pub IsCopiedFile : ℕ → Ends → Disk → Disk → GrainId → Type 0
IsCopiedFile live ends old new grain = (end : ℕ) → end_in ends grain ≡ Some end → IsCopyOf end (old (Grain live grain)).seen (new (Grain (1 - live) grain))

-- each end lies in its grain's file of the live slot
abbrev pub AreEndsWithin : ℕ → Ends → Disk → Type 0
AreEndsWithin live ends disk = (grain : GrainId) (end : ℕ) → end_in ends grain ≡ Some end → end ≤ length (disk (Grain live grain)).seen
