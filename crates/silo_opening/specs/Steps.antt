-- The steps of `create` and of `open_silo_in`.
use Rattle.std.specs.Prelude.{◌≡◌, ◌≢◌, ◌⊎◌, ℕ, ◌<◌, ◌≤◌, true, List, [], length, take, drop, slice_index}
use Rattle.host_trait.specs.declared.channels.FileId.{FileId}
use Rattle.host_trait.specs.declared.channels.FileId.TheVariants.{Manager}
use Rattle.host_trait.specs.World.{World, Moment, Disk, Image, IsImage, Passes, Synced, moment_of}
use Rattle.host_trait.specs.Runs.{OnlyAsked}
use Rattle.silo_spec.specs.Silos.{IsSilo}
use Rattle.silo_spec.specs.Creation.{IsLookedAt}
use Rattle.silo_opening.specs.declared.creation.Front.{Front}
use Rattle.silo_opening.specs.declared.creation.Front.TheVariants.{Empty, Silo, Open, Closed}

-- No byte 0 makes it a silo: it is too short, or its name is no such magic.
abbrev pub IsNamedOtherwise : (List ℕ → Type 0) → List ℕ → Type 0
IsNamedOtherwise magic file = (length file < 16) ⊎ (magic (take 8 (drop 1 file)) → ⊥)

-- what the first bytes of a manager file say
abbrev pub ShowsFront : (List ℕ → Type 0) → Front → List ℕ → Type 0
ShowsFront magic Empty file = file ≡ []
ShowsFront magic Silo file = IsSilo magic file
ShowsFront magic Open file = (0 < length file) × IsNamedOtherwise magic file
ShowsFront magic Closed file = (0 < length file) × (slice_index file 0 ≢ 1)

-- a slot's manager file is as it was, or what was read of it lasts now; and all else is as it was
pub record IsLooking (slot : ℕ) (old : World) (m : Moment) : Type 0 where
  pub output : m.output ≡ old.output
  pub others : (file : FileId) → file ≢ Manager slot → m.disk file ≡ old.disk file
  pub log : IsLookedAt (old.disk (Manager slot)) (m.disk (Manager slot))

-- at each moment
pub record OnlyLooks (slot : ℕ) (old new : World) : Type 0 where
  pub input : new.input ≡ old.input
  pub moments : Passes (IsLooking slot old) old.past new.past
  pub now : IsLooking slot old (moment_of new)

-- a slot's manager file was synced once, and beside that there was nothing but asking
pub record SyncsOnce (slot : ℕ) (old new : World) : Type 0 where
  pub before : World
  pub after : World
  pub asked : OnlyAsked old before
  pub sync : Synced (Manager slot) true before after
  pub more : OnlyAsked after new

-- a slot's manager file was synced once where it has 16 bytes or more, and beside that there was nothing but asking
abbrev pub Settles : ℕ → World → World → Type 0
Settles slot old new =
    ((16 ≤ length (old.disk (Manager slot)).seen) × SyncsOnce slot old new) ⊎ ((length (old.disk (Manager slot)).seen < 16) × OnlyAsked old new)

-- slot 0's, and then slot 1's
pub record SettlesBoth (old new : World) : Type 0 where
  pub between : World
  pub first : Settles 0 old between
  pub second : Settles 1 between new

-- a slot's manager file was synced once where it reads with bytes, and beside that there was nothing but asking
abbrev pub SyncsFor : ℕ → World → World → Type 0
SyncsFor slot old new =
    (((old.disk (Manager slot)).seen ≢ []) × SyncsOnce slot old new) ⊎ (((old.disk (Manager slot)).seen ≡ []) × OnlyAsked old new)

-- how many syncs that is, by what its first bytes say
abbrev pub syncs_for : Front → ℕ
syncs_for Empty = 0
syncs_for Silo = 1
syncs_for Open = 1
syncs_for Closed = 1

-- in no image is this slot's manager file a silo's
abbrev pub LacksSilo : (List ℕ → Type 0) → ℕ → Moment → Type 0
LacksSilo magic slot m = (image : Image) → IsImage m.disk image → IsSilo magic (image (Manager slot)) → ⊥

-- in no image is a manager file a silo's
abbrev pub HasNoSilo : (List ℕ → Type 0) → Moment → Type 0
HasNoSilo magic m = LacksSilo magic 0 m × LacksSilo magic 1 m

-- a manager file reads as a silo's
abbrev pub ReadsSilo : (List ℕ → Type 0) → Disk → Type 0
ReadsSilo magic disk = IsSilo magic (disk (Manager 0)).seen ⊎ IsSilo magic (disk (Manager 1)).seen
