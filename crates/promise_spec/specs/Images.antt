-- Sound images, and chains of images.
use Rattle.std.specs.Prelude.{◌≢◌, ◌⊎◌, ℕ, ◌<◌, ◌≤◌, List, [], ◌∷◌, ⊤}
use Rattle.std.specs.List.{AllByRecursion}
use Rattle.base_types.specs.declared.calls.Origin.{Origin}
use Rattle.base_types.specs.declared.calls.Origin.TheVariants.{Line, Child}
use Rattle.host_trait.specs.World.{World, Image, IsImage}
use Rattle.field_codec.specs.declared.formats.Format.{Format}
use Rattle.silo_spec.specs.Slots.{IsLive, ShowsSilos}
use Rattle.promise_spec.specs.Records.{Commit}
use Rattle.promise_spec.specs.Entries.{Log, records_of}
use Rattle.promise_spec.specs.SerialExecution.{IsSerialFrom}
use Rattle.promise_spec.specs.Logs.{IsMagic, IsLogOf, HasLog}
use Rattle.promise_spec.specs.Prefixes.{IsPrefixOf}

-- a child is above its parent
abbrev pub IsAboveParent : Origin → ℕ → Type 0
IsAboveParent (Line n) unit = ⊤
IsAboveParent (Child parent index depth) unit = parent.0 < unit

-- unit numbers are not below the first, all different, and each above its parent's
abbrev pub AreNumbered : ℕ → List Commit → Type 0
AreNumbered first [] = ⊤
AreNumbered first (c ∷ later) =
    (first ≤ c.logged.unit.0) × IsAboveParent c.logged.origin c.logged.unit.0
    × AllByRecursion (λ d. d.logged.unit ≢ c.logged.unit) later × AreNumbered first later

-- The image is a silo, with this live slot, in one of the formats. All that it names is in the format and whole, and its records' units
-- are numbered.
pub record IsWholeSilo (live : ℕ) (image : Image) : Type 0 where
  pub format : Format
  pub log : Log
  pub is : IsLogOf format live image log
  pub numbered : AreNumbered log.base.next (records_of log)

-- The image is whole, and its entries are what the one-thread store gives from its base.
pub record IsSound (live : ℕ) (image : Image) : Type 0 where
  pub format : Format
  pub log : Log
  pub is : IsLogOf format live image log
  pub serial : IsSerialFrom log.base log.entries
  pub numbered : AreNumbered log.base.next (records_of log)

-- an image that is a silo is whole
abbrev pub IsWholeIfSilo : Image → Type 0
IsWholeIfSilo image = (live : ℕ) → IsLive IsMagic live image → IsWholeSilo live image

-- an image that is a silo is sound
abbrev pub IsSoundIfSilo : Image → Type 0
IsSoundIfSilo image = (live : ℕ) → IsLive IsMagic live image → IsSound live image

-- Of whatever logs the two have, one is a prefix of the other. An image that is no silo counts as before every log.
abbrev pub AreChained : Image → Image → Type 0
AreChained one other = (a b : Log) → HasLog one a → HasLog other b → IsPrefixOf a b ⊎ IsPrefixOf b a

-- the images of a crash are a chain, each that is a silo is whole, and none is one by a slot whose manager file reads too short
pub record IsWholeFolder (w : World) : Type 0 where
  pub chain : (one other : Image) → IsImage w.disk one → IsImage w.disk other → AreChained one other
  pub whole : (image : Image) → IsImage w.disk image → IsWholeIfSilo image
  pub shows : ShowsSilos IsMagic w.disk

-- they are a chain, each that is a silo is sound, and none is one by such a slot
pub record IsSoundFolder (w : World) : Type 0 where
  pub chain : (one other : Image) → IsImage w.disk one → IsImage w.disk other → AreChained one other
  pub sound : (image : Image) → IsImage w.disk image → IsSoundIfSilo image
  pub shows : ShowsSilos IsMagic w.disk
