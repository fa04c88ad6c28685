-- The moments of a run, and the order that they leave.
use Rattle.std.specs.Prelude.{ℕ, List, [], ◌∷◌, ◌++◌}
use Rattle.host_trait.specs.World.{World, Moment, Image, IsImage, moment_of, last_of}
use Rattle.cell_model.specs.Units.{Member}
use Rattle.promise_spec.specs.Entries.{Log}
use Rattle.promise_spec.specs.Logs.{IsLog, HasLog}
use Rattle.promise_spec.specs.Prefixes.{IsPrefixOf}

-- a crash at one of these moments may leave this image
pub record IsImageOf (moments : List Moment) (image : Image) : Type 0 where
  pub moment : Moment
  pub member : Member moment moments
  pub left : IsImage moment.disk image

-- The moments that count for crashes: the one at which the opening's last sync returned, the later ones, and the
-- exit. The early moments are those up to that sync's.
abbrev pub counted_moments : World → List Moment → List Moment → World → List Moment
counted_moments old early late new = last_of (moment_of old) early ∷ (late ++ moment_of new ∷ [])

-- the order of a run: the longest log that an image of these moments has; some image has it in this slot
pub record IsLongest (live : ℕ) (moments : List Moment) (order : Log) : Type 0 where
  pub image : Image
  pub left : IsImageOf moments image
  pub log : IsLog live image order
  pub longest : (other : Image) (log : Log) → IsImageOf moments other → HasLog other log → IsPrefixOf log order
