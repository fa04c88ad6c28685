-- What each image of each moment of a call keeps of the folder at entry.
use Rattle.std.specs.Prelude.{◌≡◌}
use Rattle.host_trait.specs.declared.channels.FileId.{FileId}
use Rattle.host_trait.specs.World.{World, Moment, Image, IsImage, Passes, moment_of}

-- nothing was emitted, and each image is one of those at entry
pub record IsAsAtEntry (old : World) (m : Moment) : Type 0 where
  pub quiet : m.output ≡ old.output
  pub images : (image : Image) → IsImage m.disk image → IsImage old.disk image

-- nothing was emitted, no read has changed, and no outcome of a crash was added
pub record IsUntouched (old new : World) : Type 0 where
  pub moments : Passes (IsAsAtEntry old) old.past new.past
  pub now : IsAsAtEntry old (moment_of new)
  pub seen : (file : FileId) → (new.disk file).seen ≡ (old.disk file).seen
