-- A sound folder is whole, and a whole one is sound where its logs are serial.
use Rattle.std.specs.Prelude.{ℕ}
use Rattle.host_trait.specs.World.{World, Image}
use Rattle.promise_spec.specs.SerialExecution.{IsSerialFrom}
use Rattle.promise_spec.specs.Images.{IsWholeSilo, IsSound, IsWholeIfSilo, IsSoundIfSilo, IsWholeFolder, IsSoundFolder}

pub whole_image : (live : ℕ) (image : Image) → IsSound live image → IsWholeSilo live image
whole_image live image s = record { format = s.format; log = s.log; is = s.is; numbered = s.numbered }

pub serial_image : (live : ℕ) (image : Image) → (w : IsWholeSilo live image) → IsSerialFrom w.log.base w.log.entries → IsSound live image
serial_image live image w serial = record { format = w.format; log = w.log; is = w.is; serial = serial; numbered = w.numbered }

pub whole_if : (image : Image) → IsSoundIfSilo image → IsWholeIfSilo image
whole_if image sound live is = whole_image live image (sound live is)

pub whole_folder : (w : World) → IsSoundFolder w → IsWholeFolder w
whole_folder w sound = record { chain = sound.chain; whole = λ image left. whole_if image (sound.sound image left); shows = sound.shows }
