-- A file while nothing but input is pulled.
use Rattle.std.proofs.Common.{◌≡◌, ap}
use Rattle.host_trait.specs.declared.channels.FileId.{FileId}
use Rattle.host_trait.specs.World.{World, Disk, Moment, moment_of}
use Rattle.host_trait.proofs.Moments.{weaker}
use Rattle.input_windows.specs.Pulls.{PulledOnly}
use Rattle.run_books.specs.Records.{KeepsFile}

-- each file was kept
pub still_file : (file : FileId) (old now : World) → PulledOnly old now → KeepsFile file old now
still_file file old now is = record {
  moments = weaker (λ (m : Moment). m ≡ moment_of old) (λ (m : Moment). m.disk file ≡ old.disk file) (λ m same. ap (λ (x : Moment). x.disk file) same) is.moments;
  now_is = ap (λ (d : Disk). d file) is.disk;
}
