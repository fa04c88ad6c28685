-- What is at each moment of a step that writes a batch.
use Rattle.std.specs.Prelude.{◌≡◌, ◌⊎◌, ℕ, List, take}
use Rattle.host_trait.specs.declared.channels.FileId.{FileId}
use Rattle.host_trait.specs.World.{World, Moment}
use Rattle.host_trait.specs.declared.channels.FileId.TheVariants.{Manager}
use Rattle.promise_spec.specs.Records.{Commit}
use Rattle.promise_spec.specs.Entries.{Log, grown}
use Rattle.promise_spec.specs.Logs.{IsLog}
use Rattle.promise_spec.specs.Crashes.{IsAside}
use Rattle.batch_disk.specs.ImagesAtRest.{EachImage}

-- nothing is put out, the files that a run leaves alone are as they were, and each image has this header
pub record LeavesRest (live : ℕ) (head : List ℕ) (old : World) (m : Moment) : Type 0 where
  pub output : m.output ≡ old.output
  pub aside : (file : FileId) → IsAside live file → m.disk file ≡ old.disk file
  pub header : EachImage (λ image. take 15 (image (Manager live)) ≡ head) m.disk

-- and each image's log is this one
pub record KeepsLog (live : ℕ) (head : List ℕ) (log : Log) (old : World) (m : Moment) : Type 0 where
  pub rest : LeavesRest live head old m
  pub logs : EachImage (λ image. IsLog live image log) m.disk

-- or each image's log is this one, or it and the whole batch
pub record IsSeam (live : ℕ) (head : List ℕ) (log : Log) (batch : List Commit) (old : World) (m : Moment) : Type 0 where
  pub rest : LeavesRest live head old m
  pub logs : EachImage (λ image. IsLog live image log ⊎ IsLog live image (grown log batch)) m.disk
