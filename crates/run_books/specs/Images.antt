-- What each image that a crash may leave keeps of a run's books.
use Rattle.std.specs.Prelude.{◌≡◌, ◌≢◌, ◌⊎◌, ℕ, ◌+◌, ◌≤◌, false, List, [], ◌++◌, take, drop}
use Rattle.host_trait.specs.declared.channels.FileId.TheVariants.{Manager}
use Rattle.host_trait.specs.Disk.{FileState, MayLeave}
use Rattle.host_trait.specs.declared.channels.FileId.{FileId}
use Rattle.host_trait.specs.World.{World, Disk, Moment, Image, IsImage, Passes, moment_of}
use Rattle.field_codec.specs.declared.formats.Format.TheVariants.{Two}
use Rattle.core_model.specs.CoreState.{CoreState}
use Rattle.core_model.specs.SerialOrder.{chosen}
use Rattle.core_model.specs.LegalRuns.{Run, ends}
use Rattle.promise_spec.specs.Programs.{shape_in}
use Rattle.promise_spec.specs.Records.{Commit, AreRecordsOf}
use Rattle.promise_spec.specs.Entries.{Log, grown}
use Rattle.promise_spec.specs.Logs.{StandsUpTo, IsLog}
use Rattle.promise_spec.specs.Crashes.{IsAside}
use Rattle.promise_spec.specs.Cores.{how_many}
use Rattle.promise_spec.specs.Causes.{RunHasDoubt, is_unsealed}
use Rattle.promise_spec.specs.Exits.{HasBlock, DifferAt}
use Rattle.promise_spec.specs.Journals.{CutAt, Backs, commits_of}
use Rattle.promise_laws.specs.Closings.{AllEnd}
use Rattle.batch_disk.specs.ImagesAtRest.{EachImage, SomeImage}
use Rattle.batch_disk.specs.Writers.{KeepsDisk}
use Rattle.batch_disk.specs.declared.writer.BatchWriter.{BatchWriter}
use Rattle.run_books.specs.Beginnings.{Outset}
use Rattle.run_books.specs.Books.{Books, booked_journal}

-- the files that a run in this slot leaves alone are as they were in this world, and each image has this header
pub record LeavesAside (live : ℕ) (head : List ℕ) (old : World) (m : Moment) : Type 0 where
  pub aside : (file : FileId) → IsAside live file → m.disk file ≡ old.disk file
  pub header : EachImage (λ image. take 15 (image (Manager live)) ≡ head) m.disk

-- The block of a batch in doubt, whose records are those of its units to commit: the log is the one before it, or has it last. In
-- each image the one before it stands up to the gate, where no session is above the block's, and its whole block stands behind that;
-- images differ at most there.
pub record HasOpenBlock (live : ℕ) (log : Log) (w : CoreState) (disk : Disk) : Type 0 where
  pub gate : ℕ
  pub batch : List Commit
  pub before : Log
  pub bodies : List (List ℕ)
  pub records : AreRecordsOf (chosen w) batch
  pub log_is : (log ≡ before) ⊎ (log ≡ grown before batch)
  pub reached : ℕ
  pub session : ℕ
  pub follows : reached ≤ session
  pub front : EachImage (λ image. StandsUpTo Two live image before bodies gate reached) disk
  pub block : EachImage (HasBlock live gate session batch) disk
  pub differ : (one other : Image) → IsImage disk one → IsImage disk other → DifferAt gate (one (Manager live)) (other (Manager live))

-- what a crash may leave of the manager file is behind this gate as the file read where the run began
abbrev pub EndsAsBegun : Outset → ℕ → FileState → Type 0
EndsAsBegun o gate file = (bytes : List ℕ) → MayLeave file bytes → drop (gate + 1) bytes ≡ drop (gate + 1) (o.world.disk (Manager o.live)).seen

-- The writer keeps the folder's log, which is the opening's and the books'. Where no batch failed to be sealed, nothing was left
-- behind the log.
pub record KeepsFolder (o : Outset) (head : List ℕ) (b : Books) (r : Run) (writer : BatchWriter) (disk : Disk) : Type 0 where
  pub stood : Log
  pub bodies : List (List ℕ)
  pub log : stood ≡ grown o.opening (commits_of (b.said ++ b.unsaid))
  pub keeps : KeepsDisk o.live (shape_in o.program) head stood bodies writer disk
  pub behind : how_many is_unsealed r ≡ 0 → EndsAsBegun o writer.gate_at (disk (Manager o.live))

-- an image has the batch in doubt, where one may have it
abbrev pub SomeHas : Outset → Books → Disk → Type 0
SomeHas o b disk = b.doubted ≢ [] → SomeImage (λ image. IsLog o.live image (grown o.opening (commits_of (booked_journal b)))) disk

-- The journal since the world behind the opening; whole batches, and other files and the header as they were, at each moment and
-- now; what entries acknowledge stands beside them or before them; the block of a batch in doubt; and, while none is, what the
-- settler's writer keeps.
pub record LastsSo (o : Outset) (head : List ℕ) (b : Books) (r : Run) (writer : BatchWriter) (now : World) : Type 0 where
  pub journal : CutAt o.live o.program o.opening o.world b.said b.unsaid b.doubted b.rest now
  pub backs : Backs (booked_journal b) (commits_of (booked_journal b))
  pub batches : Passes (AllEnd o.live (ends r) o.opening) o.world.past now.past
  pub batches_now : AllEnd o.live (ends r) o.opening (moment_of now)
  pub alone : Passes (LeavesAside o.live head o.world) o.world.past now.past
  pub alone_now : LeavesAside o.live head o.world (moment_of now)
  pub some : SomeHas o b now.disk
  pub block : RunHasDoubt r → HasOpenBlock o.live (grown o.opening (commits_of (booked_journal b))) (ends r) now.disk
  pub folder : writer.in_doubt ≡ false → KeepsFolder o head b r writer now.disk
