-- What stands after a batch was to be sealed, by the answer.
use Rattle.std.specs.Prelude.{◌≡◌, ◌⊎◌, ◌+◌, ◌≤◌, ◌==◌, nat_lt, ℕ, Bool, IsTrue, true, false, ◌&&◌, ◌||◌, not, List, [], ◌∷◌, ◌++◌, length, slice_index}
use Rattle.base_types.specs.Places.{placed_in}
use Rattle.base_types.specs.declared.calls.GrainId.{GrainId}
use Rattle.base_types.specs.declared.shapes.Shape.{Shape}
use Rattle.host_trait.specs.declared.channels.Channel.{Channel}
use Rattle.host_trait.specs.Disk.{FileState, Tears}
use Rattle.host_trait.specs.World.{World, Image, IsImage, Passes, moment_of}
use Rattle.host_trait.specs.Runs.{RunsOnFile}
use Rattle.field_codec.specs.declared.formats.Format.TheVariants.{Two}
use Rattle.commit_log.specs.declared.records.CommitRecord.{CommitRecord}
use Rattle.commit_log.specs.declared.gate.Sealing.{Sealing}
use Rattle.commit_log.specs.declared.gate.Sealing.TheVariants.{Sealed, NotSealed, InDoubt}
use Rattle.commit_log.specs.SealImages.{SealHasCause}
use Rattle.core_model.specs.declared.effects.Effect.{Effect}
use Rattle.host_trait.specs.declared.channels.FileId.TheVariants.{Manager}
use Rattle.promise_spec.specs.Records.{Commit, AreRecordsOf}
use Rattle.promise_spec.specs.Entries.{Log, grown}
use Rattle.promise_spec.specs.Blocks.{Records, body_of}
use Rattle.promise_spec.specs.Logs.{StandsUpTo, IsLog}
use Rattle.promise_spec.specs.Exits.{HasBlock, DifferAt}
use Rattle.std.specs.List.{flat_map, AllByRecursion}
use Rattle.batch_disk.specs.ImagesAtRest.{EachImage, SomeImage, raised_ends}
use Rattle.batch_disk.specs.KeptPlaces.{PlacesStand}
use Rattle.batch_disk.specs.Moments.{LeavesRest, KeepsLog, IsSeam}
use Rattle.batch_disk.specs.MovedPlaces.{place_after}
use Rattle.batch_disk.specs.Writers.{file_end, kept_of, voted_of, HasSameEnds, KeepsDisk, newest_number}
use Rattle.batch_disk.specs.Records.{commits_by, AreRecordsFor, MayBeLogged, IsAsWritten}
use Rattle.batch_disk.specs.declared.records.SealWork.{SealWork}
use Rattle.batch_disk.specs.declared.writer.BatchWriter.{BatchWriter}

-- whether an offset lies in none of these ranges
abbrev pub is_untouched : List (ℕ × ℕ) → ℕ → Bool
is_untouched [] i = true
is_untouched (range ∷ ranges) i = (nat_lt i range.0 || not (nat_lt i (range.0 + range.1))) && is_untouched ranges i

-- whether a crash may leave a file with this gate open: it can't where the byte of the last sync is there, closed, and nothing
-- was written over it since
abbrev pub may_open : ℕ → FileState → Bool
may_open gate file = not ((nat_lt gate (length file.base) && is_untouched file.ranges gate) && not (slice_index file.base gate == 1))

-- at each moment and now no image has the batch: the gate was never written
pub record NoneHas (live : ℕ) (head : List ℕ) (log : Log) (old new : World) : Type 0 where
  pub moments : Passes (KeepsLog live head log old) old.past new.past
  pub logs : EachImage (λ image. IsLog live image log) new.disk

-- In doubt, in this session, above which none is so far. Each image's log is as it was, or has the batch whole; the batch's whole block
-- stands behind the gate in each, and they differ at most in that gate. The gate was never written, and no crash may leave it open, or some image has the batch.
pub record IsSealInDoubt (live : ℕ) (head : List ℕ) (log : Log) (bodies : List (List ℕ)) (batch : List Commit) (gate session : ℕ) (old new : World) : Type 0 where
  pub rest : LeavesRest live head old (moment_of new)
  pub logs : EachImage (λ image. IsLog live image log ⊎ IsLog live image (grown log batch)) new.disk
  pub reached : ℕ
  pub later : reached ≤ session
  pub front : EachImage (λ image. StandsUpTo Two live image log bodies gate reached) new.disk
  pub block : EachImage (HasBlock live gate session batch) new.disk
  pub differ : (one other : Image) → IsImage new.disk one → IsImage new.disk other → DifferAt gate (one (Manager live)) (other (Manager live))
  pub which : ((may_open gate (new.disk (Manager live)) ≡ false) × NoneHas live head log old new)
      ⊎ ((may_open gate (new.disk (Manager live)) ≡ true) × SomeImage (λ image. IsLog live image (grown log batch)) new.disk)

-- Sealed: each image has the batch. Not sealed: none has it, at no moment. In doubt: as above.
abbrev pub StandsAfter : ℕ → Shape → List ℕ → Log → List (List ℕ) → List Commit → Sealing → BatchWriter → BatchWriter → World → World → Type 0
StandsAfter live shape head log bodies batch (Sealed next) before after old new = KeepsDisk live shape head (grown log batch) (bodies ++ body_of Two (Records before.session batch) ∷ []) after new.disk
StandsAfter live shape head log bodies batch NotSealed before after old new =
    Passes (KeepsLog live head log old) old.past new.past × KeepsDisk live shape head log bodies after new.disk
StandsAfter live shape head log bodies batch InDoubt before after old new = IsSealInDoubt live head log bodies batch before.gate_at before.session old new

-- What sealing these units does, of whom these records were made: there are their records, which are those, and at each moment
-- each image has the log that it had, or it with all of them; and after it, by the answer.
pub record SealsAs (live : ℕ) (shape : Shape) (head : List ℕ) (log : Log) (bodies : List (List ℕ)) (effects : List Effect) (made : List CommitRecord) (answer : Sealing) (before after : BatchWriter) (old new : World) : Type 0 where
  pub batch : List Commit
  pub made_of : batch ≡ commits_by effects made
  pub records : AreRecordsOf effects batch
  pub moments : Passes (IsSeam live head log batch old) old.past new.past
  pub stands : StandsAfter live shape head log bodies batch answer before after old new

-- What becomes of the writer, which stays in its slot and session. Sealed: the next gate is the answer's, the records' places count, and
-- nothing is kept. Not sealed: nothing is kept. In doubt: all is as it was, but for the doubt.
abbrev pub WriterAfter : Sealing → List CommitRecord → BatchWriter → BatchWriter → Type 0
WriterAfter (Sealed next) records old new = (new.gate_at ≡ next)
    × (((g : GrainId) → file_end new g ≡ raised_ends (file_end old) (flat_map (λ r. r.writes) records) g) × ((new.in_doubt ≡ old.in_doubt) × (kept_of new ≡ [])))
WriterAfter NotSealed records old new = HasSameEnds old new × (kept_of new ≡ [])
WriterAfter InDoubt records old new = new ≡ record old { in_doubt = true }

-- What sealing this work does, by the answer: two writes and two syncs at most, of the manager file from the gate on, and no other file
-- and no output changes. At each moment each image has the log that it had, or it with the records of these units, all of them whole.
-- Not sealed and in doubt are faults of the manager file, and of nothing else. Sealed, the last version of each grain that the units
-- wrote is the last of theirs, and no other moves. What stands at the places that are kept stands there after it too.
pub record SealsWork {H : Type 0} (tells : Bool) (world : H → World) (faults : H → Channel → ℕ) (live : ℕ) (work : SealWork) (answer : Sealing) (before after : BatchWriter) (old new : H) : Type 0 where
  pub run : IsTrue tells → RunsOnFile (Manager live) (Tears before.gate_at (length work.block + 1)) 2 (world old) (world new)
  pub twice : IsTrue tells → (next : ℕ) → answer ≡ Sealed next → (world new).syncs ≡ (world old).syncs + 2
  pub seals : IsTrue tells → (shape : Shape) (head : List ℕ) (log : Log) (bodies : List (List ℕ)) (batch : ℕ) (effects : List Effect)
      → AreRecordsFor (voted_of batch before) effects work.records
      → AllByRecursion (MayBeLogged shape) effects → AllByRecursion (IsAsWritten (voted_of batch before)) effects
      → KeepsDisk live shape head log bodies before (world old).disk
      → SealsAs live shape head log bodies effects work.records answer before after (world old) (world new)
  pub placed : IsTrue tells → (shape : Shape) → PlacesStand live shape before (world old).disk → PlacesStand live shape after (world new).disk
  pub places : (batch : ℕ) (effects : List Effect) → AreRecordsFor (voted_of batch before) effects work.records → AllByRecursion (IsAsWritten (voted_of batch before)) effects
      → (g : GrainId) → placed_in after.places g ≡ place_after (newest_number before) answer (commits_by effects work.records) g (placed_in before.places g)
  pub slot : after.slot ≡ before.slot
  pub session : after.session ≡ before.session
  pub programs : after.programs ≡ before.programs
  pub after_is : WriterAfter answer work.records before after
  pub cause : SealHasCause live answer before.gate_at (length work.block) (faults old) (faults new)
