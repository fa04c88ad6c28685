-- The causes clause: a list of core events shows why each line ended as it did.
use Rattle.std.specs.Prelude.{◌≡◌, ◌⊎◌, ℕ, ◌≤◌, false, List, [], ◌++◌, length, slice_get, Some}
use Rattle.base_types.specs.declared.calls.GrainId.{GrainId}
use Rattle.base_types.specs.declared.entries.Entry.{Entry}
use Rattle.base_types.specs.declared.shapes.Shape.{Shape}
use Rattle.core_model.specs.CoreState.{CoreState, Member}
use Rattle.core_model.specs.SerialOrder.{committed, chosen, AllLoadsTrue}
use Rattle.core_model.specs.WantedGrains.{next_wanted}
use Rattle.core_model.specs.LegalRuns.{Run, begins}
use Rattle.host_trait.specs.declared.channels.FileId.{FileId}
use Rattle.host_trait.specs.declared.channels.FileId.TheVariants.{Manager, Grain}
use Rattle.host_trait.specs.World.{Moment, Image}
use Rattle.promise_spec.specs.Records.{Commit, AreRecordsOf}
use Rattle.promise_spec.specs.Entries.{Log, records_of, standing_of}
use Rattle.promise_spec.specs.Logs.{IsLog, IsPrefix}
use Rattle.request_wire.specs.Reply.{reply_line}
use Rattle.promise_spec.specs.Programs.{Program, shape_in}
use Rattle.promise_spec.specs.Endings.{DiskFault, IsAllWritten, IsDiskFault, EndingMayDoubt}
use Rattle.promise_spec.specs.UnitRule.{KeepsUnitRule}
use Rattle.promise_spec.specs.TurnRule.{KeepsTurnRule}
use Rattle.promise_spec.specs.Cores.{how_many, state_before}
use Rattle.promise_spec.specs.Causes.{AreCaused, AreFaults, RunHasDoubt, is_vote_of}
use Rattle.promise_spec.specs.Moments.{IsImageOf}
use Rattle.promise_spec.specs.Family.{IsFamily}
use Rattle.promise_spec.specs.Batches.{EndsABatch}
use Rattle.promise_spec.specs.Courses.{Observed, Course, order, moments, lines, basis, core_run, core_end}

-- the records of the batch in doubt follow those of the committed units
pub record RecordsInDoubt (w : CoreState) (added : List Commit) : Type 0 where
  pub begins : ℕ
  pub doubt : w.manager.doubt ≡ Some begins
  pub records : AreRecordsOf (committed w ++ chosen w) added

-- what the run added to the order is the records of the committed units, and, where an image has it, of the batch in
-- doubt
abbrev pub AreAdded : CoreState → List Commit → Type 0
AreAdded w added = AreRecordsOf (committed w) added ⊎ RecordsInDoubt w added

-- The records of the order come from the core's events: those that the run added come from the lines, call by call, and
-- each image's log is the opening log and whole batches behind it.
pub record ComeOfEvents (p : Program) (r : Observed) (c : Course) : Type 0 where
  pub family : IsFamily p.types (lines r) (core_end p c) (standing_of c.opening).states (records_of (order c)) c.added
  pub whole : (image : Image) (log : Log) → IsImageOf (moments r c) image → IsLog c.live image log →
      EndsABatch (core_end p c) c.opening log

-- all that is settled has been written, or the run ended with a batch in doubt
abbrev pub EndsWritten : Program → Observed → Course → Type 0
EndsWritten p r c = IsAllWritten r.ending ⊎ (IsDiskFault r.ending × RunHasDoubt (core_run p c))

-- where the output was cut within a line, it is that of the next entry that the core settled
abbrev pub IsCutShort : Shape → List Entry → Course → Type 0
IsCutShort shape settled c =
    (c.rest ≡ []) ⊎ ((e : Entry) × (slice_get settled (length c.entries) ≡ Some e) × IsPrefix c.rest (reply_line shape e))

-- The entries are a first part of those that the core settles, all of them where the run ended so, and no fewer than
-- the core was told to be written; a line that was cut short is the next one's.
pub record AreSettled (p : Program) (r : Observed) (c : Course) : Type 0 where
  pub entries : IsPrefix c.entries (core_end p c).manager.settled
  pub all : EndsWritten p r c → c.entries ≡ (core_end p c).manager.settled
  pub told : (core_end p c).manager.emitted ≤ length c.entries
  pub cut : IsCutShort (shape_in p) (core_end p c).manager.settled c

-- at some state of the run the grain was wanted and not in memory, and was the lowest such
abbrev pub IsUnloaded : Run → GrainId → Type 0
IsUnloaded run g = (at : ℕ) × (at ≤ length run.events) × (next_wanted (state_before run at) ≡ Some g)

-- a file whose fault may end a run: the live manager file, with a batch in doubt; or, without one, that of a grain that had to be
-- brought into memory
abbrev pub FileMayEndRun : ℕ → Run → FileId → Type 0
FileMayEndRun live run file = ((file ≡ Manager live) × RunHasDoubt run)
    ⊎ ((g : GrainId) × (file ≡ Grain live g) × IsUnloaded run g × (RunHasDoubt run → ⊥))

-- where no event votes on a grain's file, it is as it was at entry at each moment
abbrev pub LeavesUnvoted : ℕ → Program → Observed → Course → Type 0
LeavesUnvoted live p r c =
    (g : GrainId) (m : Moment) → how_many (is_vote_of g) (core_run p c) ≡ 0 → Member m (moments r c) → m.disk (Grain live g) ≡ r.old.disk (Grain live g)

-- The records are those of the core's committed units. The events keep the unit rule, and on one thread the turn rule. Each grain
-- that is brought into memory has its last committed version. Each abort has its cause, and no more faults than were counted. A
-- file's fault ends a run only where the file may; and a doubt ends the run. A grain's file is written for a vote alone.
pub record IsExplained (p : Program) (r : Observed) (c : Course) : Type 0 where
  pub records : AreAdded (core_end p c) c.added
  pub units : KeepsUnitRule (basis p r c) (core_run p c)
  pub turns : r.manner.threaded ≡ false → KeepsTurnRule p.types r.windowed c.allowed r.manner.width r.manner.picks (core_run p c)
  pub loads : AllLoadsTrue (core_run p c).opening (begins (core_run p c)) (core_run p c).events
  pub caused : AreCaused (core_run p c)
  pub faults : AreFaults c.live (core_run p c) r.faults_before r.faults_after
  pub doubted : (file : FileId) → r.ending ≡ DiskFault file → FileMayEndRun c.live (core_run p c) file
  pub doubt_ends : RunHasDoubt (core_run p c) → EndingMayDoubt r.ending
  pub unvoted : LeavesUnvoted c.live p r c
