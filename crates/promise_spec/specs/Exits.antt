-- The exit clause: the log at the end of a run, and what is in doubt.
use Rattle.std.specs.Prelude.{◌≡◌, ◌≢◌, ◌⊎◌, ℕ, ◌+◌, ◌≤◌, List, length, map, take, drop, slice_index, Some}
use Rattle.base_types.specs.declared.entries.Entry.{Entry}
use Rattle.base_types.specs.declared.entries.Settled.TheVariants.{InDoubt}
use Rattle.core_model.specs.CoreState.{UnitNo, Member, CoreState}
use Rattle.core_model.specs.SerialOrder.{chosen}
use Rattle.gate_block.specs.Blocks.{block_of}
use Rattle.gate_block.specs.Log.{gate_of}
use Rattle.host_trait.specs.declared.channels.Channel.TheVariants.{File}
use Rattle.host_trait.specs.declared.channels.FileId.TheVariants.{Manager}
use Rattle.host_trait.specs.Faults.{Rose}
use Rattle.host_trait.specs.World.{Image, IsImage}
use Rattle.field_codec.specs.declared.formats.Format.TheVariants.{Two}
use Rattle.promise_spec.specs.Records.{Commit, AreRecordsOf}
use Rattle.promise_spec.specs.Entries.{Log, records_of, grown}
use Rattle.promise_spec.specs.Blocks.{Records, body_of}
use Rattle.promise_spec.specs.Logs.{StandsUpTo, IsLog}
use Rattle.promise_spec.specs.Programs.{Program}
use Rattle.promise_spec.specs.Endings.{EndingMayDoubt}
use Rattle.promise_spec.specs.Cores.{how_many}
use Rattle.promise_spec.specs.Courses.{Observed, Course, order, seen_at_entry, core_run, core_end}
use Rattle.promise_spec.specs.Causes.{RunHasDoubt, is_unsealed}
use Rattle.promise_spec.specs.Replies.{HasNoRecord}

-- the units to commit of the batch in doubt, in their order
abbrev pub units_in_doubt : CoreState → List UnitNo
units_in_doubt w = map (λ e. e.unit) (chosen w)

-- the records are those of these units, one for each
abbrev pub AreOf : List UnitNo → List Commit → Type 0
AreOf units log = map (λ l. l.logged.unit) log ≡ units

-- the log lacks the records of the batch in doubt, which stand last in the order
pub record LogLacksDoubt (c : Course) (w : CoreState) (log : Log) : Type 0 where
  pub begins : ℕ
  pub doubt : w.manager.doubt ≡ Some begins
  pub last : List Commit
  pub split : order c ≡ grown log last
  pub units : AreOf (units_in_doubt w) last

-- the image has the whole order as its log, or the order without the records of the batch in doubt
pub record HasLogAtExit (c : Course) (w : CoreState) (image : Image) : Type 0 where
  pub log : Log
  pub is : IsLog c.live image log
  pub which : (log ≡ order c) ⊎ LogLacksDoubt c w log

-- Where images have different logs the live manager file's count of faults rose, the ending is one of three, and each
-- unit of the batch is told to be in doubt or has no entry.
pub record ImagesMayDiffer (live : ℕ) (r : Observed) (c : Course) (w : CoreState) : Type 0 where
  pub rose : Rose (r.faults_before (File (Manager live))) (r.faults_after (File (Manager live)))
  pub ending : EndingMayDoubt r.ending
  pub told : (e : Entry) → Member e c.entries → Member e.unit (units_in_doubt w) → e.what ≡ InDoubt

-- no image at the exit has a record of the unit
abbrev pub IsNowhere : ℕ → Observed → UnitNo → Type 0
IsNowhere live r u =
    (image : Image) (log : Log) (l : Commit) → IsImage r.new.disk image → IsLog live image log →
    Member l (records_of log) → l.logged.unit ≢ u

-- the whole block of a batch, with this session, stands behind a gate of the live manager file, which is open or not
abbrev pub HasBlock : ℕ → ℕ → ℕ → List Commit → Image → Type 0
HasBlock live gate session batch image =
    take (length (block_of (body_of Two (Records session batch)))) (drop (gate + 1) (image (Manager live))) ≡ block_of (body_of Two (Records session batch))

-- the two manager files differ at most in this byte
pub record DifferAt (gate : ℕ) (one other : List ℕ) : Type 0 where
  pub long : length one ≡ length other
  pub same : (i : ℕ) → i ≢ gate → slice_index one i ≡ slice_index other i

-- The batch has the records of the units to commit of the batch in doubt, and the order is the log before it, or that with
-- the batch. In every image at the exit that log stands up to the gate, the batch's whole block stands behind it, whose session isn't
-- below the greatest that the log reached, and the images differ at most in the gate.
pub record BlockInDoubt (live : ℕ) (r : Observed) (c : Course) (w : CoreState) : Type 0 where
  pub gate : ℕ
  pub batch : List Commit
  pub before : Log
  pub bodies : List (List ℕ)
  pub reached : ℕ
  pub session : ℕ
  pub follows : reached ≤ session
  pub records : AreRecordsOf (chosen w) batch
  pub log : (order c ≡ before) ⊎ (order c ≡ grown before batch)
  pub front : (image : Image) → IsImage r.new.disk image → StandsUpTo Two live image before bodies gate reached
  pub block : (image : Image) → IsImage r.new.disk image → HasBlock live gate session batch image
  pub differ : (one other : Image) → IsImage r.new.disk one → IsImage r.new.disk other →
      DifferAt gate (one (Manager live)) (other (Manager live))

-- Behind the gate at which its log ends, the image's live manager file is as that file read at the entry: it ends there, where
-- the file ended there.
abbrev pub EndsAsRead : ℕ → Observed → Image → Type 0
EndsAsRead live r image = drop (gate_of (image (Manager live)) + 1) (image (Manager live))
    ≡ drop (gate_of (image (Manager live)) + 1) (seen_at_entry r (Manager live))

-- The log at the exit, where lines are in doubt too. Where no batch failed to be sealed, nothing was left behind the log.
pub record IsExit (p : Program) (r : Observed) (c : Course) : Type 0 where
  pub logs : (image : Image) → IsImage r.new.disk image → HasLogAtExit c (core_end p c) image
  pub doubt : (one other : Image) (a b : Log) → IsImage r.new.disk one → IsImage r.new.disk other →
      IsLog c.live one a → IsLog c.live other b → a ≢ b → ImagesMayDiffer c.live r c (core_end p c)
  pub nowhere : (e : Entry) → Member e c.entries → e.what ≡ InDoubt → IsNowhere c.live r e.unit → HasNoRecord c e.unit
  pub block : RunHasDoubt (core_run p c) → BlockInDoubt c.live r c (core_end p c)
  pub behind : how_many is_unsealed (core_run p c) ≡ 0 → (image : Image) → IsImage r.new.disk image → EndsAsRead c.live r image
