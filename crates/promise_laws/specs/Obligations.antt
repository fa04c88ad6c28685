-- What a run has to show, so that it keeps its promise: the rest follows.
use Rattle.std.specs.Prelude.{◌≡◌, ◌≢◌, ◌+◌, ◌≤◌, false, List, [], ◌++◌}
use Rattle.base_types.specs.declared.entries.Entry.{Entry}
use Rattle.base_types.specs.declared.entries.Settled.TheVariants.{InDoubt}
use Rattle.host_trait.specs.declared.channels.FileId.{FileId}
use Rattle.host_trait.specs.World.{Moment, Image, IsImage, moment_of, last_of}
use Rattle.core_model.specs.CoreState.{Member}
use Rattle.core_model.specs.LegalRuns.{begins}
use Rattle.core_model.specs.SerialOrder.{AllLoadsTrue}
use Rattle.request_wire.specs.Lines.{lines_of}
use Rattle.promise_spec.specs.Programs.{Program, shape_in}
use Rattle.promise_spec.specs.Entries.{Log}
use Rattle.promise_spec.specs.Logs.{IsLog, IsPrefix}
use Rattle.promise_spec.specs.Moments.{IsImageOf}
use Rattle.promise_spec.specs.Outputs.{Grew}
use Rattle.promise_spec.specs.UnitRule.{KeepsUnitRule}
use Rattle.promise_spec.specs.TurnRule.{KeepsTurnRule}
use Rattle.promise_spec.specs.Images.{IsWholeFolder}
use Rattle.promise_spec.specs.Causes.{AreFaults, RunHasDoubt, NoneRose, is_unsealed, syncs_of, most_syncs_of}
use Rattle.promise_spec.specs.Cores.{how_many}
use Rattle.promise_spec.specs.Endings.{WriteFault, DiskFault, HasRisen, IsCarried, IsAllWritten, CountsSyncs, EndingMayDoubt}
use Rattle.promise_spec.specs.Courses.{Observed, Course, order, moments, lines, seen_at_entry, program_in_force, basis, core_run, core_end}
use Rattle.promise_spec.specs.Crashes.{LeavesAlone}
use Rattle.promise_spec.specs.Batches.{EndsABatch}
use Rattle.promise_spec.specs.Replies.{HasNoRecord}
use Rattle.promise_spec.specs.Exits.{HasLogAtExit, IsNowhere, BlockInDoubt, EndsAsRead}
use Rattle.promise_spec.specs.Explanation.{AreAdded, AreSettled, FileMayEndRun, LeavesUnvoted}
use Rattle.promise_spec.specs.Journals.{Settlement, commits_of, entries_of, KeepsJournal, AllLog, Backs}
use Rattle.promise_spec.specs.Promise.{HasRead, IsAnswered}

-- The run opened this log, over a whole folder: the files read as it, and each image at the return of the opening's last
-- sync has it; there is one. Until then nothing was written, and each image was one of those at entry.
pub record Opens (r : Observed) (c : Course) : Type 0 where
  pub folder : IsWholeFolder r.old
  pub read : IsLog c.live (seen_at_entry r) c.opening
  pub opened : AllLog c.live c.opening (last_of (moment_of r.old) c.early).disk
  pub some : Image
  pub possible : IsImage (last_of (moment_of r.old) c.early).disk some
  pub past : r.new.past ≡ r.old.past ++ (c.early ++ c.late)
  pub quiet : (m : Moment) → Member m c.early → m.output ≡ r.old.output
  pub before : (image : Image) → IsImageOf c.early image → IsImage r.old.disk image

-- what an image keeps of a journal was said in these entries
abbrev pub SaysIn : Program → Observed → Course → List Settlement → Moment → Type 0
SaysIn p r c journal m = (image : Image) → IsImage m.disk image →
    (k : KeepsJournal c.live p c.opening r.old.output journal m image) × IsPrefix (entries_of k.said) c.entries

-- The run kept a journal, whose records are those that were added and back what they acknowledge: each image of each
-- moment has a first part of it, which ends where a batch does, and one has the whole of it. Other files and the header
-- stay.
pub record Journals (p : Program) (r : Observed) (c : Course) : Type 0 where
  pub journal : List Settlement
  pub commits : c.added ≡ commits_of journal
  pub backs : Backs journal c.added
  pub kept : (m : Moment) → Member m (moments r c) → SaysIn p r c journal m
  pub batches : (image : Image) (log : Log) → IsImageOf (moments r c) image → IsLog c.live image log →
      EndsABatch (core_end p c) c.opening log
  pub last : Image
  pub left : IsImageOf (moments r c) last
  pub longest : IsLog c.live last (order c)
  pub alone : (m : Moment) → Member m (moments r c) → LeavesAlone c.live r m

-- The records are those of the core's committed units. The events keep the unit rule, and on one thread the turn rule. Each grain
-- that is brought into memory has its last committed version. No more faults show than were counted. A file's fault ends a run only
-- where the file may; and a doubt ends the run. A grain's file is written for a vote alone.
pub record ExplainsEvents (p : Program) (r : Observed) (c : Course) : Type 0 where
  pub records : AreAdded (core_end p c) c.added
  pub units : KeepsUnitRule (basis p r c) (core_run p c)
  pub turns : r.manner.threaded ≡ false → KeepsTurnRule p.types r.windowed c.allowed r.manner.width r.manner.picks (core_run p c)
  pub loads : AllLoadsTrue (core_run p c).opening (begins (core_run p c)) (core_run p c).events
  pub faults : AreFaults c.live (core_run p c) r.faults_before r.faults_after
  pub doubted : (file : FileId) → r.ending ≡ DiskFault file → FileMayEndRun c.live (core_run p c) file
  pub ended : RunHasDoubt (core_run p c) → EndingMayDoubt r.ending
  pub unvoted : LeavesUnvoted c.live p r c

-- The log at the exit: each image has the whole order, or lacks the records of the batch in doubt. A unit that is told to
-- be in doubt and that no image has is in no record, and the block of a batch in doubt stands behind its gate. Where no batch
-- failed to be sealed, nothing was left behind the log.
pub record LeavesAtExit (p : Program) (r : Observed) (c : Course) : Type 0 where
  pub logs : (image : Image) → IsImage r.new.disk image → HasLogAtExit c (core_end p c) image
  pub nowhere : (e : Entry) → Member e c.entries → e.what ≡ InDoubt → IsNowhere c.live r e.unit → HasNoRecord c e.unit
  pub block : RunHasDoubt (core_run p c) → BlockInDoubt c.live r c (core_end p c)
  pub behind : how_many is_unsealed (core_run p c) ≡ 0 → (image : Image) → IsImage r.new.disk image → EndsAsRead c.live r image

-- How it ended: its lines are the input's, no line began before its window was read whole, and where all that is settled was written
-- each line that may begin has its entry; a fault is shown by its count. Where nothing failed, so many syncs were asked for, and
-- never more than so many.
pub record EndsRightly (p : Program) (r : Observed) (c : Course) : Type 0 where
  pub given : lines r ≡ lines_of r.old.input
  pub risen : HasRisen r.ending r.faults_before r.faults_after
  pub carried : IsCarried r.ending
  pub read : HasRead p r c
  pub answered : IsAllWritten r.ending → IsAnswered c
  pub syncs : NoneRose r.faults_before r.faults_after → CountsSyncs r.ending → r.new.syncs ≡ r.old.syncs + syncs_of (seen_at_entry r) (core_run p c)
  pub most : r.new.syncs ≤ r.old.syncs + most_syncs_of (seen_at_entry r) (core_run p c)

-- what a run has to show; the program is that in force
pub record Shows (p : Program) (r : Observed) (c : Course) : Type 0 where
  pub in_force : program_in_force c ≡ p
  pub opens : Opens r c
  pub explains : ExplainsEvents p r c
  pub settled : AreSettled p r c
  pub output : Grew (shape_in p) r.old.output r.new.output c.entries c.rest
  pub whole : r.ending ≢ WriteFault → c.rest ≡ []
  pub journals : Journals p r c
  pub leaves : LeavesAtExit p r c
  pub ends : EndsRightly p r c

-- what a run has to show over any folder that reads as a silo, sound or not: nothing of what the images hold
pub record ShowsAnywhere (p : Program) (r : Observed) (c : Course) : Type 0 where
  pub in_force : program_in_force c ≡ p
  pub explains : ExplainsEvents p r c
  pub settled : AreSettled p r c
  pub output : Grew (shape_in p) r.old.output r.new.output c.entries c.rest
  pub whole : r.ending ≢ WriteFault → c.rest ≡ []
  pub ends : EndsRightly p r c

-- and what it has to show of the images, over a whole folder
pub record Lasts (p : Program) (r : Observed) (c : Course) : Type 0 where
  pub opens : Opens r c
  pub journals : Journals p r c
  pub leaves : LeavesAtExit p r c
