-- How the record of a run is that of a whole run's course.
use Rattle.std.specs.Prelude.{◌≡◌, ◌⊎◌, ◌≤◌, ℕ, Bool, length, Result, Ok, Err}
use Rattle.host_trait.specs.declared.channels.FileId.{FileId}
use Rattle.host_trait.specs.declared.channels.FileId.TheVariants.{Manager}
use Rattle.core_model.specs.LegalRuns.{Run, ends}
use Rattle.promise_spec.specs.Causes.{RunHasDoubt}
use Rattle.promise_spec.specs.Endings.{Ending, Done, WriteFault as Unwritten, DiskFault, Damaged, Memory as NoMemory, EndingMayDoubt, IsAllWritten, IsDiskFault}
use Rattle.promise_spec.specs.Explanation.{FileMayEndRun}
use Rattle.promise_spec.specs.Courses.{Observed, Course, core_run}
use Rattle.promise_spec.specs.Journals.{commits_of, entries_of}
use Rattle.settle_loop.specs.declared.settler.Settler.{Settler}
use Rattle.run_books.specs.declared.faults.RunFault.{RunFault}
use Rattle.run_books.specs.declared.faults.RunFault.TheVariants.{InDoubt, WriteFault, LoadFault, LoadDamaged, Memory}
use Rattle.run_books.specs.Beginnings.{Outset}
use Rattle.run_books.specs.Books.{Books, booked_journal}
use Rattle.run_books.specs.Records.{KeepsRecord}
use Rattle.run_books.specs.Stages.{stage_by}

-- the ending of a whole run in this slot whose turns were answered so
abbrev pub turns_ending : {T : Type 0} → ℕ → Result T RunFault → Ending
turns_ending live (Ok done) = Done
turns_ending live (Err InDoubt) = DiskFault (Manager live)
turns_ending live (Err WriteFault) = Unwritten
turns_ending live (Err (LoadFault file)) = DiskFault file
turns_ending live (Err (LoadDamaged file place)) = Damaged file place
turns_ending live (Err Memory) = NoMemory

-- A whole run may end so: by a file's fault only where the file may end it, with a batch in doubt only as one that may, and as one in which
-- all that is settled was written only where it was.
pub record EndsSo (o : Outset) (r : Run) (ending : Ending) : Type 0 where
  pub doubted : (file : FileId) → ending ≡ DiskFault file → FileMayEndRun o.live r file
  pub ended : RunHasDoubt r → EndingMayDoubt ending
  pub written : IsAllWritten ending ⊎ (IsDiskFault ending × RunHasDoubt r) → length (ends r).manager.settled ≤ (ends r).manager.emitted

-- What a whole run shows, and its course, are what the turns' outset and books say.
pub record IsCourseOf (o : Outset) (b : Books) (r : Run) (seen : Observed) (c : Course) : Type 0 where
  pub live : c.live ≡ o.live
  pub opening : c.opening ≡ o.opening
  pub added : c.added ≡ commits_of (booked_journal b)
  pub entries : c.entries ≡ entries_of b.said
  pub rest : c.rest ≡ b.rest
  pub run : core_run o.program c ≡ r
  pub asked : seen.asked ≡ o.asked
  pub width : seen.manner.width ≡ o.width
  pub picks : seen.manner.picks ≡ o.picks
  pub before : seen.faults_before ≡ o.faults
  pub output : seen.old.output ≡ o.world.output

-- The record of a run is kept where a whole run was seen to end, and this is that run's course.
pub record IsRecorded (tells : Bool) (o : Outset) (b : Books) (r : Run) (settler : Settler) (seen : Observed) (c : Course) : Type 0 where
  pub kept : KeepsRecord tells o b (stage_by r settler seen.faults_after seen.new)
  pub course : IsCourseOf o b r seen c
