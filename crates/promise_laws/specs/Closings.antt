-- What the loop of a run carries to its end, from which `Lasts` follows.
use Rattle.std.specs.Prelude.{◌≡◌, ◌≢◌, ℕ, List, ◌++◌}
use Rattle.host_trait.specs.Disk.{MayLeave, settled}
use Rattle.host_trait.specs.declared.channels.FileId.{FileId}
use Rattle.host_trait.specs.declared.channels.FileId.TheVariants.{Manager}
use Rattle.host_trait.specs.World as host
use Rattle.host_trait.specs.World.{Moment, Image, IsImage, Passes, moment_of, last_of}
use Rattle.core_model.specs.CoreState.{CoreState}
use Rattle.silo_spec.specs.Moments.{IsUntouched}
use Rattle.silo_spec.specs.OpenedDisks.{opened_disk}
use Rattle.promise_spec.specs.Programs.{Program}
use Rattle.promise_spec.specs.Entries.{Log}
use Rattle.promise_spec.specs.Logs.{IsLog}
use Rattle.promise_spec.specs.Openings.{Reads, opened_as}
use Rattle.promise_spec.specs.Cores.{how_many}
use Rattle.promise_spec.specs.Causes.{RunHasDoubt, is_unsealed}
use Rattle.promise_spec.specs.Courses.{Observed, Course, seen_at_entry, core_run, core_end}
use Rattle.promise_spec.specs.Crashes.{LeavesAlone}
use Rattle.promise_spec.specs.Batches.{EndsABatch}
use Rattle.promise_spec.specs.Exits.{BlockInDoubt, EndsAsRead}
use Rattle.promise_spec.specs.Journals.{Settlement, commits_of, Backs}

-- what a read gives is among what a crash may leave, file by file
abbrev pub ReadsMayStay : host.World → Type 0
ReadsMayStay w = (file : FileId) → MayLeave (w.disk file) (w.disk file).seen

-- The world behind the opening: the folder read as this slot and log, no image was added, nothing is pending in the live
-- manager file, all other files are as an opening leaves them, and the early moments end here.
pub record IsBehind (r : Observed) (c : Course) (mid : host.World) : Type 0 where
  pub reads : opened_as (seen_at_entry r) ≡ Reads c.live c.opening
  pub untouched : IsUntouched r.old mid
  pub settled : mid.disk (Manager c.live) ≡ settled (seen_at_entry r (Manager c.live))
  pub others : (file : FileId) → file ≢ Manager c.live → mid.disk file ≡ opened_disk r.old.disk file
  pub early : mid.past ≡ r.old.past ++ c.early
  pub last : last_of (moment_of r.old) c.early ≡ moment_of mid
  pub late : r.new.past ≡ mid.past ++ c.late

-- the log of each image of the moment ends where a batch does, as the core has closed them
abbrev pub AllEnd : ℕ → CoreState → Log → Moment → Type 0
AllEnd live w opening m = (image : Image) (log : Log) → IsImage m.disk image → IsLog live image log → EndsABatch w opening log

-- what is carried beside the journal itself: at each moment since, and now, whole batches, and other files and the header as
-- they were
pub record Carries (p : Program) (r : Observed) (c : Course) (mid : host.World) (journal : List Settlement) : Type 0 where
  pub commits : c.added ≡ commits_of journal
  pub backs : Backs journal c.added
  pub batches : Passes (AllEnd c.live (core_end p c) c.opening) mid.past r.new.past
  pub batches_now : AllEnd c.live (core_end p c) c.opening (moment_of r.new)
  pub alone : Passes (LeavesAlone c.live r) mid.past r.new.past
  pub alone_now : LeavesAlone c.live r (moment_of r.new)
  pub block : RunHasDoubt (core_run p c) → BlockInDoubt c.live r c (core_end p c)
  pub behind : how_many is_unsealed (core_run p c) ≡ 0 → (image : Image) → IsImage r.new.disk image → EndsAsRead c.live r image
