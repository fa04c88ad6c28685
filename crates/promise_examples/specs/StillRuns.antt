-- A run that leaves the folder as it opened it, and writes nothing.
use Rattle.std.specs.Prelude.{◌≡◌, ◌+◌, ℕ, List, [], ◌∷◌, ◌++◌}
use Rattle.base_types.specs.declared.calls.GrainId.{GrainId}
use Rattle.core_model.specs.declared.events.CoreEvent.{CoreEvent}
use Rattle.host_trait.specs.declared.channels.FileId.TheVariants.{Grain}
use Rattle.host_trait.specs.World.{Image, IsImage, moment_of}
use Rattle.request_wire.specs.Lines.{lines_of}
use Rattle.silo_spec.specs.OpenedDisks.{opening_syncs}
use Rattle.promise_spec.specs.Programs.{Program}
use Rattle.promise_spec.specs.Logs.{IsLog}
use Rattle.promise_spec.specs.Images.{IsSoundIfSilo}
use Rattle.promise_spec.specs.Crashes.{LeavesAlone}
use Rattle.promise_spec.specs.Courses.{Observed, Course, seen_at_entry, lines}
use Rattle.promise_spec.specs.Exits.{EndsAsRead}
use Rattle.promise_spec.specs.Entries.{Log, standing_of}

-- The files read as this log at entry, at whose end this program is in force. Each image is one of those at entry, has this log, ends
-- behind it as the file read, and is sound; there is one. The run wrote nothing, and asked for no sync but the opening's. No grain's
-- file, no other file and no header changed.
pub record IsStillRun (p : Program) (r : Observed) (opening : Log) : Type 0 where
  pub given : lines r ≡ lines_of r.old.input
  pub output : r.new.output ≡ r.old.output
  pub syncs : r.new.syncs ≡ r.old.syncs + opening_syncs (seen_at_entry r)
  pub read : IsLog 0 (seen_at_entry r) opening
  pub in_force : (standing_of opening).program ≡ p
  pub synced : r.new.past ≡ r.old.past ++ moment_of r.new ∷ []
  pub entry : (image : Image) → IsImage r.new.disk image → IsImage r.old.disk image
  pub logs : (image : Image) → IsImage r.new.disk image → IsLog 0 image opening
  pub behind : (image : Image) → IsImage r.new.disk image → EndsAsRead 0 r image
  pub sound : (image : Image) → IsImage r.new.disk image → IsSoundIfSilo image
  pub alone : LeavesAlone 0 r (moment_of r.new)
  pub unwritten : (g : GrainId) → r.new.disk (Grain 0 g) ≡ r.old.disk (Grain 0 g)
  pub some : Image
  pub possible : IsImage r.new.disk some

-- the course of such a run, of which so many lines may begin: nothing was added, and these events came
abbrev pub still_course : Observed → Log → ℕ → List CoreEvent → Course
still_course r opening allowed events =
    record { live = 0; opening = opening; added = []; early = moment_of r.new ∷ []; late = []; allowed = allowed; events = events; entries = []; rest = [] }
