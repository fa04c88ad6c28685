-- A run of two lines, of which the second meets the first one's lock, and the first is left in doubt.
use Rattle.std.specs.Prelude.{◌≡◌, ℕ, ◌≤◌, ◌≢◌, ◌+◌, true, false, List, [], ◌∷◌, ◌++◌, length, None}
use Rattle.std.specs.List.{AllByRecursion}
use Rattle.host_trait.specs.declared.channels.Channel.{Channel}
use Rattle.host_trait.specs.declared.channels.Channel.TheVariants.{File}
use Rattle.host_trait.specs.World.{Moment, Image, IsImage, moment_of}
use Rattle.silo_spec.specs.Silos.{manager}
use Rattle.request_wire.specs.Lines.{lines_of}
use Rattle.silo_spec.specs.OpenedDisks.{opening_syncs}
use Rattle.promise_spec.specs.Programs.{shape_in}
use Rattle.promise_spec.specs.Windows.{first_bad}
use Rattle.field_codec.specs.declared.formats.Format.TheVariants.{Two}
use Rattle.promise_spec.specs.Logs.{IsLog, StandsUpTo}
use Rattle.promise_spec.specs.Outputs.{reply_lines}
use Rattle.promise_spec.specs.Endings.{DiskFault}
use Rattle.promise_spec.specs.Crashes.{LeavesAlone}
use Rattle.promise_spec.specs.Courses.{Observed, Course, seen_at_entry, lines}
use Rattle.promise_spec.specs.Exits.{HasBlock, DifferAt}
use Rattle.promise_examples.specs.Examples.{account_log, account_program, first_commit, locked_entry, conflict_entries, conflict_events, AskDeposits}
use Rattle.promise_examples.specs.DepositRuns.{HasNone, HasDeposit, MayHaveDeposit, LeavesOthers, IsBetween}

-- what a run has written when the second line is told
abbrev pub first_told : Observed → List ℕ
first_told r = r.old.output ++ reply_lines (shape_in account_program) (locked_entry ∷ [])

-- The files read as an empty log at entry. The run synced it, wrote that the second line met a lock, and then failed
-- to open the gate of the first line's block: from then on each image has the deposit or not, and at the exit the whole
-- block, and one has it. It wrote that the first line is in doubt. The manager file's count of faults rose by one, and no
-- other.
pub record IsDoubtRun (r : Observed) (opened : Moment) (told doubting : List Moment) : Type 0 where
  pub ending : r.ending ≡ DiskFault manager
  pub pair : (r.manner.threaded ≡ false) × (r.manner.width ≡ 2) × (r.manner.picks ≡ 0 ∷ 1 ∷ 1 ∷ [])
  pub two : length (lines r) ≡ 2
  pub given : lines r ≡ lines_of r.old.input
  pub windowed : r.windowed ≡ true
  pub good : first_bad 0 (lines r) ≡ None
  pub asks : AskDeposits (lines r)
  pub left : r.new.input ≡ []
  pub read : IsLog 0 (seen_at_entry r) (account_log [])
  pub past : r.new.past ≡ r.old.past ++ (opened ∷ (told ++ doubting ++ moment_of r.new ∷ []))
  pub quiet : opened.output ≡ r.old.output
  pub output : r.new.output ≡ r.old.output ++ reply_lines (shape_in account_program) conflict_entries
  pub entry : (image : Image) → IsImage opened.disk image → IsImage r.old.disk image × HasNone image
  pub none : AllByRecursion (IsBetween r (first_told r) HasNone) told
  pub either : AllByRecursion (IsBetween r (first_told r) MayHaveDeposit) doubting
  pub exit : (image : Image) → IsImage r.new.disk image → MayHaveDeposit image
  pub front : (image : Image) → IsImage r.new.disk image → StandsUpTo Two 0 image (account_log []) [] 15 0
  pub block : (image : Image) → IsImage r.new.disk image → HasBlock 0 15 1 (first_commit ∷ []) image
  pub differ : (one other : Image) → IsImage r.new.disk one → IsImage r.new.disk other →
      DifferAt 15 (one manager) (other manager)
  pub alone : LeavesAlone 0 r opened × LeavesAlone 0 r (moment_of r.new)
  pub apart : LeavesOthers r opened × LeavesOthers r (moment_of r.new)
  pub syncs : r.new.syncs ≤ r.old.syncs + (opening_syncs (seen_at_entry r) + 3)
  pub some : Image
  pub possible : IsImage r.new.disk some
  pub there : HasDeposit some
  pub rose : r.faults_after (File manager) ≡ r.faults_before (File manager) + 1
  pub others : (channel : Channel) → channel ≢ File manager → r.faults_after channel ≡ r.faults_before channel

-- the course of such a run
abbrev pub doubt_course : Moment → List Moment → List Moment → Observed → Course
doubt_course opened told doubting r = record {
  live = 0;
  opening = account_log [];
  added = first_commit ∷ [];
  early = opened ∷ [];
  late = told ++ doubting ++ moment_of r.new ∷ [];
  allowed = length (lines r);
  events = conflict_events;
  entries = conflict_entries;
  rest = [];
}
