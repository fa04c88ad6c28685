-- A run of two lines, of which the first one's file can't be written, and the second read what the first left.
use Rattle.std.specs.Prelude.{◌≡◌, ◌≤◌, ◌≢◌, ◌+◌, true, false, List, [], ◌∷◌, ◌++◌, length, None}
use Rattle.std.specs.List.{AllByRecursion}
use Rattle.host_trait.specs.declared.channels.Channel.{Channel}
use Rattle.host_trait.specs.declared.channels.Channel.TheVariants.{File}
use Rattle.host_trait.specs.declared.channels.FileId.TheVariants.{Grain}
use Rattle.host_trait.specs.World.{Moment, Image, IsImage, moment_of}
use Rattle.request_wire.specs.Lines.{lines_of}
use Rattle.silo_spec.specs.OpenedDisks.{opening_syncs}
use Rattle.promise_spec.specs.Programs.{shape_in}
use Rattle.promise_spec.specs.Windows.{first_bad}
use Rattle.promise_spec.specs.Logs.{IsLog}
use Rattle.promise_spec.specs.Outputs.{reply_lines}
use Rattle.promise_spec.specs.Endings.{Done}
use Rattle.promise_spec.specs.Crashes.{LeavesAlone}
use Rattle.promise_spec.specs.Courses.{Observed, Course, seen_at_entry, lines}
use Rattle.promise_spec.specs.Exits.{EndsAsRead}
use Rattle.promise_examples.specs.Examples.{account_log, account_program, account_1, voted_entry, vote_entries, vote_events, AskBoth}
use Rattle.promise_examples.specs.DepositRuns.{HasNone, LeavesOthers, IsBetween}

-- The files read as an empty log at entry. The run synced it, failed to write the first line's file, and wrote that
-- this line is aborted for its vote, and the second for what it depends on: each image has an empty log all along, and
-- there is one. That file's count of faults rose by one, and no other.
pub record IsVoteRun (r : Observed) (opened : Moment) (failing told : List Moment) : Type 0 where
  pub ending : r.ending ≡ Done
  pub pair : (r.manner.threaded ≡ false) × (r.manner.width ≡ 2) × (r.manner.picks ≡ [])
  pub two : length (lines r) ≡ 2
  pub given : lines r ≡ lines_of r.old.input
  pub windowed : r.windowed ≡ true
  pub good : first_bad 0 (lines r) ≡ None
  pub asks : AskBoth (lines r)
  pub left : r.new.input ≡ []
  pub read : IsLog 0 (seen_at_entry r) (account_log [])
  pub past : r.new.past ≡ r.old.past ++ (opened ∷ (failing ++ told ++ moment_of r.new ∷ []))
  pub quiet : opened.output ≡ r.old.output
  pub output : r.new.output ≡ r.old.output ++ reply_lines (shape_in account_program) vote_entries
  pub entry : (image : Image) → IsImage opened.disk image → IsImage r.old.disk image × HasNone image
  pub unsaid : AllByRecursion (IsBetween r r.old.output HasNone) failing
  pub first : AllByRecursion (IsBetween r (r.old.output ++ reply_lines (shape_in account_program) (voted_entry ∷ [])) HasNone) told
  pub exit : (image : Image) → IsImage r.new.disk image → HasNone image
  pub behind : (image : Image) → IsImage r.new.disk image → EndsAsRead 0 r image
  pub alone : LeavesAlone 0 r opened × LeavesAlone 0 r (moment_of r.new)
  pub apart : LeavesOthers r opened × LeavesOthers r (moment_of r.new)
  pub syncs : r.new.syncs ≤ r.old.syncs + (opening_syncs (seen_at_entry r) + 1)
  pub some : Image
  pub possible : IsImage r.new.disk some
  pub rose : r.faults_after (File (Grain 0 account_1)) ≡ r.faults_before (File (Grain 0 account_1)) + 1
  pub others : (channel : Channel) → channel ≢ File (Grain 0 account_1) → r.faults_after channel ≡ r.faults_before channel

-- the course of such a run
abbrev pub vote_course : Moment → List Moment → List Moment → Observed → Course
vote_course opened failing told r = record {
  live = 0;
  opening = account_log [];
  added = [];
  early = opened ∷ [];
  late = failing ++ told ++ moment_of r.new ∷ [];
  allowed = length (lines r);
  events = vote_events;
  entries = vote_entries;
  rest = [];
}
