-- A run whose one line deposits 5.
use Rattle.std.specs.Prelude.{◌≡◌, ◌≢◌, ℕ, ◌+◌, ◌⊎◌, true, false, List, [], ◌∷◌, ◌++◌, length, None}
use Rattle.std.specs.List.{AllByRecursion}
use Rattle.base_types.specs.declared.calls.GrainId.{GrainId}
use Rattle.host_trait.specs.declared.channels.Channel.{Channel}
use Rattle.host_trait.specs.declared.channels.FileId.TheVariants.{Grain}
use Rattle.host_trait.specs.World.{Moment, Image, IsImage, moment_of}
use Rattle.silo_spec.specs.Silos.{program_file, HasProgram}
use Rattle.request_wire.specs.Lines.{lines_of}
use Rattle.silo_spec.specs.OpenedDisks.{opening_syncs}
use Rattle.promise_spec.specs.Programs.{shape_in}
use Rattle.promise_spec.specs.Windows.{first_bad}
use Rattle.promise_spec.specs.Logs.{IsLog}
use Rattle.promise_spec.specs.Outputs.{reply_lines}
use Rattle.promise_spec.specs.Lines.{IsLineCall}
use Rattle.promise_spec.specs.Endings.{Done}
use Rattle.promise_spec.specs.Crashes.{LeavesAlone}
use Rattle.promise_spec.specs.Courses.{Observed, Course, seen_at_entry, lines}
use Rattle.promise_spec.specs.Exits.{EndsAsRead}
use Rattle.promise_examples.specs.Examples.{account_log, accounts, account_program, account_1, first_commit, first_entry, deposit_call, deposit_events}

-- the image is one of the program, and has an empty log, or the deposit's record
abbrev pub HasNone : Image → Type 0
HasNone image = IsLog 0 image (account_log []) × HasProgram account_program.text (image program_file)

-- the image is one of the program, and has the deposit's record as its log
abbrev pub HasDeposit : Image → Type 0
HasDeposit image =
    IsLog 0 image (account_log (first_commit ∷ [])) × HasProgram account_program.text (image program_file)

-- the files of all grains but `account/1` are as they were
abbrev pub LeavesOthers : Observed → Moment → Type 0
LeavesOthers r m = (g : GrainId) → g ≢ account_1 → m.disk (Grain 0 g) ≡ r.old.disk (Grain 0 g)

-- a moment between: what is written by then is this, each image is such a one, and other files and the header are as they
-- were
pub record IsBetween (r : Observed) (written : List ℕ) (Has : Image → Type 0) (m : Moment) : Type 0 where
  pub output : m.output ≡ written
  pub images : (image : Image) → IsImage m.disk image → Has image
  pub alone : LeavesAlone 0 r m
  pub apart : LeavesOthers r m

-- the image has the deposit or not
abbrev pub MayHaveDeposit : Image → Type 0
MayHaveDeposit image = HasNone image ⊎ HasDeposit image

-- The files read as an empty log at entry. The run synced it, had moments at which it sealed the deposit, and one at
-- which it replied. At the first each image is one of those at entry and has an empty log, while it seals each has the
-- deposit or not, and at the last each has it; there is one. It asked for the opening's syncs and three more: one of the version,
-- one of the block and one of its gate. No count of faults changed.
pub record IsDepositRun (r : Observed) (opened : Moment) (sealing : List Moment) : Type 0 where
  pub ending : r.ending ≡ Done
  pub single : (r.manner.threaded ≡ false) × (r.manner.width ≡ 1) × (r.manner.picks ≡ [])
  pub one : length (lines r) ≡ 1
  pub given : lines r ≡ lines_of r.old.input
  pub windowed : r.windowed ≡ true
  pub good : first_bad 0 (lines r) ≡ None
  pub asks : IsLineCall accounts (lines r) 1 deposit_call
  pub left : r.new.input ≡ []
  pub read : IsLog 0 (seen_at_entry r) (account_log [])
  pub past : r.new.past ≡ r.old.past ++ (opened ∷ (sealing ++ moment_of r.new ∷ []))
  pub quiet : opened.output ≡ r.old.output
  pub output : r.new.output ≡ r.old.output ++ reply_lines (shape_in account_program) (first_entry ∷ [])
  pub syncs : r.new.syncs ≡ r.old.syncs + (opening_syncs (seen_at_entry r) + 3)
  pub entry : (image : Image) → IsImage opened.disk image → IsImage r.old.disk image × HasNone image
  pub sealed : AllByRecursion (IsBetween r r.old.output MayHaveDeposit) sealing
  pub logged : (image : Image) → IsImage r.new.disk image → HasDeposit image
  pub behind : (image : Image) → IsImage r.new.disk image → EndsAsRead 0 r image
  pub alone : LeavesAlone 0 r opened × LeavesAlone 0 r (moment_of r.new)
  pub apart : LeavesOthers r opened × LeavesOthers r (moment_of r.new)
  pub some : Image
  pub possible : IsImage r.new.disk some
  pub faults : (channel : Channel) → r.faults_after channel ≡ r.faults_before channel

-- the course of such a run
abbrev pub deposit_course : Moment → List Moment → Observed → Course
deposit_course opened sealing r = record {
  live = 0;
  opening = account_log [];
  added = first_commit ∷ [];
  early = opened ∷ [];
  late = sealing ++ moment_of r.new ∷ [];
  allowed = length (lines r);
  events = deposit_events;
  entries = first_entry ∷ [];
  rest = [];
}
