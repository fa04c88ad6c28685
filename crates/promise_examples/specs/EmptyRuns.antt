-- A run of which no line may begin.
use Rattle.std.specs.Prelude.{◌≡◌, ◌≤◌, ℕ, List, [], ◌++◌}
use Rattle.host_trait.specs.declared.channels.Channel.{Channel}
use Rattle.promise_spec.specs.Programs.{Program}
use Rattle.promise_spec.specs.Endings.{HasRisen, IsAllWritten}
use Rattle.promise_spec.specs.Courses.{Observed, Course}
use Rattle.promise_spec.specs.Promise.{AllowedBy}
use Rattle.promise_spec.specs.Entries.{Log}
use Rattle.promise_examples.specs.StillRuns.{IsStillRun, still_course}

-- The run opened the folder and left it as it was, and read that the input is empty, that it can't be read or that a line of its first
-- window is too long, so that no line may begin. No count of faults fell, and the input's rose where it couldn't be read.
pub record IsEmptyRun (p : Program) (r : Observed) (opening : Log) : Type 0 where
  pub still : IsStillRun p r opening
  pub ending : IsAllWritten r.ending
  pub pulled : List ℕ
  pub input : r.old.input ≡ pulled ++ r.new.input
  pub allowed : AllowedBy r.ending pulled r 0
  pub risen : HasRisen r.ending r.faults_before r.faults_after
  pub faults : (channel : Channel) → r.faults_before channel ≤ r.faults_after channel

-- the course of such a run: no event came
abbrev pub empty_course : Observed → Log → Course
empty_course r opening = still_course r opening 0 []
