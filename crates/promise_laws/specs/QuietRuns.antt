-- A load that does what a run does.
use Rattle.std.specs.Prelude.{◌≡◌, ℕ, List, ◌++◌, map}
use Rattle.core_model.specs.CoreState.{Member}
use Rattle.host_trait.specs.World.{Moment}
use Rattle.promise_spec.specs.Courses.{Observed, Course, lines}

-- a moment at which nothing more than this was written
abbrev pub quieted : List ℕ → Moment → Moment
quieted output m = record m { output = output }

-- the course of a run that writes no replies, and at these moments a summary
abbrev pub quiet_course : Observed → Course → List Moment → Course
quiet_course r c told = record c { late = map (quieted r.old.output) c.late ++ told }

-- A load that shows what this run shows, but that it reads no input, and writes this text at its end in place of replies,
-- at moments that leave the files as the run left them.
pub record IsQuietRun (r : Observed) (c : Course) (text : List ℕ) (told : List Moment) (s : Observed) : Type 0 where
  pub manner : s.manner ≡ r.manner
  pub asked : lines s ≡ lines r
  pub windowed : s.windowed ≡ r.windowed
  pub disk_before : s.old.disk ≡ r.old.disk
  pub output_before : s.old.output ≡ r.old.output
  pub disk_after : s.new.disk ≡ r.new.disk
  pub output : s.new.output ≡ s.old.output ++ text
  pub unread : s.new.input ≡ s.old.input
  pub past : s.new.past ≡ s.old.past ++ (c.early ++ (map (quieted r.old.output) c.late ++ told))
  pub left : (m : Moment) → Member m told → m.disk ≡ r.new.disk
  pub syncs_before : s.old.syncs ≡ r.old.syncs
  pub syncs_after : s.new.syncs ≡ r.new.syncs
  pub faults_before : s.faults_before ≡ r.faults_before
  pub faults_after : s.faults_after ≡ r.faults_after
  pub ending : s.ending ≡ r.ending
