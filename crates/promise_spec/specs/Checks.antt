-- What `check` promises: to run two-phase commit between silos, and to print how it ended.
use Rattle.std.specs.Prelude.{◌≡◌, ◌⊎◌, ℕ}
use Rattle.host_trait.specs.World.{Ticks}
use Rattle.two_silos.specs.GeneratedEvents.{checked}
use Rattle.two_silos.specs.Summaries.{summary_of, line_of}
use Rattle.promise_spec.specs.Endings.{Ending, Done, Memory, WriteFault, HasFailedAs}
use Rattle.promise_spec.specs.Courses.{Observed}
use Rattle.promise_spec.specs.Commands.{Prints}

-- a check ends so: it is done, or there was no memory, or the output failed
abbrev pub MayEndCheck : Ending → Type 0
MayEndCheck e = (e ≡ Done) ⊎ ((e ≡ Memory) ⊎ (e ≡ WriteFault))

-- What `check` promises of any folder, a silo or not. It prints the line of the world that so many starts, drawn from this
-- seed, lead to: a first part of it where the output failed, and nothing for want of memory, where the host is as it was.
-- It makes one call at most, that of the output: no file is read or changed, and no input is read.
pub record Checks (n seed : ℕ) (r : Observed) : Type 0 where
  pub prints : Prints (line_of (summary_of n (checked n seed))) r
  pub starved : r.ending ≡ Memory → r.new ≡ r.old
  pub once : Ticks r.old r.new
  pub files : r.new.disk ≡ r.old.disk
  pub syncs : r.new.syncs ≡ r.old.syncs
  pub unread : r.new.input ≡ r.old.input
  pub ending : MayEndCheck r.ending
  pub failed : HasFailedAs r.ending r.faults_before r.faults_after
