-- What a call shows, in a manner and with lines that are given.
use Rattle.std.specs.Prelude.{ℕ, true, false, List}
use Rattle.host_trait.specs.declared.channels.Channel.{Channel}
use Rattle.host_trait.specs.World.{World}
use Rattle.request_wire.specs.Lines.{lines_of}
use Rattle.promise_spec.specs.Words.{Manner}
use Rattle.promise_spec.specs.Courses.{Observed}
use Rattle.silo_top.specs.declared.status.Status.{Status}
use Rattle.silo_top.specs.Statuses.{status_ending}

abbrev pub observed_call : Manner → List (List ℕ) → World → World → (Channel → ℕ) → (Channel → ℕ) → Status → Observed
observed_call m asked old new before after status = record {
  manner = m;
  asked = asked;
  windowed = false;
  old = old;
  new = new;
  faults_before = before;
  faults_after = after;
  ending = status_ending status;
}

-- a run, which is asked the lines of its input, in windows
abbrev pub observed_run : Manner → World → World → (Channel → ℕ) → (Channel → ℕ) → Status → Observed
observed_run m old new before after status = record (observed_call m (lines_of old.input) old new before after status) { windowed = true }
