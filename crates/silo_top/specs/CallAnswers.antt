-- What a call shows, and what it answers over any host.
use Rattle.std.specs.Prelude.{◌≡◌, ◌≢◌, ℕ, Bool, true, false, List, []}
use Rattle.host_trait.specs.declared.channels.Channel.{Channel}
use Rattle.host_trait.specs.declared.channels.Channel.TheVariants.{Input, Output}
use Rattle.host_trait.specs.World.{World}
use Rattle.request_wire.specs.Lines.{lines_of}
use Rattle.promise_spec.specs.Words.{Manner, plain_manner, Command, Run, Load}
use Rattle.promise_spec.specs.Endings.{Ending, BadUse, ReadFault, WriteFault, HasRisen, HasFailedAs}
use Rattle.promise_spec.specs.Courses.{Observed}
use Rattle.bank_load.specs.Requests.{load_texts}
use Rattle.silo_top.specs.declared.status.Status.{Status}
use Rattle.silo_top.specs.Statuses.{status_ending}

-- on one thread, so many lines in flight, with these picks
abbrev pub turns_manner : ℕ → List ℕ → Manner
turns_manner width picks = record { threaded = false; width = width; picks = picks }

-- by workers, of which no width is told and no picks
abbrev pub workers_manner : Manner
workers_manner = record { threaded = true; width = 1; picks = [] }

-- ---- what a call shows

-- in what manner a command carries lines: a run and a load in that of their words
abbrev pub manner_for : Command → Manner
manner_for (Run m) = m
manner_for (Load transfers seed m) = m
manner_for _ = plain_manner

-- what lines a command is asked over an input: a run those of the input, a load those that it draws, and any other none
abbrev pub lines_for : Command → List ℕ → List (List ℕ)
lines_for (Run m) input = lines_of input
lines_for (Load transfers seed m) input = load_texts transfers seed
lines_for _ input = []

-- whether its lines come in windows: those of a run do
abbrev pub comes_in_windows : Command → Bool
comes_in_windows (Run m) = true
comes_in_windows _ = false

-- what a call shows that ended with this status, as a call of a command
abbrev pub shown : World → World → (Channel → ℕ) → (Channel → ℕ) → Status → Command → Observed
shown old new before after status c = record {
  manner = manner_for c;
  asked = lines_for c old.input;
  windowed = comes_in_windows c;
  old = old;
  new = new;
  faults_before = before;
  faults_after = after;
  ending = status_ending status;
}

-- ---- what it answers

-- What a run or a load answers over any host: never bad use, and a fault is shown by its count; no failed call on the input or the
-- output is passed over; and an ending that may not come behind a file's fault names exactly the call that failed.
pub record AnswersRun (MayComeBehind : Ending → Type 0) (e : Ending) (old new : Channel → ℕ) : Type 0 where
  pub good : e ≢ BadUse
  pub risen : HasRisen e old new
  pub input : new Input ≢ old Input → e ≡ ReadFault
  pub output : new Output ≢ old Output → e ≡ WriteFault
  pub exact : (MayComeBehind e → ⊥) → HasFailedAs e old new
