-- A run between two windows of its input, and how it goes on from there.
use Rattle.std.specs.Prelude.{◌≡◌, ◌<◌, ℕ, Bool, true, false, not, IsTrue, List, [], ◌++◌, length, take, Result, Ok, Err}
use Rattle.host_trait.specs.declared.channels.Channel.{Channel}
use Rattle.host_trait.specs.declared.channels.Channel.TheVariants.{Input, Output}
use Rattle.host_trait.specs.declared.channels.FileId.TheVariants.{Manager}
use Rattle.host_trait.specs.World.{World, Moment}
use Rattle.history_core.specs.Cores.{run_of}
use Rattle.script_tree.specs.Programs.{program_tree}
use Rattle.input_windows.specs.GivenWindows.{HasGiven}
use Rattle.promise_spec.specs.Cores.{core_from}
use Rattle.promise_spec.specs.Endings.{MayEndRun}
use Rattle.promise_spec.specs.Entries.{Log, standing_of}
use Rattle.promise_spec.specs.Journals.{AllLog}
use Rattle.promise_spec.specs.Promise.{Promises}
use Rattle.promise_spec.specs.Words.{Manner, Run}
use Rattle.promise_laws.specs.Closings.{ReadsMayStay}
use Rattle.interleaver.specs.Turns.{StandsBehind}
use Rattle.run_books.specs.Beginnings.{Outset}
use Rattle.run_books.specs.Books.{Books}
use Rattle.run_books.specs.Images.{LastsSo}
use Rattle.run_books.specs.Records.{HasCarriedAll}
use Rattle.run_books.specs.Stages.{Stage, stage_by}
use Rattle.silo_opening.specs.declared.opened_silo.Opened.{Opened}
use Rattle.silo_top.specs.CallAnswers.{shown, AnswersRun}
use Rattle.silo_top.specs.RunBehindOpening.{IsBehindOpening}
use Rattle.silo_top.specs.Statuses.{status_ending}
use Rattle.silo_top.specs.declared.run_windows.Running.{Running}
use Rattle.silo_top.specs.declared.status.Status.{Status}

-- ---- between two windows

-- over a host that tells, the silo that was opened has this program text and this log, and reads may stay
pub record WasOpened (old mid : World) (x : Opened) (text : List ℕ) (log : Log) : Type 0 where
  pub behind : IsBehindOpening old mid x
  pub text_is : x.text ≡ text
  pub log_is : behind.opened.log ≡ log
  pub stays : ReadsMayStay mid

-- what the record of such a run is told, which is carried in this manner and was asked these lines so far
abbrev pub outset_of : Manner → Opened → List ℕ → Log → List (List ℕ) → (Channel → ℕ) → World → Outset
outset_of m x text log asked before mid = record {
  live = x.slot;
  program = record { text = text; types = program_tree x.checked };
  asked = asked;
  opening = log;
  ruled = not m.threaded;
  windowed = true;
  width = m.width;
  picks = m.picks;
  faults = before;
  world = mid;
}

-- All lines so far are carried, and nobody can move: the record is kept, so many picks were used, and nothing has happened where there
-- are no lines yet. No call on the input or the output has failed.
pub record IsBetweenWindows (tells : Bool) (o : Outset) (b : Books) (used : ℕ) (s : Stage) : Type 0 where
  pub stands : StandsBehind tells o b used s
  pub carried : HasCarriedAll o s
  pub kinds : s.run.kinds ≡ length o.program.types
  pub none : o.asked ≡ [] → s.run.events ≡ []
  pub loud : s.settler.quiet ≡ false
  pub pulled : s.faults Input ≡ o.faults Input
  pub emitted : s.faults Output ≡ o.faults Output

-- And over a host that tells the core goes on from what the log stands for, and the host's clock from the opening; and what the
-- images keep has lasted, if each image had the log at the opening.
pub record KeepsRunImages (old : World) (o : Outset) (b : Books) (s : Stage) : Type 0 where
  pub run : s.run ≡ core_from o.program.types (standing_of o.opening) s.run.events
  pub past : (l : List Moment) × (s.world.past ≡ o.world.past ++ l)
  pub lasts : AllLog o.live o.opening o.world.disk
      → LastsSo o (take 15 (old.disk (Manager o.live)).seen) b s.run s.settler.writer s.world

-- A run that is under way: it was opened, has been given these lines, and all of them are carried.
pub record IsRunUnderWay (tells : Bool) (m : Manner) (before : Channel → ℕ) (old : World) (run : Running) (counts : Channel → ℕ) (now : World) : Type 0 where
  pub opened : Opened
  pub text : List ℕ
  pub log : Log
  pub mid : World
  pub asked : List (List ℕ)
  pub books : Books
  pub wide : 0 < m.width
  pub slot : run.started.slot ≡ opened.slot
  pub checked : run.started.checked ≡ opened.checked
  pub told : IsTrue tells → WasOpened old mid opened text log
  pub given : HasGiven tells old.input asked run.windows now
  pub between : IsBetweenWindows tells (outset_of m opened text log asked before mid) books run.used (stage_by (run_of run.started.core) run.started.settler counts now)
  pub images : IsTrue tells → KeepsRunImages old (outset_of m opened text log asked before mid) books (stage_by (run_of run.started.core) run.started.settler counts now)

-- ---- how it goes on

-- it ended so: over a host that tells it has kept its promise, and over any host what it answers is right
pub record HasKept (tells : Bool) (m : Manner) (before : Channel → ℕ) (old : World) (status : Status) (after : Channel → ℕ) (new : World) : Type 0 where
  pub promises : IsTrue tells → Promises m (shown old new before after status (Run m))
  pub answers : AnswersRun MayEndRun (status_ending status) before after

-- wherever it was under way it has ended so
abbrev pub GoesToItsEnd : Bool → Manner → Running → (Channel → ℕ) → World → Status → (Channel → ℕ) → World → Type 0
GoesToItsEnd tells m run counts now status after new =
    (before : Channel → ℕ) (old : World) → IsRunUnderWay tells m before old run counts now → HasKept tells m before old status after new

-- with its next window, or to its end
abbrev pub NextOrEnd : Bool → Manner → (Channel → ℕ) → World → Result Running Status → (Channel → ℕ) → World → Type 0
NextOrEnd tells m before old (Ok run) after new = IsRunUnderWay tells m before old run after new
NextOrEnd tells m before old (Err status) after new = HasKept tells m before old status after new

-- wherever it was under way it goes on so
abbrev pub GoesOnInWindows : Bool → Manner → Running → (Channel → ℕ) → World → Result Running Status → (Channel → ℕ) → World → Type 0
GoesOnInWindows tells m run counts now result after new =
    (before : Channel → ℕ) (old : World) → IsRunUnderWay tells m before old run counts now → NextOrEnd tells m before old result after new
