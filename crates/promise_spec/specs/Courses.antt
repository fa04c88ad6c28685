-- What a run was given, saw and did, and the course that it took.
use Rattle.std.specs.Prelude.{ℕ, Bool, List}
use Rattle.base_types.specs.declared.entries.Entry.{Entry}
use Rattle.host_trait.specs.declared.channels.Channel.{Channel}
use Rattle.host_trait.specs.World.{World, Moment, Image}
use Rattle.core_model.specs.CoreState as core
use Rattle.core_model.specs.declared.events.CoreEvent.{CoreEvent}
use Rattle.core_model.specs.LegalRuns as legal
use Rattle.promise_spec.specs.Records.{Commit}
use Rattle.promise_spec.specs.Entries.{Log, standing_of, grown}
use Rattle.promise_spec.specs.Programs.{Program}
use Rattle.promise_spec.specs.Moments.{counted_moments}
use Rattle.promise_spec.specs.Cores.{core_from}
use Rattle.promise_spec.specs.UnitRule.{Basis}
use Rattle.promise_spec.specs.Endings.{Ending}
use Rattle.promise_spec.specs.Words.{Manner}

-- What a call shows: the manner that its words chose, the lines that it is asked and whether they come in windows, the host's
-- contents and counts before and after, and how it ended.
pub record Observed : Type 0 where
  pub manner : Manner
  pub asked : List (List ℕ)  -- of `run` the input's lines, of `load` those that it generates
  pub windowed : Bool  -- of `run` true, of `load` false
  pub old : World
  pub new : World
  pub faults_before : Channel → ℕ
  pub faults_after : Channel → ℕ
  pub ending : Ending

-- What there is where a run opened the folder: the live slot, the log that it opened with, the records that it added, the
-- moments up to the one at which the opening's last sync returned and those after it, how many lines may begin, which are those of
-- the windows that were read whole, the core's events, and the entries that were written, with a rest that is none.
pub record Course : Type 0 where
  pub live : ℕ
  pub opening : Log
  pub added : List Commit
  pub early : List Moment
  pub late : List Moment
  pub allowed : ℕ
  pub events : List CoreEvent
  pub entries : List Entry
  pub rest : List ℕ

-- the order of the run
abbrev pub order : Course → Log
order c = grown c.opening c.added

-- the program in force, which is `p` of all clauses
abbrev pub program_in_force : Course → Program
program_in_force c = (standing_of c.opening).program

-- the moments that count for crashes
abbrev pub moments : Observed → Course → List Moment
moments r c = counted_moments r.old c.early c.late r.new

-- the files as they read at entry
abbrev pub seen_at_entry : Observed → Image
seen_at_entry r file = (r.old.disk file).seen

-- the lines that are asked
abbrev pub lines : Observed → List (List ℕ)
lines r = r.asked

-- what the unit rule is told of the run
abbrev pub basis : Program → Observed → Course → Basis
basis p r c = record { types = p.types; lines = lines r; opening = standing_of c.opening }

-- the core's run
abbrev pub core_run : Program → Course → legal.Run
core_run p c = core_from p.types (standing_of c.opening) c.events

-- the core's last state
abbrev pub core_end : Program → Course → core.CoreState
core_end p c = legal.ends (core_run p c)
