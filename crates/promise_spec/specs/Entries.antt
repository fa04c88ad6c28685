-- The entries of an order, a log of them, and what it stands for.
use Rattle.std.specs.Prelude.{ℕ, ◌+◌, max, Bool, false, ◌||◌, if◌then◌else◌, List, [], ◌∷◌, ◌++◌, map, fold, slice_get}
use Rattle.base_types.specs.declared.calls.GrainId.{GrainId}
use Rattle.base_types.specs.declared.calls.Value.{Value}
use Rattle.script_check.specs.Carrying.{carried_state}
use Rattle.script_holding.specs.Holding.{same_grain}
use Rattle.script_meaning.specs.Play.{initial_of}
use Rattle.promise_spec.specs.Programs.{Program}
use Rattle.promise_spec.specs.Records.{Commit, States, written, after_writes}

-- an entry of the order: a unit's record, or an upgrade to a program
pub data LogEntry : Type 0 where
  Recorded : Commit → LogEntry
  Upgraded : Program → LogEntry

-- the records among some entries
abbrev pub records_among : List LogEntry → List Commit
records_among [] = []
records_among (Recorded c ∷ entries) = c ∷ records_among entries
records_among (Upgraded p ∷ entries) = records_among entries

-- the programs that come into force among them, in their order
abbrev pub programs_among : List LogEntry → List Program
programs_among [] = []
programs_among (Recorded c ∷ entries) = programs_among entries
programs_among (Upgraded p ∷ entries) = p ∷ programs_among entries

-- What a log stands for: how many entries there are, the number of the next unit, the program in force, which grains have a
-- state in the store, and the state of each, which is its type's initial fields where it has none there.
pub record Standing : Type 0 where
  pub count : ℕ
  pub next : ℕ
  pub program : Program
  pub held : GrainId → Bool
  pub states : States

-- the initial fields of each grain
abbrev pub initial_states : Program → States
initial_states p grain = initial_of (slice_get p.types grain.kind)

-- what a new silo stands for: no entry, the unit 1 is next, and no grain has a state in the store
abbrev pub new_silo : Program → Standing
new_silo p = record { count = 0; next = 1; program = p; held = λ grain. false; states = initial_states p }

-- a grain is among these
abbrev pub is_among : List (GrainId × List Value) → GrainId → Bool
is_among [] grain = false
is_among (w ∷ ws) grain = same_grain w.0 grain || is_among ws grain

-- What stands after one more entry. An upgrade carries the state of each grain that has one in the store; every other grain has the new
-- program's initial fields.
abbrev pub after_entry : Standing → LogEntry → Standing
after_entry before (Recorded c) = record {
  count = before.count + 1;
  next = max before.next (c.logged.unit.0 + 1);
  program = before.program;
  held = λ grain. is_among (written c) grain || before.held grain;
  states = after_writes before.states c;
}
after_entry before (Upgraded p) = record {
  count = before.count + 1;
  next = before.next;
  program = p;
  held = before.held;
  states = λ grain. if before.held grain then carried_state before.program.types p.types grain.kind (before.states grain) else initial_states p grain;
}

-- what stands after these entries
abbrev pub after_entries : Standing → List LogEntry → Standing
after_entries before entries = fold after_entry before entries

-- a log: what its base stands for, and the entries behind it
pub record Log : Type 0 where
  pub base : Standing
  pub entries : List LogEntry

-- its records
abbrev pub records_of : Log → List Commit
records_of log = records_among log.entries

-- what a log stands for
abbrev pub standing_of : Log → Standing
standing_of log = after_entries log.base log.entries

-- the log of a new silo
abbrev pub new_log : Program → Log
new_log p = record { base = new_silo p; entries = [] }

-- what stands for the same, with no entry behind the base
abbrev pub checkpointed : Log → Log
checkpointed log = record { base = standing_of log; entries = [] }

-- with these records more
abbrev pub grown : Log → List Commit → Log
grown log more = record { base = log.base; entries = log.entries ++ map Recorded more }

-- with an upgrade more
abbrev pub upgraded : Log → Program → Log
upgraded log p = record { base = log.base; entries = log.entries ++ Upgraded p ∷ [] }
