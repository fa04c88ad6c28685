-- What a table of units stands for.
use Rattle.std.specs.Prelude.{ℕ, ◌+◌, ◌-◌, List, Bool, Option, Some, None, is_some, nat_lt, if◌then◌else◌, slice_get, vec_len}
use Rattle.std.specs.VecDeque.{deque_len}
use Rattle.core_model.specs.CoreState.{UnitNo, GrainId, Origin, Call, Outcome, Units}
use Rattle.core_model.specs.declared.effects.Read.{Read}
use Rattle.core_model.specs.declared.phases.Phase.{Phase}
use Rattle.core_model.specs.declared.phases.Verdict.{Verdict}
use Rattle.core_model.specs.Tests.{outcome_in}
use Rattle.unit_table.specs.declared.entry.PastUnit.{PastUnit}
use Rattle.unit_table.specs.declared.entry.UnitEntry.{UnitEntry}
use Rattle.unit_table.specs.declared.table.UnitTable.{UnitTable}
use Rattle.unit_table.specs.KnownUnits.{KnownUnit, unborn, known_entry, known_past}

-- the unit's place among these, whose first is the unit of that number
abbrev pub among : {A : Type 0} → ℕ → List A → UnitNo → Option A
among base xs u = if nat_lt u.0 base then None else slice_get xs (u.0 - base)

-- the number of the first unit whose result is kept
abbrev pub first_in : UnitTable → ℕ
first_in t = t.base + vec_len t.past

-- the unit's entry, where its result is kept
abbrev pub entry_in : UnitTable → UnitNo → Option UnitEntry
entry_in t u = among (first_in t) t.units.items u

-- what is kept of the unit, where its result has gone
abbrev pub past_in : UnitTable → UnitNo → Option PastUnit
past_in t u = among t.base t.past.items u

-- the unit's result has gone
abbrev pub is_past : UnitTable → UnitNo → Bool
is_past t u = is_some (past_in t u)

-- what an entry stands for, where there is one
abbrev pub known_of : Option UnitEntry → KnownUnit
known_of None = unborn
known_of (Some x) = known_entry x

-- what is known of a unit by what is kept of it
abbrev pub known_by : Option PastUnit → Option UnitEntry → KnownUnit
known_by None entry = known_of entry
known_by (Some past) entry = known_past past

-- what is known of each unit
abbrev pub known_in : UnitTable → UnitNo → KnownUnit
known_in t u = known_by (past_in t u) (entry_in t u)

-- the number of the first unit
abbrev pub base_of : UnitTable → ℕ
base_of t = t.base

-- the number of the next unit
abbrev pub next_in : UnitTable → ℕ
next_in t = first_in t + deque_len t.units

-- how many lines have begun or are bad
abbrev pub lines_in : UnitTable → ℕ
lines_in t = t.lines

-- how many types the program has
abbrev pub kinds_in : UnitTable → ℕ
kinds_in t = t.kinds

-- the run is to stop
abbrev pub halt_in : UnitTable → Bool
halt_in t = t.halt

-- each unit's phase
abbrev pub phase_in : UnitTable → UnitNo → Phase
phase_in t u = (known_in t u).phase

-- what each unit is the run of
abbrev pub origin_in : UnitTable → UnitNo → Origin
origin_in t u = (known_in t u).origin

-- each unit's call
abbrev pub call_in : UnitTable → UnitNo → Call
call_in t u = (known_in t u).call

-- the unit is a plain run
abbrev pub plain_in : UnitTable → UnitNo → Bool
plain_in t u = (known_in t u).plain

-- each unit's children, in the order in which they began
abbrev pub kids_in : UnitTable → UnitNo → List UnitNo
kids_in t u = (known_in t u).kids

-- what each unit read, in the order of first locks
abbrev pub reads_in : UnitTable → UnitNo → List Read
reads_in t u = (known_in t u).reads

-- each unit's dependencies
abbrev pub deps_in : UnitTable → UnitNo → List UnitNo
deps_in t u = (known_in t u).deps

-- what is decided of each unit
abbrev pub verdict_in : UnitTable → UnitNo → Verdict
verdict_in t u = (known_in t u).verdict

-- each unit's result, `Aborted` where there is none
abbrev pub result_in : UnitTable → UnitNo → Outcome
result_in t u = (known_in t u).result

-- who waits for which grain
abbrev pub wants_in : UnitTable → List (UnitNo × GrainId)
wants_in t = t.wants.items

-- a unit's outcome, once it is decided for good
abbrev pub outcome_known : UnitTable → UnitNo → Option Outcome
outcome_known t u = outcome_in (phase_in t u) (verdict_in t u) (result_in t u)

-- the model's units; of a snapshot run, how many records it saw isn't kept
abbrev pub units_of : UnitTable → (UnitNo → Option ℕ) → Units
units_of t seen = record {
  next = next_in t;
  lines = lines_in t;
  kinds = kinds_in t;
  phase = phase_in t;
  origin = origin_in t;
  call = call_in t;
  plain = plain_in t;
  kids = kids_in t;
  reads = reads_in t;
  deps = deps_in t;
  seen_at = seen;
  wants = wants_in t;
  halt = halt_in t;
}
