-- What is answered to a unit that asks for a lock, by what is kept.
use Rattle.std.specs.Prelude.{◌<◌, ◌^◌, ⊤, ℕ, List, Bool, ◌&&◌, not, Option, is_some, nat_lt, ◌==◌, if◌then◌else◌, length, filter, map}
use Rattle.std.specs.List.{list_all as all}
use Rattle.base_types.specs.declared.calls.Origin.{Origin}
use Rattle.base_types.specs.declared.calls.Origin.TheVariants.{Line, Child}
use Rattle.cell_model.specs.Units.{oldest}
use Rattle.cell_model.specs.Locks as locks
use Rattle.core_model.specs.CoreState.{UnitNo, GrainId, Mode, same_unit, top}
use Rattle.core_model.specs.declared.effects.Read.{Read}
use Rattle.core_model.specs.declared.events.CoreEvent.{CoreEvent}
use Rattle.core_model.specs.declared.events.CoreEvent.TheVariants.{Bad, Begin}
use Rattle.core_model.specs.declared.questions.AskAnswer.{AskAnswer}
use Rattle.core_model.specs.declared.questions.AskAnswer.TheVariants as answer
use Rattle.core_model.specs.Tests.{is_running, ask_doom, ask_lock}
use Rattle.cell_table.specs.Table.{cell_in, here_in}
use Rattle.unit_table.specs.Table.{phase_in, kids_in, reads_in, outcome_known}
use Rattle.history_core.specs.declared.parts.Parts.{Parts}

-- the unit runs, and the grain's type is known
abbrev pub is_active_in : Parts → UnitNo → GrainId → Bool
is_active_in p u g = is_running (phase_in p.units u) && nat_lt g.kind p.units.kinds

-- the version that was read is no longer on top of its grain
abbrev pub is_gone_in : Parts → Read → Bool
is_gone_in p r = not (same_unit (top (cell_in p.cells r.grain).stack).unit r.source)

-- the oldest source of these reads whose version is gone
abbrev pub gone_in : Parts → List Read → Option UnitNo
gone_in p reads = oldest (map (λ (r : Read). r.source) (filter (is_gone_in p) reads))

-- the answer to a unit that asks for a lock
abbrev pub ask_in : Parts → UnitNo → GrainId → Mode → AskAnswer
ask_in p u g mode =
    if is_active_in p u g
    then ask_doom (gone_in p (reads_in p.units u)) (ask_lock (here_in p.cells g) (locks.ask (cell_in p.cells g).holds u mode))
    else answer.NotActive

-- the unit is decided
abbrev pub is_decided_in : Parts → UnitNo → Bool
is_decided_in p u = is_some (outcome_known p.units u)

-- the unit runs, and so many children of it have begun and are decided
abbrev pub is_next_child_in : Parts → UnitNo → ℕ → Bool
is_next_child_in p u index =
    is_running (phase_in p.units u) && ((index == length (kids_in p.units u)) && all (is_decided_in p) (kids_in p.units u))

-- the number of a line has 32 bits
abbrev pub FitsLine : Origin → Type 0
FitsLine (Line n) = n < 2 ^ 32
FitsLine (Child p i d) = ⊤

-- the number of a line that the event names has 32 bits
abbrev pub FitsEvent : CoreEvent → Type 0
FitsEvent (Bad n why) = n < 2 ^ 32
FitsEvent (Begin origin call plain) = FitsLine origin
FitsEvent _ = ⊤
