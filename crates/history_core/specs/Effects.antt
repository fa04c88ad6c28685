-- Whether what a unit says that it did is what it did, by what is kept.
use Rattle.std.specs.Prelude.{List, [], ◌∷◌, Bool, true, false, ◌&&◌, not, Option, None, if◌then◌else◌}
use Rattle.std.specs.List.{list_all as all}
use Rattle.base_types.specs.declared.calls.Outcome.TheVariants.{Aborted as aborted}
use Rattle.core_model.specs.CoreState.{UnitNo, Outcome, same_unit}
use Rattle.core_model.specs.declared.effects.Effect.{Effect}
use Rattle.core_model.specs.Equality.{same_origin, same_call, same_reads, same_outcome}
use Rattle.core_model.specs.Tests.{is_answer, is_empty, is_running}
use Rattle.rw_locks.specs.LockView.{holds_alone}
use Rattle.cell_table.specs.Table.{cell_in}
use Rattle.unit_table.specs.KnownUnits.{KnownUnit}
use Rattle.unit_table.specs.Table.{is_past, outcome_known}
use Rattle.unit_table.specs.declared.table.UnitTable.{UnitTable}
use Rattle.history_core.specs.declared.parts.Parts.{Parts}

-- these units are decided, with these outcomes
abbrev pub answered_in : (UnitNo → Option Outcome) → List UnitNo → List Outcome → Bool
answered_in known [] [] = true
answered_in known (k ∷ ks) (a ∷ rest) = is_answer (known k) a && answered_in known ks rest
answered_in known [] (a ∷ rest) = false
answered_in known (k ∷ ks) [] = false

-- a unit's outcome, once it is decided for good, as long as its result is kept
abbrev pub outcome_kept : UnitTable → UnitNo → Option Outcome
outcome_kept t u = if is_past t u then None else outcome_known t u

-- the effect is of the unit's call, with its children's outcomes, which are kept
abbrev pub is_of_call_in : Parts → UnitNo → Effect → KnownUnit → Bool
is_of_call_in p u e k =
    same_unit e.unit u && (same_origin e.origin k.origin && (same_call e.call k.call && answered_in (outcome_kept p.units) k.kids e.answers))

-- a running transaction has that effect
abbrev pub finishes_as : Parts → UnitNo → Effect → KnownUnit → Bool
finishes_as p u e k =
    (is_running k.phase && not k.plain)
    && (is_of_call_in p u e k && (same_reads e.reads k.reads && all (λ t. holds_alone u (cell_in p.cells t.0).holds) e.writes))

-- a running plain run has that effect, without reads and writes
abbrev pub ends_as_plain : Parts → UnitNo → Effect → KnownUnit → Bool
ends_as_plain p u e k = (is_running k.phase && k.plain) && (is_of_call_in p u e k && (is_empty e.reads && is_empty e.writes))

-- a running plain run without children has that outcome, which is no abort
abbrev pub ends_as_snapshot : Outcome → KnownUnit → Bool
ends_as_snapshot o k = (is_running k.phase && k.plain) && (is_empty k.kids && not (same_outcome o aborted))
