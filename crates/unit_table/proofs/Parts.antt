-- The units after each event of the model are what a call of the table makes of them.
use Rattle.std.proofs.Common.{◌≡◌, ℕ, List, [], ◌∷◌, ◌++◌, Bool, true, false, refl, ap, Option, not, if◌then◌else◌}
use Rattle.base_types.specs.declared.entries.BadRequest.{BadRequest}
use Rattle.cell_model.specs.Sources.{with_source}
use Rattle.core_model.specs.CoreState.{UnitNo, GrainId, Mode, Origin, Call, Outcome, Settled, top, put, CoreState}
use Rattle.core_model.specs.declared.effects.Effect.{Effect}
use Rattle.core_model.specs.declared.phases.Phase.TheVariants.{Finished, Refused, Ended}
use Rattle.core_model.specs.Changes.{spoiled_line, new_unit, begun, read_of, is_sure, without_want, after_lock, after_raise, after_refusal, finished, after_end}
use Rattle.core_model.specs.declared.events.CoreEvent.TheVariants.{Halt, Want}
use Rattle.core_model.specs.Events.{does}
use Rattle.unit_table.specs.declared.table.UnitTable.{UnitTable}
use Rattle.unit_table.specs.Parts.{next_unit, units_bad_line, units_begun, deps_after, units_read, units_over, units_seen, units_wanting, units_halted}
use Rattle.unit_table.specs.Table.{units_of}

-- a bad line
pub bad_line-units : (w : CoreState) (line : ℕ) (why : BadRequest) → (spoiled_line w line why).units ≡ units_bad_line w.units
bad_line-units w line why = refl

-- a unit that begins
pub begun-units : (w : CoreState) (origin : Origin) (call : Call) (plain : Bool) → (begun w origin call plain).units ≡ units_begun w.units origin call plain
begun-units w origin call plain = refl

-- its number
pub begun-number : (w : CoreState) → new_unit w ≡ next_unit w.units
begun-number w = refl

turned : (sure : Bool) (deps : List UnitNo) (source : UnitNo) → (if sure then deps else with_source deps source) ≡ deps_after (not sure) deps source
turned true deps source = refl
turned false deps source = refl

-- a unit that gets its first lock of a grain: it depends on the source where that isn't sure
pub locked-units : (w : CoreState) (u : UnitNo) (g : GrainId) (mode : Mode) →
    (after_lock w u g mode).units ≡ units_read w.units u (read_of g (top (w.cells.stack g))) (not (is_sure w (top (w.cells.stack g)).unit))
locked-units w u g mode =
    let read = read_of g (top (w.cells.stack g)) in
    ap
    (λ (deps : List UnitNo). record w.units { reads = put w.units.reads u (w.units.reads u ++ read ∷ []); deps = put w.units.deps u deps; wants = without_want u g w.units.wants })
    (turned (is_sure w read.source) (w.units.deps u) read.source)

-- a unit whose lock is raised
pub raised-units : (w : CoreState) (u : UnitNo) (g : GrainId) (mode : Mode) → (after_raise w u g mode).units ≡ w.units
raised-units w u g mode = refl

-- a unit that is refused
pub refused-units : (w : CoreState) (u : UnitNo) (why : Settled) → (after_refusal w u why).units ≡ units_over w.units u Refused
refused-units w u why = refl

-- a transaction that has finished
pub finished-units : (w : CoreState) (u : UnitNo) (effect : Effect) → (finished w u effect).units ≡ units_over w.units u Finished
finished-units w u effect = refl

-- a plain run that has ended
pub ended-units : (w : CoreState) (u : UnitNo) (answers : List Outcome) (result : Outcome) (at : Option ℕ) →
    (after_end w u answers result at).units ≡ units_seen (units_over w.units u Ended) (put w.units.seen_at u at)
ended-units w u answers result at = refl

-- a unit that waits for a grain
pub wanting-units : (w : CoreState) (u : UnitNo) (g : GrainId) → (does w (Want u g)).units ≡ units_wanting w.units u g
wanting-units w u g = refl

-- a run that is to stop
pub halted-units : (w : CoreState) → (does w Halt).units ≡ units_halted w.units
halted-units w = refl

-- what snapshot runs saw is no part of the table
pub seen-units : (t : UnitTable) (seen more : UnitNo → Option ℕ) → units_of t more ≡ units_seen (units_of t seen) more
seen-units t seen more = refl
