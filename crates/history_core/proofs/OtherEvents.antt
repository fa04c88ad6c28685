-- Bad lines, halts, waits and written entries.
use Rattle.std.proofs.Common.{◌≡◌, ℕ, ◌+◌, ◌<◌, ◌≤◌, ◌^◌, List, [], ◌∷◌, ◌++◌, Bool, true, false, refl, sym, ap, ◌∙◌, subst, arith, eqb-true, Option, Some, None, length}
use Rattle.std.proofs.lemmas.Bool.{ltb-true}
use Rattle.base_types.specs.declared.entries.BadRequest.{BadRequest}
use Rattle.base_types.specs.declared.entries.Settled.TheVariants as settled
use Rattle.std.specs.Prelude.{nat_lt, not, ◌&&◌}
use Rattle.std.specs.List.{list_any as any}
use Rattle.cell_model.specs.Locks.{holds_lock}
use Rattle.core_model.specs.CoreState.{UnitNo, GrainId, nobody, same_unit, same_grain, Entry, Units, CoreState}
use Rattle.core_model.specs.Tests.{is_running}
use Rattle.core_model.specs.Events.{can_want}
use Rattle.core_model.specs.declared.events.CoreEvent.TheVariants.{Bad, Emitted, Halt, Want}
use Rattle.core_model.specs.declared.events.CoreReply.TheVariants as reply
use Rattle.core_parts.specs.Room.{EntriesInRoom}
use Rattle.unit_table.specs.Parts.{units_bad_line, units_halted, units_wanting}
use Rattle.cell_table.specs.Table.{cell_in}
use Rattle.unit_table.specs.Table.{units_of, verdict_in, result_in, wants_in}
use Rattle.unit_table.specs.declared.table.UnitTable.{UnitTable}
use Rattle.history_core.specs.declared.parts.Parts.{Parts}
use Rattle.history_core.specs.KeptParts.{PartsStand, owed_in}
use Rattle.history_core.specs.LockAnswers.{is_active_in}
use Rattle.history_core.specs.Steps.{CanDo, Does}
use Rattle.history_core.proofs.OneEvent.{can-is}
use Rattle.history_core.proofs.MemoryCells.{holds-at}
use Rattle.history_core.proofs.Sweeps.{unmoved}

-- a bad line is settled
pub does-bad : (p : Parts) (line : ℕ) (why : BadRequest) (units : UnitTable) (entries : EntriesInRoom) →
    ((seen : UnitNo → Option ℕ) → units_of units seen ≡ units_bad_line (units_of p.units seen)) → verdict_in units ≡ verdict_in p.units → result_in units ≡ result_in p.units →
    entries.entries ≡ p.entries.entries ++ record { line = line; unit = nobody; what = settled.Bad why } ∷ [] → entries.emitted ≡ p.entries.emitted → owed_in p.batch ≤ entries.spare →
    Does p (Bad line why) reply.Done (record p { units = units; entries = entries })
does-bad p line why units entries u v o es em room = λ w s r a. (
  unmoved (record p { units = units; entries = entries }) w (Bad line why) r a refl (record {
    units = ap units_bad_line s.units ∙ sym (u w.units.seen_at);
    numbers = s.numbers;
    cells = s.cells;
    verdict = s.verdict ∙ sym v;
    result = s.result ∙ sym o;
    effects = s.effects;
    sources = s.sources;
    batch = s.batch;
    batches = s.batches;
    doubt = s.doubt;
    settled = ap (λ (xs : List Entry). xs ++ record { line = line; unit = nobody; what = settled.Bad why } ∷ []) s.settled ∙ sym es;
    emitted = s.emitted ∙ sym em;
    learn = s.learn;
    handed = s.handed;
    last = s.last;
    room = record { entries = room; learn = s.room.learn; places = s.room.places };
  }),
  refl,
)

-- the line of a bad line is a number of 32 bits, so the lines before it are fewer
pub lines-fit : (p : Parts) (line : ℕ) (why : BadRequest) → CanDo p (Bad line why) → line < 2 ^ 32 → p.units.lines < 2 ^ 32
lines-fit p line why c fits =
    let e : line ≡ c.0.units.lines + 1 = eqb-true _ _ (can-is c.0 (Bad line why) c.3) in
    let l : c.0.units.lines ≡ p.units.lines = ap (λ (us : Units). us.lines) c.1.units in
    omega (arith, e, l, fits)

-- the run is to stop
pub does-halt : (p : Parts) (units : UnitTable) →
    ((seen : UnitNo → Option ℕ) → units_of units seen ≡ units_halted (units_of p.units seen)) → verdict_in units ≡ verdict_in p.units → result_in units ≡ result_in p.units →
    Does p Halt reply.Done (record p { units = units })
does-halt p units u v o = λ w s r a. (
  unmoved (record p { units = units }) w Halt r a refl (record {
    units = ap units_halted s.units ∙ sym (u w.units.seen_at);
    numbers = s.numbers;
    cells = s.cells;
    verdict = s.verdict ∙ sym v;
    result = s.result ∙ sym o;
    effects = s.effects;
    sources = s.sources;
    batch = s.batch;
    batches = s.batches;
    doubt = s.doubt;
    settled = s.settled;
    emitted = s.emitted;
    learn = s.learn;
    handed = s.handed;
    last = s.last;
    room = record { entries = s.room.entries; learn = s.room.learn; places = s.room.places };
  }),
  refl,
)

-- a unit waits for a grain
pub does-want : (p : Parts) (unit : UnitNo) (grain : GrainId) (units : UnitTable) →
    ((seen : UnitNo → Option ℕ) → units_of units seen ≡ units_wanting (units_of p.units seen) unit grain) → verdict_in units ≡ verdict_in p.units → result_in units ≡ result_in p.units →
    Does p (Want unit grain) reply.Done (record p { units = units })
does-want p unit grain units u v o = λ w s r a. (
  unmoved (record p { units = units }) w (Want unit grain) r a refl (record {
    units = ap (λ us. units_wanting us unit grain) s.units ∙ sym (u w.units.seen_at);
    numbers = s.numbers;
    cells = s.cells;
    verdict = s.verdict ∙ sym v;
    result = s.result ∙ sym o;
    effects = s.effects;
    sources = s.sources;
    batch = s.batch;
    batches = s.batches;
    doubt = s.doubt;
    settled = s.settled;
    emitted = s.emitted;
    learn = s.learn;
    handed = s.handed;
    last = s.last;
    room = record { entries = s.room.entries; learn = s.room.learn; places = s.room.places };
  }),
  refl,
)

-- an entry is written
pub does-emit : (p : Parts) (entries : EntriesInRoom) → entries.entries ≡ p.entries.entries → entries.emitted ≡ p.entries.emitted + 1 → p.entries.spare ≤ entries.spare →
    Does p Emitted reply.Done (record p { entries = entries })
does-emit p entries es em room = λ w s r a. (
  unmoved (record p { entries = entries }) w Emitted r a refl (record {
    units = s.units;
    numbers = s.numbers;
    cells = s.cells;
    verdict = s.verdict;
    result = s.result;
    effects = s.effects;
    sources = s.sources;
    batch = s.batch;
    batches = s.batches;
    doubt = s.doubt;
    settled = s.settled ∙ sym es;
    emitted = ap (λ n. n + 1) s.emitted ∙ sym em;
    learn = s.learn;
    handed = s.handed;
    last = s.last;
    room = record { entries = (let owed = s.room.entries in omega (arith, owed, room)); learn = s.room.learn; places = s.room.places };
  }),
  refl,
)

-- there is an entry to write
pub some-entry : (p : Parts) → CanDo p Emitted → p.entries.emitted < length p.entries.entries
some-entry p c =
    let lt : c.0.manager.emitted < length c.0.manager.settled = ltb-true _ _ (can-is c.0 Emitted c.3) in
    omega (arith, lt, c.1.emitted, ap (λ (xs : List Entry). length xs) c.1.settled)

-- the unit waits for the grain
abbrev pub waits-in : Parts → UnitNo → GrainId → Bool
waits-in p u g = any (λ (t : UnitNo × GrainId). same_unit t.0 u && same_grain t.1 g) (wants_in p.units)

-- who may wait does so by what is kept
pub want-is : (p : Parts) (w : CoreState) (u : UnitNo) (g : GrainId) → PartsStand p w →
    (is_active_in p u g && (not (holds_lock u (cell_in p.cells g).holds) && not (waits-in p u g))) ≡ can_want w u g
want-is p w u g s = λ i.
    (is_running ((sym s.units i).phase u) && nat_lt g.kind (sym s.units i).kinds)
    && (not (holds_lock u (sym (holds-at p.cells w.cells s.cells g) i)) && not (any (λ (t : UnitNo × GrainId). same_unit t.0 u && same_grain t.1 g) (sym s.units i).wants))
