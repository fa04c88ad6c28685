-- What stands for the same.
use Rattle.std.proofs.Common.{◌≡◌, ℕ, ◌≤◌, List, Bool, true, refl, sym, ap, ◌∙◌, subst, arith, Option, Some, None, length, Result, Ok, Err, OnOk, OnErr, IfOk}
use Rattle.core_model.specs.CoreState.{UnitNo, GrainId, Units, CoreState}
use Rattle.core_parts.specs.Room.{EntriesInRoom, PairsInRoom}
use Rattle.cell_table.specs.Table.{cells_kept, opens_with}
use Rattle.cell_table.specs.declared.table.CellTable.{CellTable}
use Rattle.unit_table.specs.Table.{units_of, verdict_in, result_in}
use Rattle.unit_table.specs.Rooms.{SameUnits}
use Rattle.unit_table.specs.declared.table.UnitTable.{UnitTable}
use Rattle.core_model.specs.declared.events.CoreEvent.{CoreEvent}
use Rattle.core_model.specs.declared.events.CoreReply.{CoreReply}
use Rattle.history_core.specs.declared.parts.Parts.{Parts}
use Rattle.history_core.specs.KeptParts.{PartsStand}
use Rattle.history_core.specs.Steps.{KeepsMeaning, Does}
use Rattle.history_core.proofs.MemoryCells.{stands-in}

pub keeps-units : (p : Parts) (units : UnitTable) → SameUnits p.units units → KeepsMeaning p (record p { units = units })
keeps-units p units e = λ w s. record {
  units = s.units ∙ sym (e.units w.units.seen_at);
  numbers = s.numbers;
  cells = s.cells;
  verdict = s.verdict ∙ sym e.verdict;
  result = s.result ∙ sym e.result;
  effects = s.effects;
  sources = s.sources;
  batch = s.batch;
  batches = s.batches;
  doubt = s.doubt;
  settled = s.settled;
  emitted = s.emitted;
  learn = s.learn;
  handed = s.handed;
  last = s.last;
  room = record { entries = s.room.entries; learn = s.room.learn; places = s.room.places };
}

pub keeps-cells : (p : Parts) (cells : CellTable) → cells_kept cells ≡ cells_kept p.cells → cells.recent ≡ p.cells.recent → opens_with cells ≡ opens_with p.cells → KeepsMeaning p (record p { cells = cells })
keeps-cells p cells kept recent opens = λ w s. record {
  units = s.units;
  numbers = s.numbers;
  cells = stands-in p.cells cells w.cells kept recent opens s.cells;
  verdict = s.verdict;
  result = s.result;
  effects = s.effects;
  sources = s.sources;
  batch = s.batch;
  batches = s.batches;
  doubt = s.doubt;
  settled = s.settled;
  emitted = s.emitted;
  learn = s.learn;
  handed = s.handed;
  last = s.last;
  room = record { entries = s.room.entries; learn = s.room.learn; places = s.room.places };
}

pub keeps-entries : (p : Parts) (entries : EntriesInRoom) → entries.entries ≡ p.entries.entries → entries.emitted ≡ p.entries.emitted → p.entries.spare ≤ entries.spare →
    KeepsMeaning p (record p { entries = entries })
keeps-entries p entries es em more = λ w s. record {
  units = s.units;
  numbers = s.numbers;
  cells = s.cells;
  verdict = s.verdict;
  result = s.result;
  effects = s.effects;
  sources = s.sources;
  batch = s.batch;
  batches = s.batches;
  doubt = s.doubt;
  settled = s.settled ∙ sym es;
  emitted = s.emitted ∙ sym em;
  learn = s.learn;
  handed = s.handed;
  last = s.last;
  room = record { entries = omega (arith, s.room.entries, more); learn = s.room.learn; places = s.room.places };
}

-- what stands for the same first does the same
pub keeps-does : (p q : Parts) → KeepsMeaning p q → (e : CoreEvent) (reply : CoreReply) (z : Parts) → Does q e reply z → Does p e reply z
keeps-does p q k e reply z d = λ w s r a. d w (k w s) r a

pub on-ok : {A E : Type 0} (r : Result A E) (P Q : Type 0) → (P → Q) → OnOk r P → OnOk r Q
on-ok (Ok a) P Q f h = f h
on-ok (Err e) P Q f h = h

pub on-err : {A E : Type 0} (r : Result A E) (P Q : Type 0) → (P → Q) → OnErr r P → OnErr r Q
on-err (Ok a) P Q f h = h
on-err (Err e) P Q f h = f h

pub if-ok : {A E : Type 0} (r : Result A E) (P Q : A → Type 0) → ((a : A) → P a → Q a) → IfOk r P → IfOk r Q
if-ok (Ok a) P Q f h = f a h
if-ok (Err e) P Q f h = h

pub always-err : {A E : Type 0} (r : Result A E) (P : Type 0) → P → OnErr r P
always-err (Ok a) P p = tt
always-err (Err e) P p = p
