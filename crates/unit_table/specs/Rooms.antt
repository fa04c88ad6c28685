-- What room a table of units has.
use Rattle.std.specs.Prelude.{◌≡◌, ◌<◌, ◌^◌, ℕ, Option, Some, None, true, Box, vec_len, vec_capacity}
use Rattle.std.specs.VecDeque.{deque_len, deque_capacity}
use Rattle.std.specs.Global.{Global}
use Rattle.base_types.specs.declared.calls.Origin.{Origin}
use Rattle.base_types.specs.declared.calls.Origin.TheVariants.{Line, Child}
use Rattle.core_model.specs.CoreState.{UnitNo}
use Rattle.core_model.specs.Tests.{is_running}
use Rattle.unit_table.specs.declared.entry.RunningUnit.{RunningUnit}
use Rattle.unit_table.specs.declared.entry.UnitEntry.{UnitEntry}
use Rattle.unit_table.specs.declared.table.UnitTable.{UnitTable}
use Rattle.unit_table.specs.KnownUnits.{HasKidRoom, HasReadRoom, IsBlank}
use Rattle.unit_table.specs.Table.{entry_in, phase_in, lines_in, next_in, units_of, verdict_in, result_in, base_of}

-- The two stand for the same.
pub record SameUnits (old new : UnitTable) : Type 0 where
  pub units : (seen : UnitNo → Option ℕ) → units_of new seen ≡ units_of old seen
  pub verdict : verdict_in new ≡ verdict_in old
  pub result : result_in new ≡ result_in old
  pub base : base_of new ≡ base_of old

-- The two have the same first number, types and halt.
pub record SameRest (old new : UnitTable) : Type 0 where
  pub base : new.base ≡ old.base
  pub kinds : new.kinds ≡ old.kinds
  pub halt : new.halt ≡ old.halt

-- The two have the same units whose results have gone, as many others, room for the same, and the same waits.
pub record SameRoom (old new : UnitTable) : Type 0 where
  pub past : new.past ≡ old.past
  pub len : deque_len new.units ≡ deque_len old.units
  pub capacity : deque_capacity new.units ≡ deque_capacity old.units
  pub spare : new.spare ≡ old.spare
  pub wants : new.wants ≡ old.wants

-- a child's parent runs
abbrev pub ParentRuns : UnitTable → Origin → Type 0
ParentRuns t (Line n) = Unit {0}
ParentRuns t (Child p i d) = is_running (phase_in t p) ≡ true

-- there is an entry, with room for one more child
abbrev pub KidRoomAt : Option UnitEntry → Type 0
KidRoomAt None = ⊥
KidRoomAt (Some x) = HasKidRoom x

-- a child's parent has room for it
abbrev pub ParentHasRoom : UnitTable → Origin → Type 0
ParentHasRoom t (Line n) = Unit {0}
ParentHasRoom t (Child p i d) = KidRoomAt (entry_in t p)

-- there is a unit whose call can be written over
abbrev pub BlankAt : Option (Box RunningUnit Global) → Type 0
BlankAt None = ⊥
BlankAt (Some x) = IsBlank x.value

-- What a unit that begins needs is there, and its number is below 2^63.
pub record RoomToBegin (t : UnitTable) (origin : Origin) : Type 0 where
  pub number : next_in t < 2 ^ 63
  pub entry : deque_len t.units < deque_capacity t.units
  pub unit : BlankAt t.spare
  pub parent : ParentHasRoom t origin

-- one more line can be counted, where the unit is a line's
abbrev pub LineIsCounted : UnitTable → Origin → Type 0
LineIsCounted t (Line n) = lines_in t < 2 ^ 32
LineIsCounted t (Child p i d) = Unit {0}

-- there is an entry, with room for one more read and dependency
abbrev pub ReadRoomAt : Option UnitEntry → Type 0
ReadRoomAt None = ⊥
ReadRoomAt (Some x) = HasReadRoom x

-- the unit runs, with room for one more read and dependency
abbrev pub RoomToRead : UnitTable → UnitNo → Type 0
RoomToRead t u = ReadRoomAt (entry_in t u)

-- there is room for one more wait
abbrev pub RoomToWant : UnitTable → Type 0
RoomToWant t = vec_len t.wants < vec_capacity t.wants
