-- The locks of one grain, in the order in which they were granted.
use Rattle.std.specs.Prelude.{List, [], ◌∷◌, ◌++◌, Bool, true, false, ◌&&◌, ◌||◌, not, Option, Some, None, nat_lt, if◌then◌else◌, filter, map}
use Rattle.std.specs.List.{list_any as any}
pub use Rattle.base_types.specs.declared.calls.Mode.{Mode}
pub use Rattle.base_types.specs.declared.calls.Mode.TheVariants.{Read, Update}
pub use Rattle.cell_model.specs.declared.locks.Hold.{Hold}
pub use Rattle.cell_model.specs.declared.locks.Ask.{Ask}
pub use Rattle.cell_model.specs.declared.locks.Ask.TheVariants.{Free, Held, MustWait, MustDie}
use Rattle.cell_model.specs.Units.{UnitNo, same_unit, oldest}

-- for one unit alone
abbrev pub is_update : Mode → Bool
is_update Read = false
is_update Update = true

-- the lock is the unit's
abbrev pub is_hold_of : UnitNo → Hold → Bool
is_hold_of unit hold = same_unit hold.unit unit

-- the unit has a lock
abbrev pub holds_lock : UnitNo → List Hold → Bool
holds_lock unit holds = any (is_hold_of unit) holds

-- the lock is the unit's, in that mode or for it alone
abbrev pub covers : UnitNo → Mode → Hold → Bool
covers unit mode hold = is_hold_of unit hold && (is_update hold.mode || not (is_update mode))

-- another unit has the lock, and one of the two modes is for one unit alone
abbrev pub conflicts : UnitNo → Mode → Hold → Bool
conflicts unit mode hold = not (is_hold_of unit hold) && (is_update mode || is_update hold.mode)

-- the holders who conflict
abbrev pub rivals : UnitNo → Mode → List Hold → List UnitNo
rivals unit mode holds = map (λ h. h.unit) (filter (conflicts unit mode) holds)

-- who meets nobody goes on, who meets an older one dies, and who meets younger ones alone waits
abbrev pub wait_or_die : UnitNo → Option UnitNo → Ask
wait_or_die unit None = Free
wait_or_die unit (Some holder) = if nat_lt holder.0 unit.0 then MustDie holder else MustWait holder

-- the answer to a unit that asks for a lock
abbrev pub ask : List Hold → UnitNo → Mode → Ask
ask holds unit mode = if any (covers unit mode) holds then Held else wait_or_die unit (oldest (rivals unit mode holds))

-- the locks without the unit's
abbrev pub dropped : List Hold → UnitNo → List Hold
dropped holds unit = filter (λ h. not (is_hold_of unit h)) holds

-- the locks with the unit's in that mode, in place of one that it had
abbrev pub granted : List Hold → UnitNo → Mode → List Hold
granted holds unit mode = dropped holds unit ++ record { unit = unit; mode = mode } ∷ []
