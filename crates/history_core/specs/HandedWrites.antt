-- What is kept of the states that units wrote, until they give the grains' locks back.
use Rattle.std.specs.Prelude.{List, [], ◌∷◌, ◌&&◌, Option, None, Some, if◌then◌else◌}
use Rattle.core_model.specs.CoreState.{UnitNo, GrainId, Value, Write, same_unit, same_grain}
use Rattle.core_model.specs.declared.effects.Read.{Read}

-- one unit's state of one grain is replaced
unfoldable pub put_handed : (UnitNo → GrainId → Option (List Value)) → UnitNo → GrainId → Option (List Value) → UnitNo → GrainId → Option (List Value)
put_handed f u g state x k = if same_unit x u && same_grain k g then state else f x k

-- the unit has no state of the grains that it read
abbrev pub cleared : (UnitNo → GrainId → Option (List Value)) → UnitNo → List Read → UnitNo → GrainId → Option (List Value)
cleared f u [] = f
cleared f u (r ∷ rs) = cleared (put_handed f u r.grain None) u rs

-- the unit has these states: of a grain that stands there twice the first
abbrev pub with_writes : (UnitNo → GrainId → Option (List Value)) → UnitNo → List Write → UnitNo → GrainId → Option (List Value)
with_writes f u [] = f
with_writes f u (x ∷ xs) = put_handed (with_writes f u xs) u x.0 (Some x.1)
