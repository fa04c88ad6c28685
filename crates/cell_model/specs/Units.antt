-- Units and grains by their numbers.
use Rattle.std.specs.Prelude.{List, [], ◌∷◌, Bool, Option, Some, None, ◌==◌, nat_lt, if◌then◌else◌, ⊤, ◌<◌}
pub use Rattle.base_types.specs.declared.calls.UnitNo.{UnitNo}
pub use Rattle.base_types.specs.declared.calls.GrainId.{GrainId}
pub use Rattle.base_types.specs.Grains.{same_grain}
pub use Rattle.base_types.specs.Lists.{Member}

-- each unit is older than all behind it
abbrev pub UnitsAscend : List UnitNo → Type 0
UnitsAscend [] = ⊤
UnitsAscend (u ∷ us) = ((v : UnitNo) → Member v us → u.0 < v.0) × UnitsAscend us

-- nobody, whose version is the opening state
abbrev pub nobody : UnitNo
nobody = record { 0 = 0 }

-- the two are one unit
abbrev pub same_unit : UnitNo → UnitNo → Bool
same_unit a b = a.0 == b.0

-- the older of the two
abbrev pub older : UnitNo → UnitNo → UnitNo
older a b = if nat_lt a.0 b.0 then a else b

-- the older of a unit and one that may be missing
abbrev pub older_first : UnitNo → Option UnitNo → Option UnitNo
older_first u None = Some u
older_first u (Some v) = Some (older u v)

-- the older of two units that may both be missing
abbrev pub joined : Option UnitNo → Option UnitNo → Option UnitNo
joined None other = other
joined (Some unit) other = older_first unit other

-- the oldest of these units, none where there is none
abbrev pub oldest : List UnitNo → Option UnitNo
oldest [] = None
oldest (u ∷ us) = older_first u (oldest us)
