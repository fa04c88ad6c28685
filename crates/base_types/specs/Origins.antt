-- What units are the runs of.
use Rattle.std.specs.Prelude.{ℕ}
use Rattle.base_types.specs.declared.calls.Origin.{Origin}
use Rattle.base_types.specs.declared.calls.Origin.TheVariants.{Line, Child}

-- the depth of a unit's first frame
abbrev pub depth_of : Origin → ℕ
depth_of (Line n) = 1
depth_of (Child parent index depth) = depth
