-- The limits of a unit.
use Rattle.std.specs.Prelude.{ℕ}

-- the steps of a unit: one per statement, and one per test of a loop
abbrev pub step_limit : ℕ
step_limit = 10000

-- the frames that may be open at once, those of the units above included
abbrev pub depth_limit : ℕ
depth_limit = 32

-- the units of its own that a unit may ask for
abbrev pub unit_limit : ℕ
unit_limit = 64

-- the grains that a unit may hold
abbrev pub grain_limit : ℕ
grain_limit = 64
