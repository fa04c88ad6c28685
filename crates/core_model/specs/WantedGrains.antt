-- The grains that units want and that aren't in memory.
use Rattle.std.specs.Prelude.{Option, not, filter, map}
use Rattle.core_model.specs.CoreState.{UnitNo, GrainId, CoreState}
use Rattle.core_model.specs.Tests.{first_grain}

-- the lowest of them
abbrev pub next_wanted : CoreState → Option GrainId
next_wanted w = first_grain (filter (λ g. not (w.cells.here g)) (map (λ (t : UnitNo × GrainId). t.1) w.units.wants))
