-- Pairs of a unit and a grain: the grain has the unit's decision to learn.
use Rattle.std.specs.Prelude.{List, [], ◌∷◌, Bool, ◌&&◌, not, if◌then◌else◌, filter}
use Rattle.std.specs.List.{list_any as any}
use Rattle.cell_model.specs.Units.{UnitNo, GrainId, same_unit, same_grain}

-- the pair is of this unit and this grain
abbrev pub is_pair : UnitNo → GrainId → UnitNo × GrainId → Bool
is_pair unit grain p = same_unit p.0 unit && same_grain p.1 grain

-- the unit and the grain are among the pairs
abbrev pub has_pair : List (UnitNo × GrainId) → UnitNo → GrainId → Bool
has_pair ps unit grain = any (is_pair unit grain) ps

-- the pairs without the first that is of this unit and this grain
abbrev pub without_first : List (UnitNo × GrainId) → UnitNo → GrainId → List (UnitNo × GrainId)
without_first [] unit grain = []
without_first (p ∷ ps) unit grain = if is_pair unit grain p then ps else p ∷ without_first ps unit grain

-- the pairs that aren't of this unit and this grain
abbrev pub other_pairs : List (UnitNo × GrainId) → UnitNo → GrainId → List (UnitNo × GrainId)
other_pairs ps unit grain = filter (λ p. not (is_pair unit grain p)) ps
