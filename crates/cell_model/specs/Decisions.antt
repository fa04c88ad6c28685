-- The decisions of a batch, unit by unit in its order.
use Rattle.std.specs.Prelude.{List, [], ◌∷◌, Bool, true, false, ◌&&◌, ◌||◌, not, Option, Some, None, filter}
pub use Rattle.cell_model.specs.declared.outcomes.Prepared.{Prepared}
pub use Rattle.cell_model.specs.declared.outcomes.Decision.{Decision}
pub use Rattle.cell_model.specs.declared.outcomes.Decision.TheVariants.{Commit, Vote, Dependency}
use Rattle.cell_model.specs.Units.{UnitNo, GrainId, same_unit, oldest}

-- the unit commits
abbrev pub is_commit : Decision → Bool
is_commit Commit = true
is_commit (Vote grain) = false
is_commit (Dependency source) = false

-- a failed file comes first, then the oldest dead source
abbrev pub by_cause : Option GrainId → Option UnitNo → Decision
by_cause (Some grain) source = Vote grain
by_cause None (Some on) = Dependency on
by_cause None None = Commit

-- what becomes of a unit, where the test tells which units are dead
abbrev pub decision : (UnitNo → Bool) → Prepared → Decision
decision dead p = by_cause p.failed (oldest (filter dead p.deps))

-- the dead, and the unit where it can't commit
abbrev pub and_itself : (UnitNo → Bool) → Prepared → UnitNo → Bool
and_itself dead p unit = (same_unit unit p.unit && not (is_commit (decision dead p))) || dead unit

-- what becomes of each unit of a batch: a unit that can't commit is dead to those after it
abbrev pub all_decided : (UnitNo → Bool) → List Prepared → List Decision
all_decided dead [] = []
all_decided dead (p ∷ ps) = decision dead p ∷ all_decided (and_itself dead p) ps
