-- Whether memory has space for one grain more.
use Rattle.std.specs.Prelude.{ℕ, List, Bool, true, Option, Some, None, length, nat_lt}
use Rattle.core_model.specs.CoreState.{GrainId, Cells}

-- memory has no limit, or fewer grains were used than stay in it, whoever uses them
abbrev pub has_space_for : Option ℕ → List GrainId → Bool
has_space_for None recent = true
has_space_for (Some n) recent = nat_lt (length recent) n

-- so it is of the model's cells
abbrev pub has_space : Cells → Bool
has_space c = has_space_for c.capacity c.recent
