-- What contracts see of the grains that were used last.
use Rattle.std.specs.Prelude.{ℕ, List, not, filter}
use Rattle.base_types.specs.declared.calls.GrainId.{GrainId}
use Rattle.base_types.specs.Grains.{same_grain}

-- the grains, the one used last first, and how many there may be
pub record LastUsed : Type 0 where
  pub grains : List GrainId
  pub limit : ℕ

-- those that aren't the grain
abbrev pub others : GrainId → List GrainId → List GrainId
others g grains = filter (λ k. not (same_grain k g)) grains
