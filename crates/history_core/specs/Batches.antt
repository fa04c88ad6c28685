-- What the open batch may be told, by what is kept of it.
use Rattle.std.specs.Prelude.{ℕ, Bool, false, ◌&&◌, not, ◌==◌, Option, Some, None, is_none}
use Rattle.std.specs.List.{list_any as any}
use Rattle.cell_model.specs.Units.{same_grain}
use Rattle.core_model.specs.CoreState.{GrainId}
use Rattle.core_model.specs.Tests.{is_empty}
use Rattle.open_batch.specs.TakenBatch.{TakenBatch}

-- a vote on that grain
abbrev pub may_vote_in : Option TakenBatch → ℕ → GrainId → Bool
may_vote_in None n g = false
may_vote_in (Some x) n g = (x.number == n) && (is_none x.decisions && any (same_grain g) x.unvoted)

-- that it is decided
abbrev pub may_decide_in : Option TakenBatch → ℕ → Bool
may_decide_in None n = false
may_decide_in (Some x) n = (x.number == n) && (is_none x.decisions && is_empty x.unvoted)

-- what became of its block
abbrev pub is_judged_in : Option TakenBatch → ℕ → Bool
is_judged_in None n = false
is_judged_in (Some x) n = (x.number == n) && not (is_none x.decisions)
