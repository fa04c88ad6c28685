-- The batches that were taken.
use Rattle.std.specs.Prelude.{◌≡◌, ◌≤◌, ◌<◌, ◌+◌, ℕ, List, [], ◌∷◌, Bool, true, Some, length, take, drop, ⊤}
use Rattle.cell_model.specs.Decisions.{is_commit}
use Rattle.core_model.specs.CoreState.{UnitNo, GrainId, Member, Write, Batch, Decision, CoreState}
use Rattle.core_model.specs.Chains.{WroteGrain}

-- the grain's file was written
abbrev pub HasYes : List (GrainId × Bool) → GrainId → Type 0
HasYes votes g = (v : GrainId × Bool) × Member v votes × (v.0 ≡ g) × (v.1 ≡ true)

-- There is one decision for each unit, and each grain that a unit to commit wrote has a vote of yes.
abbrev pub AreDecided : (UnitNo → List Write) → List (GrainId × Bool) → List UnitNo → List Decision → Type 0
AreDecided writes votes [] [] = ⊤
AreDecided writes votes [] (d ∷ ds) = ⊥
AreDecided writes votes (u ∷ us) [] = ⊥
AreDecided writes votes (u ∷ us) (d ∷ ds) = (is_commit d ≡ true → (g : GrainId) → WroteGrain writes u g → HasYes votes g) × AreDecided writes votes us ds

-- A batch of 1 to 64 units, the first of those that were left, with their decisions.
pub record IsClosedBatch (writes : UnitNo → List Write) (left : List UnitNo) (b : Batch) : Type 0 where
  pub size : (0 < b.size) × (b.size ≤ 64) × (b.size ≤ length left)
  pub decided : (ds : List Decision) × (b.decisions ≡ Some ds) × AreDecided writes b.votes (take b.size left) ds

-- The batches, numbered from 1 on, follow one another in the finish order.
abbrev pub FollowOneAnother : (UnitNo → List Write) → ℕ → List UnitNo → List Batch → Type 0
FollowOneAnother writes n left [] = ⊤
FollowOneAnother writes n left (b ∷ bs) = (b.number ≡ n + 1) × IsClosedBatch writes left b × FollowOneAnother writes (n + 1) (drop b.size left) bs

-- how many units these batches have
abbrev pub sizes : List Batch → ℕ
sizes [] = 0
sizes (b ∷ bs) = b.size + sizes bs

-- The closed batches follow one another from the front of the finish order to where the open one begins, whose number is
-- the next, and whose decisions, once it has them, are such too.
pub record BatchesFollow (w : CoreState) : Type 0 where
  pub closed : FollowOneAnother w.manager.writes 0 w.manager.order w.manager.past
  pub count : sizes w.manager.past ≡ w.manager.closed
  pub number : (b : Batch) → w.manager.batch ≡ Some b → b.number ≡ length w.manager.past + 1
  pub decided : (b : Batch) (ds : List Decision) → w.manager.batch ≡ Some b → b.decisions ≡ Some ds → AreDecided w.manager.writes b.votes (take b.size (drop w.manager.closed w.manager.order)) ds
