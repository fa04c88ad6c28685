-- Which grains are in memory.
use Rattle.std.specs.Prelude.{◌≡◌, ◌⊎◌, ◌≤◌, ℕ, true, false, Some, None, length}
use Rattle.core_model.specs.CoreState.{UnitNo, GrainId, Member, Running, Hold, CoreState}
use Rattle.core_model.specs.Tests.{is_recent, is_idle}

-- Where memory has a limit, no more grains are kept for their last use, and each other one in memory isn't idle. Where it
-- has none, each grain is in memory. Who wants a grain runs, and holds no lock of it.
pub record MemoryIsBounded (w : CoreState) : Type 0 where
  pub limit : (n : ℕ) → w.cells.capacity ≡ Some n → length w.cells.recent ≤ n
  pub used : (n : ℕ) (g : GrainId) → w.cells.capacity ≡ Some n → w.cells.here g ≡ true → (is_recent w g ≡ true) ⊎ (is_idle w g ≡ false)
  pub kept : (g : GrainId) → is_recent w g ≡ true → w.cells.here g ≡ true
  pub all : (g : GrainId) → w.cells.capacity ≡ None → w.cells.here g ≡ true
  pub wanted : (u : UnitNo) (g : GrainId) → Member (u, g) w.units.wants → (w.units.phase u ≡ Running) × ((h : Hold) → Member h (w.cells.holds g) → h.unit ≡ u → ⊥)
