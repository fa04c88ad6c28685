-- Holders, what they read, and what the grains have learnt.
use Rattle.std.specs.Prelude.{◌≡◌, List, [], ◌∷◌, true, ⊤}
use Rattle.core_model.specs.CoreState.{UnitNo, GrainId, Member, Read, Running, Hold, Reading, CoreState}
use Rattle.cell_model.specs.Locks.{is_update}
use Rattle.core_model.specs.Tests.{is_final}
use Rattle.core_model.specs.Chains.{WroteGrain}

-- no two items are of one unit
abbrev pub DifferInUnit : {A : Type 0} → (A → UnitNo) → List A → Type 0
DifferInUnit unit_of [] = ⊤
DifferInUnit {A} unit_of (x ∷ xs) = ((y : A) → Member y xs → unit_of x ≡ unit_of y → ⊥) × DifferInUnit unit_of xs

-- A unit has at most one lock and one reading of a grain, one exactly where it has the other, and the reading's source is
-- that of its read there. It reads a grain once, and has read what it wrote. A grain has learnt only of units that wrote it
-- and are decided for good.
pub record HoldersHaveRead (w : CoreState) : Type 0 where
  pub one_lock : (g : GrainId) → DifferInUnit (λ (h : Hold). h.unit) (w.cells.holds g)
  pub one_reading : (g : GrainId) → DifferInUnit (λ (s : Reading). s.unit) (w.cells.readings g)
  pub reading : (g : GrainId) (h : Hold) → Member h (w.cells.holds g) → (s : Reading) × Member s (w.cells.readings g) × (s.unit ≡ h.unit)
  pub lock : (g : GrainId) (s : Reading) → Member s (w.cells.readings g) → (h : Hold) × Member h (w.cells.holds g) × (h.unit ≡ s.unit)
  pub source : (g : GrainId) (s : Reading) → Member s (w.cells.readings g) → (r : Read) × Member r (w.units.reads s.unit) × (r.grain ≡ g) × (r.source ≡ s.source)
  pub once : (u : UnitNo) (r s : Read) → Member r (w.units.reads u) → Member s (w.units.reads u) → r.grain ≡ s.grain → r ≡ s
  pub overwrites : (u : UnitNo) (g : GrainId) → WroteGrain w.manager.writes u g → (r : Read) × Member r (w.units.reads u) × (r.grain ≡ g)
  pub learnt : (u : UnitNo) (g : GrainId) → w.cells.learnt u g ≡ true → (is_final (w.manager.verdict u) ≡ true) × WroteGrain w.manager.writes u g

-- Later a unit that runs still holds what it held, and for itself alone where it did.
abbrev pub RunnersKeepLocks : CoreState → CoreState → Type 0
RunnersKeepLocks w later = (g : GrainId) (h : Hold) → Member h (w.cells.holds g) → later.units.phase h.unit ≡ Running →
    (k : Hold) × Member k (later.cells.holds g) × (k.unit ≡ h.unit) × (is_update h.mode ≡ true → is_update k.mode ≡ true)
