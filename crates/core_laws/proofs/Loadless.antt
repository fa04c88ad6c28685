-- What holds of the core after any events, whatever was loaded.
use Rattle.std.proofs.Common.{◌≡◌, ℕ, ◌+◌, ◌<◌, ◌≤◌, List, [], length, get_or, true, ◌⊎◌}
use Rattle.cell_model.specs.Locks.{is_update}
use Rattle.core_model.specs.CoreState.{UnitNo, GrainId, nobody, Member, Write, Hold, Reading, CoreState}
use Rattle.core_model.specs.declared.phases.Phase.{Phase}
use Rattle.core_model.specs.declared.phases.Phase.TheVariants.{Unborn, Running, Finished}
use Rattle.core_model.specs.declared.phases.Verdict.{Verdict}
use Rattle.core_model.specs.declared.phases.Verdict.TheVariants.{Open}
use Rattle.core_model.specs.declared.effects.Read.{Read}
use Rattle.core_model.specs.Chains.{WroteGrain}

-- The first n units of the finish order are decided, or judged in the open batch. Each part of the state is an argument, so
-- that an event that leaves those parts alone keeps all of this.
pub record Loadless (n : ℕ) (next : ℕ) (phase : UnitNo → Phase) (reads : UnitNo → List Read) (place : UnitNo → ℕ) (order : List UnitNo)
    (writes : UnitNo → List Write) (verdict : UnitNo → Verdict) (holds : GrainId → List Hold) (readings : GrainId → List Reading) : Type 0 where
  pub fresh : 0 < next
  pub unborn : (u : UnitNo) → next ≤ u.0 → phase u ≡ Unborn
  pub outside : phase nobody ≡ Unborn
  pub blank : (u : UnitNo) → phase u ≡ Unborn → reads u ≡ []
  pub unwritten : (u : UnitNo) → (phase u ≡ Finished → ⊥) → writes u ≡ []
  pub undecided : (u : UnitNo) → (phase u ≡ Unborn) ⊎ (phase u ≡ Running) → verdict u ≡ Open
  pub listed : (i : ℕ) → i < length order → (phase (get_or order i nobody) ≡ Finished) × (place (get_or order i nobody) ≡ i + 1)
  pub placed : (u : UnitNo) → phase u ≡ Finished → (i : ℕ) × (i < length order) × (place u ≡ i + 1) × (get_or order i nobody ≡ u)
  pub within : n ≤ length order
  pub early : (u : UnitNo) → phase u ≡ Finished → place u ≤ n → verdict u ≡ Open → ⊥
  pub late : (u : UnitNo) → phase u ≡ Finished → n < place u → verdict u ≡ Open
  pub alone : (g : GrainId) (h k : Hold) → Member h (holds g) → Member k (holds g) → is_update h.mode ≡ true → k.unit ≡ h.unit
  pub keeps : (u : UnitNo) (r : Read) → phase u ≡ Running → Member r (reads u) → (h : Hold) × Member h (holds r.grain) × (h.unit ≡ u)
  pub strong : (u : UnitNo) (g : GrainId) (h : Hold) → phase u ≡ Finished → WroteGrain writes u g → Member h (holds g) → h.unit ≡ u → (k : Hold) × Member k (holds g) × (k.unit ≡ u) × (is_update k.mode ≡ true)
  pub told : (g : GrainId) (h : Hold) → Member h (holds g) → (s : Reading) × Member s (readings g) × (s.unit ≡ h.unit)
  pub seen : (g : GrainId) (s : Reading) → Member s (readings g) → (r : Read) × Member r (reads s.unit) × (r.grain ≡ g) × (r.source ≡ s.source)
  pub kept : (g : GrainId) (s : Reading) → Member s (readings g) → (h : Hold) × Member h (holds g) × (h.unit ≡ s.unit)

-- that of a state
abbrev pub LoadlessAt : ℕ → CoreState → Type 0
LoadlessAt n w =
    Loadless n w.units.next w.units.phase w.units.reads w.manager.place w.manager.order w.manager.writes w.manager.verdict w.cells.holds w.cells.readings
