-- Dead units.
use Rattle.std.specs.Prelude.{List, true, ◌≡◌, ◌↔◌}
use Rattle.core_model.specs.CoreState.{UnitNo, Member, Read, Verdict, CoreState}
use Rattle.core_model.specs.Tests.{is_bad}

-- A unit is dead where it is aborted, or to abort, or read from a dead unit.
pub data Dead (verdict : UnitNo → Verdict) (reads : UnitNo → List Read) : UnitNo → Type 0 where
  itself : {u : UnitNo} → is_bad (verdict u) ≡ true → Dead verdict reads u
  by_source : {u : UnitNo} (r : Read) → Member r (reads u) → Dead verdict reads r.source → Dead verdict reads u

-- that of a state
abbrev pub IsDead : CoreState → UnitNo → Type 0
IsDead w u = Dead w.manager.verdict w.units.reads u

-- A unit is dead by its dependencies where it is aborted, or to abort, or one of them is dead so.
pub data DeadByDeps (verdict : UnitNo → Verdict) (deps : UnitNo → List UnitNo) : UnitNo → Type 0 where
  aborted : {u : UnitNo} → is_bad (verdict u) ≡ true → DeadByDeps verdict deps u
  by_dependency : {u : UnitNo} (d : UnitNo) → Member d (deps u) → DeadByDeps verdict deps d → DeadByDeps verdict deps u

-- the two say the same
abbrev pub DeadEitherWay : CoreState → Type 0
DeadEitherWay w = (u : UnitNo) → IsDead w u ↔ DeadByDeps w.manager.verdict w.units.deps u
