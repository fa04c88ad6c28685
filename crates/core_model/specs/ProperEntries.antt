-- Settled entries are proper, as far as the core alone can say.
use Rattle.std.specs.Prelude.{◌≡◌, ◌≤◌, ◌<◌, ℕ, Bool, true, ⊤}
use Rattle.base_types.specs.declared.calls.Outcome.TheVariants as outcome
use Rattle.base_types.specs.declared.entries.Settled.TheVariants as settled
use Rattle.core_model.specs.CoreState.{UnitNo, nobody, Effect, Entry, Settled, CoreState}

-- no effect that is a play has an abort as its result
abbrev pub NeverAborts : (Effect → Bool) → Type 0
NeverAborts plays = (e : Effect) → plays e ≡ true → e.result ≡ outcome.Aborted → ⊥

-- a bad line has nobody's unit; every other entry has one of the run's
abbrev pub HasUnitOf : ℕ → CoreState → UnitNo → Settled → Type 0
HasUnitOf base w u (settled.Bad why) = u ≡ nobody
HasUnitOf base w u (settled.Done result) = (base ≤ u.0) × (u.0 < w.units.next)
HasUnitOf base w u (settled.Lock by g) = (base ≤ u.0) × (u.0 < w.units.next)
HasUnitOf base w u (settled.Vote g) = (base ≤ u.0) × (u.0 < w.units.next)
HasUnitOf base w u (settled.Dependency on) = (base ≤ u.0) × (u.0 < w.units.next)
HasUnitOf base w u settled.Disk = (base ≤ u.0) × (u.0 < w.units.next)
HasUnitOf base w u settled.InDoubt = (base ≤ u.0) × (u.0 < w.units.next)

-- what a unit's entry may say: no abort as a result, grains of the program's types, an older holder, and a source that has begun
abbrev pub MaySettle : CoreState → UnitNo → Settled → Type 0
MaySettle w u (settled.Done result) = result ≡ outcome.Aborted → ⊥
MaySettle w u (settled.Lock by g) = (by.0 < u.0) × (g.kind < w.units.kinds)
MaySettle w u (settled.Vote g) = g.kind < w.units.kinds
MaySettle w u (settled.Dependency on) = on.0 < w.units.next
MaySettle w u settled.Disk = ⊤
MaySettle w u settled.InDoubt = ⊤
MaySettle w u (settled.Bad why) = ⊤

-- An entry's line, unit and words are in their ranges; the first unit of the run is the base.
pub record IsProperEntry (base : ℕ) (w : CoreState) (x : Entry) : Type 0 where
  pub line : (0 < x.line) × (x.line ≤ w.units.lines)
  pub unit : HasUnitOf base w x.unit x.what
  pub what : MaySettle w x.unit x.what
