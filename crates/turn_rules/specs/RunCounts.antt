-- What holds of the units and lines of every run.
use Rattle.std.specs.Prelude.{◌≡◌, ◌⊎◌, ◌≤◌, ◌<◌, ℕ, List}
use Rattle.base_types.specs.declared.entries.Entry.{Entry}
use Rattle.base_types.specs.declared.calls.Origin.TheVariants.{Line}
use Rattle.core_model.specs.CoreState.{UnitNo, Member, CoreState}
use Rattle.promise_spec.specs.Cores.{HasBegun}
use Rattle.promise_spec.specs.UnitAnswers.{Got, kids_got}

-- the line has an entry
abbrev pub HasEntry : CoreState → ℕ → Type 0
HasEntry w n = (x : Entry) × Member x w.manager.settled × (x.line ≡ n)

-- the line has a unit
abbrev pub HasBegunUnit : CoreState → ℕ → Type 0
HasBegunUnit w n = (u : UnitNo) × HasBegun w u × (w.units.origin u ≡ Line n)

-- Units are numbered from the base on without a gap, what a unit got has its children, and each line that was taken has
-- its unit or its entry.
pub record IsCounted (base : ℕ) (w : CoreState) (got : UnitNo → List Got) : Type 0 where
  pub above : base ≤ w.units.next
  pub numbered : (u : UnitNo) → HasBegun w u → base ≤ u.0
  pub born : (u : UnitNo) → base ≤ u.0 → u.0 < w.units.next → HasBegun w u
  pub kids : (u : UnitNo) → kids_got (got u) ≡ w.units.kids u
  pub taken : (n : ℕ) → 1 ≤ n → n ≤ w.units.lines → HasBegunUnit w n ⊎ HasEntry w n
