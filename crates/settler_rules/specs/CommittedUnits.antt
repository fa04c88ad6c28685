-- Of whom an entry tells, and what a doubt leaves.
use Rattle.std.specs.Prelude.{◌≡◌, ◌⊎◌, ℕ}
use Rattle.base_types.specs.declared.calls.Origin.TheVariants.{Child}
use Rattle.base_types.specs.declared.entries.Entry.{Entry}
use Rattle.core_model.specs.CoreState.{UnitNo, CoreState}
use Rattle.core_model.specs.SerialOrder.{committed, chosen}

-- the unit is the entry's, or a child of it
abbrev pub IsToldOf : CoreState → Entry → UnitNo → Type 0
IsToldOf w x u = (u ≡ x.unit) ⊎ ((index : ℕ) × (depth : ℕ) × (w.units.origin u ≡ Child x.unit index depth))

-- The doubt, what is committed, what is in doubt and what is settled are as before.
pub record KeepsDoubt (w later : CoreState) : Type 0 where
  pub doubt : later.manager.doubt ≡ w.manager.doubt
  pub committed : committed later ≡ committed w
  pub chosen : chosen later ≡ chosen w
  pub settled : later.manager.settled ≡ w.manager.settled
