-- What contracts see of a lock table.
use Rattle.std.specs.Prelude.{ℕ, List, Bool, ◌&&◌}
use Rattle.std.specs.List.{list_any as any}
use Rattle.cell_model.specs.Units.{UnitNo}
use Rattle.cell_model.specs.declared.locks.Hold.{Hold}
use Rattle.cell_model.specs.Locks.{is_hold_of, is_update}

-- the locks in the order in which they were granted, and how many more of them fit without memory
pub record Locked : Type 0 where
  pub holds : List Hold
  pub spare : ℕ

-- the unit has the grain alone
abbrev pub holds_alone : UnitNo → List Hold → Bool
holds_alone unit holds = any (λ h. is_hold_of unit h && is_update h.mode) holds
