-- Which finished units hold no lock, by what is kept.
use Rattle.std.specs.Prelude.{ℕ, ◌+◌, List, [], ◌∷◌, Bool, not, if◌then◌else◌}
use Rattle.std.specs.List.{list_all as all}
use Rattle.cell_model.specs.Locks.{holds_lock}
use Rattle.core_model.specs.declared.effects.Effect.{Effect}
use Rattle.core_model.specs.declared.effects.Read.{Read}
use Rattle.cell_table.specs.Table.{cell_in}
use Rattle.history_core.specs.declared.parts.Parts.{Parts}

-- the unit holds none of the grains that it read
abbrev pub is_free_by : Parts → Effect → Bool
is_free_by p e = all (λ (r : Read). not (holds_lock e.unit (cell_in p.cells r.grain).holds)) e.reads

-- how many of these units, from the first on, hold no lock
abbrev pub front_by : Parts → List Effect → ℕ
front_by p [] = 0
front_by p (e ∷ es) = if is_free_by p e then front_by p es + 1 else 0
