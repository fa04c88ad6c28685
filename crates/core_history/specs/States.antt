-- What a state tells, in the form in which a history tells it.
use Rattle.std.specs.Prelude.{ℕ, List, [], ◌∷◌, ◌++◌, Option, Some, None, if◌then◌else◌, take, drop, map}
use Rattle.core_model.specs.CoreState.{UnitNo, Mode, Hold, Batch, CoreState, same_unit}

-- the mode of the unit's first lock of these, none where it has none
abbrev pub mode_of : UnitNo → List Hold → Option Mode
mode_of u [] = None
mode_of u (h ∷ hs) = if same_unit h.unit u then Some h.mode else mode_of u hs

-- a list's first parts, of these sizes
abbrev pub parts : List ℕ → List UnitNo → List (List UnitNo)
parts [] us = []
parts (n ∷ ns) us = take n us ∷ parts ns (drop n us)

-- the size of the open batch, where there is one
abbrev pub open_sizes : Option Batch → List ℕ
open_sizes None = []
open_sizes (Some b) = b.size ∷ []

-- the sizes of the closed batches, then of the open one
abbrev pub sizes_of : List Batch → Option Batch → List ℕ
sizes_of past batch = map (λ (b : Batch). b.size) past ++ open_sizes batch

-- the batches that were taken, each as its units
abbrev pub batches_of : CoreState → List (List UnitNo)
batches_of w = parts (sizes_of w.manager.past w.manager.batch) w.manager.order
