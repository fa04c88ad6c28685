-- What a unit has while it runs: steps that are left, units that it asked for, grains that it holds.
use Rattle.std.specs.Prelude.{ℕ, ◌+◌, true, false, if◌then◌else◌, nat_eq, List, [], ◌∷◌, map, length, slice_set, Option, Some, None}
use Rattle.base_types.specs.declared.calls.GrainId.{GrainId}
pub use Rattle.base_types.specs.Grains.{same_grain}
use Rattle.base_types.specs.declared.calls.Mode.{Mode}
use Rattle.base_types.specs.declared.calls.Mode.TheVariants.{Update}
use Rattle.base_types.specs.declared.calls.Value.{Value}
use Rattle.script_tree.specs.declared.programs.FieldDecl.{FieldDecl}
use Rattle.script_check.specs.Shapes.{value_of}
use Rattle.script_holding.specs.declared.held_grain.Held.{Held}

-- what a unit has: the steps that are left, how many units it asked for, and the grains that it holds in the
-- order of their first locks
pub record Holding : Type 0 where
  pub left : ℕ
  pub asked : ℕ
  pub held : List Held

-- the grain among those held
abbrev pub held_at : GrainId → List Held → Option Held
held_at grain [] = None
held_at grain (first ∷ rest) = if same_grain first.grain grain then Some first else held_at grain rest

-- a held grain's working state, no values where it isn't held
abbrev pub working : Option Held → List Value
working None = []
working (Some one) = one.state

-- the working state of a held grain
abbrev pub state_at : GrainId → List Held → List Value
state_at grain held = working (held_at grain held)

-- how a grain is held
abbrev pub mode_at : GrainId → List Held → Option Mode
mode_at grain [] = None
mode_at grain (first ∷ rest) = if same_grain first.grain grain then Some first.mode else mode_at grain rest

-- a held grain is changed
abbrev pub change : GrainId → (Held → Held) → List Held → List Held
change grain f [] = []
change grain f (first ∷ rest) = if same_grain first.grain grain then f first ∷ rest else first ∷ change grain f rest

-- a shared lock becomes exclusive
abbrev pub raised : Held → Held
raised one = record { grain = one.grain; mode = Update; state = one.state; written = one.written }

-- a field of the working state gets a value
abbrev pub with_field : ℕ → Value → Held → Held
with_field i value one = record { grain = one.grain; mode = one.mode; state = slice_set one.state i value; written = true }

-- the fields with which a type's grain begins
abbrev pub initial_fields : List FieldDecl → List Value
initial_fields fields = map (λ f. value_of f.initial) fields

-- a grain that is locked: its working state is the state found, or begins anew where that has another number
-- of values than the type has fields
abbrev pub newly_held : GrainId → Mode → List FieldDecl → List Value → Held
newly_held grain mode fields found =
    record { grain = grain; mode = mode; state = if nat_eq (length found) (length fields) then found else initial_fields fields; written = false }

-- other grains are held
abbrev pub with_held : Holding → List Held → Holding
with_held has held = record { left = has.left; asked = has.asked; held = held }

-- one more unit was asked for
abbrev pub one_asked : Holding → Holding
one_asked has = record { left = has.left; asked = has.asked + 1; held = has.held }

-- so many steps are left
abbrev pub with_left : ℕ → Holding → Holding
with_left left has = record { left = left; asked = has.asked; held = has.held }
