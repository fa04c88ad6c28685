-- Tests whether two values are one.
use Rattle.std.specs.Prelude.{ℕ, List, [], ◌∷◌, Bool, true, false, ◌&&◌, ◌==◌}
use Rattle.std.specs.Ordering.{int_eq}
use Rattle.base_types.specs.declared.calls.Value.{Value}
use Rattle.base_types.specs.declared.calls.Value.TheVariants.{Int, Text}
use Rattle.base_types.specs.declared.calls.Call.{Call}
use Rattle.base_types.specs.declared.calls.Outcome.{Outcome}
use Rattle.base_types.specs.declared.calls.Outcome.TheVariants as outcome
use Rattle.base_types.specs.declared.calls.Origin.{Origin}
use Rattle.base_types.specs.declared.calls.Origin.TheVariants.{Line, Child}
use Rattle.cell_model.specs.Units.{same_unit, same_grain}
use Rattle.core_model.specs.declared.effects.Read.{Read}

-- two lists, item by item
abbrev pub same_list : {A : Type 0} → (A → A → Bool) → List A → List A → Bool
same_list same [] [] = true
same_list same (x ∷ xs) (y ∷ ys) = same x y && same_list same xs ys
same_list same [] (y ∷ ys) = false
same_list same (x ∷ xs) [] = false

-- two texts, byte by byte
abbrev pub same_text : List ℕ → List ℕ → Bool
same_text a b = same_list (λ x y. x == y) a b

-- two values
abbrev pub same_value : Value → Value → Bool
same_value (Int a) (Int b) = int_eq a b
same_value (Text a) (Text b) = same_text a b
same_value (Int a) (Text b) = false
same_value (Text a) (Int b) = false

-- two states, field by field
abbrev pub same_state : List Value → List Value → Bool
same_state a b = same_list same_value a b

-- two outcomes
abbrev pub same_outcome : Outcome → Outcome → Bool
same_outcome (outcome.Value a) (outcome.Value b) = same_value a b
same_outcome (outcome.Fault a) (outcome.Fault b) = same_text a b
same_outcome outcome.Aborted outcome.Aborted = true
same_outcome (outcome.Value a) (outcome.Fault b) = false
same_outcome (outcome.Value a) outcome.Aborted = false
same_outcome (outcome.Fault a) (outcome.Value b) = false
same_outcome (outcome.Fault a) outcome.Aborted = false
same_outcome outcome.Aborted (outcome.Value b) = false
same_outcome outcome.Aborted (outcome.Fault b) = false

-- two calls
abbrev pub same_call : Call → Call → Bool
same_call a b = same_grain a.grain b.grain && ((a.method == b.method) && same_state a.args b.args)

-- two origins
abbrev pub same_origin : Origin → Origin → Bool
same_origin (Line a) (Line b) = a == b
same_origin (Child p i d) (Child q j e) = same_unit p q && ((i == j) && (d == e))
same_origin (Line a) (Child q j e) = false
same_origin (Child p i d) (Line b) = false

-- two reads
abbrev pub same_read : Read → Read → Bool
same_read a b = same_grain a.grain b.grain && (same_state a.state b.state && same_unit a.source b.source)

-- two lists of reads
abbrev pub same_reads : List Read → List Read → Bool
same_reads a b = same_list same_read a b
