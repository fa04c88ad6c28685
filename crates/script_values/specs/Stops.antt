-- What the code answers in place of what the meaning gives.
use Rattle.std.specs.Prelude.{◌≡◌, ℕ, ℤ, List, Option, Some, None, Result, Ok, Err}
use Rattle.base_types.specs.declared.calls.Value.{Value}
use Rattle.base_types.specs.declared.calls.Value.TheVariants.{Int, Text}
use Rattle.script_tree.specs.declared.expressions.BinaryOp.{BinaryOp}
use Rattle.script_values.specs.declared.stops.Stop.{Stop}
use Rattle.script_values.specs.declared.stops.Stop.TheVariants.{Fault, Memory}
use Rattle.script_values.specs.Values.{ValueOrFault, then_value, combined}
use Rattle.script_values.specs.Expressions.{between}

-- this fault is given, where it isn't want of memory, which may come in place of any answer
abbrev pub StopsWith : {A : Type 0} → Stop → Result A (List ℕ) → Type 0
StopsWith (Fault text) given = given ≡ Err text
StopsWith Memory given = Unit {0}

-- the answer is what is given: the same value, or the same fault
abbrev pub GivesOrStops : {A : Type 0} → Result A Stop → Result A (List ℕ) → Type 0
GivesOrStops (Ok value) given = given ≡ Ok value
GivesOrStops (Err stop) given = StopsWith stop given

-- the same, for what stands in a place then
abbrev pub LeavesOrStops : {A B : Type 0} → Result A Stop → B → Result B (List ℕ) → Type 0
LeavesOrStops (Ok done) left given = given ≡ Ok left
LeavesOrStops (Err stop) left given = StopsWith stop given

-- the number in a value, none in a text
abbrev pub number_in : Value → Option ℤ
number_in (Int number) = Some number
number_in (Text text) = None

-- the left operand decides: whatever the right one gives, the operator gives this; or it leaves that to both
abbrev pub Decides : Result (Option Value) Stop → BinaryOp → Value → Type 0
Decides (Ok (Some value)) op left = (right : ValueOrFault) → between op left right ≡ Ok value
Decides (Ok None) op left = (right : ValueOrFault) → between op left right ≡ then_value right (combined op left)
Decides (Err stop) op left = (right : ValueOrFault) → StopsWith stop (between op left right)
