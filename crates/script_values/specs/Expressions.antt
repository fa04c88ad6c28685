-- What an expression gives in a frame.
use Rattle.std.specs.Prelude.{ℕ, ◌+◌, true, false, if◌then◌else◌, bytes_eq, List, [], ◌∷◌, ℤ, pos, Option, Some, None, Result, Ok, Err, slice_get}
use Rattle.base_types.specs.declared.calls.Value.{Value}
use Rattle.base_types.specs.declared.calls.Value.TheVariants.{Int}
use Rattle.script_tree.specs.declared.expressions.BinaryOp.{BinaryOp}
use Rattle.script_tree.specs.declared.expressions.BinaryOp.TheVariants.{And, Or}
use Rattle.script_tree.specs.declared.programs.FieldDecl.{FieldDecl}
use Rattle.script_tree.specs.Exprs.{ExprTree, Constant, Variable, TheKey, Prefixed, Joined}
use Rattle.script_check.specs.Shapes.{value_of}
use Rattle.script_values.specs.declared.locals.Local.{Local}
use Rattle.script_values.specs.Faults.{unknown}
use Rattle.script_values.specs.Values.{ValueOrFault, then_value, with_number, truth, is_true, prefixed, combined}

-- the parameters and locals of a frame, each name once
abbrev pub Locals : Type 0
Locals = List Local

-- a name gets a value, in its place or as a new one
abbrev pub put_local : List ℕ → Value → Locals → Locals
put_local name value [] = (record { name = name; value = value }) ∷ []
put_local name value (first ∷ rest) =
    if bytes_eq first.name name then (record { name = first.name; value = value }) ∷ rest else first ∷ put_local name value rest

-- the value of a parameter or local
abbrev pub local_named : List ℕ → Locals → Option Value
local_named name [] = None
local_named name (first ∷ rest) = if bytes_eq first.name name then Some first.value else local_named name rest

-- the number of a field of this name, counted from here on
abbrev pub field_from : ℕ → List ℕ → List FieldDecl → Option ℕ
field_from i name [] = None
field_from i name (first ∷ rest) = if bytes_eq first.name.text name then Some i else field_from (i + 1) name rest

-- the number of a field, from 0 in the order of the text
abbrev pub field_named : List ℕ → List FieldDecl → Option ℕ
field_named name fields = field_from 0 name fields

-- what an expression is evaluated in: the fields of the frame's type, its key, its grain's working state and
-- the frame's parameters and locals
pub record Surroundings : Type 0 where
  pub fields : List FieldDecl
  pub key : ℕ
  pub state : List Value
  pub locals : Locals

-- a value that is there
abbrev pub known_value : Option Value → ValueOrFault
known_value None = Err unknown
known_value (Some value) = Ok value

-- the value of the field of this number
abbrev pub field_value : List Value → Option ℕ → ValueOrFault
field_value state None = Err unknown
field_value state (Some i) = known_value (slice_get state i)

-- what a name stands for: the parameter or local, else the field
abbrev pub or_field : Option Value → ValueOrFault → ValueOrFault
or_field (Some value) field = Ok value
or_field None field = field

-- the value of a name: a local's, or else a field's
abbrev pub value_named : Surroundings → List ℕ → ValueOrFault
value_named around name = or_field (local_named name around.locals) (field_value around.state (field_named name around.fields))

-- an operator between two operands, the right one of which is evaluated only where the left one doesn't decide
abbrev pub and_so_on : ℤ → ValueOrFault → ValueOrFault
and_so_on left right = if is_true left then then_value right (combined And (Int left)) else Ok (truth false)

-- `||` with its left side: where that is true, the right one isn't looked at
abbrev pub or_so_on : ℤ → ValueOrFault → ValueOrFault
or_so_on left right = if is_true left then Ok (truth true) else then_value right (combined Or (Int left))

-- what an operator makes of a left value and of what the right side gives
abbrev pub between : BinaryOp → Value → ValueOrFault → ValueOrFault
between And left right = with_number left (λ number. and_so_on number right)
between Or left right = with_number left (λ number. or_so_on number right)
between op left right = then_value right (combined op left)

-- the value of an expression
abbrev pub value_in : Surroundings → ExprTree → ValueOrFault
value_in around (Constant literal) = Ok (value_of literal)
value_in around (Variable name) = value_named around name.text
value_in around TheKey = Ok (Int (pos around.key))
value_in around (Prefixed op of) = then_value (value_in around of) (λ value. with_number value (prefixed op))
value_in around (Joined op left right) = then_value (value_in around left) (λ value. between op value (value_in around right))

-- the values of arguments, from left to right
abbrev pub one_more : ValueOrFault → Result (List Value) (List ℕ) → Result (List Value) (List ℕ)
one_more (Err fault) rest = Err fault
one_more (Ok value) (Err fault) = Err fault
one_more (Ok value) (Ok values) = Ok (value ∷ values)

-- the values of these expressions from left to right, or the first fault
abbrev pub values_in : Surroundings → List ExprTree → Result (List Value) (List ℕ)
values_in around [] = Ok []
values_in around (first ∷ rest) = one_more (value_in around first) (values_in around rest)
