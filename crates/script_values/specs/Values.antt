-- What operators give.
use Rattle.std.specs.Prelude.{ℕ, zero, suc, Bool, true, false, ◌&&◌, ◌||◌, not, if◌then◌else◌, nat_le, bytes_eq, List, ◌++◌, length, ℤ, pos, negsuc, ◌+ℤ◌, ◌-ℤ◌, ◌*ℤ◌, neg_ℤ, int_lt, int_le, int_div, int_rem, Result, Ok, Err}
use Rattle.base_types.specs.declared.calls.Value.{Value}
use Rattle.base_types.specs.declared.calls.Value.TheVariants.{Int, Text}
use Rattle.script_tree.specs.declared.expressions.UnaryOp.{UnaryOp}
use Rattle.script_tree.specs.declared.expressions.UnaryOp.TheVariants.{Minus, Not}
use Rattle.script_tree.specs.declared.expressions.BinaryOp.{BinaryOp}
use Rattle.script_tree.specs.declared.expressions.BinaryOp.TheVariants.{Add, Sub, Mul, Div, Rem, Lt, Le, Gt, Ge, Eq, Ne, And, Or}
use Rattle.script_values.specs.Faults.{overflow, divide, kind, too_long}

-- a value, or the text of the fault that ends the unit
abbrev pub ValueOrFault : Type 0
ValueOrFault = Result Value (List ℕ)

-- what follows a value; a fault stays
abbrev pub then_value : ValueOrFault → (Value → ValueOrFault) → ValueOrFault
then_value (Err fault) go = Err fault
then_value (Ok value) go = go value

-- what follows a number; a text is of the wrong kind
abbrev pub with_number : Value → (ℤ → ValueOrFault) → ValueOrFault
with_number (Int number) go = go number
with_number (Text text) go = Err kind

-- whether a number fits 64 bits
abbrev pub fits : ℤ → Bool
fits number = int_le (negsuc 9223372036854775807) number && int_le number (pos 9223372036854775807)

-- a number, where it fits
abbrev pub within : ℤ → ValueOrFault
within number = if fits number then Ok (Int number) else Err overflow

-- a text, where it has at most 4,096 bytes
abbrev pub joined_text : List ℕ → ValueOrFault
joined_text text = if nat_le (length text) 4096 then Ok (Text text) else Err too_long

-- the number that stands for a truth
abbrev pub truth : Bool → Value
truth true = Int (pos 1)
truth false = Int (pos 0)

-- a number other than 0 is true
abbrev pub is_true : ℤ → Bool
is_true (pos zero) = false
is_true (pos (suc n)) = true
is_true (negsuc n) = true

-- the same number, or the same text; values of different kinds differ
abbrev pub equal_values : Value → Value → Bool
equal_values (Int left) (Int right) = int_le left right && int_le right left
equal_values (Text left) (Text right) = bytes_eq left right
equal_values (Int left) (Text right) = false
equal_values (Text left) (Int right) = false

-- an operator before a number
abbrev pub prefixed : UnaryOp → ℤ → ValueOrFault
prefixed Minus number = within (neg_ℤ number)
prefixed Not number = Ok (truth (not (is_true number)))

-- the quotient rounded towards zero, and the remainder with the dividend's sign: no divisor is 0, and the
-- quotient must fit for both
abbrev pub quotient : ℤ → ℤ → ValueOrFault
quotient left (pos zero) = Err divide
quotient left (pos (suc n)) = within (int_div left (pos (suc n)))
quotient left (negsuc n) = within (int_div left (negsuc n))

-- the remainder of a division, a fault where its quotient is one
abbrev pub remainder : ℤ → ℤ → ValueOrFault
remainder left right = then_value (quotient left right) (λ whole. Ok (Int (int_rem left right)))

-- an operator between two numbers
abbrev pub of_numbers : BinaryOp → ℤ → ℤ → ValueOrFault
of_numbers Add left right = within (left +ℤ right)
of_numbers Sub left right = within (left -ℤ right)
of_numbers Mul left right = within (left *ℤ right)
of_numbers Div left right = quotient left right
of_numbers Rem left right = remainder left right
of_numbers Lt left right = Ok (truth (int_lt left right))
of_numbers Le left right = Ok (truth (int_le left right))
of_numbers Gt left right = Ok (truth (int_lt right left))
of_numbers Ge left right = Ok (truth (int_le right left))
of_numbers Eq left right = Ok (truth (equal_values (Int left) (Int right)))
of_numbers Ne left right = Ok (truth (not (equal_values (Int left) (Int right))))
of_numbers And left right = Ok (truth (is_true left && is_true right))
of_numbers Or left right = Ok (truth (is_true left || is_true right))

-- an operator between two texts
abbrev pub of_texts : BinaryOp → List ℕ → List ℕ → ValueOrFault
of_texts Add left right = joined_text (left ++ right)
of_texts Eq left right = Ok (truth (bytes_eq left right))
of_texts Ne left right = Ok (truth (not (bytes_eq left right)))
of_texts Sub left right = Err kind
of_texts Mul left right = Err kind
of_texts Div left right = Err kind
of_texts Rem left right = Err kind
of_texts Lt left right = Err kind
of_texts Le left right = Err kind
of_texts Gt left right = Err kind
of_texts Ge left right = Err kind
of_texts And left right = Err kind
of_texts Or left right = Err kind

-- an operator between a number and a text
abbrev pub of_kinds : BinaryOp → ValueOrFault
of_kinds Eq = Ok (truth false)
of_kinds Ne = Ok (truth true)
of_kinds Add = Err kind
of_kinds Sub = Err kind
of_kinds Mul = Err kind
of_kinds Div = Err kind
of_kinds Rem = Err kind
of_kinds Lt = Err kind
of_kinds Le = Err kind
of_kinds Gt = Err kind
of_kinds Ge = Err kind
of_kinds And = Err kind
of_kinds Or = Err kind

-- an operator between two values
abbrev pub combined : BinaryOp → Value → Value → ValueOrFault
combined op (Int left) (Int right) = of_numbers op left right
combined op (Text left) (Text right) = of_texts op left right
combined op (Int left) (Text right) = of_kinds op
combined op (Text left) (Int right) = of_kinds op
