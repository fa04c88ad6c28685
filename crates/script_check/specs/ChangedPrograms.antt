-- Changes of the bank's program: a field more, and a field that is dropped and comes again.
use Rattle.std.specs.Prelude.{ℕ, ℤ, List, [], ◌∷◌, pos, codes}
use Rattle.base_types.specs.declared.calls.Value.{Value}
use Rattle.base_types.specs.declared.calls.Value.TheVariants.{Int}
use Rattle.script_tree.specs.declared.expressions.Literal.TheVariants as literal
use Rattle.script_tree.specs.declared.programs.FieldDecl.{FieldDecl}
use Rattle.script_tree.specs.Programs.{ProgramTree}

-- a field of a number
abbrev pub number_field : List ℕ → ℤ → FieldDecl
number_field name initial = record { name = record { text = name; at = 0 }; initial = literal.Int initial }

-- the account's balance, which begins at 0
abbrev pub balance_field : FieldDecl
balance_field = number_field (codes "balance") (pos 0)

-- the account's limit, which begins at 7
abbrev pub limit_field : FieldDecl
limit_field = number_field (codes "limit") (pos 7)

-- a program of one type without methods, whose name stands at place 5
abbrev pub only_type : List ℕ → List FieldDecl → ProgramTree
only_type name fields = record { name = record { text = name; at = 5 }; fields = fields; methods = [] } ∷ []

-- the bank: an account with these fields
abbrev pub bank_of : List FieldDecl → ProgramTree
bank_of fields = only_type (codes "account") fields

-- a state of one number, and of two
abbrev pub one_number : ℤ → List Value
one_number n = Int n ∷ []

abbrev pub two_numbers : ℤ → ℤ → List Value
two_numbers a b = Int a ∷ Int b ∷ []
