-- What is at fault in a program: its types, their fields and methods, in the order of the text.
use Rattle.std.specs.Prelude.{ℕ, List, [], ◌∷◌, ◌++◌, map, Some, None}
use Rattle.script_tree.specs.declared.expressions.Name.{Name}
use Rattle.script_tree.specs.declared.options.MethodKind.{MethodKind}
use Rattle.script_tree.specs.declared.options.MethodKind.TheVariants.{Read, Update, Plain}
use Rattle.script_tree.specs.declared.options.TxnOption.{TxnOption}
use Rattle.script_tree.specs.declared.options.TxnOption.TheVariants.{Create, Join, CreateOrJoin, Suppress, Supported, NotAllowed}
use Rattle.script_tree.specs.declared.programs.FieldDecl.{FieldDecl}
use Rattle.script_tree.specs.Programs.{MethodTree, TypeTree, ProgramTree}
use Rattle.script_scopes.specs.declared.faults.CheckFault.TheVariants.{NeedsTransaction}
use Rattle.script_scopes.specs.FirstFaults.{FirstFault, ◌<|>◌}
use Rattle.script_scopes.specs.Names.{Scope, taken_fault, room_fault}
use Rattle.script_scopes.specs.Statements.{block_fault}

-- a method that reads or updates fields runs in a transaction: three of the options may run it in none
abbrev pub option_fault : TxnOption → ℕ → FirstFault
option_fault Create at = None
option_fault Join at = None
option_fault CreateOrJoin at = None
option_fault Suppress at = Some (NeedsTransaction at)
option_fault Supported at = Some (NeedsTransaction at)
option_fault NotAllowed at = Some (NeedsTransaction at)

-- what is at fault at a method's option: one that is plain may have any
abbrev pub transaction_fault : MethodKind → TxnOption → ℕ → FirstFault
transaction_fault Plain option at = None
transaction_fault Read option at = option_fault option at
transaction_fault Update option at = option_fault option at

-- the items of a list, each with the names of those before it
unfoldable pub each_fault : {A : Type 0} → (A → Name) → (Scope → A → FirstFault) → Scope → List A → FirstFault
each_fault name_of fault before [] = None
each_fault name_of fault before (first ∷ rest) = fault before first <|> each_fault name_of fault (before ++ ((name_of first).text ∷ [])) rest

-- a name that is declared after others of its kind: none of them is the same, and they are below the limit
abbrev pub declared_fault : ℕ → Scope → Name → FirstFault
declared_fault limit before name = taken_fault before name <|> room_fault limit before name

-- a field of a type, of which there are at most 64
abbrev pub field_fault : Scope → FieldDecl → FirstFault
field_fault before field = declared_fault 64 before field.name

-- a parameter of a method, of which there are at most 8, and none has a field's name
abbrev pub parameter_fault : Scope → Scope → Name → FirstFault
parameter_fault fields before name = taken_fault fields name <|> declared_fault 8 before name

-- a method's parameters
abbrev pub parameters_fault : Scope → List Name → FirstFault
parameters_fault fields params = each_fault (λ n. n) (parameter_fault fields) [] params

-- a method of a type with these fields: its body has its parameters in scope
abbrev pub body_fault : ProgramTree → Scope → MethodTree → FirstFault
body_fault types fields method =
    block_fault (record { types = types; fields = fields; kind = method.kind }) (map (λ n. n.text) method.params) method.body

-- a method of a type, of which there are at most 64
abbrev pub method_fault : ProgramTree → Scope → Scope → MethodTree → FirstFault
method_fault types fields before method =
    declared_fault 64 before method.name <|> transaction_fault method.kind method.option method.name.at <|> parameters_fault fields method.params <|> body_fault types fields method

-- the names of a type's fields
abbrev pub field_names : List FieldDecl → Scope
field_names fields = map (λ f. f.name.text) fields

-- a type of a program, of which there are at most 64
abbrev pub type_fault : ProgramTree → Scope → TypeTree → FirstFault
type_fault types before of_type =
    declared_fault 64 before of_type.name <|> each_fault (λ f. f.name) field_fault [] of_type.fields <|> each_fault (λ m. m.name) (method_fault types (field_names of_type.fields)) [] of_type.methods

-- a program, whose types may be called before the text that declares them
unfoldable pub program_fault : ProgramTree → FirstFault
program_fault types = each_fault (λ t. t.name) (type_fault types) [] types
