-- What is at fault at one name.
use Rattle.std.specs.Prelude.{ℕ, Bool, List, length, nat_le, bytes_eq, if◌then◌else◌, Some, None}
use Rattle.std.specs.List.{list_any}
use Rattle.script_tree.specs.declared.expressions.Name.{Name}
use Rattle.script_tree.specs.declared.options.MethodKind.{MethodKind}
use Rattle.script_tree.specs.declared.options.MethodKind.TheVariants.{Read, Update, Plain}
use Rattle.script_tree.specs.Programs.{ProgramTree}
use Rattle.script_scopes.specs.declared.faults.CheckFault.TheVariants.{UnknownName, TwiceNamed, FieldInPlain, SetInRead, TooMany}
use Rattle.script_scopes.specs.FirstFaults.{FirstFault, ◌<|>◌}

-- names that stand for something, the first declared first
abbrev pub Scope : Type 0
Scope = List (List ℕ)

-- what a method's body may speak of besides its parameters and locals: the program's types, the fields of
-- its own type, and what it does with these
pub record Setting : Type 0 where
  pub types : ProgramTree
  pub fields : Scope
  pub kind : MethodKind

-- whether a name stands for something
abbrev pub is_in : Scope → List ℕ → Bool
is_in scope name = list_any (bytes_eq name) scope

-- a declared name stands for something already
abbrev pub taken_fault : Scope → Name → FirstFault
taken_fault scope name = if is_in scope name.text then Some (TwiceNamed name.at) else None

-- a declared name is one more than the limit, after these
abbrev pub room_fault : ℕ → Scope → Name → FirstFault
room_fault limit before name = if nat_le limit (length before) then Some (TooMany name.at) else None

-- a local's or a parameter's name is a field's, or that of a local or parameter in scope
abbrev pub local_fault : Setting → Scope → Name → FirstFault
local_fault setting scope name = taken_fault setting.fields name <|> taken_fault scope name

-- a field is read in a method that may not
abbrev pub reading_fault : MethodKind → ℕ → FirstFault
reading_fault Plain at = Some (FieldInPlain at)
reading_fault Read at = None
reading_fault Update at = None

-- a field is set in a method that may not
abbrev pub writing_fault : MethodKind → ℕ → FirstFault
writing_fault Plain at = Some (FieldInPlain at)
writing_fault Read at = Some (SetInRead at)
writing_fault Update at = None

-- a name in an expression: a local, a parameter, or a field that may be read
abbrev pub variable_fault : Setting → Scope → Name → FirstFault
variable_fault setting scope name =
    if is_in scope name.text then None
    else (if is_in setting.fields name.text then reading_fault setting.kind name.at else Some (UnknownName name.at))

-- the name of an assignment: a local or a parameter
abbrev pub assigned_fault : Scope → Name → FirstFault
assigned_fault scope name = if is_in scope name.text then None else Some (UnknownName name.at)

-- the name of a `set`: a field that may be set
abbrev pub set_fault : Setting → Name → FirstFault
set_fault setting name = if is_in setting.fields name.text then writing_fault setting.kind name.at else Some (UnknownName name.at)
