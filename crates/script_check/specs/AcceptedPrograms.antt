-- Which trees are programs.
use Rattle.std.specs.Prelude.{◌≢◌, ◌≤◌, ℕ, Bool, List, map, length}
use Rattle.std.specs.List.{All, AllPairs, Contains}
use Rattle.script_tree.specs.declared.options.MethodKind.{MethodKind}
use Rattle.script_tree.specs.declared.options.MethodKind.TheVariants.{Plain}
use Rattle.script_tree.specs.declared.options.TxnOption.{TxnOption}
use Rattle.script_tree.specs.declared.options.Entered.TheVariants as way
use Rattle.script_tree.specs.Options.{entered}
use Rattle.script_tree.specs.Programs.{MethodTree, TypeTree, ProgramTree}
use Rattle.script_scopes.specs.Names.{Scope}
use Rattle.script_scopes.specs.Bodies.{IsBlockInScope}
use Rattle.script_check.specs.Programs.{field_names}

-- a method that reads or updates fields runs in a transaction, whatever its caller has
abbrev pub IsTransacted : MethodKind → TxnOption → Type 0
IsTransacted kind option = kind ≢ Plain → (within passed : Bool) → entered option within ≢ way.Plain passed

-- names of which no two are the same
abbrev pub AreNamesApart : List (List ℕ) → Type 0
AreNamesApart names = AllPairs (λ a b. a ≢ b) names

-- a method of a type with these fields
pub record IsAcceptedMethod (types : ProgramTree) (fields : Scope) (method : MethodTree) : Type 0 where
  pub transacted : IsTransacted method.kind method.option
  pub few : length method.params ≤ 8
  pub apart : AreNamesApart (map (λ n. n.text) method.params)
  pub hides_none : All (λ n. ¬ Contains fields n.text) method.params
  pub body : IsBlockInScope (record { types = types; fields = fields; kind = method.kind }) (map (λ n. n.text) method.params) method.body

-- a type of a program of these types
pub record IsAcceptedType (types : ProgramTree) (of_type : TypeTree) : Type 0 where
  pub few_fields : length of_type.fields ≤ 64
  pub fields_apart : AreNamesApart (field_names of_type.fields)
  pub few_methods : length of_type.methods ≤ 64
  pub methods_apart : AreNamesApart (map (λ m. m.name.text) of_type.methods)
  pub methods : All (IsAcceptedMethod types (field_names of_type.fields)) of_type.methods

-- a program
pub record IsAcceptedProgram (types : ProgramTree) : Type 0 where
  pub few : length types ≤ 64
  pub apart : AreNamesApart (map (λ t. t.name.text) types)
  pub each : All (IsAcceptedType types) types
