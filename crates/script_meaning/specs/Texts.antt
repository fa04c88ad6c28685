-- Which texts the faults of a checked program have.
use Rattle.std.specs.Prelude.{◌≡◌, ℕ, ◌⊎◌, List, [], ◌∷◌, length, Some, slice_get}
use Rattle.std.specs.List.{Contains}
use Rattle.base_types.specs.declared.calls.Call.{Call}
use Rattle.base_types.specs.declared.calls.GrainId.{GrainId}
use Rattle.base_types.specs.declared.calls.Outcome.{Outcome}
use Rattle.base_types.specs.declared.calls.Outcome.TheVariants.{Fault}
use Rattle.base_types.specs.declared.calls.Value.{Value}
use Rattle.script_tree.specs.declared.options.EntryRefusal.TheVariants.{NoTransaction, NotAllowed}
use Rattle.script_tree.specs.Stmts.{StmtTree, BlockTree, ElseTree, Bind, Rebind, SetField, Perform, Choose, Repeat, Give, FailWith, Try, NoMore, Then, NoElse, Else}
use Rattle.script_tree.specs.Programs.{ProgramTree}
use Rattle.script_check.specs.Shapes.{fitted}
use Rattle.script_check.specs.AcceptedPrograms.{IsAcceptedProgram}
use Rattle.script_values.specs.Faults.{overflow, divide, kind, key, too_long, budget, depth, units, grains, option_refusal_text, aborted}
use Rattle.script_meaning.specs.Calls.{Target, numbered}
use Rattle.script_meaning.specs.Play.{play_over}

-- the faults that the language itself gives: all of them but that of a name that stands for nothing
abbrev pub own_faults : List (List ℕ)
own_faults =
    overflow ∷ divide ∷ kind ∷ key ∷ too_long ∷ budget ∷ depth ∷ units ∷ grains ∷ option_refusal_text NoTransaction ∷ option_refusal_text
    NotAllowed ∷ aborted ∷ []

-- a text with which a statement, or one in its blocks, may fail
abbrev mutual
  pub StatementFails : StmtTree → List ℕ → Type 0
  StatementFails (Bind name value) text = ⊥
  StatementFails (Rebind name value) text = ⊥
  StatementFails (SetField name value) text = ⊥
  StatementFails (Perform call) text = ⊥
  StatementFails (Choose test block other) text = BlockFails block text ⊎ ElseFails other text
  StatementFails (Repeat test block) text = BlockFails block text
  StatementFails (Give value) text = ⊥
  StatementFails (FailWith said) text = text ≡ fitted said
  StatementFails (Try at name call block other) text = BlockFails block text ⊎ BlockFails other text

  pub BlockFails : BlockTree → List ℕ → Type 0
  BlockFails NoMore text = ⊥
  BlockFails (Then first rest) text = StatementFails first text ⊎ BlockFails rest text

  pub ElseFails : ElseTree → List ℕ → Type 0
  ElseFails NoElse text = ⊥
  ElseFails (Else block) text = BlockFails block text

-- a text with which a method of the program may fail
pub record MayFail (types : ProgramTree) (text : List ℕ) : Type 0 where
  pub of_kind : ℕ
  pub target : Target
  pub is_there : numbered (slice_get types of_kind) target.number ≡ Some target
  pub fails : BlockFails target.method.body text

-- a call of a method that is there, with as many arguments as it has parameters
pub record IsCallOf (types : ProgramTree) (call : Call) : Type 0 where
  pub target : Target
  pub is_there : numbered (slice_get types call.grain.kind) call.method ≡ Some target
  pub arity : length call.args ≡ length target.method.params

-- In a program that was checked, a fault of a play is one of the language's, one with which a method may fail, or a
-- child's. So each name stands for something.
abbrev pub FaultsAreKnown : Type 0
FaultsAreKnown = (types : ProgramTree) (call : Call) (depth : ℕ) (states : GrainId → List Value)
    (answers : List Outcome) (text : List ℕ) →
    IsAcceptedProgram types → IsCallOf types call → (play_over types call depth states answers).result ≡ Fault text →
    Contains own_faults text ⊎ MayFail types text ⊎ Contains answers (Fault text)
