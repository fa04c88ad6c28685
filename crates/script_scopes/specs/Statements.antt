-- What is at fault in a statement, and which names stand for something behind it.
use Rattle.std.specs.Prelude.{[], ◌∷◌, ◌++◌, None}
use Rattle.script_tree.specs.declared.expressions.Name.{Name}
use Rattle.script_tree.specs.Stmts.{SourceTree, Computed, Called, StmtTree, BlockTree, ElseTree, Bind, Rebind, SetField, Perform, Choose, Repeat, Give, FailWith, Try, NoMore, Then, NoElse, Else}
use Rattle.script_scopes.specs.FirstFaults.{FirstFault, ◌<|>◌}
use Rattle.script_scopes.specs.Names.{Scope, Setting, local_fault, assigned_fault, set_fault}
use Rattle.script_scopes.specs.Expressions.{expression_fault, call_fault}

-- what a local is given
unfoldable pub source_fault : Setting → Scope → SourceTree → FirstFault
source_fault setting scope (Computed value) = expression_fault setting scope value
source_fault setting scope (Called call) = call_fault setting scope call

-- the scope with one more name
abbrev pub with_name : Scope → Name → Scope
with_name scope name = scope ++ (name.text ∷ [])

-- the scope behind a statement: a `let` adds its name, which leaves at the end of the block
abbrev pub scope_after : Scope → StmtTree → Scope
scope_after scope (Bind name value) = with_name scope name
scope_after scope (Rebind name value) = scope
scope_after scope (SetField name value) = scope
scope_after scope (Perform call) = scope
scope_after scope (Choose test block other) = scope
scope_after scope (Repeat test block) = scope
scope_after scope (Give value) = scope
scope_after scope (FailWith text) = scope
scope_after scope (Try at name call block other) = scope

unfoldable mutual
  -- a statement; the name of an `attempt` stands in its two blocks
  pub statement_fault : Setting → Scope → StmtTree → FirstFault
  statement_fault setting scope (Bind name value) = local_fault setting scope name <|> source_fault setting scope value
  statement_fault setting scope (Rebind name value) = assigned_fault scope name <|> source_fault setting scope value
  statement_fault setting scope (SetField name value) = set_fault setting name <|> expression_fault setting scope value
  statement_fault setting scope (Perform call) = call_fault setting scope call
  statement_fault setting scope (Choose test block other) = expression_fault setting scope test <|> block_fault setting scope block <|> else_fault setting scope other
  statement_fault setting scope (Repeat test block) = expression_fault setting scope test <|> block_fault setting scope block
  statement_fault setting scope (Give value) = expression_fault setting scope value
  statement_fault setting scope (FailWith text) = None
  statement_fault setting scope (Try at name call block other) =
      local_fault setting scope name <|> call_fault setting scope call <|> block_fault setting (with_name scope name) block <|> block_fault setting (with_name scope name) other

  -- a block, each statement with the names that stand behind the one before it
  pub block_fault : Setting → Scope → BlockTree → FirstFault
  block_fault setting scope NoMore = None
  block_fault setting scope (Then first rest) = statement_fault setting scope first <|> block_fault setting (scope_after scope first) rest

  -- the second block of an `if`
  pub else_fault : Setting → Scope → ElseTree → FirstFault
  else_fault setting scope NoElse = None
  else_fault setting scope (Else block) = block_fault setting scope block
