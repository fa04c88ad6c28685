-- Statements, read from the left. Each stands behind its first word, or its first name.
use Rattle.std.specs.Prelude.{ℕ, zero, suc, List, [], ◌∷◌, length, Ok, Err, Option, Some, None}
use Rattle.script_tree.specs.declared.expressions.Name.{Name}
use Rattle.script_tree.specs.Exprs.{CallTree}
use Rattle.script_tree.specs.Stmts.{SourceTree, Computed, Called, StmtTree, Bind, Rebind, SetField, Perform, Choose, Repeat, Give, FailWith, Try, ElseTree, NoElse, Else, block_tree}
use Rattle.script_lexer.specs.declared.faults.ParseFault.{ParseFault}
use Rattle.script_lexer.specs.declared.faults.ParseFault.TheVariants.{Unexpected, TooDeep}
use Rattle.script_lexer.specs.declared.tokens.Spanned.{Spanned}
use Rattle.script_lexer.specs.declared.tokens.Token.{Token}
use Rattle.script_lexer.specs.declared.tokens.Token.TheVariants as token
use Rattle.script_lexer.specs.declared.tokens.Symbol.TheVariants as symbol
use Rattle.script_lexer.specs.declared.tokens.Word.{Word}
use Rattle.script_lexer.specs.declared.tokens.Word.TheVariants as word
use Rattle.script_expressions.specs.TokenReaders.{Part, Read, ◌>>=◌}
use Rattle.script_expressions.specs.Tokens.{refused_token, expected, expected_word, name_at, spelling_at, taken, taken_word}
use Rattle.script_expressions.specs.Expressions.{expression}
use Rattle.script_expressions.specs.Calls.{call_at}

module _ (stop : ParseFault) where
  -- what a local is given: a call behind its word, or an expression
  abbrev pub source_from : ℕ → List Spanned → Option (List Spanned) → Part SourceTree
  source_from depth ts (Some after) = call_at stop depth after >>= λ c. Ok (Called c.0, c.1)
  source_from depth ts None = expression stop depth ts >>= λ e. Ok (Computed e.0, e.1)

  -- where a value comes from: a call behind its word, or an expression
  unfoldable pub source_at : ℕ → Read SourceTree
  source_at depth ts = source_from depth ts (taken_word word.Call ts)

  -- a new local, behind its word
  unfoldable pub let_at : ℕ → Read StmtTree
  let_at depth ts = do
    name ← name_at stop ts
    assign ← expected stop symbol.Assign name.1
    value ← source_at depth assign.1
    end ← expected stop symbol.Semicolon value.1
    Ok (Bind name.0 value.0, end.1)

  -- a new value of a local, behind its name
  unfoldable pub assign_at : ℕ → Name → Read StmtTree
  assign_at depth name ts = do
    assign ← expected stop symbol.Assign ts
    value ← source_at depth assign.1
    end ← expected stop symbol.Semicolon value.1
    Ok (Rebind name value.0, end.1)

  -- a new value of a field, behind its word
  unfoldable pub set_at : ℕ → Read StmtTree
  set_at depth ts = do
    name ← name_at stop ts
    assign ← expected stop symbol.Assign name.1
    value ← expression stop depth assign.1
    end ← expected stop symbol.Semicolon value.1
    Ok (SetField name.0 value.0, end.1)

  -- a call whose value isn't used, behind its word
  unfoldable pub call_statement_at : ℕ → Read StmtTree
  call_statement_at depth ts = do
    call ← call_at stop depth ts
    end ← expected stop symbol.Semicolon call.1
    Ok (Perform call.0, end.1)

  -- the value of a method, behind its word
  unfoldable pub return_at : ℕ → Read StmtTree
  return_at depth ts = do
    value ← expression stop depth ts
    end ← expected stop symbol.Semicolon value.1
    Ok (Give value.0, end.1)

  -- a fault of the program's own, behind its word
  unfoldable pub fail_at : Read StmtTree
  fail_at ts = do
    said ← spelling_at stop ts
    end ← expected stop symbol.Semicolon said.1
    Ok (FailWith said.0, end.1)

  -- the second block of an if, behind its word
  abbrev pub else_from : Read (List StmtTree) → List Spanned → Option (List Spanned) → Part ElseTree
  else_from blocks ts (Some after) = blocks after >>= λ b. Ok (Else (block_tree b.0), b.1)
  else_from blocks ts None = Ok (NoElse, ts)

  -- the second block of an if, where its word stands
  unfoldable pub else_at : Read (List StmtTree) → Read ElseTree
  else_at blocks ts = else_from blocks ts (taken_word word.Else ts)

  -- a choice of two blocks, behind its word
  unfoldable pub if_at : ℕ → Read (List StmtTree) → Read StmtTree
  if_at depth blocks ts = do
    test ← expression stop depth ts
    first ← blocks test.1
    other ← else_at blocks first.1
    Ok (Choose test.0 (block_tree first.0) other.0, other.1)

  -- a block that is repeated, behind its word
  unfoldable pub while_at : ℕ → Read (List StmtTree) → Read StmtTree
  while_at depth blocks ts = do
    test ← expression stop depth ts
    body ← blocks test.1
    Ok (Repeat test.0 (block_tree body.0), body.1)

  -- an attempt at this place behind its call: a block for the call's value, and one for its fault
  abbrev pub attempt_from : Read (List StmtTree) → ℕ → Name → CallTree → Read StmtTree
  attempt_from blocks at name call ts = do
    first ← blocks ts
    others ← expected_word stop word.Else first.1
    other ← blocks others.1
    Ok (Try at name call (block_tree first.0) (block_tree other.0), other.1)

  -- a call whose fault is caught, behind its word at this place
  unfoldable pub attempt_at : ℕ → Read (List StmtTree) → ℕ → Read StmtTree
  attempt_at depth blocks at ts = do
    name ← name_at stop ts
    assign ← expected stop symbol.Assign name.1
    asks ← expected_word stop word.Call assign.1
    call ← call_at stop depth asks.1
    attempt_from blocks at name.0 call.0 call.1

  -- a statement that begins with a word, which stands at this place
  abbrev pub word_begins : ℕ → Read (List StmtTree) → Word → ℕ → Read StmtTree
  word_begins depth blocks word.Let at ts = let_at depth ts
  word_begins depth blocks word.Set at ts = set_at depth ts
  word_begins depth blocks word.Call at ts = call_statement_at depth ts
  word_begins depth blocks word.If at ts = if_at depth blocks ts
  word_begins depth blocks word.While at ts = while_at depth blocks ts
  word_begins depth blocks word.Return at ts = return_at depth ts
  word_begins depth blocks word.Fail at ts = fail_at ts
  word_begins depth blocks word.Attempt at ts = attempt_at depth blocks at ts
  word_begins depth blocks word.Type at ts = Err (Unexpected at)
  word_begins depth blocks word.Field at ts = Err (Unexpected at)
  word_begins depth blocks word.Method at ts = Err (Unexpected at)
  word_begins depth blocks word.Else at ts = Err (Unexpected at)
  word_begins depth blocks word.Key at ts = Err (Unexpected at)

  -- a statement, by the token that it begins with, and that one's place
  abbrev pub statement_from : ℕ → Read (List StmtTree) → Token → ℕ → Read StmtTree
  statement_from depth blocks (token.Name s) at ts = assign_at depth (record { text = s; at = at }) ts
  statement_from depth blocks (token.Word w) at ts = word_begins depth blocks w at ts
  statement_from depth blocks (token.Int n) at ts = Err (Unexpected at)
  statement_from depth blocks (token.Text s) at ts = Err (Unexpected at)
  statement_from depth blocks (token.Symbol s) at ts = Err (Unexpected at)

  -- a statement over the blocks that it may have
  unfoldable pub statement_over : ℕ → Read (List StmtTree) → Read StmtTree
  statement_over depth blocks [] = Err stop
  statement_over depth blocks (t ∷ ts) = statement_from depth blocks t.token t.at ts

  -- a closing brace ends the statements, or one more stands next
  abbrev pub up_to : Read StmtTree → Read (List StmtTree) → List Spanned → Option (List Spanned) → Part (List StmtTree)
  up_to one more ts (Some after) = Ok ([], after)
  up_to one more ts None = one ts >>= λ s. more s.1 >>= λ r. Ok (s.0 ∷ r.0, r.1)

  -- The statements up to a closing brace. The number bounds the turns; the count of the tokens is always enough.
  unfoldable pub statements : Read StmtTree → ℕ → Read (List StmtTree)
  statements one zero ts = Err (refused_token stop ts)
  statements one (suc n) ts = up_to one (statements one n) ts (taken symbol.RightBrace ts)

  -- a block, where so many braces, parentheses and prefix operators may be open
  unfoldable pub block : ℕ → Read (List StmtTree)
  block zero ts = expected stop symbol.LeftBrace ts >>= λ o. Err (TooDeep o.0)
  block (suc depth) ts = expected stop symbol.LeftBrace ts >>= λ o. statements (statement_over depth (block depth)) (length o.1) o.1
