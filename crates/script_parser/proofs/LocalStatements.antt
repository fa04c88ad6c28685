-- Readers of statements and blocks depend on nothing behind the token that stands next, or that they name; and what they
-- have read can be completed.
use Rattle.std.proofs.Common.{inl, inr, ◌++◌, ◌≡◌, ℕ, zero, suc, ◌<◌, ◌≤◌, List, [], ◌∷◌, Option, Some, None, Ok, Err, Bool, true, false, cond, refl, sym, ap, ◌∙◌, arith, length}
use Rattle.std.specs.Prelude.{pos}
use Rattle.script_tree.specs.declared.expressions.Name.{Name}
use Rattle.script_tree.specs.declared.expressions.Literal.TheVariants as literal
use Rattle.script_tree.specs.Exprs.{ExprTree, Constant, CallTree}
use Rattle.script_tree.specs.Stmts.{SourceTree, Computed, Called, StmtTree, ElseTree, NoElse, Else, block_tree, Bind, Rebind, SetField, Perform, Choose, Repeat, Give, FailWith, Try}
use Rattle.script_lexer.specs.declared.faults.ParseFault.{ParseFault}
use Rattle.script_lexer.specs.declared.faults.ParseFault.TheVariants.{Unexpected}
use Rattle.script_lexer.specs.declared.tokens.Spanned.{Spanned}
use Rattle.script_lexer.specs.declared.tokens.Token.{Token}
use Rattle.script_lexer.specs.declared.tokens.Token.TheVariants as token
use Rattle.script_lexer.specs.declared.tokens.Symbol.TheVariants as symbol
use Rattle.script_lexer.specs.declared.tokens.Word.{Word}
use Rattle.script_lexer.specs.declared.tokens.Word.TheVariants as word
use Rattle.script_expressions.specs.TokenReaders.{◌>>=◌, Part, Read}
use Rattle.script_expressions.specs.Tokens.{is_symbol, is_word, expected, expected_word, name_at, spelling_at, taken, taken_word}
use Rattle.script_expressions.specs.Expressions.{operator_at, expression}
use Rattle.script_expressions.specs.Calls.{call_at}
use Rattle.script_expressions.specs.Grammar.{IsSymbol}
use Rattle.script_expressions.proofs.Soundness.{bind_ok, ok_is}
use Rattle.script_expressions.proofs.Completeness.{symbol_read}
use Rattle.script_expressions.proofs.Locality.{Follow, Any, NoOperator, of_symbol, of_word, a_name, Canon, Split, Local, Step, leaves, keeps, takes, refuses, stops, ends, step_at, end_at, then_at, canon_then, then_local, done_canon, done_split, done_local, by_next, symbol_refused, symbol_local, word_local, name_local, text_local, shut_local, Eats, at_nil, bind_same, Loop, whole_turns, loop_split}
use Rattle.script_expressions.proofs.LocalExpressions.{nought, zero_expression, expression_local, expression_eats, call_local}
use Rattle.script_parser.specs.Grammar.{IsBlock}
use Rattle.script_parser.proofs.Soundness.{statement_sound, block_sound}
use Rattle.script_parser.proofs.Completeness.{stmt_takes, blocks_read}
use Rattle.script_parser.specs.Statements.{source_at, let_at, assign_at, set_at, call_statement_at, return_at, fail_at, else_at, if_at, while_at, attempt_at, statement_over, up_to, statements, block}

-- no `else` stands next
abbrev NotElse : Follow
NotElse ws = taken_word word.Else ws ≡ None

-- what may stand behind a statement
abbrev Plain : Follow
Plain ws = NoOperator ws × NotElse ws

name_is_none : (ws : List Spanned) → NoOperator (a_name ∷ ws)
unfolding operator_at
name_is_none ws tier = refl

semicolon_is_none : (ws : List Spanned) → NoOperator (of_symbol symbol.Semicolon ∷ ws)
unfolding operator_at
semicolon_is_none ws tier = refl

brace_is_none : (ws : List Spanned) → NoOperator (of_symbol symbol.LeftBrace ∷ ws)
unfolding operator_at
brace_is_none ws tier = refl

else_is_none : (ws : List Spanned) → NoOperator (of_word word.Else ∷ ws)
unfolding operator_at
else_is_none ws tier = refl

end_is_plain : (ws : List Spanned) → Plain (of_symbol symbol.RightBrace ∷ ws)
unfolding operator_at taken_word
end_is_plain ws = (λ tier. refl, refl)

module _ (stop : ParseFault) where
  -- ---- sources

  abbrev computes : ℕ → Read SourceTree
  computes depth m = expression stop depth m >>= λ e. Ok (Computed e.0, e.1)

  abbrev calls : ℕ → Read SourceTree
  calls depth m = call_at stop depth m >>= λ c. Ok (Called c.0, c.1)

  module _ (G : Follow) (apart : (ws : List Spanned) → G ws → NoOperator ws) where
    computes_local : (depth : ℕ) → Local stop SourceTree NoOperator G (computes depth) (computes (suc depth))
    computes_local depth = then_local stop ExprTree SourceTree NoOperator G G (expression stop depth) (expression stop (suc depth)) (λ e. Ok (Computed e.0, e.1)) (λ e. Ok (Computed e.0, e.1)) (λ y z e. inl (λ ws h. h)) (expression_local stop G apart depth) (λ a. done_local stop SourceTree G G (λ ws h. h) (Computed a))

    calls_local : (depth : ℕ) → Local stop SourceTree Any G (calls depth) (calls (suc depth))
    calls_local depth = then_local stop CallTree SourceTree Any G G (call_at stop depth) (call_at stop (suc depth)) (λ c. Ok (Called c.0, c.1)) (λ c. Ok (Called c.0, c.1)) (λ y z e. inl (λ ws h. h)) (call_local stop G apart depth) (λ a. done_local stop SourceTree G G (λ ws h. h) (Called a))

  computes_eats : (depth : ℕ) → Eats stop SourceTree (computes depth)
  computes_eats depth ts y e =
      let v = bind_ok (expression stop depth ts) (λ v. Ok (Computed v.0, v.1)) y e in
      let end : SourceTree × List Spanned = (Computed v.0.0, v.0.1) in
      let same : v.0.1 ≡ y.1 = ap (λ (p : SourceTree × List Spanned). p.1) (ok_is end y v.2) in
      let less : length v.0.1 < length ts = expression_eats stop depth ts v.0 v.1 in
      omega (arith, ap length same)

  not_call : (ws : List Spanned) → taken_word word.Call (nought ∷ ws) ≡ None
  unfolding taken_word
  not_call ws = refl

  computed_here : (depth : ℕ) (ws : List Spanned) (v : SourceTree) → computes depth (nought ∷ ws) ≡ Ok (v, ws) → source_at stop depth (nought ∷ ws) ≡ Ok (v, ws)
  unfolding source_at
  computed_here depth ws v e = rw (not_call ws) e

  source_nil : (depth : ℕ) → source_at stop depth [] ≡ Err stop
  unfolding source_at taken_word
  source_nil depth = at_nil stop SourceTree NoOperator NoOperator (computes depth) (computes (suc depth)) (computes_local NoOperator (λ ws h. h) depth) (computes_eats depth)

  module _ (G : Follow) (apart : (ws : List Spanned) → G ws → NoOperator ws) where
    source_step : (depth : ℕ) (t : Spanned) (ts : List Spanned) (b : Bool) → is_word word.Call t.token ≡ b → Step stop SourceTree G (source_at stop depth) (source_at stop (suc depth)) t ts
    unfolding source_at taken_word
    source_step depth t ts true e = takes (calls depth) (calls (suc depth)) ((calls_local G apart depth).split ts) (λ vs. rw e refl) (λ vs. rw e refl)
    source_step depth t ts false e = keeps (computes depth) (computes (suc depth)) ((computes_local G apart depth).split (t ∷ ts)) (λ y h. computes_eats depth (t ∷ ts) y h) (λ vs. rw e refl) (λ vs. rw e refl)

    source_canon : (depth : ℕ) → Canon SourceTree Any G (source_at stop depth)
    source_canon depth = record {
      more = nought ∷ [];
      part = Computed (Constant (literal.Int (pos 0)));
      starts = λ ws h. tt;
      goes = λ ws h. computed_here depth ws (Computed (Constant (literal.Int (pos 0)))) (ap (λ (r : Part ExprTree). r >>= λ e. Ok (Computed e.0, e.1)) (zero_expression stop depth ws (apart ws h)));
    }

    source_local : (depth : ℕ) → Local stop SourceTree Any G (source_at stop depth) (source_at stop (suc depth))
    source_local depth =
        by_next stop SourceTree Any G (source_at stop depth) (source_at stop (suc depth)) (source_canon (suc depth)) (stops (source_nil depth)) (λ t ts. source_step depth t ts (is_word word.Call t.token) refl)

  sources : (depth : ℕ) → Local stop SourceTree Any NoOperator (source_at stop depth) (source_at stop (suc depth))
  sources depth = source_local NoOperator (λ ws h. h) depth

  -- ---- statements

  module _ (G : Follow) (apart : (ws : List Spanned) → G ws → NoOperator ws) where
    abbrev ended : StmtTree → Read StmtTree
    ended s m = expected stop symbol.Semicolon m >>= λ end. Ok (s, end.1)

    ended_local : (s : StmtTree) → Local stop StmtTree NoOperator G (ended s) (ended s)
    ended_local s = then_local stop ℕ StmtTree NoOperator G G (expected stop symbol.Semicolon) (expected stop symbol.Semicolon) (λ end. Ok (s, end.1)) (λ end. Ok (s, end.1)) (λ y z e. inl (λ ws h. h)) (symbol_local stop NoOperator G symbol.Semicolon semicolon_is_none) (λ a. done_local stop StmtTree G G (λ ws h. h) s)

    let_local : (depth : ℕ) → Local stop StmtTree Any G (let_at stop depth) (let_at stop (suc depth))
    unfolding let_at
    let_local depth =
        then_local stop Name StmtTree Any Any G (name_at stop) (name_at stop) _ _ (λ y z e. inl (λ ws h. tt)) (name_local stop Any Any (λ ws. tt)) (λ name.
        then_local stop ℕ StmtTree Any Any G (expected stop symbol.Assign) (expected stop symbol.Assign) _ _ (λ y z e. inl (λ ws h. tt)) (symbol_local stop Any Any symbol.Assign (λ ws. tt)) (λ assign.
        then_local stop SourceTree StmtTree Any NoOperator G (source_at stop depth) (source_at stop (suc depth)) _ _ (λ y z e. inl apart) (sources depth) (λ value.
        ended_local (Bind name value))))

    assign_local : (depth : ℕ) (name : Name) → Local stop StmtTree Any G (assign_at stop depth name) (assign_at stop (suc depth) name)
    unfolding assign_at
    assign_local depth name =
        then_local stop ℕ StmtTree Any Any G (expected stop symbol.Assign) (expected stop symbol.Assign) _ _ (λ y z e. inl (λ ws h. tt)) (symbol_local stop Any Any symbol.Assign (λ ws. tt)) (λ assign.
        then_local stop SourceTree StmtTree Any NoOperator G (source_at stop depth) (source_at stop (suc depth)) _ _ (λ y z e. inl apart) (sources depth) (λ value.
        ended_local (Rebind name value)))

    set_local : (depth : ℕ) → Local stop StmtTree Any G (set_at stop depth) (set_at stop (suc depth))
    unfolding set_at
    set_local depth =
        then_local stop Name StmtTree Any Any G (name_at stop) (name_at stop) _ _ (λ y z e. inl (λ ws h. tt)) (name_local stop Any Any (λ ws. tt)) (λ name.
        then_local stop ℕ StmtTree Any NoOperator G (expected stop symbol.Assign) (expected stop symbol.Assign) _ _ (λ y z e. inl apart) (symbol_local stop Any NoOperator symbol.Assign (λ ws. tt)) (λ assign.
        then_local stop ExprTree StmtTree NoOperator NoOperator G (expression stop depth) (expression stop (suc depth)) _ _ (λ y z e. inl apart) (expression_local stop NoOperator (λ ws h. h) depth) (λ value.
        ended_local (SetField name value))))

    call_statement_local : (depth : ℕ) → Local stop StmtTree Any G (call_statement_at stop depth) (call_statement_at stop (suc depth))
    unfolding call_statement_at
    call_statement_local depth =
        then_local stop CallTree StmtTree Any NoOperator G (call_at stop depth) (call_at stop (suc depth)) _ _ (λ y z e. inl apart) (call_local stop NoOperator (λ ws h. h) depth) (λ call. ended_local (Perform call))

    return_local : (depth : ℕ) → Local stop StmtTree NoOperator G (return_at stop depth) (return_at stop (suc depth))
    unfolding return_at
    return_local depth =
        then_local stop ExprTree StmtTree NoOperator NoOperator G (expression stop depth) (expression stop (suc depth)) _ _ (λ y z e. inl apart) (expression_local stop NoOperator (λ ws h. h) depth) (λ value. ended_local (Give value))

    fail_local : Local stop StmtTree Any G (fail_at stop) (fail_at stop)
    unfolding fail_at
    fail_local =
        then_local stop (List ℕ) StmtTree Any NoOperator G (spelling_at stop) (spelling_at stop) _ _ (λ y z e. inl apart) (text_local stop Any NoOperator (λ ws. tt)) (λ said. ended_local (FailWith said))

  module _ (depth : ℕ) (blocks blocks' : Read (List StmtTree)) (local : Local stop (List StmtTree) NoOperator NoOperator blocks blocks') where
    -- the second block of an if, behind its word
    abbrev others : Read (List StmtTree) → Read ElseTree
    others by m = by m >>= λ b. Ok (Else (block_tree b.0), b.1)

    -- a block, and what was made of it
    block_then : (A : Type 0) (h : List StmtTree → A) → Local stop A NoOperator Plain (λ m. blocks m >>= λ b. Ok (h b.0, b.1)) (λ m. blocks' m >>= λ b. Ok (h b.0, b.1))
    block_then A h = then_local stop (List StmtTree) A NoOperator NoOperator Plain blocks blocks' (λ b. Ok (h b.0, b.1)) (λ b. Ok (h b.0, b.1)) (λ y z e. inl (λ ws p. p.0)) local (λ a. done_local stop A NoOperator Plain (λ ws p. p.0) (h a))

    none_left : (by : Read (List StmtTree)) (ws : List Spanned) → NotElse ws → else_at stop by ws ≡ Ok (NoElse, ws)
    unfolding else_at
    none_left by ws h = rw h refl

    else_step : (t : Spanned) (ts : List Spanned) (b : Bool) → is_word word.Else t.token ≡ b → Step stop ElseTree Plain (else_at stop blocks) (else_at stop blocks') t ts
    unfolding else_at taken_word
    else_step t ts true e = takes (others blocks) (others blocks') ((block_then ElseTree (λ b. Else (block_tree b))).split ts) (λ vs. rw e refl) (λ vs. rw e refl)
    else_step t ts false e = leaves NoElse (λ vs. rw e refl) (λ vs. rw e refl) (λ vs p. none_left blocks' vs p.1)

    else_local : Local stop ElseTree NoOperator Plain (else_at stop blocks) (else_at stop blocks')
    unfolding else_at taken_word
    else_local =
        by_next stop ElseTree NoOperator Plain (else_at stop blocks) (else_at stop blocks') (record { more = []; part = NoElse; starts = λ ws p. p.0; goes = λ ws p. none_left blocks' ws p.1 })
        (ends NoElse refl refl (λ vs p. none_left blocks' vs p.1)) (λ t ts. else_step t ts (is_word word.Else t.token) refl)

    if_local : Local stop StmtTree NoOperator Plain (if_at stop depth blocks) (if_at stop (suc depth) blocks')
    unfolding if_at
    if_local =
        then_local stop ExprTree StmtTree NoOperator NoOperator Plain (expression stop depth) (expression stop (suc depth)) _ _ (λ y z e. inl (λ ws p. p.0)) (expression_local stop NoOperator (λ ws h. h) depth) (λ test.
        then_local stop (List StmtTree) StmtTree NoOperator NoOperator Plain blocks blocks' _ _ (λ y z e. inl (λ ws p. p.0)) local (λ first.
        then_local stop ElseTree StmtTree NoOperator Plain Plain (else_at stop blocks) (else_at stop blocks') _ _ (λ y z e. inl (λ ws p. p)) else_local (λ other.
        done_local stop StmtTree Plain Plain (λ ws p. p) (Choose test (block_tree first) other))))

    while_local : Local stop StmtTree NoOperator Plain (while_at stop depth blocks) (while_at stop (suc depth) blocks')
    unfolding while_at
    while_local =
        then_local stop ExprTree StmtTree NoOperator NoOperator Plain (expression stop depth) (expression stop (suc depth)) _ _ (λ y z e. inl (λ ws p. p.0)) (expression_local stop NoOperator (λ ws h. h) depth) (λ test.
        block_then StmtTree (λ body. Repeat test (block_tree body)))

    attempt_local : (at : ℕ) → Local stop StmtTree Any Plain (attempt_at stop depth blocks at) (attempt_at stop (suc depth) blocks' at)
    unfolding attempt_at
    attempt_local at =
        then_local stop Name StmtTree Any Any Plain (name_at stop) (name_at stop) _ _ (λ y z e. inl (λ ws h. tt)) (name_local stop Any Any (λ ws. tt)) (λ name.
        then_local stop ℕ StmtTree Any Any Plain (expected stop symbol.Assign) (expected stop symbol.Assign) _ _ (λ y z e. inl (λ ws h. tt)) (symbol_local stop Any Any symbol.Assign (λ ws. tt)) (λ assign.
        then_local stop ℕ StmtTree Any Any Plain (expected_word stop word.Call) (expected_word stop word.Call) _ _ (λ y z e. inl (λ ws h. tt)) (word_local stop Any Any word.Call (λ ws. tt)) (λ asks.
        then_local stop CallTree StmtTree Any NoOperator Plain (call_at stop depth) (call_at stop (suc depth)) _ _ (λ y z e. inl (λ ws p. p.0)) (call_local stop NoOperator (λ ws h. h) depth) (λ call.
        then_local stop (List StmtTree) StmtTree NoOperator NoOperator Plain blocks blocks' _ _ (λ y z e. inl (λ ws p. p.0)) local (λ first.
        then_local stop ℕ StmtTree NoOperator NoOperator Plain (expected_word stop word.Else) (expected_word stop word.Else) _ _ (λ y z e. inl (λ ws p. p.0)) (word_local stop NoOperator NoOperator word.Else else_is_none) (λ others.
        block_then StmtTree (λ other. Try at name call (block_tree first) (block_tree other))))))))

    -- what a statement does with its first token: it reads on behind it, or refuses it
    abbrev First : Spanned → List Spanned → Type 0
    First t ts = Step stop StmtTree Plain (statement_over stop depth blocks) (statement_over stop (suc depth) blocks') t ts

    first_word : (t : Spanned) (ts : List Spanned) (w : Word) → t.token ≡ token.Word w → First t ts
    unfolding statement_over
    first_word t ts word.Let e = takes (let_at stop depth) (let_at stop (suc depth)) ((let_local Plain (λ ws p. p.0) depth).split ts) (λ vs. rw e refl) (λ vs. rw e refl)
    first_word t ts word.Set e = takes (set_at stop depth) (set_at stop (suc depth)) ((set_local Plain (λ ws p. p.0) depth).split ts) (λ vs. rw e refl) (λ vs. rw e refl)
    first_word t ts word.Call e = takes (call_statement_at stop depth) (call_statement_at stop (suc depth)) ((call_statement_local Plain (λ ws p. p.0) depth).split ts) (λ vs. rw e refl) (λ vs. rw e refl)
    first_word t ts word.If e = takes (if_at stop depth blocks) (if_at stop (suc depth) blocks') (if_local.split ts) (λ vs. rw e refl) (λ vs. rw e refl)
    first_word t ts word.While e = takes (while_at stop depth blocks) (while_at stop (suc depth) blocks') (while_local.split ts) (λ vs. rw e refl) (λ vs. rw e refl)
    first_word t ts word.Return e = takes (return_at stop depth) (return_at stop (suc depth)) ((return_local Plain (λ ws p. p.0) depth).split ts) (λ vs. rw e refl) (λ vs. rw e refl)
    first_word t ts word.Fail e = takes (fail_at stop) (fail_at stop) ((fail_local Plain (λ ws p. p.0)).split ts) (λ vs. rw e refl) (λ vs. rw e refl)
    first_word t ts word.Attempt e = takes (attempt_at stop depth blocks t.at) (attempt_at stop (suc depth) blocks' t.at) ((attempt_local t.at).split ts) (λ vs. rw e refl) (λ vs. rw e refl)
    first_word t ts _ e = refuses (Unexpected t.at) refl (λ vs. rw e refl) (λ vs. rw e refl)

    first_token : (t : Spanned) (ts : List Spanned) (k : Token) → t.token ≡ k → First t ts
    unfolding statement_over
    first_token t ts (token.Name s) e =
        let name : Name = record { text = s; at = t.at } in
        takes (assign_at stop depth name) (assign_at stop (suc depth) name) ((assign_local Plain (λ ws p. p.0) depth name).split ts) (λ vs. rw e refl) (λ vs. rw e refl)
    first_token t ts (token.Word w) e = first_word t ts w e
    first_token t ts (token.Int n) e = refuses (Unexpected t.at) refl (λ vs. rw e refl) (λ vs. rw e refl)
    first_token t ts (token.Text s) e = refuses (Unexpected t.at) refl (λ vs. rw e refl) (λ vs. rw e refl)
    first_token t ts (token.Symbol s) e = refuses (Unexpected t.at) refl (λ vs. rw e refl) (λ vs. rw e refl)

    -- an assignment completes what begins a statement
    statement_canon : Canon StmtTree NoOperator Plain (statement_over stop (suc depth) blocks')
    unfolding statement_over
    statement_canon =
        let name : Name = record { text = []; at = 0 } in
        let c = (assign_local Plain (λ ws p. p.0) depth name).canon in
        record { more = a_name ∷ c.more; part = c.part; starts = λ ws p. name_is_none (c.more ++ ws); goes = λ ws p. c.goes ws p }

    statement_local : Local stop StmtTree NoOperator Plain (statement_over stop depth blocks) (statement_over stop (suc depth) blocks')
    unfolding statement_over
    statement_local = by_next stop StmtTree NoOperator Plain (statement_over stop depth blocks) (statement_over stop (suc depth) blocks') statement_canon (stops refl) (λ t ts. first_token t ts t.token refl)

  statement_eats : (depth : ℕ) → Eats stop StmtTree (statement_over stop depth (block stop depth))
  statement_eats depth ts y e = (stmt_takes stop depth (IsBlock depth) (block stop depth) (blocks_read stop depth depth) ts y.0 y.1 (statement_sound stop depth (IsBlock depth) (block stop depth) (block_sound stop depth) ts y e)).0

  -- ---- blocks

  -- a brace behind nothing
  closed_body : (one : Read StmtTree) (ws : List Spanned) → statements stop one (length (of_symbol symbol.RightBrace ∷ ws)) (of_symbol symbol.RightBrace ∷ ws) ≡ Ok ([], ws)
  unfolding statements taken
  closed_body one ws = refl

  empty_block : (t : Spanned) → IsSymbol t symbol.LeftBrace → (ws : List Spanned) → block stop 1 (t ∷ of_symbol symbol.RightBrace ∷ ws) ≡ Ok ([], ws)
  unfolding block
  empty_block t is ws = rw (symbol_read stop symbol.LeftBrace t (of_symbol symbol.RightBrace ∷ ws) is) (closed_body (statement_over stop 0 (block stop 0)) ws)

  taken_less : (t : Spanned) (ts after : List Spanned) (b : Bool) → cond b (Some ts) None ≡ Some after → length after < length (t ∷ ts)
  taken_less t ts after true e = let same : ts ≡ after = cc in omega (arith, ap length same)
  taken_less t ts after false e = absurd cc

  brace_taken : (ts after : List Spanned) → taken symbol.RightBrace ts ≡ Some after → length after < length ts
  unfolding taken
  brace_taken [] after e = absurd cc
  brace_taken (t ∷ ts) after e = taken_less t ts after (is_symbol symbol.RightBrace t.token) e

  no_brace : taken symbol.RightBrace [] ≡ None
  unfolding taken
  no_brace = refl

  -- a reader of statements
  module _ (one : Read StmtTree) (eats : Eats stop StmtTree one) (empty : one [] ≡ Err stop) where
    abbrev goes_on : Read (List StmtTree) → Read (List StmtTree)
    goes_on r m = one m >>= λ s. r s.1 >>= λ q. Ok (s.0 ∷ q.0, q.1)

    abbrev turn : Read (List StmtTree) → Read (List StmtTree)
    turn r ts = up_to stop one r ts (taken symbol.RightBrace ts)

    turns : (n : ℕ) (t : Spanned) (ts : List Spanned) → statements stop one (suc n) (t ∷ ts) ≡ turn (statements stop one n) (t ∷ ts)
    unfolding statements
    turns n t ts = refl

    none_at_all : (n : ℕ) → statements stop one n [] ≡ Err stop
    unfolding statements
    none_at_all zero = refl
    none_at_all (suc n) = rw (no_brace, empty) refl

    turn_nil : (r : Read (List StmtTree)) → turn r [] ≡ Err stop
    turn_nil r = rw (no_brace, empty) refl

    goes_fewer : (r s : Read (List StmtTree)) (ts : List Spanned) → ((us : List Spanned) → length us < length ts → r us ≡ s us) → (q : Option (List Spanned)) → up_to stop one r ts q ≡ up_to stop one s ts q
    goes_fewer r s ts same (Some after) = refl
    goes_fewer r s ts same None =
        bind_same StmtTree (List StmtTree) (one ts) (λ x. r x.1 >>= λ q. Ok (x.0 ∷ q.0, q.1)) (λ x. s x.1 >>= λ q. Ok (x.0 ∷ q.0, q.1))
        (λ x e. ap (λ (p : Part (List StmtTree)). p >>= λ q. Ok (x.0 ∷ q.0, q.1)) (same x.1 (eats ts x e)))

    body_loop : Loop (List StmtTree) (statements stop one) turn
    body_loop = record {
      unroll = turns;
      idle = λ n. none_at_all n ∙ sym (none_at_all 0);
      nil = λ r. turn_nil r ∙ sym (none_at_all 0);
      fewer = λ r s ts same. goes_fewer r s ts same (taken symbol.RightBrace ts);
    }

    no_statement : (r : Read (List StmtTree)) (ws : List Spanned) → turn r (of_symbol symbol.RightBrace ∷ ws) ≡ Ok ([], ws)
    unfolding taken
    no_statement r ws = refl

  module _ (G : Follow) (one one' : Read StmtTree) (local : Local stop StmtTree NoOperator Plain one one') (eats : Eats stop StmtTree one) (eats' : Eats stop StmtTree one') (empty : one [] ≡ Err stop) (empty' : one' [] ≡ Err stop) where
    abbrev body : Read (List StmtTree)
    body m = statements stop one (length m) m

    abbrev body' : Read (List StmtTree)
    body' m = statements stop one' (length m) m

    abbrev Fewer : List Spanned → Type 0
    Fewer ts = (us : List Spanned) → length us < length ts → Split stop (List StmtTree) G body body' us (body us)

    body_canon : (First : Follow) → ((ws : List Spanned) → First (of_symbol symbol.RightBrace ∷ ws)) → Canon (List StmtTree) First G body'
    body_canon First first = record { more = of_symbol symbol.RightBrace ∷ []; part = []; starts = λ ws h. first ws; goes = λ ws h. closed_body one' ws }

    turn_canon : Canon (List StmtTree) Any G (turn one' eats' empty' body')
    turn_canon = record { more = of_symbol symbol.RightBrace ∷ []; part = []; starts = λ ws h. tt; goes = λ ws h. no_statement one' eats' empty' body' ws }

    more_canon : (s : StmtTree) → Canon (List StmtTree) Plain G (λ m. body' m >>= λ q. Ok (s ∷ q.0, q.1))
    more_canon s = canon_then stop (List StmtTree) (List StmtTree) Plain G G body' (λ q. Ok (s ∷ q.0, q.1)) (body_canon Plain end_is_plain) (λ a. done_canon stop (List StmtTree) G G (λ ws h. h) (s ∷ a))

    more_at : (s : StmtTree) (us : List Spanned) → Split stop (List StmtTree) G body body' us (body us) → Split stop (List StmtTree) G (λ m. body m >>= λ q. Ok (s ∷ q.0, q.1)) (λ m. body' m >>= λ q. Ok (s ∷ q.0, q.1)) us (body us >>= λ q. Ok (s ∷ q.0, q.1))
    more_at s us split =
        then_at stop (List StmtTree) (List StmtTree) G G body body' (λ q. Ok (s ∷ q.0, q.1)) (λ q. Ok (s ∷ q.0, q.1)) us (λ a. done_canon stop (List StmtTree) G G (λ ws h. h) (s ∷ a)) (λ y z e h. inl (λ ws h. h)) (λ q e. done_split stop (List StmtTree) G (s ∷ q.0) q.1) (body us) refl split

    turn_eats : (ts : List Spanned) (y : List StmtTree × List Spanned) → ((us : List Spanned) → length us < length ts → (z : List StmtTree × List Spanned) → body us ≡ Ok z → length z.1 < length us) → (q : Option (List Spanned)) → taken symbol.RightBrace ts ≡ q → up_to stop one body ts q ≡ Ok y → length y.1 < length ts
    turn_eats ts y shorter (Some after) q e =
        let end : List StmtTree × List Spanned = ([], after) in
        let same : after ≡ y.1 = ap (λ (p : List StmtTree × List Spanned). p.1) (ok_is end y e) in
        omega (arith, ap length same, brace_taken ts after q)
    turn_eats ts y shorter None q e =
        let s = bind_ok (one ts) (λ s. body s.1 >>= λ q. Ok (s.0 ∷ q.0, q.1)) y e in
        let r = bind_ok (body s.0.1) (λ q. Ok (s.0.0 ∷ q.0, q.1)) y s.2 in
        let end : List StmtTree × List Spanned = (s.0.0 ∷ r.0.0, r.0.1) in
        let same : r.0.1 ≡ y.1 = ap (λ (p : List StmtTree × List Spanned). p.1) (ok_is end y r.2) in
        let first : length s.0.1 < length ts = eats ts s.0 s.1 in
        let rest : length r.0.1 < length s.0.1 = shorter s.0.1 first r.0 r.1 in
        omega (arith, ap length same)

    -- a body takes its brace
    body_eats_within : (n : ℕ) (ts : List Spanned) → length ts ≤ n → (y : List StmtTree × List Spanned) → body ts ≡ Ok y → length y.1 < length ts
    body_eats_within n [] le y e = absurd (let clash = sym (none_at_all one eats empty 0) ∙ e in cc)
    body_eats_within zero (t ∷ ts) le y e = absurd (omega arith)
    body_eats_within (suc n) (t ∷ ts) le y e =
        turn_eats (t ∷ ts) y (λ us lt z h. let fits : length us < length (t ∷ ts) = lt in body_eats_within n us (omega arith) z h) (taken symbol.RightBrace (t ∷ ts)) refl (sym (whole_turns (List StmtTree) (statements stop one) (turn one eats empty) (body_loop one eats empty) (t ∷ ts)) ∙ e)

    body_eats : (ts : List Spanned) (y : List StmtTree × List Spanned) → body ts ≡ Ok y → length y.1 < length ts
    body_eats ts y e = body_eats_within (length ts) ts (omega arith) y e

    more_eats : (s : StmtTree) (us : List Spanned) (z : List StmtTree × List Spanned) → (body us >>= λ q. Ok (s ∷ q.0, q.1)) ≡ Ok z → length z.1 < length us
    more_eats s us z e =
        let q = bind_ok (body us) (λ q. Ok (s ∷ q.0, q.1)) z e in
        let end : List StmtTree × List Spanned = (s ∷ q.0.0, q.0.1) in
        let same : q.0.1 ≡ z.1 = ap (λ (p : List StmtTree × List Spanned). p.1) (ok_is end z q.2) in
        let less : length q.0.1 < length us = body_eats us q.0 q.1 in
        omega (arith, ap length same)

    goes_at : (ts : List Spanned) → Fewer ts → Split stop (List StmtTree) G (goes_on one eats empty body) (goes_on one' eats' empty' body') ts (goes_on one eats empty body ts)
    goes_at ts more =
        then_at stop StmtTree (List StmtTree) Plain G one one' (λ s. body s.1 >>= λ q. Ok (s.0 ∷ q.0, q.1)) (λ s. body' s.1 >>= λ q. Ok (s.0 ∷ q.0, q.1)) ts more_canon
        (λ y z e h. inr (more_eats y.0 y.1 z h)) (λ s e. more_at s.0 s.1 (more s.1 (eats ts s e))) (one ts) refl (local.split ts)

    goes_eats : (ts : List Spanned) (y : List StmtTree × List Spanned) → goes_on one eats empty body ts ≡ Ok y → length y.1 < length ts
    goes_eats ts y e =
        let s = bind_ok (one ts) (λ s. body s.1 >>= λ q. Ok (s.0 ∷ q.0, q.1)) y e in
        let less : length y.1 < length s.0.1 = more_eats s.0.0 s.0.1 y s.2 in
        let shorter : length s.0.1 < length ts = eats ts s.0 s.1 in
        omega arith

    turn_step : (t : Spanned) (ts : List Spanned) → Fewer (t ∷ ts) → (b : Bool) → is_symbol symbol.RightBrace t.token ≡ b → Step stop (List StmtTree) G (turn one eats empty body) (turn one' eats' empty' body') t ts
    unfolding taken
    turn_step t ts more true e = takes (λ m. Ok ([], m)) (λ m. Ok ([], m)) (done_split stop (List StmtTree) G [] ts) (λ vs. rw e refl) (λ vs. rw e refl)
    turn_step t ts more false e = keeps (goes_on one eats empty body) (goes_on one' eats' empty' body') (goes_at (t ∷ ts) more) (λ y h. goes_eats (t ∷ ts) y h) (λ vs. rw e refl) (λ vs. rw e refl)

    turn_at : (ts : List Spanned) → Fewer ts → Split stop (List StmtTree) G (turn one eats empty body) (turn one' eats' empty' body') ts (turn one eats empty body ts)
    turn_at [] more = end_at stop (List StmtTree) Any G (turn one eats empty body) (turn one' eats' empty' body') turn_canon (stops (turn_nil one eats empty body))
    turn_at (t ∷ ts) more = step_at stop (List StmtTree) Any G (turn one eats empty body) (turn one' eats' empty' body') t ts turn_canon (turn_step t ts more (is_symbol symbol.RightBrace t.token) refl)

    body_local : Local stop (List StmtTree) Any G body body'
    body_local = record {
      canon = body_canon Any (λ ws. tt);
      split = loop_split stop (List StmtTree) G (statements stop one) (statements stop one') (turn one eats empty) (turn one' eats' empty') (body_loop one eats empty) (body_loop one' eats' empty') turn_at;
    }

  -- ---- blocks in braces

  statement_nil : (depth : ℕ) (blocks : Read (List StmtTree)) → statement_over stop depth blocks [] ≡ Err stop
  unfolding statement_over
  statement_nil depth blocks = refl

  pub block_local : (depth : ℕ) (G : Follow) → Local stop (List StmtTree) NoOperator G (block stop depth) (block stop (suc depth))
  unfolding block
  block_local zero G =
      shut_local stop NoOperator G (List StmtTree) symbol.LeftBrace (block stop 1)
      (record { more = of_symbol symbol.LeftBrace ∷ of_symbol symbol.RightBrace ∷ []; part = []; starts = λ ws h. brace_is_none (of_symbol symbol.RightBrace ∷ ws); goes = λ ws h. empty_block (of_symbol symbol.LeftBrace) refl ws })
      (λ t is. record { more = of_symbol symbol.RightBrace ∷ []; part = []; goes = λ ws h. empty_block t is ws })
      (λ t e vs. rw (symbol_refused stop symbol.LeftBrace t vs e) refl)
  block_local (suc depth) G =
      let inner = block_local depth NoOperator in
      then_local stop ℕ (List StmtTree) NoOperator Any G (expected stop symbol.LeftBrace) (expected stop symbol.LeftBrace)
      (λ o. statements stop (statement_over stop depth (block stop depth)) (length o.1) o.1) (λ o. statements stop (statement_over stop (suc depth) (block stop (suc depth))) (length o.1) o.1)
      (λ y z e. inl (λ ws h. tt)) (symbol_local stop NoOperator Any symbol.LeftBrace brace_is_none)
      (λ a. body_local G (statement_over stop depth (block stop depth)) (statement_over stop (suc depth) (block stop (suc depth))) (statement_local depth (block stop depth) (block stop (suc depth)) inner)
      (statement_eats depth) (statement_eats (suc depth)) (statement_nil depth (block stop depth)) (statement_nil (suc depth) (block stop (suc depth))))
