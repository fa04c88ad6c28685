-- What is in the grammar is read: statements and blocks.
use Rattle.std.proofs.Common.{◌≡◌, ◌≢◌, ℕ, zero, suc, ◌<◌, ◌≤◌, List, [], ◌∷◌, None, Ok, Bool, true, false, refl, sym, ap, subst, ◌∙◌, arith, length}
use Rattle.script_tree.specs.declared.expressions.Name.{Name}
use Rattle.script_tree.specs.Exprs.{ExprTree, CallTree}
use Rattle.script_tree.specs.Stmts.{SourceTree, Computed, Called, StmtTree, BlockTree, Then, ElseTree, NoElse, Else, block_tree, Bind, Rebind, SetField, Perform, Choose, Repeat, Give, FailWith, Try}
use Rattle.script_lexer.specs.declared.faults.ParseFault.{ParseFault}
use Rattle.script_lexer.specs.declared.tokens.Spanned.{Spanned}
use Rattle.script_lexer.specs.declared.tokens.Token.{Token}
use Rattle.script_lexer.specs.declared.tokens.Token.TheVariants as token
use Rattle.script_lexer.specs.declared.tokens.Symbol.TheVariants as symbol
use Rattle.script_lexer.specs.declared.tokens.Word.TheVariants as word
use Rattle.script_expressions.specs.TokenReaders.{Read}
use Rattle.script_expressions.specs.Tokens.{is_symbol, is_word, spelling_at, taken, taken_word}
use Rattle.script_expressions.specs.Expressions.{Never, starts, expression}
use Rattle.script_expressions.specs.Calls.{call_at}
use Rattle.script_expressions.specs.Grammar.{IsSymbol, IsWord, IsName, Stops}
use Rattle.script_expressions.proofs.Soundness.{word_is}
use Rattle.script_expressions.proofs.Completeness.{symbol_read, word_read, symbol_taken, word_taken, not_taken, not_taken_word, stops_symbol, is_read}
use Rattle.script_expressions.proofs.CallLaws.{name_read, call_read, call_takes, expression_taking, expression_first}
use Rattle.script_parser.specs.Statements.{source_at, let_at, assign_at, set_at, call_statement_at, return_at, fail_at, else_at, if_at, while_at, attempt_at, statement_from, statement_over, statements, block}
use Rattle.script_parser.specs.Grammar.{NoElseNext, IsSource, computed, called, IsElse, left_out, other, IsStmt, bind, rebind, set_field, perform, choose, repeat, give, fail_with, attempt, IsBody, no_more, then_more, IsBraced, braces, IsBlock}

-- no expression begins with `call`
not_call : (k : Token) (at : ℕ) → starts k at ≢ Never → is_word word.Call k ≡ false
not_call (token.Word word.Call) at ne = absurd (ne refl)
not_call (token.Word _) at ne = refl
not_call (token.Name s) at ne = refl
not_call (token.Symbol s) at ne = refl
not_call (token.Int n) at ne = refl
not_call (token.Text s) at ne = refl

else_if : (t : Spanned) (us : List Spanned) (b : Bool) → is_word word.Else t.token ≡ b → ¬ (IsWord t word.Else) → taken_word word.Else (t ∷ us) ≡ None
else_if t us true e ne = absurd (ne (word_is word.Else t.token e))
else_if t us false e ne = not_taken_word word.Else t us e

not_else : (ts : List Spanned) → NoElseNext ts → taken_word word.Else ts ≡ None
unfolding taken_word
not_else [] n = refl
not_else (t ∷ us) n = else_if t us (is_word word.Else t.token) refl (n t us refl)

text_read : (stop : ParseFault) (t : Spanned) (said : List ℕ) (ts : List Spanned) → t.token ≡ token.Text said → spelling_at stop (t ∷ ts) ≡ Ok (said, ts)
unfolding spelling_at
text_read stop t said ts e = rw e refl

module _ (stop : ParseFault) where
  -- ---- sources

  call_source : (depth : ℕ) (w : Spanned) (ts : List Spanned) (c : CallTree) (after : List Spanned) → IsWord w word.Call → call_at stop depth ts ≡ Ok (c, after) → source_at stop depth (w ∷ ts) ≡ Ok (Called c, after)
  unfolding source_at
  call_source depth w ts c after is e = rw (word_taken word.Call w ts is, e) refl

  value_source : (depth : ℕ) (ts : List Spanned) (v : ExprTree) (after : List Spanned) → taken_word word.Call ts ≡ None → expression stop depth ts ≡ Ok (v, after) → source_at stop depth ts ≡ Ok (Computed v, after)
  unfolding source_at
  value_source depth ts v after n e = rw (n, e) refl

  pub source_read : (depth : ℕ) (ts : List Spanned) (x : SourceTree) (after : List Spanned) → IsSource depth ts x after → Stops 5 after → source_at stop depth ts ≡ Ok (x, after)
  source_read _ _ _ _ (computed depth ts value after d) stops =
      let f = expression_first depth ts value after d in
      let plain : taken_word word.Call ts ≡ None = ap (taken_word word.Call) f.2 ∙ not_taken_word word.Call f.0 f.1 (not_call f.0.token f.0.at f.3) in
      value_source depth ts value after plain (is_read stop depth ts value after d stops)
  source_read _ _ _ _ (called depth w ts c after is d) stops = call_source depth w ts c after is (call_read stop depth ts c after d)

  -- ---- statements

  module _ (depth : ℕ) (Block : List Spanned → BlockTree → List Spanned → Type 0) (blocks : Read (List StmtTree)) where
    -- what is needed of blocks: they are read, begin with a brace and take tokens
    pub record BlocksRead : Type 0 where
      pub read : (ts : List Spanned) (b : BlockTree) (after : List Spanned) → Block ts b after → (xs : List StmtTree) × (block_tree xs ≡ b) × (blocks ts ≡ Ok (xs, after))
      pub begins : (ts : List Spanned) (b : BlockTree) (after : List Spanned) → Block ts b after → (o : Spanned) × (us : List Spanned) × (ts ≡ o ∷ us) × IsSymbol o symbol.LeftBrace
      pub takes : (ts : List Spanned) (b : BlockTree) (after : List Spanned) → Block ts b after → length after < length ts

    by_token : (t : Spanned) (k : Token) (ts : List Spanned) → t.token ≡ k → statement_over stop depth blocks (t ∷ ts) ≡ statement_from stop depth blocks k t.at ts
    unfolding statement_over
    by_token t k ts e = ap (λ j. statement_from stop depth blocks j t.at ts) e

    let_read : (n a e : Spanned) (name : Name) (value : SourceTree) (ts after : List Spanned) → IsName n name → IsSymbol a symbol.Assign → source_at stop depth ts ≡ Ok (value, e ∷ after) → IsSymbol e symbol.Semicolon → let_at stop depth (n ∷ a ∷ ts) ≡ Ok (Bind name value, after)
    unfolding let_at
    let_read n a e name value ts after is assign d end = rw (name_read stop n name (a ∷ ts) is, symbol_read stop symbol.Assign a ts assign, d, symbol_read stop symbol.Semicolon e after end) refl

    assign_read : (a e : Spanned) (name : Name) (value : SourceTree) (ts after : List Spanned) → IsSymbol a symbol.Assign → source_at stop depth ts ≡ Ok (value, e ∷ after) → IsSymbol e symbol.Semicolon → assign_at stop depth name (a ∷ ts) ≡ Ok (Rebind name value, after)
    unfolding assign_at
    assign_read a e name value ts after assign d end = rw (symbol_read stop symbol.Assign a ts assign, d, symbol_read stop symbol.Semicolon e after end) refl

    set_read : (n a e : Spanned) (name : Name) (value : ExprTree) (ts after : List Spanned) → IsName n name → IsSymbol a symbol.Assign → expression stop depth ts ≡ Ok (value, e ∷ after) → IsSymbol e symbol.Semicolon → set_at stop depth (n ∷ a ∷ ts) ≡ Ok (SetField name value, after)
    unfolding set_at
    set_read n a e name value ts after is assign d end = rw (name_read stop n name (a ∷ ts) is, symbol_read stop symbol.Assign a ts assign, d, symbol_read stop symbol.Semicolon e after end) refl

    perform_read : (e : Spanned) (c : CallTree) (ts after : List Spanned) → call_at stop depth ts ≡ Ok (c, e ∷ after) → IsSymbol e symbol.Semicolon → call_statement_at stop depth ts ≡ Ok (Perform c, after)
    unfolding call_statement_at
    perform_read e c ts after d end = rw (d, symbol_read stop symbol.Semicolon e after end) refl

    return_read : (e : Spanned) (value : ExprTree) (ts after : List Spanned) → expression stop depth ts ≡ Ok (value, e ∷ after) → IsSymbol e symbol.Semicolon → return_at stop depth ts ≡ Ok (Give value, after)
    unfolding return_at
    return_read e value ts after d end = rw (d, symbol_read stop symbol.Semicolon e after end) refl

    fail_read : (s e : Spanned) (said : List ℕ) (after : List Spanned) → s.token ≡ token.Text said → IsSymbol e symbol.Semicolon → fail_at stop (s ∷ e ∷ after) ≡ Ok (FailWith said, after)
    unfolding fail_at
    fail_read s e said after is end = rw (text_read stop s said (e ∷ after) is, symbol_read stop symbol.Semicolon e after end) refl

    else_taken : (w : Spanned) (ts : List Spanned) (xs : List StmtTree) (after : List Spanned) → IsWord w word.Else → blocks ts ≡ Ok (xs, after) → else_at stop blocks (w ∷ ts) ≡ Ok (Else (block_tree xs), after)
    unfolding else_at
    else_taken w ts xs after is e = rw (word_taken word.Else w ts is, e) refl

    else_not_taken : (ts : List Spanned) → taken_word word.Else ts ≡ None → else_at stop blocks ts ≡ Ok (NoElse, ts)
    unfolding else_at
    else_not_taken ts e = rw e refl

    else_read : BlocksRead → (ts : List Spanned) (x : ElseTree) (after : List Spanned) → IsElse Block ts x after → else_at stop blocks ts ≡ Ok (x, after)
    else_read r _ _ _ (left_out after n) = else_not_taken after (not_else after n)
    else_read r _ _ _ (other w ts body after is d) =
        let b = r.read ts body after d in
        else_taken w ts b.0 after is b.2 ∙ ap (λ (t : BlockTree). Ok (Else t, after)) b.1

    if_read : (test : ExprTree) (xs : List StmtTree) (second : ElseTree) (ts us vs after : List Spanned) → expression stop depth ts ≡ Ok (test, us) → blocks us ≡ Ok (xs, vs) → else_at stop blocks vs ≡ Ok (second, after) → if_at stop depth blocks ts ≡ Ok (Choose test (block_tree xs) second, after)
    unfolding if_at
    if_read test xs second ts us vs after d1 d2 d3 = rw (d1, d2, d3) refl

    while_read : (test : ExprTree) (xs : List StmtTree) (ts us after : List Spanned) → expression stop depth ts ≡ Ok (test, us) → blocks us ≡ Ok (xs, after) → while_at stop depth blocks ts ≡ Ok (Repeat test (block_tree xs), after)
    unfolding while_at
    while_read test xs ts us after d1 d2 = rw (d1, d2) refl

    attempt_read : (at : ℕ) (n a c o : Spanned) (name : Name) (asked : CallTree) (xs ys : List StmtTree) (ts us vs after : List Spanned) → IsName n name → IsSymbol a symbol.Assign → IsWord c word.Call → call_at stop depth ts ≡ Ok (asked, us) → blocks us ≡ Ok (xs, o ∷ vs) → IsWord o word.Else → blocks vs ≡ Ok (ys, after) → attempt_at stop depth blocks at (n ∷ a ∷ c ∷ ts) ≡ Ok (Try at name asked (block_tree xs) (block_tree ys), after)
    unfolding attempt_at
    attempt_read at n a c o name asked xs ys ts us vs after is assign asks d1 d2 others d3 =
        rw (name_read stop n name (a ∷ c ∷ ts) is, symbol_read stop symbol.Assign a (c ∷ ts) assign, word_read stop word.Call c ts asks, d1, d2, word_read stop word.Else o vs others, d3) refl

    before_brace : BlocksRead → (ts : List Spanned) (b : BlockTree) (after : List Spanned) → Block ts b after → Stops 5 ts
    before_brace r ts b after d = let k = r.begins ts b after d in subst (λ (l : List Spanned). Stops 5 l) (sym k.2) (stops_symbol symbol.LeftBrace k.0 k.1 5 refl k.3)

    semicolon : (e : Spanned) (after : List Spanned) → IsSymbol e symbol.Semicolon → Stops 5 (e ∷ after)
    semicolon e after is = stops_symbol symbol.Semicolon e after 5 refl is

    stmt_read : BlocksRead → (ts : List Spanned) (x : StmtTree) (after : List Spanned) → IsStmt depth Block ts x after → statement_over stop depth blocks ts ≡ Ok (x, after)
    stmt_read r _ _ _ (bind w n a e name value ts after is named assign d end) = by_token w (token.Word word.Let) (n ∷ a ∷ ts) is ∙ let_read n a e name value ts after named assign (source_read depth ts value (e ∷ after) d (semicolon e after end)) end
    stmt_read r _ _ _ (rebind n a e name value ts after named assign d end) =
        by_token n (token.Name name.text) (a ∷ ts) named.0 ∙ ap (λ (at : ℕ). assign_at stop depth (record { text = name.text; at = at }) (a ∷ ts)) named.1 ∙ assign_read a e name value ts after assign (source_read depth ts value (e ∷ after) d (semicolon e after end)) end
    stmt_read r _ _ _ (set_field w n a e name value ts after is named assign d end) = by_token w (token.Word word.Set) (n ∷ a ∷ ts) is ∙ set_read n a e name value ts after named assign (is_read stop depth ts value (e ∷ after) d (semicolon e after end)) end
    stmt_read r _ _ _ (perform w e c ts after is d end) = by_token w (token.Word word.Call) ts is ∙ perform_read e c ts after (call_read stop depth ts c (e ∷ after) d) end
    stmt_read r _ _ _ (choose w test first second ts us vs after is d b o) =
        let k = r.read us first vs b in
        by_token w (token.Word word.If) ts is ∙ if_read test k.0 second ts us vs after (is_read stop depth ts test us d (before_brace r us first vs b)) k.2 (else_read r vs second after o) ∙ ap (λ (t : BlockTree). Ok (Choose test t second, after)) k.1
    stmt_read r _ _ _ (repeat w test body ts us after is d b) =
        let k = r.read us body after b in
        by_token w (token.Word word.While) ts is ∙ while_read test k.0 ts us after (is_read stop depth ts test us d (before_brace r us body after b)) k.2 ∙ ap (λ (t : BlockTree). Ok (Repeat test t, after)) k.1
    stmt_read r _ _ _ (give w e value ts after is d end) = by_token w (token.Word word.Return) ts is ∙ return_read e value ts after (is_read stop depth ts value (e ∷ after) d (semicolon e after end)) end
    stmt_read r _ _ _ (fail_with w s e said after is text end) = by_token w (token.Word word.Fail) (s ∷ e ∷ after) is ∙ fail_read s e said after text end
    stmt_read r _ _ _ (attempt w n a c o name asked first second ts us vs after is named assign asks d b1 others b2) =
        let k1 = r.read us first (o ∷ vs) b1 in
        let k2 = r.read vs second after b2 in
        by_token w (token.Word word.Attempt) (n ∷ a ∷ c ∷ ts) is ∙ attempt_read w.at n a c o name asked k1.0 k2.0 ts us vs after named assign asks (call_read stop depth ts asked us d) k1.2 others k2.2 ∙ ap (λ (t : BlockTree). Ok (Try w.at name asked t (block_tree k2.0), after)) k1.1 ∙ ap (λ (t : BlockTree). Ok (Try w.at name asked first t, after)) k2.1

    source_takes : (d : ℕ) (ts : List Spanned) (x : SourceTree) (after : List Spanned) → IsSource d ts x after → length after < length ts
    source_takes _ _ _ _ (computed d ts value after e) = (expression_taking d ts value after e).0
    source_takes _ _ _ _ (called d w ts c after is e) = omega (arith, call_takes d ts c after e)

    else_takes : BlocksRead → (ts : List Spanned) (x : ElseTree) (after : List Spanned) → IsElse Block ts x after → length after ≤ length ts
    else_takes r _ _ _ (left_out after n) = omega arith
    else_takes r _ _ _ (other w ts body after is d) = omega (arith, r.takes ts body after d)

    -- a statement takes tokens, and begins with a word or a name
    pub stmt_takes : BlocksRead → (ts : List Spanned) (x : StmtTree) (after : List Spanned) → IsStmt depth Block ts x after → (length after < length ts) × (taken symbol.RightBrace ts ≡ None)
    stmt_takes r _ _ _ (bind w n a e name value ts after is named assign d end) = (omega (arith, source_takes depth ts value (e ∷ after) d), not_taken symbol.RightBrace w (n ∷ a ∷ ts) (ap (is_symbol symbol.RightBrace) is))
    stmt_takes r _ _ _ (rebind n a e name value ts after named assign d end) = (omega (arith, source_takes depth ts value (e ∷ after) d), not_taken symbol.RightBrace n (a ∷ ts) (ap (is_symbol symbol.RightBrace) named.0))
    stmt_takes r _ _ _ (set_field w n a e name value ts after is named assign d end) = (omega (arith, (expression_taking depth ts value (e ∷ after) d).0), not_taken symbol.RightBrace w (n ∷ a ∷ ts) (ap (is_symbol symbol.RightBrace) is))
    stmt_takes r _ _ _ (perform w e c ts after is d end) = (omega (arith, call_takes depth ts c (e ∷ after) d), not_taken symbol.RightBrace w ts (ap (is_symbol symbol.RightBrace) is))
    stmt_takes r _ _ _ (choose w test first second ts us vs after is d b o) = (omega (arith, (expression_taking depth ts test us d).0, r.takes us first vs b, else_takes r vs second after o), not_taken symbol.RightBrace w ts (ap (is_symbol symbol.RightBrace) is))
    stmt_takes r _ _ _ (repeat w test body ts us after is d b) = (omega (arith, (expression_taking depth ts test us d).0, r.takes us body after b), not_taken symbol.RightBrace w ts (ap (is_symbol symbol.RightBrace) is))
    stmt_takes r _ _ _ (give w e value ts after is d end) = (omega (arith, (expression_taking depth ts value (e ∷ after) d).0), not_taken symbol.RightBrace w ts (ap (is_symbol symbol.RightBrace) is))
    stmt_takes r _ _ _ (fail_with w s e said after is text end) = (omega arith, not_taken symbol.RightBrace w (s ∷ e ∷ after) (ap (is_symbol symbol.RightBrace) is))
    stmt_takes r _ _ _ (attempt w n a c o name asked first second ts us vs after is named assign asks d b1 others b2) = (omega (arith, call_takes depth ts asked us d, r.takes us first (o ∷ vs) b1, r.takes vs second after b2), not_taken symbol.RightBrace w (n ∷ a ∷ c ∷ ts) (ap (is_symbol symbol.RightBrace) is))

    -- ---- bodies

    body_ends : (n : ℕ) (c : Spanned) (after : List Spanned) → IsSymbol c symbol.RightBrace → statements stop (statement_over stop depth blocks) (suc n) (c ∷ after) ≡ Ok ([], after)
    unfolding statements
    body_ends n c after close = rw (symbol_taken symbol.RightBrace c after close) refl

    body_goes : (n : ℕ) (ts us : List Spanned) (s : StmtTree) (xs : List StmtTree) (after : List Spanned) → taken symbol.RightBrace ts ≡ None → statement_over stop depth blocks ts ≡ Ok (s, us) → statements stop (statement_over stop depth blocks) n us ≡ Ok (xs, after) → statements stop (statement_over stop depth blocks) (suc n) ts ≡ Ok (s ∷ xs, after)
    unfolding statements
    body_goes n ts us s xs after goes d rest = rw (goes, d, rest) refl

    body_read : BlocksRead → (n : ℕ) (ts : List Spanned) (b : BlockTree) (after : List Spanned) → length ts ≤ n → IsBody (IsStmt depth Block) ts b after → (xs : List StmtTree) × (block_tree xs ≡ b) × (statements stop (statement_over stop depth blocks) n ts ≡ Ok (xs, after))
    body_read r zero _ _ _ le (no_more c after close) = absurd (omega arith)
    body_read r (suc n) _ _ _ le (no_more c after close) = ([], refl, body_ends n c after close)
    body_read r zero _ _ _ le (then_more s b ts us after d rest) = let k = (stmt_takes r ts s us d).0 in absurd (omega arith)
    body_read r (suc n) _ _ _ le (then_more s b ts us after d rest) =
        let k = stmt_takes r ts s us d in
        let shorter : length us < length ts = k.0 in
        let more = body_read r n us b after (omega arith) rest in
        (s ∷ more.0, ap (Then s) more.1, body_goes n ts us s more.0 after k.1 (stmt_read r ts s us d) more.2)

    body_takes : BlocksRead → (ts : List Spanned) (b : BlockTree) (after : List Spanned) → IsBody (IsStmt depth Block) ts b after → length after < length ts
    body_takes r _ _ _ (no_more c after close) = omega arith
    body_takes r _ _ _ (then_more s b ts us after d rest) = omega (arith, (stmt_takes r ts s us d).0, body_takes r us b after rest)

  block_here : (depth : ℕ) (o : Spanned) (ts : List Spanned) (xs : List StmtTree) (after : List Spanned) → IsSymbol o symbol.LeftBrace → statements stop (statement_over stop depth (block stop depth)) (length ts) ts ≡ Ok (xs, after) → block stop (suc depth) (o ∷ ts) ≡ Ok (xs, after)
  unfolding block
  block_here depth o ts xs after opens e = rw (symbol_read stop symbol.LeftBrace o ts opens, e) refl

  braced_read : (depth : ℕ) → BlocksRead depth (IsBlock depth) (block stop depth) → (ts : List Spanned) (b : BlockTree) (after : List Spanned) → IsBraced (IsStmt depth (IsBlock depth)) ts b after → (xs : List StmtTree) × (block_tree xs ≡ b) × (block stop (suc depth) ts ≡ Ok (xs, after))
  braced_read depth r _ _ _ (braces o b ts after opens d) =
      let k = body_read depth (IsBlock depth) (block stop depth) r (length ts) ts b after (omega arith) d in
      (k.0, k.1, block_here depth o ts k.0 after opens k.2)

  braced_begins : (depth : ℕ) (ts : List Spanned) (b : BlockTree) (after : List Spanned) → IsBraced (IsStmt depth (IsBlock depth)) ts b after → (o : Spanned) × (us : List Spanned) × (ts ≡ o ∷ us) × IsSymbol o symbol.LeftBrace
  braced_begins depth _ _ _ (braces o b ts after opens d) = (o, ts, refl, opens)

  braced_takes : (depth : ℕ) → BlocksRead depth (IsBlock depth) (block stop depth) → (ts : List Spanned) (b : BlockTree) (after : List Spanned) → IsBraced (IsStmt depth (IsBlock depth)) ts b after → length after < length ts
  braced_takes depth r _ _ _ (braces o b ts after opens d) = omega (arith, body_takes depth (IsBlock depth) (block stop depth) r ts b after d)

  pub blocks_read : (depth : ℕ) (outer : ℕ) → BlocksRead outer (IsBlock depth) (block stop depth)
  blocks_read zero outer = record { read = λ ts b after d. absurd d; begins = λ ts b after d. absurd d; takes = λ ts b after d. absurd d }
  blocks_read (suc depth) outer = record {
    read = braced_read depth (blocks_read depth depth);
    begins = braced_begins depth;
    takes = braced_takes depth (blocks_read depth depth);
  }
