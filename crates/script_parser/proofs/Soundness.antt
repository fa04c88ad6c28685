-- What is read is in the grammar.
use Rattle.std.proofs.Common.{◌≡◌, ℕ, zero, suc, List, [], ◌∷◌, Option, Some, None, Ok, Err, Bool, true, false, cond, refl, sym, ap, subst, ◌∙◌, length}
use Rattle.script_tree.specs.declared.expressions.Name.{Name}
use Rattle.script_tree.specs.Stmts.{SourceTree, Computed, Called, StmtTree, BlockTree, ElseTree, NoElse, Else, block_tree, Bind, Rebind, SetField, Perform, Choose, Repeat, Give, FailWith, Try}
use Rattle.script_lexer.specs.declared.faults.ParseFault.{ParseFault}
use Rattle.script_lexer.specs.declared.faults.ParseFault.TheVariants.{Unexpected, TooDeep}
use Rattle.script_lexer.specs.declared.tokens.Spanned.{Spanned}
use Rattle.script_lexer.specs.declared.tokens.Token.{Token}
use Rattle.script_lexer.specs.declared.tokens.Token.TheVariants as token
use Rattle.script_lexer.specs.declared.tokens.Symbol.TheVariants as symbol
use Rattle.script_lexer.specs.declared.tokens.Word.{Word}
use Rattle.script_lexer.specs.declared.tokens.Word.TheVariants as word
use Rattle.script_expressions.specs.TokenReaders.{◌>>=◌, Read}
use Rattle.script_expressions.specs.Tokens.{is_word, expected, expected_word, name_at, text_from, spelling_at, taken, taken_word}
use Rattle.script_expressions.specs.Expressions.{expression}
use Rattle.script_expressions.specs.Calls.{call_at}
use Rattle.script_expressions.specs.Grammar.{IsWord, IsName, IsExpression, IsCall}
use Rattle.script_expressions.proofs.Soundness.{bind_ok, ok_is, word_is, took, Sound, is_expression}
use Rattle.script_expressions.proofs.CallLaws.{took_name, took_symbol, call_sound}
use Rattle.script_parser.specs.Statements.{source_from, source_at, let_at, assign_at, set_at, call_statement_at, return_at, fail_at, else_from, else_at, if_at, while_at, attempt_at, word_begins, statement_from, statement_over, up_to, statements, block}
use Rattle.script_parser.specs.Grammar.{NoElseNext, IsSource, computed, called, IsElse, left_out, other, IsStmt, bind, rebind, set_field, perform, choose, repeat, give, fail_with, attempt, IsBody, no_more, then_more, IsBraced, braces, IsBlock}

-- ---- words and texts

word_if : (w : Word) (t : Spanned) (ts : List Spanned) (x : ℕ × List Spanned) (b : Bool) → is_word w t.token ≡ b → cond b (Ok (t.at, ts)) (Err (Unexpected t.at)) ≡ Ok x → (u : Spanned) × ((t ∷ ts) ≡ u ∷ x.1) × IsWord u w
word_if w t ts x true b e =
    let same : (t.at, ts) ≡ x = ok_is (t.at, ts) x e in
    (t, ap (λ (y : ℕ × List Spanned). t ∷ y.1) same, word_is w t.token b)
word_if w t ts x false b e = absurd cc

pub took_word : (stop : ParseFault) (w : Word) (ts : List Spanned) (x : ℕ × List Spanned) → expected_word stop w ts ≡ Ok x → (u : Spanned) × (ts ≡ u ∷ x.1) × IsWord u w
unfolding expected_word
took_word stop w [] x e = absurd cc
took_word stop w (t ∷ ts) x e = word_if w t ts x (is_word w t.token) refl e

taken_if : (w : Word) (t : Spanned) (ts us : List Spanned) (b : Bool) → is_word w t.token ≡ b → cond b (Some ts) None ≡ Some us → (u : Spanned) × ((t ∷ ts) ≡ u ∷ us) × IsWord u w
taken_if w t ts us true b e = let same : ts ≡ us = cc in (t, ap (λ (l : List Spanned). t ∷ l) same, word_is w t.token b)
taken_if w t ts us false b e = absurd cc

pub took_next : (w : Word) (ts us : List Spanned) → taken_word w ts ≡ Some us → (u : Spanned) × (ts ≡ u ∷ us) × IsWord u w
unfolding taken_word
took_next w [] us e = absurd cc
took_next w (t ∷ ts) us e = taken_if w t ts us (is_word w t.token) refl e

text_is : (k : Token) (t : Spanned) (ts : List Spanned) (x : List ℕ × List Spanned) → t.token ≡ k → text_from k t.at ts ≡ Ok x → (u : Spanned) × ((t ∷ ts) ≡ u ∷ x.1) × (u.token ≡ token.Text x.0)
text_is (token.Text s) t ts x k e =
    let same : (s, ts) ≡ x = ok_is (s, ts) x e in
    (t, ap (λ (y : List ℕ × List Spanned). t ∷ y.1) same, k ∙ ap (λ (y : List ℕ × List Spanned). token.Text y.0) same)
text_is (token.Name s) t ts x k e = absurd cc
text_is (token.Word w) t ts x k e = absurd cc
text_is (token.Int n) t ts x k e = absurd cc
text_is (token.Symbol s) t ts x k e = absurd cc

took_text : (stop : ParseFault) (ts : List Spanned) (x : List ℕ × List Spanned) → spelling_at stop ts ≡ Ok x → (u : Spanned) × (ts ≡ u ∷ x.1) × (u.token ≡ token.Text x.0)
unfolding spelling_at
took_text stop [] x e = absurd cc
took_text stop (t ∷ ts) x e = text_is t.token t ts x refl e

module _ (stop : ParseFault) where
  -- ---- sources

  source_from_sound : (depth : ℕ) (ts : List Spanned) (x : SourceTree × List Spanned) (q : Option (List Spanned)) → taken_word word.Call ts ≡ q → source_from stop depth ts q ≡ Ok x → IsSource depth ts x.0 x.1
  source_from_sound depth ts x (Some after) q e =
      let w = took_next word.Call ts after q in
      let c = bind_ok (call_at stop depth after) (λ c. Ok (Called c.0, c.1)) x e in
      subst (λ (l : List Spanned). IsSource depth l x.0 x.1) (sym w.1)
      (subst (λ (y : SourceTree × List Spanned). IsSource depth (w.0 ∷ after) y.0 y.1) (ok_is (Called c.0.0, c.0.1) x c.2) (called depth w.0 after c.0.0 c.0.1 w.2 (call_sound stop depth after c.0 c.1)))
  source_from_sound depth ts x None q e =
      let v = bind_ok (expression stop depth ts) (λ v. Ok (Computed v.0, v.1)) x e in
      subst (λ (y : SourceTree × List Spanned). IsSource depth ts y.0 y.1) (ok_is (Computed v.0.0, v.0.1) x v.2) (computed depth ts v.0.0 v.0.1 (is_expression stop depth ts v.0 v.1))

  source_sound : (depth : ℕ) → Sound SourceTree (IsSource depth) (source_at stop depth)
  unfolding source_at
  source_sound depth ts x e = source_from_sound depth ts x (taken_word word.Call ts) refl e

  -- ---- statements

  module _ (depth : ℕ) (Block : List Spanned → BlockTree → List Spanned → Type 0) (blocks : Read (List StmtTree)) (sound : (ts : List Spanned) (x : List StmtTree × List Spanned) → blocks ts ≡ Ok x → Block ts (block_tree x.0) x.1) where
    abbrev Behind : (w : Spanned) → Read StmtTree → Type 0
    Behind w read = (ts : List Spanned) (x : StmtTree × List Spanned) → read ts ≡ Ok x → IsStmt depth Block (w ∷ ts) x.0 x.1

    let_sound : (w : Spanned) → IsWord w word.Let → Behind w (let_at stop depth)
    unfolding let_at
    let_sound w is ts x e =
        let s1 = bind_ok (name_at stop ts) _ x e in
        let s2 = bind_ok (expected stop symbol.Assign s1.0.1) _ x s1.2 in
        let s3 = bind_ok (source_at stop depth s2.0.1) _ x s2.2 in
        let s4 = bind_ok (expected stop symbol.Semicolon s3.0.1) _ x s3.2 in
        let n = took_name stop ts s1.0 s1.1 in
        let a = took stop symbol.Assign s1.0.1 s2.0 s2.1 in
        let z = took stop symbol.Semicolon s3.0.1 s4.0 s4.1 in
        let value : IsSource depth s2.0.1 s3.0.0 (z.token ∷ s4.0.1) = subst (λ (l : List Spanned). IsSource depth s2.0.1 s3.0.0 l) z.is (source_sound depth s2.0.1 s3.0 s3.1) in
        let here : ts ≡ n.0 ∷ a.token ∷ s2.0.1 = n.1 ∙ ap (λ (l : List Spanned). n.0 ∷ l) a.is in
        subst (λ (y : StmtTree × List Spanned). IsStmt depth Block (w ∷ ts) y.0 y.1) (ok_is (Bind s1.0.0 s3.0.0, s4.0.1) x s4.2)
        (subst (λ (l : List Spanned). IsStmt depth Block (w ∷ l) (Bind s1.0.0 s3.0.0) s4.0.1) (sym here) (bind w n.0 a.token z.token s1.0.0 s3.0.0 s2.0.1 s4.0.1 is n.2 a.symbol value z.symbol))

    assign_sound : (n : Spanned) (name : Name) → IsName n name → Behind n (assign_at stop depth name)
    unfolding assign_at
    assign_sound n name is ts x e =
        let s2 = bind_ok (expected stop symbol.Assign ts) _ x e in
        let s3 = bind_ok (source_at stop depth s2.0.1) _ x s2.2 in
        let s4 = bind_ok (expected stop symbol.Semicolon s3.0.1) _ x s3.2 in
        let a = took stop symbol.Assign ts s2.0 s2.1 in
        let z = took stop symbol.Semicolon s3.0.1 s4.0 s4.1 in
        let value : IsSource depth s2.0.1 s3.0.0 (z.token ∷ s4.0.1) = subst (λ (l : List Spanned). IsSource depth s2.0.1 s3.0.0 l) z.is (source_sound depth s2.0.1 s3.0 s3.1) in
        subst (λ (y : StmtTree × List Spanned). IsStmt depth Block (n ∷ ts) y.0 y.1) (ok_is (Rebind name s3.0.0, s4.0.1) x s4.2)
        (subst (λ (l : List Spanned). IsStmt depth Block (n ∷ l) (Rebind name s3.0.0) s4.0.1) (sym a.is) (rebind n a.token z.token name s3.0.0 s2.0.1 s4.0.1 is a.symbol value z.symbol))

    set_sound : (w : Spanned) → IsWord w word.Set → Behind w (set_at stop depth)
    unfolding set_at
    set_sound w is ts x e =
        let s1 = bind_ok (name_at stop ts) _ x e in
        let s2 = bind_ok (expected stop symbol.Assign s1.0.1) _ x s1.2 in
        let s3 = bind_ok (expression stop depth s2.0.1) _ x s2.2 in
        let s4 = bind_ok (expected stop symbol.Semicolon s3.0.1) _ x s3.2 in
        let n = took_name stop ts s1.0 s1.1 in
        let a = took stop symbol.Assign s1.0.1 s2.0 s2.1 in
        let z = took stop symbol.Semicolon s3.0.1 s4.0 s4.1 in
        let value : IsExpression depth s2.0.1 s3.0.0 (z.token ∷ s4.0.1) = subst (λ (l : List Spanned). IsExpression depth s2.0.1 s3.0.0 l) z.is (is_expression stop depth s2.0.1 s3.0 s3.1) in
        let here : ts ≡ n.0 ∷ a.token ∷ s2.0.1 = n.1 ∙ ap (λ (l : List Spanned). n.0 ∷ l) a.is in
        subst (λ (y : StmtTree × List Spanned). IsStmt depth Block (w ∷ ts) y.0 y.1) (ok_is (SetField s1.0.0 s3.0.0, s4.0.1) x s4.2)
        (subst (λ (l : List Spanned). IsStmt depth Block (w ∷ l) (SetField s1.0.0 s3.0.0) s4.0.1) (sym here) (set_field w n.0 a.token z.token s1.0.0 s3.0.0 s2.0.1 s4.0.1 is n.2 a.symbol value z.symbol))

    perform_sound : (w : Spanned) → IsWord w word.Call → Behind w (call_statement_at stop depth)
    unfolding call_statement_at
    perform_sound w is ts x e =
        let s1 = bind_ok (call_at stop depth ts) _ x e in
        let s2 = bind_ok (expected stop symbol.Semicolon s1.0.1) _ x s1.2 in
        let z = took stop symbol.Semicolon s1.0.1 s2.0 s2.1 in
        let asked : IsCall depth ts s1.0.0 (z.token ∷ s2.0.1) = subst (λ (l : List Spanned). IsCall depth ts s1.0.0 l) z.is (call_sound stop depth ts s1.0 s1.1) in
        subst (λ (y : StmtTree × List Spanned). IsStmt depth Block (w ∷ ts) y.0 y.1) (ok_is (Perform s1.0.0, s2.0.1) x s2.2) (perform w z.token s1.0.0 ts s2.0.1 is asked z.symbol)

    return_sound : (w : Spanned) → IsWord w word.Return → Behind w (return_at stop depth)
    unfolding return_at
    return_sound w is ts x e =
        let s1 = bind_ok (expression stop depth ts) _ x e in
        let s2 = bind_ok (expected stop symbol.Semicolon s1.0.1) _ x s1.2 in
        let z = took stop symbol.Semicolon s1.0.1 s2.0 s2.1 in
        let value : IsExpression depth ts s1.0.0 (z.token ∷ s2.0.1) = subst (λ (l : List Spanned). IsExpression depth ts s1.0.0 l) z.is (is_expression stop depth ts s1.0 s1.1) in
        subst (λ (y : StmtTree × List Spanned). IsStmt depth Block (w ∷ ts) y.0 y.1) (ok_is (Give s1.0.0, s2.0.1) x s2.2) (give w z.token s1.0.0 ts s2.0.1 is value z.symbol)

    fail_sound : (w : Spanned) → IsWord w word.Fail → Behind w (fail_at stop)
    unfolding fail_at
    fail_sound w is ts x e =
        let s1 = bind_ok (spelling_at stop ts) _ x e in
        let s2 = bind_ok (expected stop symbol.Semicolon s1.0.1) _ x s1.2 in
        let s = took_text stop ts s1.0 s1.1 in
        let z = took stop symbol.Semicolon s1.0.1 s2.0 s2.1 in
        let here : ts ≡ s.0 ∷ z.token ∷ s2.0.1 = s.1 ∙ ap (λ (l : List Spanned). s.0 ∷ l) z.is in
        subst (λ (y : StmtTree × List Spanned). IsStmt depth Block (w ∷ ts) y.0 y.1) (ok_is (FailWith s1.0.0, s2.0.1) x s2.2)
        (subst (λ (l : List Spanned). IsStmt depth Block (w ∷ l) (FailWith s1.0.0) s2.0.1) (sym here) (fail_with w s.0 z.token s1.0.0 s2.0.1 is s.2 z.symbol))

    no_else : (ts : List Spanned) → taken_word word.Else ts ≡ None → NoElseNext ts
    unfolding taken_word
    no_else ts e t us is w =
        let some : taken_word word.Else ts ≡ Some us = ap (taken_word word.Else) is ∙ ap (λ k. cond (is_word word.Else k) (Some us) None) w in
        absurd (let clash : Some us ≡ None = sym some ∙ e in cc)

    else_from_sound : (ts : List Spanned) (x : ElseTree × List Spanned) (q : Option (List Spanned)) → taken_word word.Else ts ≡ q → else_from stop blocks ts q ≡ Ok x → IsElse Block ts x.0 x.1
    else_from_sound ts x (Some after) q e =
        let w = took_next word.Else ts after q in
        let b = bind_ok (blocks after) (λ b. Ok (Else (block_tree b.0), b.1)) x e in
        subst (λ (l : List Spanned). IsElse Block l x.0 x.1) (sym w.1)
        (subst (λ (y : ElseTree × List Spanned). IsElse Block (w.0 ∷ after) y.0 y.1) (ok_is (Else (block_tree b.0.0), b.0.1) x b.2) (other w.0 after (block_tree b.0.0) b.0.1 w.2 (sound after b.0 b.1)))
    else_from_sound ts x None q e = subst (λ (y : ElseTree × List Spanned). IsElse Block ts y.0 y.1) (ok_is (NoElse, ts) x e) (left_out ts (no_else ts q))

    else_sound : Sound ElseTree (IsElse Block) (else_at stop blocks)
    unfolding else_at
    else_sound ts x e = else_from_sound ts x (taken_word word.Else ts) refl e

    if_sound : (w : Spanned) → IsWord w word.If → Behind w (if_at stop depth blocks)
    unfolding if_at
    if_sound w is ts x e =
        let s1 = bind_ok (expression stop depth ts) _ x e in
        let s2 = bind_ok (blocks s1.0.1) _ x s1.2 in
        let s3 = bind_ok (else_at stop blocks s2.0.1) _ x s2.2 in
        subst (λ (y : StmtTree × List Spanned). IsStmt depth Block (w ∷ ts) y.0 y.1) (ok_is (Choose s1.0.0 (block_tree s2.0.0) s3.0.0, s3.0.1) x s3.2)
        (choose w s1.0.0 (block_tree s2.0.0) s3.0.0 ts s1.0.1 s2.0.1 s3.0.1 is (is_expression stop depth ts s1.0 s1.1) (sound s1.0.1 s2.0 s2.1) (else_sound s2.0.1 s3.0 s3.1))

    while_sound : (w : Spanned) → IsWord w word.While → Behind w (while_at stop depth blocks)
    unfolding while_at
    while_sound w is ts x e =
        let s1 = bind_ok (expression stop depth ts) _ x e in
        let s2 = bind_ok (blocks s1.0.1) _ x s1.2 in
        subst (λ (y : StmtTree × List Spanned). IsStmt depth Block (w ∷ ts) y.0 y.1) (ok_is (Repeat s1.0.0 (block_tree s2.0.0), s2.0.1) x s2.2)
        (repeat w s1.0.0 (block_tree s2.0.0) ts s1.0.1 s2.0.1 is (is_expression stop depth ts s1.0 s1.1) (sound s1.0.1 s2.0 s2.1))

    attempt_sound : (w : Spanned) → IsWord w word.Attempt → Behind w (attempt_at stop depth blocks w.at)
    unfolding attempt_at
    attempt_sound w is ts x e =
        let s1 = bind_ok (name_at stop ts) _ x e in
        let s2 = bind_ok (expected stop symbol.Assign s1.0.1) _ x s1.2 in
        let s3 = bind_ok (expected_word stop word.Call s2.0.1) _ x s2.2 in
        let s4 = bind_ok (call_at stop depth s3.0.1) _ x s3.2 in
        let s5 = bind_ok (blocks s4.0.1) _ x s4.2 in
        let s6 = bind_ok (expected_word stop word.Else s5.0.1) _ x s5.2 in
        let s7 = bind_ok (blocks s6.0.1) _ x s6.2 in
        let n = took_name stop ts s1.0 s1.1 in
        let a = took stop symbol.Assign s1.0.1 s2.0 s2.1 in
        let c = took_word stop word.Call s2.0.1 s3.0 s3.1 in
        let o = took_word stop word.Else s5.0.1 s6.0 s6.1 in
        let first : Block s4.0.1 (block_tree s5.0.0) (o.0 ∷ s6.0.1) = subst (λ (l : List Spanned). Block s4.0.1 (block_tree s5.0.0) l) o.1 (sound s4.0.1 s5.0 s5.1) in
        let made : StmtTree = Try w.at s1.0.0 s4.0.0 (block_tree s5.0.0) (block_tree s7.0.0) in
        let here : ts ≡ n.0 ∷ a.token ∷ c.0 ∷ s3.0.1 = n.1 ∙ ap (λ (l : List Spanned). n.0 ∷ l) (a.is ∙ ap (λ (l : List Spanned). a.token ∷ l) c.1) in
        subst (λ (y : StmtTree × List Spanned). IsStmt depth Block (w ∷ ts) y.0 y.1) (ok_is (made, s7.0.1) x s7.2)
        (subst (λ (l : List Spanned). IsStmt depth Block (w ∷ l) made s7.0.1) (sym here)
        (attempt w n.0 a.token c.0 o.0 s1.0.0 s4.0.0 (block_tree s5.0.0) (block_tree s7.0.0) s3.0.1 s4.0.1 s6.0.1 s7.0.1 is n.2 a.symbol c.2 (call_sound stop depth s3.0.1 s4.0 s4.1) first o.2 (sound s6.0.1 s7.0 s7.1)))

    word_sound : (w : Word) (t : Spanned) → IsWord t w → (ts : List Spanned) (x : StmtTree × List Spanned) → word_begins stop depth blocks w t.at ts ≡ Ok x → IsStmt depth Block (t ∷ ts) x.0 x.1
    word_sound word.Let t is ts x e = let_sound t is ts x e
    word_sound word.Set t is ts x e = set_sound t is ts x e
    word_sound word.Call t is ts x e = perform_sound t is ts x e
    word_sound word.If t is ts x e = if_sound t is ts x e
    word_sound word.While t is ts x e = while_sound t is ts x e
    word_sound word.Return t is ts x e = return_sound t is ts x e
    word_sound word.Fail t is ts x e = fail_sound t is ts x e
    word_sound word.Attempt t is ts x e = attempt_sound t is ts x e
    word_sound _ t is ts x e = absurd cc

    from_sound : (k : Token) (t : Spanned) → t.token ≡ k → (ts : List Spanned) (x : StmtTree × List Spanned) → statement_from stop depth blocks k t.at ts ≡ Ok x → IsStmt depth Block (t ∷ ts) x.0 x.1
    from_sound (token.Name s) t k ts x e = assign_sound t (record { text = s; at = t.at }) (k, refl) ts x e
    from_sound (token.Word w) t k ts x e = word_sound w t k ts x e
    from_sound (token.Int n) t k ts x e = absurd cc
    from_sound (token.Text s) t k ts x e = absurd cc
    from_sound (token.Symbol s) t k ts x e = absurd cc

    pub statement_sound : Sound StmtTree (IsStmt depth Block) (statement_over stop depth blocks)
    unfolding statement_over
    statement_sound [] x e = absurd cc
    statement_sound (t ∷ ts) x e = from_sound t.token t refl ts x e

  -- ---- blocks

  module _ (Stmt : List Spanned → StmtTree → List Spanned → Type 0) (one : Read StmtTree) (ones : Sound StmtTree Stmt one) where
    up_to_sound : (rest : Read (List StmtTree)) → ((us : List Spanned) (y : List StmtTree × List Spanned) → rest us ≡ Ok y → IsBody Stmt us (block_tree y.0) y.1) → (ts : List Spanned) (x : List StmtTree × List Spanned) (q : Option (List Spanned)) → taken symbol.RightBrace ts ≡ q → up_to stop one rest ts q ≡ Ok x → IsBody Stmt ts (block_tree x.0) x.1
    up_to_sound rest rests ts x (Some after) q e =
        let c = took_symbol symbol.RightBrace ts after q in
        subst (λ (l : List Spanned). IsBody Stmt l (block_tree x.0) x.1) (sym c.1)
        (subst (λ (y : List StmtTree × List Spanned). IsBody Stmt (c.0 ∷ after) (block_tree y.0) y.1) (ok_is ([], after) x e) (no_more c.0 after c.2))
    up_to_sound rest rests ts x None q e =
        let s = bind_ok (one ts) (λ s. rest s.1 >>= λ r. Ok (s.0 ∷ r.0, r.1)) x e in
        let r = bind_ok (rest s.0.1) (λ r. Ok (s.0.0 ∷ r.0, r.1)) x s.2 in
        subst (λ (y : List StmtTree × List Spanned). IsBody Stmt ts (block_tree y.0) y.1) (ok_is (s.0.0 ∷ r.0.0, r.0.1) x r.2)
        (then_more s.0.0 (block_tree r.0.0) ts s.0.1 r.0.1 (ones ts s.0 s.1) (rests s.0.1 r.0 r.1))

    statements_sound : (n : ℕ) (ts : List Spanned) (x : List StmtTree × List Spanned) → statements stop one n ts ≡ Ok x → IsBody Stmt ts (block_tree x.0) x.1
    unfolding statements
    statements_sound zero ts x e = absurd cc
    statements_sound (suc n) ts x e = up_to_sound (statements stop one n) (λ us y f. statements_sound n us y f) ts x (taken symbol.RightBrace ts) refl e

  pub block_sound : (depth : ℕ) (ts : List Spanned) (x : List StmtTree × List Spanned) → block stop depth ts ≡ Ok x → IsBlock depth ts (block_tree x.0) x.1
  unfolding block
  block_sound zero ts x e = let o = bind_ok (expected stop symbol.LeftBrace ts) (λ o. Err (TooDeep o.0)) x e in absurd (let clash = o.2 in cc)
  block_sound (suc depth) ts x e =
      let one = statement_over stop depth (block stop depth) in
      let o = bind_ok (expected stop symbol.LeftBrace ts) (λ o. statements stop one (length o.1) o.1) x e in
      let t = took stop symbol.LeftBrace ts o.0 o.1 in
      let body = statements_sound (IsStmt depth (IsBlock depth)) one (statement_sound depth (IsBlock depth) (block stop depth) (block_sound depth)) (length o.0.1) o.0.1 x o.2 in
      subst (λ (l : List Spanned). IsBraced (IsStmt depth (IsBlock depth)) l (block_tree x.0) x.1) (sym t.is) (braces t.token (block_tree x.0) o.0.1 x.1 t.symbol body)
