-- Calls are read exactly as the grammar has them.
use Rattle.std.proofs.Common.{◌≡◌, ◌≢◌, ℕ, zero, suc, ◌<◌, ◌≤◌, List, [], ◌∷◌, Option, Some, None, Ok, Bool, true, false, cond, refl, sym, ap, subst, ◌∙◌, arith, length, ◌⊎◌, inl, inr}
use Rattle.script_tree.specs.declared.expressions.Name.{Name}
use Rattle.script_tree.specs.Exprs.{ExprTree, Variable, CallTree}
use Rattle.script_lexer.specs.declared.faults.ParseFault.{ParseFault}
use Rattle.script_lexer.specs.declared.tokens.Spanned.{Spanned}
use Rattle.script_lexer.specs.declared.tokens.Token.{Token}
use Rattle.script_lexer.specs.declared.tokens.Token.TheVariants as token
use Rattle.script_lexer.specs.declared.tokens.Symbol.{Symbol}
use Rattle.script_lexer.specs.declared.tokens.Symbol.TheVariants as symbol
use Rattle.script_lexer.specs.declared.tokens.Word.{Word}
use Rattle.script_lexer.specs.declared.tokens.Word.TheVariants as word
use Rattle.script_expressions.specs.TokenReaders.{◌>>=◌, Read}
use Rattle.script_expressions.specs.Tokens.{is_symbol, expected, name_from, name_at, taken}
use Rattle.script_expressions.specs.Expressions.{Beginning, Whole, Prefix, Open, Never, starts, expression}
use Rattle.script_expressions.specs.Calls.{enclosed_in, parenthesised, word_place, place_from, place_at, goes_on, listed, listed_or_none, arguments_in, arguments, call_at}
use Rattle.script_expressions.specs.Grammar.{IsSymbol, IsWord, IsName, Derives, single, alone, joined, compared, OperandOver, whole, prefix, parens, Nothing, IsOperand, IsExpression, Stops, IsPlace, number, named, key, enclosed as in_parens, IsList, last, more, IsEnclosedList, empty, filled, IsCall, call}
use Rattle.script_expressions.proofs.Soundness.{bind_ok, ok_is, symbol_is, took, Sound, is_expression, is_enclosed}
use Rattle.script_expressions.proofs.Completeness.{symbol_read, symbol_taken, not_taken, stops_symbol, is_read, enclosed_read}

-- ---- names

name_is : (k : Token) (t : Spanned) (ts : List Spanned) (x : Name × List Spanned) → t.token ≡ k → name_from k t.at ts ≡ Ok x → (u : Spanned) × ((t ∷ ts) ≡ u ∷ x.1) × IsName u x.0
name_is (token.Name s) t ts x k e =
    let found : Name × List Spanned = (record { text = s; at = t.at }, ts) in
    let same : found ≡ x = ok_is found x e in
    subst (λ (y : Name × List Spanned). (u : Spanned) × ((t ∷ ts) ≡ u ∷ y.1) × IsName u y.0) same (t, refl, (k, refl))
name_is (token.Word w) t ts x k e = absurd cc
name_is (token.Int n) t ts x k e = absurd cc
name_is (token.Text s) t ts x k e = absurd cc
name_is (token.Symbol s) t ts x k e = absurd cc

-- the token that a name was read from
pub took_name : (stop : ParseFault) (ts : List Spanned) (x : Name × List Spanned) → name_at stop ts ≡ Ok x → (u : Spanned) × (ts ≡ u ∷ x.1) × IsName u x.0
unfolding name_at
took_name stop [] x e = absurd cc
took_name stop (t ∷ ts) x e = name_is t.token t ts x refl e

pub name_read : (stop : ParseFault) (t : Spanned) (name : Name) (ts : List Spanned) → IsName t name → name_at stop (t ∷ ts) ≡ Ok (name, ts)
unfolding name_at
name_read stop t name ts is = rw is.0 (ap (λ (at : ℕ). Ok (record { text = name.text; at = at }, ts)) is.1)

-- the token that was taken
took_if : (s : Symbol) (t : Spanned) (ts us : List Spanned) (b : Bool) → is_symbol s t.token ≡ b → cond b (Some ts) None ≡ Some us → (u : Spanned) × ((t ∷ ts) ≡ u ∷ us) × IsSymbol u s
took_if s t ts us true b e = let same : ts ≡ us = cc in (t, ap (λ (l : List Spanned). t ∷ l) same, symbol_is s t.token b)
took_if s t ts us false b e = absurd cc

pub took_symbol : (s : Symbol) (ts us : List Spanned) → taken s ts ≡ Some us → (u : Spanned) × (ts ≡ u ∷ us) × IsSymbol u s
unfolding taken
took_symbol s [] us e = absurd cc
took_symbol s (t ∷ ts) us e = took_if s t ts us (is_symbol s t.token) refl e

-- ---- places

module _ (stop : ParseFault) where
  inside_sound : (depth : ℕ) (o : Spanned) (at : ℕ) (ts : List Spanned) (x : ExprTree × List Spanned) → IsSymbol o symbol.LeftParen → enclosed_in stop depth at ts ≡ Ok x → IsPlace depth (o ∷ ts) x.0 x.1
  inside_sound zero o at ts x is e = absurd cc
  inside_sound (suc depth) o at ts x is e = let k = is_enclosed stop depth ts x e in in_parens depth o k.token ts x.0 x.1 is k.inside k.symbol

  parenthesised_sound : (depth : ℕ) → Sound ExprTree (IsPlace depth) (parenthesised stop depth)
  unfolding parenthesised
  parenthesised_sound depth ts x e =
      let o = bind_ok (expected stop symbol.LeftParen ts) (λ o. enclosed_in stop depth o.0 o.1) x e in
      let t = took stop symbol.LeftParen ts o.0 o.1 in
      subst (λ (l : List Spanned). IsPlace depth l x.0 x.1) (sym t.is) (inside_sound depth t.token o.0.0 o.0.1 x t.symbol o.2)

  word_place_sound : (depth : ℕ) (w : Word) (t : Spanned) (ts : List Spanned) (x : ExprTree × List Spanned) → IsWord t w → word_place stop depth w ts (t ∷ ts) ≡ Ok x → IsPlace depth (t ∷ ts) x.0 x.1
  word_place_sound depth word.Key t ts x is e = subst (λ (y : ExprTree × List Spanned). IsPlace depth (t ∷ ts) y.0 y.1) (ok_is _ x e) (key depth t ts is)
  word_place_sound depth _ t ts x is e = parenthesised_sound depth (t ∷ ts) x e

  place_from_sound : (depth : ℕ) (k : Token) (t : Spanned) (ts : List Spanned) (x : ExprTree × List Spanned) → t.token ≡ k → place_from stop depth k t.at ts (t ∷ ts) ≡ Ok x → IsPlace depth (t ∷ ts) x.0 x.1
  place_from_sound depth (token.Int n) t ts x k e = subst (λ (y : ExprTree × List Spanned). IsPlace depth (t ∷ ts) y.0 y.1) (ok_is _ x e) (number depth t n ts k)
  place_from_sound depth (token.Name s) t ts x k e = subst (λ (y : ExprTree × List Spanned). IsPlace depth (t ∷ ts) y.0 y.1) (ok_is _ x e) (named depth t (record { text = s; at = t.at }) ts (k, refl))
  place_from_sound depth (token.Word w) t ts x k e = word_place_sound depth w t ts x k e
  place_from_sound depth (token.Symbol s) t ts x k e = parenthesised_sound depth (t ∷ ts) x e
  place_from_sound depth (token.Text s) t ts x k e = parenthesised_sound depth (t ∷ ts) x e

  pub place_sound : (depth : ℕ) → Sound ExprTree (IsPlace depth) (place_at stop depth)
  unfolding place_at
  place_sound depth [] x e = absurd cc
  place_sound depth (t ∷ ts) x e = place_from_sound depth t.token t ts x refl e

  number_place : (depth : ℕ) (t : Spanned) (k : Token) (ts : List Spanned) → t.token ≡ k → place_at stop depth (t ∷ ts) ≡ place_from stop depth k t.at ts (t ∷ ts)
  unfolding place_at
  number_place depth t k ts e = ap (λ j. place_from stop depth j t.at ts (t ∷ ts)) e

  parens_place : (depth : ℕ) (o c : Spanned) (ts : List Spanned) (tree : ExprTree) (after : List Spanned) → IsSymbol o symbol.LeftParen → IsExpression depth ts tree (c ∷ after) → IsSymbol c symbol.RightParen → parenthesised stop (suc depth) (o ∷ ts) ≡ Ok (tree, after)
  unfolding parenthesised
  parens_place depth o c ts tree after opens d close = rw (symbol_read stop symbol.LeftParen o ts opens) (enclosed_read stop depth ts tree c after d close)

  pub place_read : (depth : ℕ) (ts : List Spanned) (tree : ExprTree) (after : List Spanned) → IsPlace depth ts tree after → place_at stop depth ts ≡ Ok (tree, after)
  place_read _ _ _ _ (number depth t n after e) = number_place depth t (token.Int n) after e
  place_read _ _ _ _ (named depth t name after is) = number_place depth t (token.Name name.text) after is.0 ∙ ap (λ (at : ℕ). Ok (Variable (record { text = name.text; at = at }), after)) is.1
  place_read _ _ _ _ (key depth t after e) = number_place depth t (token.Word word.Key) after e
  place_read _ _ _ _ (in_parens depth o c ts tree after opens d close) = number_place (suc depth) o (token.Symbol symbol.LeftParen) ts opens ∙ parens_place depth o c ts tree after opens d close

-- ---- lists

module _ (stop : ParseFault) (A : Type 0) (Is : List Spanned → A → List Spanned → Type 0) (one : Read A) where
  goes_sound : (rest : Read (List A)) → ((us : List Spanned) (y : List A × List Spanned) → rest us ≡ Ok y → IsList A Is us y.0 y.1) → (ts us : List Spanned) (a : A) (x : List A × List Spanned) → Is ts a us → (q : Option (List Spanned)) → taken symbol.RightParen us ≡ q → goes_on stop rest a us q ≡ Ok x → IsList A Is ts x.0 x.1
  goes_sound rest rests ts us a x d (Some after) q e =
      let c = took_symbol symbol.RightParen us after q in
      subst (λ (y : List A × List Spanned). IsList A Is ts y.0 y.1) (ok_is (a ∷ [], after) x e) (last c.0 ts a after (subst (λ (l : List Spanned). Is ts a l) c.1 d) c.2)
  goes_sound rest rests ts us a x d None q e =
      let c = bind_ok (expected stop symbol.Comma us) (λ c. rest c.1 >>= λ r. Ok (a ∷ r.0, r.1)) x e in
      let t = took stop symbol.Comma us c.0 c.1 in
      let r = bind_ok (rest c.0.1) (λ r. Ok (a ∷ r.0, r.1)) x c.2 in
      subst (λ (y : List A × List Spanned). IsList A Is ts y.0 y.1) (ok_is (a ∷ r.0.0, r.0.1) x r.2) (more t.token ts c.0.1 a r.0.0 r.0.1 (subst (λ (l : List Spanned). Is ts a l) t.is d) t.symbol (rests c.0.1 r.0 r.1))

  pub listed_sound : Sound A Is one → (n : ℕ) → Sound (List A) (IsList A Is) (listed stop one n)
  unfolding listed
  listed_sound ones zero ts x e = absurd cc
  listed_sound ones (suc n) ts x e =
      let s = bind_ok (one ts) (λ y. goes_on stop (listed stop one n) y.0 y.1 (taken symbol.RightParen y.1)) x e in
      goes_sound (listed stop one n) (λ us y f. listed_sound ones n us y f) ts s.0.1 s.0.0 x (ones ts s.0 s.1) (taken symbol.RightParen s.0.1) refl s.2

  pub enclosed_list_sound : Sound A Is one → (o : Spanned) → IsSymbol o symbol.LeftParen → (ts : List Spanned) (x : List A × List Spanned) (q : Option (List Spanned)) → taken symbol.RightParen ts ≡ q → listed_or_none stop one ts q ≡ Ok x → IsEnclosedList A Is (o ∷ ts) x.0 x.1
  enclosed_list_sound ones o opens ts x (Some after) q e =
      let c = took_symbol symbol.RightParen ts after q in
      let none : IsEnclosedList A Is (o ∷ ts) [] after = subst (λ (l : List Spanned). IsEnclosedList A Is (o ∷ l) [] after) (sym c.1) (empty o c.0 after opens c.2) in
      subst (λ (y : List A × List Spanned). IsEnclosedList A Is (o ∷ ts) y.0 y.1) (ok_is ([], after) x e) none
  enclosed_list_sound ones o opens ts x None q e = filled o ts x.0 x.1 opens (listed_sound ones (length ts) ts x e)

  -- what is needed of an item: it is read before a comma and a parenthesis, takes tokens, and begins with no parenthesis
  pub record Reads : Type 0 where
    pub read : (ts : List Spanned) (x : A) (c : Spanned) (us : List Spanned) → Is ts x (c ∷ us) → IsSymbol c symbol.RightParen ⊎ IsSymbol c symbol.Comma → one ts ≡ Ok (x, c ∷ us)
    pub takes : (ts : List Spanned) (x : A) (after : List Spanned) → Is ts x after → length after < length ts
    pub begins : (ts : List Spanned) (x : A) (after : List Spanned) → Is ts x after → taken symbol.RightParen ts ≡ None

  comma_no_close : (c : Spanned) (us : List Spanned) → IsSymbol c symbol.Comma → taken symbol.RightParen (c ∷ us) ≡ None
  comma_no_close c us e = not_taken symbol.RightParen c us (ap (is_symbol symbol.RightParen) e)

  listed_last : (n : ℕ) (ts : List Spanned) (x : A) (c : Spanned) (after : List Spanned) → one ts ≡ Ok (x, c ∷ after) → IsSymbol c symbol.RightParen → listed stop one (suc n) ts ≡ Ok (x ∷ [], after)
  unfolding listed
  listed_last n ts x c after e close = rw (e, symbol_taken symbol.RightParen c after close) refl

  listed_more : (n : ℕ) (ts us : List Spanned) (x : A) (xs : List A) (c : Spanned) (after : List Spanned) → one ts ≡ Ok (x, c ∷ us) → IsSymbol c symbol.Comma → listed stop one n us ≡ Ok (xs, after) → listed stop one (suc n) ts ≡ Ok (x ∷ xs, after)
  unfolding listed
  listed_more n ts us x xs c after e comma rest = rw (e, comma_no_close c us comma, symbol_read stop symbol.Comma c us comma, rest) refl

  pub listed_read : Reads → (n : ℕ) (ts : List Spanned) (xs : List A) (after : List Spanned) → length ts ≤ n → IsList A Is ts xs after → listed stop one n ts ≡ Ok (xs, after)
  listed_read r zero _ _ _ le (last c ts x after d close) = let takes = r.takes ts x (c ∷ after) d in absurd (omega arith)
  listed_read r (suc n) _ _ _ le (last c ts x after d close) = listed_last n ts x c after (r.read ts x c after d (inl close)) close
  listed_read r zero _ _ _ le (more c ts us x xs after d comma l) = let takes = r.takes ts x (c ∷ us) d in absurd (omega arith)
  listed_read r (suc n) _ _ _ le (more c ts us x xs after d comma l) =
      let takes : suc (length us) < length ts = r.takes ts x (c ∷ us) d in
      listed_more n ts us x xs c after (r.read ts x c us d (inr comma)) comma (listed_read r n us xs after (omega arith) l)

  first_begins : Reads → (ts : List Spanned) (xs : List A) (after : List Spanned) → IsList A Is ts xs after → taken symbol.RightParen ts ≡ None
  first_begins r _ _ _ (last c ts x after d close) = r.begins ts x (c ∷ after) d
  first_begins r _ _ _ (more c ts us x xs after d comma l) = r.begins ts x (c ∷ us) d

  -- a list behind its parenthesis
  pub enclosed_list_read : Reads → (all : List Spanned) (xs : List A) (after : List Spanned) → IsEnclosedList A Is all xs after → (o : Spanned) × (ts : List Spanned) × (all ≡ o ∷ ts) × IsSymbol o symbol.LeftParen × (listed_or_none stop one ts (taken symbol.RightParen ts) ≡ Ok (xs, after))
  enclosed_list_read r _ _ _ (empty o c after opens close) = (o, c ∷ after, refl, opens, ap (listed_or_none stop one (c ∷ after)) (symbol_taken symbol.RightParen c after close))
  enclosed_list_read r _ _ _ (filled o ts xs after opens l) = (o, ts, refl, opens, ap (listed_or_none stop one ts) (first_begins r ts xs after l) ∙ listed_read r (length ts) ts xs after (omega arith) l)

-- ---- expressions as items

begins_open : (k : Token) (at : ℕ) (q : Beginning) → starts k at ≡ q → q ≢ Never → is_symbol symbol.RightParen k ≡ false
begins_open (token.Symbol symbol.RightParen) at q e ne = absurd (ne (sym e))
begins_open (token.Symbol _) at q e ne = refl
begins_open (token.Name s) at q e ne = refl
begins_open (token.Word w) at q e ne = refl
begins_open (token.Int n) at q e ne = refl
begins_open (token.Text s) at q e ne = refl

abbrev Taking : (List Spanned → ExprTree → List Spanned → Type 0) → Type 0
Taking Is = (ts : List Spanned) (x : ExprTree) (after : List Spanned) → Is ts x after → (length after < length ts) × (taken symbol.RightParen ts ≡ None)

derives_taking : (Operand : List Spanned → ExprTree → List Spanned → Type 0) → Taking Operand → (tier room : ℕ) (ts : List Spanned) (tree : ExprTree) (left : ℕ) (after : List Spanned) → Derives Operand tier room ts tree left after → (length after < length ts) × (taken symbol.RightParen ts ≡ None)
derives_taking Operand k _ _ _ _ _ _ (single room ts tree after d) = k ts tree after d
derives_taking Operand k _ _ _ _ _ _ (alone tier room left ts tree after d) = derives_taking Operand k tier room ts tree left after d
derives_taking Operand k _ _ _ _ _ _ (joined tier room mid left t ts us o a b after ne j da db) =
    let ka = derives_taking Operand k (suc tier) room ts a (suc mid) (t ∷ us) da in
    let kb = derives_taking Operand k tier mid us b left after db in
    (omega (arith, ka.0, kb.0), ka.1)
derives_taking Operand k _ _ _ _ _ _ (compared room mid left t ts us o a b after j da db) =
    let ka = derives_taking Operand k 2 room ts a (suc mid) (t ∷ us) da in
    let kb = derives_taking Operand k 2 mid us b left after db in
    (omega (arith, ka.0, kb.0), ka.1)

operand_taking : (Inner : List Spanned → ExprTree → List Spanned → Type 0) → Taking Inner → Taking (OperandOver Inner)
operand_taking Inner k _ _ _ (whole t tree after q) = (omega arith, not_taken symbol.RightParen t after (begins_open t.token t.at (Whole tree) q (λ e. let clash : Whole tree ≡ Never = e in absurd cc)))
operand_taking Inner k _ _ _ (prefix t ts o tree after q d) = (omega (arith, (k ts tree after d).0), not_taken symbol.RightParen t ts (begins_open t.token t.at (Prefix o) q (λ e. let clash : Prefix o ≡ Never = e in absurd cc)))
operand_taking Inner k _ _ _ (parens t c ts tree after q d close) = (omega (arith, (derives_taking Inner k 5 32 ts tree d.0 (c ∷ after) d.1).0), not_taken symbol.RightParen t ts (begins_open t.token t.at Open q (λ e. let clash : Open ≡ Never = e in absurd cc)))

is_operand_taking : (depth : ℕ) → Taking (IsOperand depth)
is_operand_taking zero = operand_taking Nothing (λ ts x after d. absurd d)
is_operand_taking (suc depth) = operand_taking (IsOperand depth) (is_operand_taking depth)

pub expression_taking : (depth : ℕ) → Taking (IsExpression depth)
expression_taking depth ts x after d = derives_taking (IsOperand depth) (is_operand_taking depth) 5 32 ts x d.0 after d.1

pub expression_reads : (stop : ParseFault) (depth : ℕ) → Reads stop ExprTree (IsExpression depth) (expression stop depth)
expression_reads stop depth = record {
  read = λ ts x c us d behind. is_read stop depth ts x (c ∷ us) d (ends c us behind);
  takes = λ ts x after d. (expression_taking depth ts x after d).0;
  begins = λ ts x after d. (expression_taking depth ts x after d).1;
} where
  ends : (c : Spanned) (us : List Spanned) → IsSymbol c symbol.RightParen ⊎ IsSymbol c symbol.Comma → Stops 5 (c ∷ us)
  ends c us (inl e) = stops_symbol symbol.RightParen c us 5 refl e
  ends c us (inr e) = stops_symbol symbol.Comma c us 5 refl e

-- ---- calls

module _ (stop : ParseFault) where
  arguments_sound : (depth : ℕ) (o : Spanned) (at : ℕ) (ts : List Spanned) (x : List ExprTree × List Spanned) → IsSymbol o symbol.LeftParen → arguments_in stop depth at ts ≡ Ok x → (d : ℕ) × (depth ≡ suc d) × IsEnclosedList ExprTree (IsExpression d) (o ∷ ts) x.0 x.1
  arguments_sound zero o at ts x opens e = absurd cc
  arguments_sound (suc d) o at ts x opens e = (d, refl, enclosed_list_sound stop ExprTree (IsExpression d) (expression stop d) (is_expression stop d) o opens ts x (taken symbol.RightParen ts) refl e)

  args_sound : (depth : ℕ) (ts : List Spanned) (x : List ExprTree × List Spanned) → arguments stop depth ts ≡ Ok x → (d : ℕ) × (depth ≡ suc d) × IsEnclosedList ExprTree (IsExpression d) ts x.0 x.1
  unfolding arguments
  args_sound depth ts x e =
      let o = bind_ok (expected stop symbol.LeftParen ts) (λ o. arguments_in stop depth o.0 o.1) x e in
      let t = took stop symbol.LeftParen ts o.0 o.1 in
      let k = arguments_sound depth t.token o.0.0 o.0.1 x t.symbol o.2 in
      (k.0, k.1, subst (λ (l : List Spanned). IsEnclosedList ExprTree (IsExpression k.0) l x.0 x.1) (sym t.is) k.2)

  pub call_sound : (depth : ℕ) → Sound CallTree (IsCall depth) (call_at stop depth)
  unfolding call_at
  call_sound depth ts x e =
      let s1 = bind_ok (name_at stop ts) _ x e in
      let s2 = bind_ok (expected stop symbol.Slash s1.0.1) _ x s1.2 in
      let s3 = bind_ok (place_at stop depth s2.0.1) _ x s2.2 in
      let s4 = bind_ok (expected stop symbol.Dot s3.0.1) _ x s3.2 in
      let s5 = bind_ok (name_at stop s4.0.1) _ x s4.2 in
      let s6 = bind_ok (arguments stop depth s5.0.1) _ x s5.2 in
      let n = took_name stop ts s1.0 s1.1 in
      let s = took stop symbol.Slash s1.0.1 s2.0 s2.1 in
      let d = took stop symbol.Dot s3.0.1 s4.0 s4.1 in
      let m = took_name stop s4.0.1 s5.0 s5.1 in
      let a = args_sound depth s5.0.1 s6.0 s6.1 in
      let found : CallTree = record { target = s1.0.0; place = s3.0.0; method = s5.0.0; args = s6.0.0 } in
      let at_place : IsPlace (suc a.0) s2.0.1 s3.0.0 (d.token ∷ m.0 ∷ s5.0.1) =
      subst (λ k. IsPlace k s2.0.1 s3.0.0 (d.token ∷ m.0 ∷ s5.0.1)) a.1 (subst (λ (l : List Spanned). IsPlace depth s2.0.1 s3.0.0 l) (d.is ∙ ap (λ (l : List Spanned). d.token ∷ l) m.1) (place_sound stop depth s2.0.1 s3.0 s3.1)) in
      let whole_call : IsCall (suc a.0) (n.0 ∷ s.token ∷ s2.0.1) found s6.0.1 = call a.0 n.0 s.token d.token m.0 s1.0.0 s3.0.0 s5.0.0 s6.0.0 s2.0.1 s5.0.1 s6.0.1 n.2 s.symbol at_place d.symbol m.2 a.2 in
      let here : ts ≡ n.0 ∷ s.token ∷ s2.0.1 = n.1 ∙ ap (λ (l : List Spanned). n.0 ∷ l) s.is in
      subst (λ (y : CallTree × List Spanned). IsCall depth ts y.0 y.1) (ok_is (found, s6.0.1) x s6.2)
      (subst (λ k. IsCall k ts found s6.0.1) (sym a.1) (subst (λ (l : List Spanned). IsCall (suc a.0) l found s6.0.1) (sym here) whole_call))

  args_read : (d : ℕ) (us : List Spanned) (args : List ExprTree) (after : List Spanned) → IsEnclosedList ExprTree (IsExpression d) us args after → arguments stop (suc d) us ≡ Ok (args, after)
  unfolding arguments
  args_read d us args after l =
      let k = enclosed_list_read stop ExprTree (IsExpression d) (expression stop d) (expression_reads stop d) us args after l in
      rw (k.2, symbol_read stop symbol.LeftParen k.0 k.1 k.3) k.4

  pub call_read : (depth : ℕ) (ts : List Spanned) (x : CallTree) (after : List Spanned) → IsCall depth ts x after → call_at stop depth ts ≡ Ok (x, after)
  unfolding call_at
  call_read _ _ _ _ (call depth n s d m target place method args ts us after is_target slash at_place dot is_method l) =
      let e1 : name_at stop (n ∷ s ∷ ts) ≡ Ok (target, s ∷ ts) = name_read stop n target (s ∷ ts) is_target in
      let e2 : expected stop symbol.Slash (s ∷ ts) ≡ Ok (s.at, ts) = symbol_read stop symbol.Slash s ts slash in
      let e3 : place_at stop (suc depth) ts ≡ Ok (place, d ∷ m ∷ us) = place_read stop (suc depth) ts place (d ∷ m ∷ us) at_place in
      let e4 : expected stop symbol.Dot (d ∷ m ∷ us) ≡ Ok (d.at, m ∷ us) = symbol_read stop symbol.Dot d (m ∷ us) dot in
      let e5 : name_at stop (m ∷ us) ≡ Ok (method, us) = name_read stop m method us is_method in
      let e6 : arguments stop (suc depth) us ≡ Ok (args, after) = args_read depth us args after l in
      rw (e1, e2, e3, e4, e5, e6) refl

-- ---- how expressions and calls begin, and that they take tokens

abbrev pub First : (List Spanned → ExprTree → List Spanned → Type 0) → Type 0
First Is = (ts : List Spanned) (x : ExprTree) (after : List Spanned) → Is ts x after → (t : Spanned) × (us : List Spanned) × (ts ≡ t ∷ us) × (starts t.token t.at ≢ Never)

derives_first : (Operand : List Spanned → ExprTree → List Spanned → Type 0) → First Operand → (tier room : ℕ) (ts : List Spanned) (tree : ExprTree) (left : ℕ) (after : List Spanned) → Derives Operand tier room ts tree left after → (t : Spanned) × (us : List Spanned) × (ts ≡ t ∷ us) × (starts t.token t.at ≢ Never)
derives_first Operand k _ _ _ _ _ _ (single room ts tree after d) = k ts tree after d
derives_first Operand k _ _ _ _ _ _ (alone tier room left ts tree after d) = derives_first Operand k tier room ts tree left after d
derives_first Operand k _ _ _ _ _ _ (joined tier room mid left t ts us o a b after ne j da db) = derives_first Operand k (suc tier) room ts a (suc mid) (t ∷ us) da
derives_first Operand k _ _ _ _ _ _ (compared room mid left t ts us o a b after j da db) = derives_first Operand k 2 room ts a (suc mid) (t ∷ us) da

operand_first : (Inner : List Spanned → ExprTree → List Spanned → Type 0) → First (OperandOver Inner)
operand_first Inner _ _ _ (whole t tree after q) = (t, after, refl, λ e. let clash : Whole tree ≡ Never = sym q ∙ e in absurd cc)
operand_first Inner _ _ _ (prefix t ts o tree after q d) = (t, ts, refl, λ e. let clash : Prefix o ≡ Never = sym q ∙ e in absurd cc)
operand_first Inner _ _ _ (parens t c ts tree after q d close) = (t, ts, refl, λ e. let clash : Open ≡ Never = sym q ∙ e in absurd cc)

is_operand_first : (depth : ℕ) → First (IsOperand depth)
is_operand_first zero = operand_first Nothing
is_operand_first (suc depth) = operand_first (IsOperand depth)

pub expression_first : (depth : ℕ) → First (IsExpression depth)
expression_first depth ts x after d = derives_first (IsOperand depth) (is_operand_first depth) 5 32 ts x d.0 after d.1

place_takes : (depth : ℕ) (ts : List Spanned) (x : ExprTree) (after : List Spanned) → IsPlace depth ts x after → length after < length ts
place_takes _ _ _ _ (number depth t n after e) = omega arith
place_takes _ _ _ _ (named depth t name after is) = omega arith
place_takes _ _ _ _ (key depth t after e) = omega arith
place_takes _ _ _ _ (in_parens depth o c ts tree after opens d close) = omega (arith, (expression_taking depth ts tree (c ∷ after) d).0)

list_takes : (A : Type 0) (Is : List Spanned → A → List Spanned → Type 0) → ((ts : List Spanned) (x : A) (after : List Spanned) → Is ts x after → length after < length ts) → (ts : List Spanned) (xs : List A) (after : List Spanned) → IsList A Is ts xs after → length after < length ts
list_takes A Is k _ _ _ (last c ts x after d close) = omega (arith, k ts x (c ∷ after) d)
list_takes A Is k _ _ _ (more c ts us x xs after d comma l) = omega (arith, k ts x (c ∷ us) d, list_takes A Is k us xs after l)

pub enclosed_takes : (A : Type 0) (Is : List Spanned → A → List Spanned → Type 0) → ((ts : List Spanned) (x : A) (after : List Spanned) → Is ts x after → length after < length ts) → (ts : List Spanned) (xs : List A) (after : List Spanned) → IsEnclosedList A Is ts xs after → length after < length ts
enclosed_takes A Is k _ _ _ (empty o c after opens close) = omega arith
enclosed_takes A Is k _ _ _ (filled o ts xs after opens l) = omega (arith, list_takes A Is k ts xs after l)

pub call_takes : (depth : ℕ) (ts : List Spanned) (x : CallTree) (after : List Spanned) → IsCall depth ts x after → length after < length ts
call_takes _ _ _ _ (call depth n s d m target place method args ts us after is_target slash at_place dot is_method l) =
    let from_place = place_takes (suc depth) ts place (d ∷ m ∷ us) at_place in
    let from_args = enclosed_takes ExprTree (IsExpression depth) (λ vs x rest e. (expression_taking depth vs x rest e).0) us args after l in
    omega arith
