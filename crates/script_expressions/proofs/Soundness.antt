-- What is read is in the grammar.
use Rattle.std.proofs.Common.{◌≡◌, ◌≢◌, ℕ, zero, suc, List, [], ◌∷◌, Option, Some, None, Result, Ok, Err, Bool, true, false, cond, refl, sym, ap, subst, ◌∙◌, arith, get_or}
use Rattle.std.specs.Prelude.{nat_eq}
use Rattle.std.proofs.lemmas.Bool.{eqb-true, ne_eqb}
use Rattle.script_tree.specs.declared.expressions.BinaryOp.{BinaryOp}
use Rattle.script_tree.specs.Exprs.{ExprTree, Prefixed, Joined}
use Rattle.script_lexer.specs.declared.faults.ParseFault.{ParseFault}
use Rattle.script_lexer.specs.declared.faults.ParseFault.TheVariants.{Unexpected}
use Rattle.script_lexer.specs.declared.tokens.Spanned.{Spanned}
use Rattle.script_lexer.specs.declared.tokens.Token.{Token}
use Rattle.script_lexer.specs.declared.tokens.Token.TheVariants as token
use Rattle.script_lexer.specs.declared.tokens.Symbol.{Symbol}
use Rattle.script_lexer.specs.declared.tokens.Symbol.TheVariants as symbol
use Rattle.script_lexer.specs.declared.tokens.Word.{Word}
use Rattle.script_lexer.specs.declared.tokens.Word.TheVariants as word
use Rattle.script_expressions.specs.TokenReaders.{◌>>=◌, Read}
use Rattle.script_expressions.specs.Tokens.{symbol_number, word_number, is_symbol, is_word, expected}
use Rattle.script_expressions.specs.Expressions.{Beginning, Whole, Prefix, Open, Never, starts, joins, Sized, Operator, of_tier, operator_at, linked, operand_chain, tiers, expression_over, enclosed_over, operand_from, operand, expression, enclosed}
use Rattle.script_expressions.specs.Grammar.{IsSymbol, Derives, single, alone, joined, compared, ExpressionOver, OperandOver, whole, prefix, parens, Nothing, IsOperand, IsExpression}

-- ---- steps

pub bind_ok : {A B : Type 0} (r : Result A ParseFault) (f : A → Result B ParseFault) (y : B) → (r >>= f) ≡ Ok y → (x : A) × (r ≡ Ok x) × (f x ≡ Ok y)
bind_ok (Ok x) f y e = (x, refl, e)
bind_ok (Err d) f y e = absurd cc

abbrev done : {A : Type 0} → A → Result A ParseFault
done x = Ok x

pub ok_is : {A : Type 0} (x y : A) → done x ≡ done y → x ≡ y
ok_is x y e = cc

-- ---- symbols and words

abbrev all_symbols : List Symbol
all_symbols = symbol.LeftBrace ∷ symbol.RightBrace ∷ symbol.LeftParen ∷ symbol.RightParen ∷ symbol.Semicolon ∷ symbol.Comma ∷ symbol.Dot ∷ symbol.Assign ∷ symbol.Plus ∷ symbol.Minus ∷ symbol.Star ∷ symbol.Slash ∷ symbol.Percent ∷ symbol.Less ∷ symbol.Greater ∷ symbol.LessEqual ∷ symbol.GreaterEqual ∷ symbol.Equal ∷ symbol.NotEqual ∷ symbol.And ∷ symbol.Or ∷ symbol.Not ∷ []

abbrev all_words : List Word
all_words = word.Type ∷ word.Field ∷ word.Method ∷ word.Let ∷ word.Set ∷ word.If ∷ word.Else ∷ word.While ∷ word.Return ∷ word.Fail ∷ word.Call ∷ word.Attempt ∷ word.Key ∷ []

symbol_back : (s : Symbol) → get_or all_symbols (symbol_number s) symbol.Not ≡ s
symbol_back symbol.LeftBrace = refl
symbol_back _ = refl

word_back : (w : Word) → get_or all_words (word_number w) word.Key ≡ w
word_back word.Type = refl
word_back _ = refl

-- what passes the test for a symbol is that symbol
pub symbol_is : (s : Symbol) (t : Token) → is_symbol s t ≡ true → t ≡ token.Symbol s
symbol_is s (token.Symbol r) e =
    let same : symbol_number s ≡ symbol_number r = eqb-true (symbol_number s) (symbol_number r) e in
    ap token.Symbol (sym (symbol_back r) ∙ ap (λ n. get_or all_symbols n symbol.Not) (sym same) ∙ symbol_back s)
symbol_is s (token.Name n) e = absurd (let clash : false ≡ true = e in cc)
symbol_is s (token.Word w) e = absurd (let clash : false ≡ true = e in cc)
symbol_is s (token.Int n) e = absurd (let clash : false ≡ true = e in cc)
symbol_is s (token.Text n) e = absurd (let clash : false ≡ true = e in cc)

pub word_is : (w : Word) (t : Token) → is_word w t ≡ true → t ≡ token.Word w
word_is w (token.Word r) e =
    let same : word_number w ≡ word_number r = eqb-true (word_number w) (word_number r) e in
    ap token.Word (sym (word_back r) ∙ ap (λ n. get_or all_words n word.Key) (sym same) ∙ word_back w)
word_is w (token.Name n) e = absurd (let clash : false ≡ true = e in cc)
word_is w (token.Symbol s) e = absurd (let clash : false ≡ true = e in cc)
word_is w (token.Int n) e = absurd (let clash : false ≡ true = e in cc)
word_is w (token.Text n) e = absurd (let clash : false ≡ true = e in cc)

-- the token that a symbol was read from
pub record Took (s : Symbol) (ts : List Spanned) (x : ℕ × List Spanned) : Type 0 where
  pub token : Spanned
  pub is : ts ≡ token ∷ x.1
  pub place : token.at ≡ x.0
  pub symbol : IsSymbol token s

took_if : (s : Symbol) (t : Spanned) (ts : List Spanned) (x : ℕ × List Spanned) (b : Bool) → is_symbol s t.token ≡ b → cond b (Ok (t.at, ts)) (Err (Unexpected t.at)) ≡ Ok x → Took s (t ∷ ts) x
took_if s t ts x true b e =
    let same : (t.at, ts) ≡ x = ok_is (t.at, ts) x e in
    record { token = t; is = ap (λ (y : ℕ × List Spanned). t ∷ y.1) same; place = ap (λ (y : ℕ × List Spanned). y.0) same; symbol = symbol_is s t.token b }
took_if s t ts x false b e = absurd cc

pub took : (stop : ParseFault) (s : Symbol) (ts : List Spanned) (x : ℕ × List Spanned) → expected stop s ts ≡ Ok x → Took s ts x
unfolding expected
took stop s [] x e = absurd cc
took stop s (t ∷ ts) x e = took_if s t ts x (is_symbol s t.token) refl e

-- ---- operators

-- the operator that was found
pub record Found (tier : ℕ) (ts : List Spanned) (o : Operator) : Type 0 where
  pub token : Spanned
  pub is : ts ≡ token ∷ o.1
  pub joins_as : joins token.token ≡ Some (tier, o.0.0)

found_if : (tier n : ℕ) (p : BinaryOp) (b : Bool) (t : Spanned) (ts : List Spanned) (o : Operator) → nat_eq n tier ≡ b → joins t.token ≡ Some (n, p) → cond b (Some ((p, t.at), ts)) None ≡ Some o → Found tier (t ∷ ts) o
found_if tier n p true t ts o b j e =
    let i : n ≡ tier = eqb-true n tier b in
    let first : Operator = ((p, t.at), ts) in
    let same : first ≡ o = cc in
    subst (λ (x : Operator). Found tier (t ∷ ts) x) same (record { token = t; is = refl; joins_as = j ∙ ap (λ (k : ℕ). Some (k, p)) i })
found_if tier n p false t ts o b j e = absurd cc

found_as : (tier : ℕ) (j : Option (ℕ × BinaryOp)) (t : Spanned) (ts : List Spanned) (o : Operator) → joins t.token ≡ j → of_tier tier j t.at ts ≡ Some o → Found tier (t ∷ ts) o
found_as tier None t ts o j e = absurd cc
found_as tier (Some (n, p)) t ts o j e = found_if tier n p (nat_eq n tier) t ts o refl j e

pub found : (tier : ℕ) (ts : List Spanned) (o : Operator) → operator_at tier ts ≡ Some o → Found tier ts o
unfolding operator_at
found tier [] o e = absurd cc
found tier (t ∷ ts) o e = found_as tier (joins t.token) t ts o refl e

-- a reader finds what is in a grammar
abbrev pub Sound : (A : Type 0) → (List Spanned → A → List Spanned → Type 0) → Read A → Type 0
Sound A Is read = (ts : List Spanned) (x : A × List Spanned) → read ts ≡ Ok x → Is ts x.0 x.1

module _ (Operand : List Spanned → ExprTree → List Spanned → Type 0) where
  abbrev SideSound : (ℕ → Read Sized) → ℕ → Type 0
  SideSound side tier = (room : ℕ) (ts : List Spanned) (x : Sized × List Spanned) → side room ts ≡ Ok x → Derives Operand tier room ts x.0.0 x.0.1 x.1

  -- ---- operators other than comparisons

  turn_sound : (side : ℕ → Read Sized) (tier room0 : ℕ) (ts0 : List Spanned) (x : Sized × List Spanned) (more : ExprTree → ℕ → Read Sized) → suc tier ≢ 3 → SideSound side tier
      → ((b : ExprTree) (r : ℕ) (vs : List Spanned) → Derives Operand (suc tier) room0 ts0 b r vs → more b r vs ≡ Ok x → Derives Operand (suc tier) room0 ts0 x.0.0 x.0.1 x.1)
      → (a : ExprTree) (room : ℕ) (ts : List Spanned) (q : Option Operator) → operator_at (suc tier) ts ≡ q → Derives Operand (suc tier) room0 ts0 a room ts
      → linked side (suc tier) more a room ts q ≡ Ok x → Derives Operand (suc tier) room0 ts0 x.0.0 x.0.1 x.1
  turn_sound side tier room0 ts0 x more ne sides rec a room ts None at d e = subst (λ (y : Sized × List Spanned). Derives Operand (suc tier) room0 ts0 y.0.0 y.0.1 y.1) (ok_is ((a, room), ts) x e) d
  turn_sound side tier room0 ts0 x more ne sides rec a zero ts (Some o) at d e = absurd cc
  turn_sound side tier room0 ts0 x more ne sides rec a (suc room) ts (Some o) at d e =
      let f = found (suc tier) ts o at in
      let s = bind_ok (side room o.1) (λ y. cond (nat_eq (suc tier) 3) (Ok ((Joined o.0.0 a y.0.0, y.0.1), y.1)) (more (Joined o.0.0 a y.0.0) y.0.1 y.1)) x e in
      let d' : Derives Operand (suc tier) room0 ts0 a (suc room) (f.token ∷ o.1) = subst (λ (l : List Spanned). Derives Operand (suc tier) room0 ts0 a (suc room) l) f.is d in
      let all = joined tier room0 room s.0.0.1 f.token ts0 o.1 o.0.0 a s.0.0.0 s.0.1 ne f.joins_as d' (sides room o.1 s.0 s.1) in
      rec (Joined o.0.0 a s.0.0.0) s.0.0.1 s.0.1 all (subst (λ (b : Bool). cond b (Ok ((Joined o.0.0 a s.0.0.0, s.0.0.1), s.0.1)) (more (Joined o.0.0 a s.0.0.0) s.0.0.1 s.0.1) ≡ Ok x) (ne_eqb (suc tier) 3 ne) s.2)

  chain_sound : (side : ℕ → Read Sized) (tier room0 : ℕ) (ts0 : List Spanned) (x : Sized × List Spanned) → suc tier ≢ 3 → SideSound side tier
      → (n : ℕ) (a : ExprTree) (room : ℕ) (ts : List Spanned) → Derives Operand (suc tier) room0 ts0 a room ts
      → operand_chain side (suc tier) n a room ts ≡ Ok x → Derives Operand (suc tier) room0 ts0 x.0.0 x.0.1 x.1
  unfolding operand_chain
  chain_sound side tier room0 ts0 x ne sides zero a room ts d e = subst (λ (y : Sized × List Spanned). Derives Operand (suc tier) room0 ts0 y.0.0 y.0.1 y.1) (ok_is ((a, room), ts) x e) d
  chain_sound side tier room0 ts0 x ne sides (suc n) a room ts d e =
      turn_sound side tier room0 ts0 x (operand_chain side (suc tier) n) ne sides (λ b r vs. chain_sound side tier room0 ts0 x ne sides n b r vs) a room ts (operator_at (suc tier) ts) refl d e

  -- ---- comparisons

  compare_turn : (side : ℕ → Read Sized) (room0 : ℕ) (ts0 : List Spanned) (x : Sized × List Spanned) (more : ExprTree → ℕ → Read Sized) → SideSound side 2
      → (a : ExprTree) (room : ℕ) (ts : List Spanned) (q : Option Operator) → operator_at 3 ts ≡ q → Derives Operand 2 room0 ts0 a room ts
      → linked side 3 more a room ts q ≡ Ok x → Derives Operand 3 room0 ts0 x.0.0 x.0.1 x.1
  compare_turn side room0 ts0 x more sides a room ts None at d e = subst (λ (y : Sized × List Spanned). Derives Operand 3 room0 ts0 y.0.0 y.0.1 y.1) (ok_is ((a, room), ts) x e) (alone 2 room0 room ts0 a ts d)
  compare_turn side room0 ts0 x more sides a zero ts (Some o) at d e = absurd cc
  compare_turn side room0 ts0 x more sides a (suc room) ts (Some o) at d e =
      let f = found 3 ts o at in
      let s = bind_ok (side room o.1) (λ y. Ok ((Joined o.0.0 a y.0.0, y.0.1), y.1)) x e in
      let d' : Derives Operand 2 room0 ts0 a (suc room) (f.token ∷ o.1) = subst (λ (l : List Spanned). Derives Operand 2 room0 ts0 a (suc room) l) f.is d in
      subst (λ (y : Sized × List Spanned). Derives Operand 3 room0 ts0 y.0.0 y.0.1 y.1) (ok_is ((Joined o.0.0 a s.0.0.0, s.0.0.1), s.0.1) x s.2)
      (compared room0 room s.0.0.1 f.token ts0 o.1 o.0.0 a s.0.0.0 s.0.1 f.joins_as d' (sides room o.1 s.0 s.1))

  compare_sound : (side : ℕ → Read Sized) (room0 : ℕ) (ts0 : List Spanned) (x : Sized × List Spanned) → SideSound side 2
      → (n : ℕ) (a : ExprTree) (room : ℕ) (ts : List Spanned) → Derives Operand 2 room0 ts0 a room ts
      → operand_chain side 3 n a room ts ≡ Ok x → Derives Operand 3 room0 ts0 x.0.0 x.0.1 x.1
  unfolding operand_chain
  compare_sound side room0 ts0 x sides zero a room ts d e = subst (λ (y : Sized × List Spanned). Derives Operand 3 room0 ts0 y.0.0 y.0.1 y.1) (ok_is ((a, room), ts) x e) (alone 2 room0 room ts0 a ts d)
  compare_sound side room0 ts0 x sides (suc n) a room ts d e = compare_turn side room0 ts0 x (operand_chain side 3 n) sides a room ts (operator_at 3 ts) refl d e

  -- ---- tiers

  module _ (next : Read ExprTree) (operands : Sound ExprTree Operand next) where
    other_tier : (tier : ℕ) → suc tier ≢ 3 → SideSound (tiers next tier) tier → SideSound (tiers next (suc tier)) (suc tier)
    unfolding tiers
    other_tier tier ne sides room ts x e =
        let s = bind_ok (tiers next tier room ts) (λ y. operand_chain (tiers next tier) (suc tier) 33 y.0.0 y.0.1 y.1) x e in
        chain_sound (tiers next tier) tier room ts x ne sides 33 s.0.0.0 s.0.0.1 s.0.1 (alone tier room s.0.0.1 ts s.0.0.0 s.0.1 (sides room ts s.0 s.1)) s.2

    third_tier : SideSound (tiers next 2) 2 → SideSound (tiers next 3) 3
    unfolding tiers
    third_tier sides room ts x e =
        let s = bind_ok (tiers next 2 room ts) (λ y. operand_chain (tiers next 2) 3 33 y.0.0 y.0.1 y.1) x e in
        compare_sound (tiers next 2) room ts x sides 33 s.0.0.0 s.0.0.1 s.0.1 (sides room ts s.0 s.1) s.2

    no_tier : SideSound (tiers next 0) 0
    unfolding tiers
    no_tier room ts x e =
        let s = bind_ok (next ts) (λ y. Ok ((y.0, room), y.1)) x e in
        subst (λ (y : Sized × List Spanned). Derives Operand 0 room ts y.0.0 y.0.1 y.1) (ok_is ((s.0.0, room), s.0.1) x s.2) (single room ts s.0.0 s.0.1 (operands ts s.0 s.1))

    pub expression_sound : Sound ExprTree (ExpressionOver Operand) (expression_over next)
    unfolding expression_over
    expression_sound ts x e =
        let t1 = other_tier 0 (λ h. absurd (omega arith)) no_tier in
        let t2 = other_tier 1 (λ h. absurd (omega arith)) t1 in
        let t3 = third_tier t2 in
        let t4 = other_tier 3 (λ h. absurd (omega arith)) t3 in
        let t5 = other_tier 4 (λ h. absurd (omega arith)) t4 in
        let s = bind_ok (tiers next 5 32 ts) (λ y. Ok (y.0.0, y.1)) x e in
        subst (λ (y : ExprTree × List Spanned). ExpressionOver Operand ts y.0 y.1) (ok_is (s.0.0.0, s.0.1) x s.2) (s.0.0.1, t5 32 ts s.0 s.1)

-- an expression and the parenthesis that closes it
pub record Closes (Is : List Spanned → ExprTree → List Spanned → Type 0) (ts : List Spanned) (x : ExprTree × List Spanned) : Type 0 where
  pub token : Spanned
  pub inside : Is ts x.0 (token ∷ x.1)
  pub symbol : IsSymbol token symbol.RightParen

pub closes_sound : (stop : ParseFault) (Is : List Spanned → ExprTree → List Spanned → Type 0) (read : Read ExprTree) → Sound ExprTree Is read → (ts : List Spanned) (x : ExprTree × List Spanned) → (read ts >>= λ y. expected stop symbol.RightParen y.1 >>= λ c. Ok (y.0, c.1)) ≡ Ok x → Closes Is ts x
closes_sound stop Is read sound ts x e =
    let s = bind_ok (read ts) (λ y. expected stop symbol.RightParen y.1 >>= λ c. Ok (y.0, c.1)) x e in
    let c = bind_ok (expected stop symbol.RightParen s.0.1) (λ c. Ok (s.0.0, c.1)) x s.2 in
    let t = took stop symbol.RightParen s.0.1 c.0 c.1 in
    let inside : Is ts s.0.0 (t.token ∷ c.0.1) = subst (λ (l : List Spanned). Is ts s.0.0 l) t.is (sound ts s.0 s.1) in
    subst (λ (y : ExprTree × List Spanned). Closes Is ts y) (ok_is (s.0.0, c.0.1) x c.2) (record { token = t.token; inside = inside; symbol = t.symbol })

module _ (stop : ParseFault) where
  enclosed_sound : (Inner : List Spanned → ExprTree → List Spanned → Type 0) (next : Read ExprTree) → Sound ExprTree Inner next → (ts : List Spanned) (x : ExprTree × List Spanned) → enclosed_over stop next ts ≡ Ok x → Closes (ExpressionOver Inner) ts x
  unfolding enclosed_over
  enclosed_sound Inner next inner ts x e = closes_sound stop (ExpressionOver Inner) (expression_over next) (expression_sound Inner next inner) ts x e

  from_sound : (Inner : List Spanned → ExprTree → List Spanned → Type 0) (next : Read ExprTree) → Sound ExprTree Inner next → (q : Beginning) (t : Spanned) → starts t.token t.at ≡ q → (ts : List Spanned) (x : ExprTree × List Spanned) → operand_from stop (Some next) q t.at ts ≡ Ok x → OperandOver Inner (t ∷ ts) x.0 x.1
  from_sound Inner next inner (Whole tree) t q ts x e = subst (λ (y : ExprTree × List Spanned). OperandOver Inner (t ∷ ts) y.0 y.1) (ok_is (tree, ts) x e) (whole t tree ts q)
  from_sound Inner next inner (Prefix o) t q ts x e =
      let s = bind_ok (next ts) (λ y. Ok (Prefixed o y.0, y.1)) x e in
      subst (λ (y : ExprTree × List Spanned). OperandOver Inner (t ∷ ts) y.0 y.1) (ok_is (Prefixed o s.0.0, s.0.1) x s.2) (prefix t ts o s.0.0 s.0.1 q (inner ts s.0 s.1))
  from_sound Inner next inner Open t q ts x e =
      let k = enclosed_sound Inner next inner ts x e in
      parens t k.token ts x.0 x.1 q k.inside k.symbol
  from_sound Inner next inner Never t q ts x e = absurd cc

  last_sound : (q : Beginning) (t : Spanned) → starts t.token t.at ≡ q → (ts : List Spanned) (x : ExprTree × List Spanned) → operand_from stop None q t.at ts ≡ Ok x → OperandOver Nothing (t ∷ ts) x.0 x.1
  last_sound (Whole tree) t q ts x e = subst (λ (y : ExprTree × List Spanned). OperandOver Nothing (t ∷ ts) y.0 y.1) (ok_is (tree, ts) x e) (whole t tree ts q)
  last_sound (Prefix o) t q ts x e = absurd cc
  last_sound Open t q ts x e = absurd cc
  last_sound Never t q ts x e = absurd cc

  pub operand_sound : (depth : ℕ) → Sound ExprTree (IsOperand depth) (operand stop depth)
  unfolding operand
  operand_sound zero [] x e = absurd cc
  operand_sound zero (t ∷ ts) x e = last_sound (starts t.token t.at) t refl ts x e
  operand_sound (suc depth) [] x e = absurd cc
  operand_sound (suc depth) (t ∷ ts) x e = from_sound (IsOperand depth) (operand stop depth) (operand_sound depth) (starts t.token t.at) t refl ts x e

  pub is_expression : (depth : ℕ) → Sound ExprTree (IsExpression depth) (expression stop depth)
  unfolding expression
  is_expression depth ts x e = expression_sound (IsOperand depth) (operand stop depth) (operand_sound depth) ts x e

  pub is_enclosed : (depth : ℕ) (ts : List Spanned) (x : ExprTree × List Spanned) → enclosed stop depth ts ≡ Ok x → Closes (IsExpression depth) ts x
  unfolding enclosed
  is_enclosed depth ts x e = enclosed_sound (IsOperand depth) (operand stop depth) (operand_sound depth) ts x e
