-- The names of an expression stand at the places of its tokens, in their order.
use Rattle.std.proofs.Common.{◌≡◌, ℕ, zero, suc, ◌+◌, ◌<◌, ◌≤◌, List, [], ◌∷◌, ◌++◌, sym, subst, arith, append_assoc}
use Rattle.std.specs.List.{All}
use Rattle.std.proofs.lemmas.List.Elements.{All-nil, All-cons}
use Rattle.script_tree.specs.declared.expressions.Name.{Name}
use Rattle.script_tree.specs.declared.expressions.Literal.TheVariants as literal
use Rattle.script_tree.specs.Exprs.{ExprTree, Constant, Variable, TheKey, CallTree}
use Rattle.script_tree.specs.Names.{names_in_expression, names_in_each, names_in_call, AreInOrder}
use Rattle.script_lexer.specs.declared.tokens.Spanned.{Spanned}
use Rattle.script_lexer.specs.declared.tokens.Token.{Token}
use Rattle.script_lexer.specs.declared.tokens.Token.TheVariants as token
use Rattle.script_lexer.specs.declared.tokens.Symbol.{Symbol}
use Rattle.script_lexer.specs.declared.tokens.Symbol.TheVariants as symbol
use Rattle.script_lexer.specs.declared.tokens.Word.{Word}
use Rattle.script_lexer.specs.declared.tokens.Word.TheVariants as word
use Rattle.script_lexer.proofs.Places.{Above}
use Rattle.script_expressions.specs.Expressions.{Whole, word_starts, symbol_starts, starts}
use Rattle.script_expressions.specs.Grammar.{Derives, single, alone, joined, compared, OperandOver, whole, prefix, parens, Nothing, IsOperand, IsExpression, IsPlace, number, named, key, enclosed, IsList, last, more, IsEnclosedList, empty, filled, IsCall, call}

-- names at rising places, each at or above one bound and below another
abbrev pub Rise : ℕ → List Name → ℕ → Type 0
Rise low [] high = low ≤ high
Rise low (n ∷ ns) high = (low ≤ n.at) × Rise (n.at + 1) ns high

-- such names are in order
rise_all : (at low : ℕ) (ns : List Name) (high : ℕ) → at < low → Rise low ns high → All (λ (later : Name). at < later.at) ns
rise_all at low [] high lt r = All-nil (λ (later : Name). at < later.at)
rise_all at low (n ∷ ns) high lt r =
    let first : low ≤ n.at = r.0 in
    All-cons (λ (later : Name). at < later.at) n ns (omega arith) (rise_all at (n.at + 1) ns high (omega arith) r.1)

pub in_order : (low : ℕ) (ns : List Name) (high : ℕ) → Rise low ns high → AreInOrder ns
in_order low [] high r = tt
in_order low (n ∷ ns) high r = (rise_all n.at (n.at + 1) ns high (omega arith) r.1, in_order (n.at + 1) ns high r.1)

rise_less : (low low' : ℕ) (ns : List Name) (high : ℕ) → low ≤ low' → Rise low' ns high → Rise low ns high
rise_less low low' [] high le r = omega arith
rise_less low low' (n ∷ ns) high le r = (let first : low' ≤ n.at = r.0 in omega arith, r.1)

rise_more : (low : ℕ) (ns : List Name) (high high' : ℕ) → high ≤ high' → Rise low ns high → Rise low ns high'
rise_more low [] high high' le r = omega arith
rise_more low (n ∷ ns) high high' le r = (r.0, rise_more (n.at + 1) ns high high' le r.1)

rise_both : (low : ℕ) (xs : List Name) (mid : ℕ) (ys : List Name) (high : ℕ) → Rise low xs mid → Rise mid ys high → Rise low (xs ++ ys) high
rise_both low [] mid ys high r s = rise_less low mid ys high r s
rise_both low (x ∷ xs) mid ys high r s = (r.0, rise_both (x.at + 1) xs mid ys high r.1 s)

-- names that were read from tokens above a bound, with the tokens behind them
pub record Kept (low : ℕ) (names : List Name) (after : List Spanned) : Type 0 where
  pub high : ℕ
  pub rise : Rise low names high
  pub above : Above high after

-- no name
pub no_name : (low : ℕ) (ts : List Spanned) → Above low ts → Kept low [] ts
no_name low ts h = record { high = low; rise = omega arith; above = h }

-- a bound that is lower
pub from : (low low' : ℕ) (names : List Name) (after : List Spanned) → low ≤ low' → Kept low' names after → Kept low names after
from low low' names after le k = record { high = k.high; rise = rise_less low low' names k.high le k.rise; above = k.above }

-- a token behind the names
pub past : (low : ℕ) (names : List Name) (t : Spanned) (after : List Spanned) → Kept low names (t ∷ after) → Kept low names after
past low names t after k =
    let first : k.high ≤ t.at = k.above.0 in
    record { high = t.at + 1; rise = rise_more low names k.high (t.at + 1) (omega arith) k.rise; above = k.above.1 }

-- a name before the others
pub and_name : (low low' : ℕ) (name : Name) (names : List Name) (after : List Spanned) → low ≤ name.at → name.at + 1 ≤ low' → Kept low' names after → Kept low (name ∷ names) after
and_name low low' name names after first next k = record { high = k.high; rise = (first, rise_less (name.at + 1) low' names k.high next k.rise); above = k.above }

-- names one after another
pub join : (low : ℕ) (xs ys : List Name) (us after : List Spanned) → (k : Kept low xs us) → Kept k.high ys after → Kept low (xs ++ ys) after
join low xs ys us after k l = record { high = l.high; rise = rise_both low xs k.high ys l.high k.rise l.rise; above = l.above }

-- what a grammar reads has its names at the places of its tokens
abbrev pub Keeps : (A : Type 0) → (A → List Name) → (List Spanned → A → List Spanned → Type 0) → Type 0
Keeps A names Is = (ts : List Spanned) (x : A) (after : List Spanned) → Is ts x after → (low : ℕ) → Above low ts → Kept low (names x) after

-- ---- operands

word_rises : (w : Word) (tree : ExprTree) (low high : ℕ) → low ≤ high → word_starts w ≡ Whole tree → Rise low (names_in_expression tree) high
unfolding names_in_expression
word_rises word.Key tree low high le e = subst (λ (b : ExprTree). Rise low (names_in_expression b) high) (let same : TheKey ≡ tree = cc in same) le
word_rises _ tree low high le e = absurd cc

symbol_rises : (s : Symbol) (tree : ExprTree) (low high : ℕ) → symbol_starts s ≡ Whole tree → Rise low (names_in_expression tree) high
symbol_rises symbol.Minus tree low high e = absurd cc
symbol_rises symbol.Not tree low high e = absurd cc
symbol_rises symbol.LeftParen tree low high e = absurd cc
symbol_rises _ tree low high e = absurd cc

whole_rises : (k : Token) (at : ℕ) (tree : ExprTree) (low : ℕ) → low ≤ at → starts k at ≡ Whole tree → Rise low (names_in_expression tree) (at + 1)
unfolding names_in_expression
whole_rises (token.Name s) at tree low le e =
    let name : Name = record { text = s; at = at } in
    let same : Variable name ≡ tree = cc in
    subst (λ (b : ExprTree). Rise low (names_in_expression b) (at + 1)) same (le, omega arith)
whole_rises (token.Word w) at tree low le e = word_rises w tree low (at + 1) (omega arith) e
whole_rises (token.Int n) at tree low le e =
    let gap : low ≤ at + 1 = omega arith in
    let same : Constant (literal.Int n) ≡ tree = cc in
    subst (λ (b : ExprTree). Rise low (names_in_expression b) (at + 1)) same gap
whole_rises (token.Text s) at tree low le e =
    let gap : low ≤ at + 1 = omega arith in
    let same : Constant (literal.Chars s) ≡ tree = cc in
    subst (λ (b : ExprTree). Rise low (names_in_expression b) (at + 1)) same gap
whole_rises (token.Symbol s) at tree low le e = symbol_rises s tree low (at + 1) e

module _ (Operand : List Spanned → ExprTree → List Spanned → Type 0) (keeps : Keeps ExprTree names_in_expression Operand) where
  two_sides : (low : ℕ) (a b : ExprTree) (t : Spanned) (us after : List Spanned) → Kept low (names_in_expression a) (t ∷ us) → ((low' : ℕ) → Above low' us → Kept low' (names_in_expression b) after) → Kept low (names_in_expression a ++ names_in_expression b) after
  two_sides low a b t us after k right =
      let left = past low (names_in_expression a) t us k in
      join low (names_in_expression a) (names_in_expression b) us after left (right left.high left.above)

  pub derives_keeps : (tier room left : ℕ) (ts : List Spanned) (tree : ExprTree) (after : List Spanned) → Derives Operand tier room ts tree left after → (low : ℕ) → Above low ts → Kept low (names_in_expression tree) after
  unfolding names_in_expression
  derives_keeps _ _ _ _ _ _ (single room ts tree after d) low h = keeps ts tree after d low h
  derives_keeps _ _ _ _ _ _ (alone tier room left ts tree after d) low h = derives_keeps tier room left ts tree after d low h
  derives_keeps _ _ _ _ _ _ (joined tier room mid left t ts us o a b after ne j d1 d2) low h =
      two_sides low a b t us after (derives_keeps (suc tier) room (suc mid) ts a (t ∷ us) d1 low h) (λ low' h'. derives_keeps tier mid left us b after d2 low' h')
  derives_keeps _ _ _ _ _ _ (compared room mid left t ts us o a b after j d1 d2) low h =
      two_sides low a b t us after (derives_keeps 2 room (suc mid) ts a (t ∷ us) d1 low h) (λ low' h'. derives_keeps 2 mid left us b after d2 low' h')

  pub operand_over_keeps : Keeps ExprTree names_in_expression (OperandOver Operand)
  unfolding names_in_expression
  operand_over_keeps _ _ _ (whole t tree after e) low h = record { high = t.at + 1; rise = whole_rises t.token t.at tree low h.0 e; above = h.1 }
  operand_over_keeps _ _ _ (prefix t ts o tree after e d) low h = from low (t.at + 1) (names_in_expression tree) after (let first : low ≤ t.at = h.0 in omega arith) (keeps ts tree after d (t.at + 1) h.1)
  operand_over_keeps _ _ _ (parens t c ts tree after e d close) low h =
      from low (t.at + 1) (names_in_expression tree) after (let first : low ≤ t.at = h.0 in omega arith)
      (past (t.at + 1) (names_in_expression tree) c after (derives_keeps 5 32 d.0 ts tree (c ∷ after) d.1 (t.at + 1) h.1))

nothing_keeps : Keeps ExprTree names_in_expression Nothing
nothing_keeps ts x after d low h = absurd d

operand_keeps : (depth : ℕ) → Keeps ExprTree names_in_expression (IsOperand depth)
operand_keeps zero ts x after d low h = operand_over_keeps Nothing nothing_keeps ts x after d low h
operand_keeps (suc depth) ts x after d low h = operand_over_keeps (IsOperand depth) (operand_keeps depth) ts x after d low h

pub expression_keeps : (depth : ℕ) → Keeps ExprTree names_in_expression (IsExpression depth)
expression_keeps depth ts x after d low h = derives_keeps (IsOperand depth) (operand_keeps depth) 5 32 d.0 ts x after d.1 low h

-- ---- calls

place_keeps : (depth : ℕ) → Keeps ExprTree names_in_expression (IsPlace depth)
unfolding names_in_expression
place_keeps _ _ _ _ (number depth t n after is) low h = from low (t.at + 1) [] after (let first : low ≤ t.at = h.0 in omega arith) (no_name (t.at + 1) after h.1)
place_keeps _ _ _ _ (named depth t name after is) low h = let first : low ≤ t.at = h.0 in let same : t.at ≡ name.at = is.1 in and_name low (t.at + 1) name [] after (omega arith) (omega arith) (no_name (t.at + 1) after h.1)
place_keeps _ _ _ _ (key depth t after is) low h = from low (t.at + 1) [] after (let first : low ≤ t.at = h.0 in omega arith) (no_name (t.at + 1) after h.1)
place_keeps _ _ _ _ (enclosed depth o c ts tree after opens d close) low h =
    from low (o.at + 1) (names_in_expression tree) after (let first : low ≤ o.at = h.0 in omega arith)
    (past (o.at + 1) (names_in_expression tree) c after (expression_keeps depth ts tree (c ∷ after) d (o.at + 1) h.1))

module _ (A : Type 0) (names : A → List Name) (One : List Spanned → A → List Spanned → Type 0) (one : Keeps A names One) where
  list_keeps : Keeps (List A) (names_in_each names) (IsList A One)
  unfolding names_in_each
  list_keeps _ _ _ (last c ts x after d close) low h =
      let k = past low (names x) c after (one ts x (c ∷ after) d low h) in
      join low (names x) [] after after k (no_name k.high after k.above)
  list_keeps _ _ _ (more c ts us x xs after d comma rest) low h =
      let k = past low (names x) c us (one ts x (c ∷ us) d low h) in
      join low (names x) (names_in_each names xs) us after k (list_keeps us xs after rest k.high k.above)

  pub enclosed_list_keeps : Keeps (List A) (names_in_each names) (IsEnclosedList A One)
  unfolding names_in_each
  enclosed_list_keeps _ _ _ (empty o c after opens close) low h =
      let first : low ≤ o.at = h.0 in
      let second : o.at + 1 ≤ c.at = h.1.0 in
      from low (c.at + 1) [] after (omega arith) (no_name (c.at + 1) after h.1.1)
  enclosed_list_keeps _ _ _ (filled o ts xs after opens d) low h = from low (o.at + 1) (names_in_each names xs) after (let first : low ≤ o.at = h.0 in omega arith) (list_keeps ts xs after d (o.at + 1) h.1)

pub call_keeps : (depth : ℕ) → Keeps CallTree names_in_call (IsCall depth)
unfolding names_in_call
call_keeps _ _ _ _ (call depth n s d m target place method args ts us after is slash p dot spelled a) low h =
    let first : low ≤ n.at = h.0 in
    let second : n.at + 1 ≤ s.at = h.1.0 in
    let same : n.at ≡ target.at = is.1 in
    let k = place_keeps (suc depth) ts place (d ∷ m ∷ us) p (s.at + 1) h.1.1 in
    let third : k.high ≤ d.at = k.above.0 in
    let fourth : d.at + 1 ≤ m.at = k.above.1.0 in
    let same' : m.at ≡ method.at = spelled.1 in
    let asked : Kept (m.at + 1) (names_in_each names_in_expression args) after = enclosed_list_keeps ExprTree names_in_expression (IsExpression depth) (expression_keeps depth) us args after a (m.at + 1) k.above.1.1 in
    let at_method : Kept k.high (method ∷ names_in_each names_in_expression args) after = and_name k.high (m.at + 1) method (names_in_each names_in_expression args) after (omega arith) (omega arith) asked in
    let behind : Kept (s.at + 1) (names_in_expression place ++ (method ∷ names_in_each names_in_expression args)) after = join (s.at + 1) (names_in_expression place) (method ∷ names_in_each names_in_expression args) (d ∷ m ∷ us) after k at_method in
    let all : Kept low (target ∷ (names_in_expression place ++ (method ∷ names_in_each names_in_expression args))) after = and_name low (s.at + 1) target (names_in_expression place ++ (method ∷ names_in_each names_in_expression args)) after (omega arith) (omega arith) behind in
    subst (λ (l : List Name). Kept low (target ∷ l) after) (sym (append_assoc (names_in_expression place) (method ∷ []) (names_in_each names_in_expression args))) all
