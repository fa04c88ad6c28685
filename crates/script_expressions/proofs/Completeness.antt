-- What is in the grammar is read.
use Rattle.std.proofs.Common.{◌≡◌, ◌≢◌, ℕ, zero, suc, ◌-◌, ◌<◌, ◌≤◌, List, ◌∷◌, Some, None, Ok, true, false, refl, ap, subst, ◌∙◌, arith, eq-eqb}
use Rattle.std.specs.Prelude.{nat_eq}
use Rattle.std.proofs.lemmas.Bool.{ne_eqb}
use Rattle.script_tree.specs.declared.expressions.UnaryOp.{UnaryOp}
use Rattle.script_tree.specs.declared.expressions.BinaryOp.{BinaryOp}
use Rattle.script_tree.specs.Exprs.{ExprTree, Prefixed, Joined}
use Rattle.script_lexer.specs.declared.faults.ParseFault.{ParseFault}
use Rattle.script_lexer.specs.declared.tokens.Spanned.{Spanned}
use Rattle.script_lexer.specs.declared.tokens.Symbol.{Symbol}
use Rattle.script_lexer.specs.declared.tokens.Symbol.TheVariants as symbol
use Rattle.script_lexer.specs.declared.tokens.Word.{Word}
use Rattle.script_expressions.specs.TokenReaders.{Read}
use Rattle.script_expressions.specs.Tokens.{symbol_number, word_number, is_symbol, is_word, expected, taken, taken_word, expected_word}
use Rattle.script_expressions.specs.Expressions.{Whole, Prefix, Open, starts, symbol_joins, joins, operator_at, operand_chain, tiers, expression_over, enclosed_over, operand, expression, enclosed}
use Rattle.script_expressions.specs.Grammar.{IsSymbol, IsWord, Derives, single, alone, joined, compared, ExpressionOver, OperandOver, whole, prefix, parens, Nothing, IsOperand, IsExpression, Stops}
use Rattle.script_expressions.proofs.Steps.{chain_none, chain_goes, chain_compared}

-- ---- symbols and words

pub symbol_passes : (s : Symbol) (t : Spanned) → IsSymbol t s → is_symbol s t.token ≡ true
symbol_passes s t e = ap (is_symbol s) e ∙ eq-eqb (symbol_number s) (symbol_number s) refl

pub word_passes : (w : Word) (t : Spanned) → IsWord t w → is_word w t.token ≡ true
word_passes w t e = ap (is_word w) e ∙ eq-eqb (word_number w) (word_number w) refl

pub symbol_read : (stop : ParseFault) (s : Symbol) (t : Spanned) (ts : List Spanned) → IsSymbol t s → expected stop s (t ∷ ts) ≡ Ok (t.at, ts)
unfolding expected
symbol_read stop s t ts e = rw (symbol_passes s t e) refl

pub word_read : (stop : ParseFault) (w : Word) (t : Spanned) (ts : List Spanned) → IsWord t w → expected_word stop w (t ∷ ts) ≡ Ok (t.at, ts)
unfolding expected_word
word_read stop w t ts e = rw (word_passes w t e) refl

pub symbol_taken : (s : Symbol) (t : Spanned) (ts : List Spanned) → IsSymbol t s → taken s (t ∷ ts) ≡ Some ts
unfolding taken
symbol_taken s t ts e = rw (symbol_passes s t e) refl

pub word_taken : (w : Word) (t : Spanned) (ts : List Spanned) → IsWord t w → taken_word w (t ∷ ts) ≡ Some ts
unfolding taken_word
word_taken w t ts e = rw (word_passes w t e) refl

-- a token that isn't a symbol, or is another, isn't taken
pub not_taken : (s : Symbol) (t : Spanned) (ts : List Spanned) → is_symbol s t.token ≡ false → taken s (t ∷ ts) ≡ None
unfolding taken
not_taken s t ts e = rw e refl

pub not_taken_word : (w : Word) (t : Spanned) (ts : List Spanned) → is_word w t.token ≡ false → taken_word w (t ∷ ts) ≡ None
unfolding taken_word
not_taken_word w t ts e = rw e refl

-- ---- what stands behind an expression

pub stops_symbol : (s : Symbol) (t : Spanned) (ts : List Spanned) (tier : ℕ) → symbol_joins s ≡ None → IsSymbol t s → Stops tier (t ∷ ts)
unfolding operator_at
stops_symbol s t ts tier e is k le = let none : joins t.token ≡ None = ap joins is ∙ e in rw none refl

at_operator : (tier : ℕ) (t : Spanned) (ts : List Spanned) (o : BinaryOp) → joins t.token ≡ Some (tier, o) → operator_at tier (t ∷ ts) ≡ Some ((o, t.at), ts)
unfolding operator_at
at_operator tier t ts o j = rw (j, eq-eqb tier tier refl) refl

-- an operator of a higher tier ends a lower one
stops_at : (tier : ℕ) (t : Spanned) (ts : List Spanned) (o : BinaryOp) → joins t.token ≡ Some (suc tier, o) → Stops tier (t ∷ ts)
unfolding operator_at
stops_at tier t ts o j k le = let ne : nat_eq (suc tier) (suc k) ≡ false = ne_eqb (suc tier) (suc k) (omega arith) in rw (j, ne) refl

-- a reader reads all that is in a grammar
abbrev pub Complete : (A : Type 0) → (List Spanned → A → List Spanned → Type 0) → Read A → Type 0
Complete A Is read = (ts : List Spanned) (x : A) (after : List Spanned) → Is ts x after → read ts ≡ Ok (x, after)

module _ (Operand : List Spanned → ExprTree → List Spanned → Type 0) (next : Read ExprTree) (operands : Complete ExprTree Operand next) where
  -- what the readers do at a part of the grammar
  record Known (tier room : ℕ) (ts : List Spanned) (tree : ExprTree) (left : ℕ) (after : List Spanned) : Type 0 where
    spends : left ≤ room
    completes : room ≤ 32 → Stops tier after → tiers next tier room ts ≡ Ok ((tree, left), after)
    links : (t : ℕ) → tier ≡ suc t → tier ≢ 3 → room ≤ 32 → Stops t after → (n : ℕ) × (left < n) × (tiers next (suc t) room ts ≡ operand_chain (tiers next t) (suc t) n tree left after)

  zero_tier : (room : ℕ) (ts : List Spanned) (tree : ExprTree) (after : List Spanned) → next ts ≡ Ok (tree, after) → tiers next 0 room ts ≡ Ok ((tree, room), after)
  unfolding tiers
  zero_tier room ts tree after e = rw e refl

  next_tier : (tier room left : ℕ) (ts : List Spanned) (tree : ExprTree) (after : List Spanned) → tiers next tier room ts ≡ Ok ((tree, left), after) → tiers next (suc tier) room ts ≡ operand_chain (tiers next tier) (suc tier) 33 tree left after
  unfolding tiers
  next_tier tier room left ts tree after e = rw e refl

  known : (tier room : ℕ) (ts : List Spanned) (tree : ExprTree) (left : ℕ) (after : List Spanned) → Derives Operand tier room ts tree left after → Known tier room ts tree left after
  known _ _ _ _ _ _ (single room ts tree after d) = record {
    spends = omega arith;
    completes = λ le stops. zero_tier room ts tree after (operands ts tree after d);
    links = λ t i ne le stops. absurd (omega arith);
  }
  known _ _ _ _ _ _ (alone tier room left ts tree after d) =
      let k = known tier room ts tree left after d in
      record {
        spends = k.spends;
        completes = λ le stops. next_tier tier room left ts tree after (k.completes le (λ i lt. stops i (omega arith))) ∙ chain_none (tiers next tier) (suc tier) 33 tree left after (stops tier (omega arith));
        links = λ t e ne le. subst (λ (u : ℕ). Stops u after → (n : ℕ) × (left < n) × (tiers next (suc u) room ts ≡ operand_chain (tiers next u) (suc u) n tree left after)) (omega (arith, e))
            (λ stops. (33, omega (arith, k.spends), next_tier tier room left ts tree after (k.completes le stops)));
      }
  known _ _ _ _ _ _ (joined tier room mid left t ts us o a b after ne j da db) =
      let ka = known (suc tier) room ts a (suc mid) (t ∷ us) da in
      let kb = known tier mid us b left after db in
      let goes : room ≤ 32 → Stops tier after → (n : ℕ) × (left < n) × (tiers next (suc tier) room ts ≡ operand_chain (tiers next tier) (suc tier) n (Joined o a b) left after) = λ le stops.
      let l = ka.links tier refl ne le (stops_at tier t us o j) in
      (l.0 - 1, omega (arith, l.1, kb.spends), l.2 ∙ chain_goes (tiers next tier) (suc tier) l.0 (l.0 - 1) a (suc mid) mid ((o, t.at), us) (t ∷ us) b left after (omega (arith, l.1)) refl (at_operator (suc tier) t us o j) (kb.completes (omega (arith, ka.spends)) stops) (ne_eqb (suc tier) 3 ne)) in
      record {
        spends = omega (arith, ka.spends, kb.spends);
        completes = λ le stops. let l = goes le (λ i lt. stops i (omega arith)) in l.2 ∙ chain_none (tiers next tier) (suc tier) l.0 (Joined o a b) left after (stops tier (omega arith));
        links = λ u e ne' le. subst (λ (u : ℕ). Stops u after → (n : ℕ) × (left < n) × (tiers next (suc u) room ts ≡ operand_chain (tiers next u) (suc u) n (Joined o a b) left after)) (omega (arith, e)) (goes le);
      }
  known _ _ _ _ _ _ (compared room mid left t ts us o a b after j da db) =
      let ka = known 2 room ts a (suc mid) (t ∷ us) da in
      let kb = known 2 mid us b left after db in
      record {
        spends = omega (arith, ka.spends, kb.spends);
        completes = λ le stops. next_tier 2 room (suc mid) ts a (t ∷ us) (ka.completes le (stops_at 2 t us o j)) ∙ chain_compared (tiers next 2) 3 33 32 a (suc mid) mid ((o, t.at), us) (t ∷ us) b left after refl refl (at_operator 3 t us o j) (kb.completes (omega (arith, ka.spends)) (λ i lt. stops i (omega arith))) refl;
        links = λ u e ne le stops. absurd (ne refl);
      }

  over_read : (ts : List Spanned) (tree : ExprTree) (left : ℕ) (after : List Spanned) → tiers next 5 32 ts ≡ Ok ((tree, left), after) → expression_over next ts ≡ Ok (tree, after)
  unfolding expression_over
  over_read ts tree left after e = rw e refl

  pub expression_read : (ts : List Spanned) (tree : ExprTree) (after : List Spanned) → ExpressionOver Operand ts tree after → Stops 5 after → expression_over next ts ≡ Ok (tree, after)
  expression_read ts tree after d stops = over_read ts tree d.0 after ((known 5 32 ts tree d.0 after d.1).completes (omega arith) stops)

-- nothing derives from no operand
no_operand : (tier room : ℕ) (ts : List Spanned) (tree : ExprTree) (left : ℕ) (after : List Spanned) → Derives Nothing tier room ts tree left after → ⊥
no_operand _ _ _ _ _ _ (single room ts tree after d) = d
no_operand _ _ _ _ _ _ (alone tier room left ts tree after d) = no_operand tier room ts tree left after d
no_operand _ _ _ _ _ _ (joined tier room mid left t ts us o a b after ne j da db) = no_operand (suc tier) room ts a (suc mid) (t ∷ us) da
no_operand _ _ _ _ _ _ (compared room mid left t ts us o a b after j da db) = no_operand 2 room ts a (suc mid) (t ∷ us) da

module _ (stop : ParseFault) where
  closed_read : (next : Read ExprTree) (ts : List Spanned) (tree : ExprTree) (c : Spanned) (after : List Spanned) → IsSymbol c symbol.RightParen → expression_over next ts ≡ Ok (tree, c ∷ after) → enclosed_over stop next ts ≡ Ok (tree, after)
  unfolding enclosed_over
  closed_read next ts tree c after close e = rw (e, symbol_read stop symbol.RightParen c after close) refl

  whole_read : (depth : ℕ) (t : Spanned) (tree : ExprTree) (after : List Spanned) → starts t.token t.at ≡ Whole tree → operand stop depth (t ∷ after) ≡ Ok (tree, after)
  unfolding operand
  whole_read zero t tree after q = rw q refl
  whole_read (suc depth) t tree after q = rw q refl

  prefix_read : (depth : ℕ) (t : Spanned) (ts : List Spanned) (o : UnaryOp) (tree : ExprTree) (after : List Spanned) → starts t.token t.at ≡ Prefix o → operand stop depth ts ≡ Ok (tree, after) → operand stop (suc depth) (t ∷ ts) ≡ Ok (Prefixed o tree, after)
  unfolding operand
  prefix_read depth t ts o tree after q e = rw (q, e) refl

  parens_read : (depth : ℕ) (t : Spanned) (ts : List Spanned) (tree : ExprTree) (after : List Spanned) → starts t.token t.at ≡ Open → enclosed_over stop (operand stop depth) ts ≡ Ok (tree, after) → operand stop (suc depth) (t ∷ ts) ≡ Ok (tree, after)
  unfolding operand
  parens_read depth t ts tree after q e = rw (q, e) refl

  outer_read : (ts : List Spanned) (tree : ExprTree) (after : List Spanned) → OperandOver Nothing ts tree after → operand stop zero ts ≡ Ok (tree, after)
  outer_read _ _ _ (whole t tree after q) = whole_read zero t tree after q
  outer_read _ _ _ (prefix t ts o tree after q d) = absurd d
  outer_read _ _ _ (parens t c ts tree after q d close) = absurd (no_operand 5 32 ts tree d.0 (c ∷ after) d.1)

  inner_read : (depth : ℕ) → Complete ExprTree (IsOperand depth) (operand stop depth) → (ts : List Spanned) (tree : ExprTree) (after : List Spanned) → OperandOver (IsOperand depth) ts tree after → operand stop (suc depth) ts ≡ Ok (tree, after)
  inner_read depth inner _ _ _ (whole t tree after q) = whole_read (suc depth) t tree after q
  inner_read depth inner _ _ _ (prefix t ts o tree after q d) = prefix_read depth t ts o tree after q (inner ts tree after d)
  inner_read depth inner _ _ _ (parens t c ts tree after q d close) =
      parens_read depth t ts tree after q (closed_read (operand stop depth) ts tree c after close (expression_read (IsOperand depth) (operand stop depth) inner ts tree (c ∷ after) d (stops_symbol symbol.RightParen c after 5 refl close)))

  pub operand_read : (depth : ℕ) → Complete ExprTree (IsOperand depth) (operand stop depth)
  operand_read zero ts tree after d = outer_read ts tree after d
  operand_read (suc depth) ts tree after d = inner_read depth (operand_read depth) ts tree after d

  pub is_read : (depth : ℕ) (ts : List Spanned) (tree : ExprTree) (after : List Spanned) → IsExpression depth ts tree after → Stops 5 after → expression stop depth ts ≡ Ok (tree, after)
  unfolding expression
  is_read depth ts tree after d stops = expression_read (IsOperand depth) (operand stop depth) (operand_read depth) ts tree after d stops

  pub enclosed_read : (depth : ℕ) (ts : List Spanned) (tree : ExprTree) (c : Spanned) (after : List Spanned) → IsExpression depth ts tree (c ∷ after) → IsSymbol c symbol.RightParen → enclosed stop depth ts ≡ Ok (tree, after)
  unfolding enclosed
  enclosed_read depth ts tree c after d close =
      closed_read (operand stop depth) ts tree c after close (expression_read (IsOperand depth) (operand stop depth) (operand_read depth) ts tree (c ∷ after) d (stops_symbol symbol.RightParen c after 5 refl close))
