-- Readers of expressions and calls depend on nothing behind the token that stands next, or that they name; and what they
-- have read can be completed.
use Rattle.std.proofs.Common.{◌≡◌, ℕ, zero, suc, ◌<◌, ◌≤◌, ◌⊎◌, inl, inr, List, [], ◌∷◌, ◌++◌, Option, Some, None, Ok, Err, Bool, true, false, cond, refl, sym, ap, ◌∙◌, arith, length}
use Rattle.std.specs.Prelude.{nat_eq, pos}
use Rattle.script_tree.specs.declared.expressions.Name.{Name}
use Rattle.script_tree.specs.declared.expressions.Literal.TheVariants as literal
use Rattle.script_tree.specs.declared.expressions.BinaryOp.{BinaryOp}
use Rattle.script_tree.specs.Exprs.{ExprTree, Constant, Variable, TheKey, Prefixed, Joined, CallTree}
use Rattle.script_lexer.specs.declared.faults.ParseFault.{ParseFault}
use Rattle.script_lexer.specs.declared.faults.ParseFault.TheVariants.{Unexpected, TooDeep}
use Rattle.script_lexer.specs.declared.tokens.Spanned.{Spanned}
use Rattle.script_lexer.specs.declared.tokens.Token.{Token}
use Rattle.script_lexer.specs.declared.tokens.Token.TheVariants as token
use Rattle.script_lexer.specs.declared.tokens.Symbol.TheVariants as symbol
use Rattle.script_lexer.specs.declared.tokens.Word.{Word}
use Rattle.script_lexer.specs.declared.tokens.Word.TheVariants as word
use Rattle.script_expressions.specs.TokenReaders.{◌>>=◌, Part, Read}
use Rattle.script_expressions.specs.Tokens.{is_symbol, expected, name_at, taken}
use Rattle.script_expressions.specs.Expressions.{Beginning, Whole, Prefix, Open, Never, starts, joins, Sized, operator_at, operand_chain, tiers, expression_over, enclosed_over, operand, expression, enclosed}
use Rattle.script_expressions.specs.Calls.{parenthesised, place_at, goes_on, listed, listed_or_none, arguments_in, arguments, call_at}
use Rattle.script_expressions.specs.Grammar.{IsSymbol, IsOperator}
use Rattle.script_expressions.proofs.Steps.{chain_none, chain_full, chain_takes}
use Rattle.script_expressions.proofs.Soundness.{bind_ok, ok_is, took, is_expression}
use Rattle.script_expressions.proofs.Completeness.{symbol_read}
use Rattle.script_expressions.proofs.CallLaws.{took_name, expression_taking}
use Rattle.script_expressions.proofs.Locality.{whole_turns, Follow, Any, NoOperator, of_symbol, Canon, Split, Local, Step, leaves, keeps, takes, refuses, stops, ends, step_at, end_at, then_at, canon_then, then_local, done_canon, done_split, done_local, by_next, symbol_refused, symbol_local, name_local, shut_local, split_no_longer, Eats, at_nil, bind_same, Loop, loop_split}

-- the number that completes what was read
abbrev pub nought : Spanned
nought = record { token = token.Int (pos 0); at = 0 }

-- ---- operators

-- a token is this operator of a tier, or none of that tier, whatever stands behind it
abbrev Decided : ℕ → Spanned → Type 0
Decided tier t = ((vs : List Spanned) → operator_at tier (t ∷ vs) ≡ None) ⊎ ((o : BinaryOp) × ((vs : List Spanned) → operator_at tier (t ∷ vs) ≡ Some ((o, t.at), vs)) × IsOperator t)

decided_if : (tier n : ℕ) (o : BinaryOp) (t : Spanned) (b : Bool) → nat_eq n tier ≡ b → joins t.token ≡ Some (n, o) → Decided tier t
unfolding operator_at
decided_if tier n o t true b j = inr (o, λ vs. rw (j, b) refl, λ h. let clash : Some (n, o) ≡ None = sym j ∙ h in absurd cc)
decided_if tier n o t false b j = inl (λ vs. rw (j, b) refl)

decided_as : (tier : ℕ) (t : Spanned) (q : Option (ℕ × BinaryOp)) → joins t.token ≡ q → Decided tier t
unfolding operator_at
decided_as tier t None j = inl (λ vs. rw j refl)
decided_as tier t (Some (n, o)) j = decided_if tier n o t (nat_eq n tier) refl j

no_operator : (tier : ℕ) → operator_at tier [] ≡ None
unfolding operator_at
no_operator tier = refl

-- tokens that are no operators
pub nought_is_none : (ws : List Spanned) → NoOperator (nought ∷ ws)
unfolding operator_at
nought_is_none ws tier = refl

close_is_none : (ws : List Spanned) → NoOperator (of_symbol symbol.RightParen ∷ ws)
unfolding operator_at
close_is_none ws tier = refl

dot_is_none : (ws : List Spanned) → NoOperator (of_symbol symbol.Dot ∷ ws)
unfolding operator_at
dot_is_none ws tier = refl

module _ (stop : ParseFault) where
  -- what follows an expression is no operator
  module _ (G : Follow) (apart : (ws : List Spanned) → G ws → NoOperator ws) where
    abbrev Sides : (ℕ → Read Sized) → (ℕ → Read Sized) → Type 0
    Sides side side' = (room : ℕ) → Local stop Sized NoOperator G (side room) (side' room)

    module _ (side side' : ℕ → Read Sized) (sides : Sides side side') (tier : ℕ) where
      abbrev Chains : ℕ → Type 0
      Chains n = (left : ExprTree) (room : ℕ) → Local stop Sized G G (operand_chain side tier n left room) (operand_chain side' tier n left room)

      -- what a turn does with its right side
      abbrev turned : (ℕ → Read Sized) → ℕ → BinaryOp → ExprTree → Bool → Sized × List Spanned → Part Sized
      turned by n o left b x = cond b (Ok ((Joined o left x.0.0, x.0.1), x.1)) (operand_chain by tier n (Joined o left x.0.0) x.0.1 x.1)

      turned_local : (n : ℕ) → Chains n → (o : BinaryOp) (left : ExprTree) (b : Bool) (a : Sized) → Local stop Sized G G (λ m. turned side n o left b (a, m)) (λ m. turned side' n o left b (a, m))
      turned_local n more o left true a = done_local stop Sized G G (λ ws h. h) (Joined o left a.0, a.1)
      turned_local n more o left false a = more (Joined o left a.0) a.1

      operator_step : (n : ℕ) → Chains n → (left : ExprTree) (room : ℕ) (t : Spanned) (ts : List Spanned) (o : BinaryOp) → ((vs : List Spanned) → operator_at tier (t ∷ vs) ≡ Some ((o, t.at), vs)) → IsOperator t → Step stop Sized G (operand_chain side tier (suc n) left room) (operand_chain side' tier (suc n) left room) t ts
      operator_step n more left zero t ts o h op = refuses (TooDeep t.at) refl (λ vs. chain_full side tier (suc n) left 0 ((o, t.at), vs) (t ∷ vs) (omega arith) refl (h vs)) (inr op)
      operator_step n more left (suc room) t ts o h op =
          let both : Local stop Sized NoOperator G (λ m. side room m >>= turned side n o left (nat_eq tier 3)) (λ m. side' room m >>= turned side' n o left (nat_eq tier 3)) =
          then_local stop Sized Sized NoOperator G G (side room) (side' room) (turned side n o left (nat_eq tier 3)) (turned side' n o left (nat_eq tier 3)) (λ y z e. inl (λ ws h. h)) (sides room) (turned_local n more o left (nat_eq tier 3)) in
          takes (λ m. side room m >>= turned side n o left (nat_eq tier 3)) (λ m. side' room m >>= turned side' n o left (nat_eq tier 3)) (both.split ts)
          (λ vs. chain_takes side tier (suc n) n left (suc room) room ((o, t.at), vs) (t ∷ vs) refl refl (h vs))
          (λ vs. chain_takes side' tier (suc n) n left (suc room) room ((o, t.at), vs) (t ∷ vs) refl refl (h vs))

      chain_step : (n : ℕ) → Chains n → (left : ExprTree) (room : ℕ) (t : Spanned) (ts : List Spanned) → Decided tier t → Step stop Sized G (operand_chain side tier (suc n) left room) (operand_chain side' tier (suc n) left room) t ts
      chain_step n more left room t ts (inl none) =
          leaves (left, room) (λ vs. chain_none side tier (suc n) left room (t ∷ vs) (none vs)) (λ vs. chain_none side' tier (suc n) left room (t ∷ vs) (none vs)) (λ vs h. chain_none side' tier (suc n) left room vs (apart vs h tier))
      chain_step n more left room t ts (inr h) = operator_step n more left room t ts h.0 h.1 h.2

      chain_canon : (n : ℕ) (left : ExprTree) (room : ℕ) → Canon Sized G G (operand_chain side' tier n left room)
      chain_canon n left room = record { more = []; part = (left, room); starts = λ ws h. h; goes = λ ws h. chain_none side' tier n left room ws (apart ws h tier) }

      chain_local : (n : ℕ) → Chains n
      unfolding operand_chain
      chain_local zero left room = record { canon = chain_canon 0 left room; split = done_split stop Sized G (left, room) }
      chain_local (suc n) left room =
          by_next stop Sized G G (operand_chain side tier (suc n) left room) (operand_chain side' tier (suc n) left room) (chain_canon (suc n) left room)
          (ends (left, room) (chain_none side tier (suc n) left room [] (no_operator tier)) (chain_none side' tier (suc n) left room [] (no_operator tier)) (λ vs h. chain_none side' tier (suc n) left room vs (apart vs h tier)))
          (λ t us. chain_step n (λ l r. chain_local n l r) left room t us (decided_as tier t (joins t.token) refl))

    module _ (next next' : Read ExprTree) (operands : Local stop ExprTree NoOperator G next next') where
      tiers_local : (tier : ℕ) → Sides (tiers next tier) (tiers next' tier)
      unfolding tiers
      tiers_local zero room = then_local stop ExprTree Sized NoOperator G G next next' (λ x. Ok ((x.0, room), x.1)) (λ x. Ok ((x.0, room), x.1)) (λ y z e. inl (λ ws h. h)) operands (λ a. done_local stop Sized G G (λ ws h. h) (a, room))
      tiers_local (suc tier) room =
          then_local stop Sized Sized NoOperator G G (tiers next tier room) (tiers next' tier room) (λ x. operand_chain (tiers next tier) (suc tier) 33 x.0.0 x.0.1 x.1) (λ x. operand_chain (tiers next' tier) (suc tier) 33 x.0.0 x.0.1 x.1) (λ y z e. inl (λ ws h. h)) (tiers_local tier room)
          (λ a. chain_local (tiers next tier) (tiers next' tier) (λ r. tiers_local tier r) (suc tier) 33 a.0 a.1)

      over_local : Local stop ExprTree NoOperator G (expression_over next) (expression_over next')
      unfolding expression_over
      over_local = then_local stop Sized ExprTree NoOperator G G (tiers next 5 32) (tiers next' 5 32) (λ x. Ok (x.0.0, x.1)) (λ x. Ok (x.0.0, x.1)) (λ y z e. inl (λ ws h. h)) (tiers_local 5 32) (λ a. done_local stop ExprTree G G (λ ws h. h) a.0)

  closed_local : (G : Follow) (a : ExprTree) → Local stop ExprTree NoOperator G (λ m. expected stop symbol.RightParen m >>= λ c. Ok (a, c.1)) (λ m. expected stop symbol.RightParen m >>= λ c. Ok (a, c.1))
  closed_local G a =
      then_local stop ℕ ExprTree NoOperator G G (expected stop symbol.RightParen) (expected stop symbol.RightParen) (λ c. Ok (a, c.1)) (λ c. Ok (a, c.1)) (λ y z e. inl (λ ws h. h)) (symbol_local stop NoOperator G symbol.RightParen close_is_none) (λ c. done_local stop ExprTree G G (λ ws h. h) a)

  module _ (G : Follow) (apart : (ws : List Spanned) → G ws → NoOperator ws) where
    enclosed_over_local : (next next' : Read ExprTree) → Local stop ExprTree NoOperator NoOperator next next' → Local stop ExprTree NoOperator G (enclosed_over stop next) (enclosed_over stop next')
    unfolding enclosed_over
    enclosed_over_local next next' operands =
        then_local stop ExprTree ExprTree NoOperator NoOperator G (expression_over next) (expression_over next') (λ x. expected stop symbol.RightParen x.1 >>= λ c. Ok (x.0, c.1)) (λ x. expected stop symbol.RightParen x.1 >>= λ c. Ok (x.0, c.1))
        (λ y z e. inl apart) (over_local NoOperator (λ ws h. h) next next' operands) (λ a. closed_local G a)

  -- ---- operands

  zero_read : (depth : ℕ) (ws : List Spanned) → operand stop depth (nought ∷ ws) ≡ Ok (Constant (literal.Int (pos 0)), ws)
  unfolding operand
  zero_read zero ws = refl
  zero_read (suc depth) ws = refl

  operand_canon : (G : Follow) (depth : ℕ) → Canon ExprTree NoOperator G (operand stop depth)
  operand_canon G depth = record { more = nought ∷ []; part = Constant (literal.Int (pos 0)); starts = λ ws h. nought_is_none ws; goes = λ ws h. zero_read depth ws }

  -- a number in parentheses, behind the first
  enclosed_zero : (ws : List Spanned) → enclosed_over stop (operand stop 0) (nought ∷ of_symbol symbol.RightParen ∷ ws) ≡ Ok (Constant (literal.Int (pos 0)), ws)
  unfolding enclosed_over expression_over tiers operand_chain operator_at operand expected
  enclosed_zero ws = refl

  module _ (G : Follow) where
    last_step : (t : Spanned) (ts : List Spanned) (q : Beginning) → starts t.token t.at ≡ q → Step stop ExprTree G (operand stop 0) (operand stop 1) t ts
    unfolding operand
    last_step t ts (Whole tree) e = takes (λ m. Ok (tree, m)) (λ m. Ok (tree, m)) (done_split stop ExprTree G tree ts) (λ vs. rw e refl) (λ vs. rw e refl)
    last_step t ts (Prefix o) e =
        refuses (TooDeep t.at) refl (λ vs. rw e refl) (inl (record { more = nought ∷ []; part = Prefixed o (Constant (literal.Int (pos 0))); goes = λ ws h. rw e refl }))
    last_step t ts Open e =
        refuses (TooDeep t.at) refl (λ vs. rw e refl) (inl (record { more = nought ∷ of_symbol symbol.RightParen ∷ []; part = Constant (literal.Int (pos 0)); goes = λ ws h. rw e (enclosed_zero ws) }))
    last_step t ts Never e = refuses (Unexpected t.at) refl (λ vs. rw e refl) (λ vs. rw e refl)

  start_step : (G : Follow) (apart : (ws : List Spanned) → G ws → NoOperator ws) (depth : ℕ) → Local stop ExprTree NoOperator G (operand stop depth) (operand stop (suc depth)) → Local stop ExprTree NoOperator NoOperator (operand stop depth) (operand stop (suc depth)) → (t : Spanned) (ts : List Spanned) (q : Beginning) → starts t.token t.at ≡ q → Step stop ExprTree G (operand stop (suc depth)) (operand stop (suc (suc depth))) t ts
  unfolding operand
  start_step G apart depth inner inside t ts (Whole tree) e = takes (λ m. Ok (tree, m)) (λ m. Ok (tree, m)) (done_split stop ExprTree G tree ts) (λ vs. rw e refl) (λ vs. rw e refl)
  start_step G apart depth inner inside t ts (Prefix o) e =
      let both : Local stop ExprTree NoOperator G (λ m. operand stop depth m >>= λ x. Ok (Prefixed o x.0, x.1)) (λ m. operand stop (suc depth) m >>= λ x. Ok (Prefixed o x.0, x.1)) =
      then_local stop ExprTree ExprTree NoOperator G G (operand stop depth) (operand stop (suc depth)) (λ x. Ok (Prefixed o x.0, x.1)) (λ x. Ok (Prefixed o x.0, x.1)) (λ y z e. inl (λ ws h. h)) inner (λ a. done_local stop ExprTree G G (λ ws h. h) (Prefixed o a)) in
      takes (λ m. operand stop depth m >>= λ x. Ok (Prefixed o x.0, x.1)) (λ m. operand stop (suc depth) m >>= λ x. Ok (Prefixed o x.0, x.1)) (both.split ts) (λ vs. rw e refl) (λ vs. rw e refl)
  start_step G apart depth inner inside t ts Open e =
      let both : Local stop ExprTree NoOperator G (enclosed_over stop (operand stop depth)) (enclosed_over stop (operand stop (suc depth))) = enclosed_over_local G apart (operand stop depth) (operand stop (suc depth)) inside in
      takes (enclosed_over stop (operand stop depth)) (enclosed_over stop (operand stop (suc depth))) (both.split ts) (λ vs. rw e refl) (λ vs. rw e refl)
  start_step G apart depth inner inside t ts Never e = refuses (Unexpected t.at) refl (λ vs. rw e refl) (λ vs. rw e refl)

  operand_local : (depth : ℕ) (G : Follow) (apart : (ws : List Spanned) → G ws → NoOperator ws) → Local stop ExprTree NoOperator G (operand stop depth) (operand stop (suc depth))
  unfolding operand
  operand_local zero G apart = by_next stop ExprTree NoOperator G (operand stop 0) (operand stop 1) (operand_canon G 1) (stops refl) (λ t us. last_step G t us (starts t.token t.at) refl)
  operand_local (suc depth) G apart =
      by_next stop ExprTree NoOperator G (operand stop (suc depth)) (operand stop (suc (suc depth))) (operand_canon G (suc (suc depth))) (stops refl)
      (λ t us. start_step G apart depth (operand_local depth G apart) (operand_local depth NoOperator (λ ws h. h)) t us (starts t.token t.at) refl)

  pub expression_local : (G : Follow) (apart : (ws : List Spanned) → G ws → NoOperator ws) (depth : ℕ) → Local stop ExprTree NoOperator G (expression stop depth) (expression stop (suc depth))
  unfolding expression
  expression_local G apart depth = over_local G apart (operand stop depth) (operand stop (suc depth)) (operand_local depth G apart)

  pub expression_eats : (depth : ℕ) → Eats stop ExprTree (expression stop depth)
  expression_eats depth ts y e = (expression_taking depth ts y.0 y.1 (is_expression stop depth ts y e)).0

  pub name_eats : Eats stop Name (name_at stop)
  name_eats ts y e = let n = took_name stop ts y e in omega (arith, ap length n.1)

  -- a number is an expression, where no operator stands behind it
  zero_tiers : (next : Read ExprTree) (zero_tree : ExprTree) (ws : List Spanned) → next (nought ∷ ws) ≡ Ok (zero_tree, ws) → NoOperator ws → (tier room : ℕ) → tiers next tier room (nought ∷ ws) ≡ Ok ((zero_tree, room), ws)
  unfolding tiers
  zero_tiers next zero_tree ws e apart zero room = ap (λ (r : Part ExprTree). r >>= λ x. Ok ((x.0, room), x.1)) e
  zero_tiers next zero_tree ws e apart (suc tier) room =
      ap (λ (r : Part Sized). r >>= λ x. operand_chain (tiers next tier) (suc tier) 33 x.0.0 x.0.1 x.1) (zero_tiers next zero_tree ws e apart tier room) ∙ chain_none (tiers next tier) (suc tier) 33 zero_tree room ws (apart (suc tier))

  pub zero_expression : (depth : ℕ) (ws : List Spanned) → NoOperator ws → expression stop depth (nought ∷ ws) ≡ Ok (Constant (literal.Int (pos 0)), ws)
  unfolding expression expression_over
  zero_expression depth ws apart =
      ap (λ (r : Part Sized). r >>= λ x. Ok (x.0.0, x.1)) (zero_tiers (operand stop depth) (Constant (literal.Int (pos 0))) ws (zero_read depth ws) apart 5 32)

  -- ---- keys

  module _ (G : Follow) (apart : (ws : List Spanned) → G ws → NoOperator ws) where
    inside_local : (depth : ℕ) → Local stop ExprTree NoOperator G (enclosed_over stop (operand stop depth)) (enclosed_over stop (operand stop (suc depth)))
    inside_local depth = enclosed_over_local G apart (operand stop depth) (operand stop (suc depth)) (operand_local depth NoOperator (λ ws h. h))

    opened : (t : Spanned) → IsSymbol t symbol.LeftParen → (ws : List Spanned) → parenthesised stop 1 (t ∷ nought ∷ of_symbol symbol.RightParen ∷ ws) ≡ Ok (Constant (literal.Int (pos 0)), ws)
    unfolding parenthesised enclosed
    opened t is ws = rw (symbol_read stop symbol.LeftParen t (nought ∷ of_symbol symbol.RightParen ∷ ws) is, enclosed_zero ws) refl

    parenthesised_local : (depth : ℕ) → Local stop ExprTree Any G (parenthesised stop depth) (parenthesised stop (suc depth))
    unfolding parenthesised enclosed
    parenthesised_local zero =
        shut_local stop Any G ExprTree symbol.LeftParen (parenthesised stop 1)
        (record { more = of_symbol symbol.LeftParen ∷ nought ∷ of_symbol symbol.RightParen ∷ []; part = Constant (literal.Int (pos 0)); starts = λ ws h. tt; goes = λ ws h. opened (of_symbol symbol.LeftParen) refl ws })
        (λ t is. record { more = nought ∷ of_symbol symbol.RightParen ∷ []; part = Constant (literal.Int (pos 0)); goes = λ ws h. opened t is ws })
        (λ t e vs. rw (symbol_refused stop symbol.LeftParen t vs e) refl)
    parenthesised_local (suc depth) =
        then_local stop ℕ ExprTree Any NoOperator G (expected stop symbol.LeftParen) (expected stop symbol.LeftParen) (λ o. enclosed_over stop (operand stop depth) o.1) (λ o. enclosed_over stop (operand stop (suc depth)) o.1)
        (λ y z e. inl apart) (symbol_local stop Any NoOperator symbol.LeftParen (λ ws. tt)) (λ a. inside_local depth)

    parenthesised_eats : (depth : ℕ) → Eats stop ExprTree (parenthesised stop depth)
    unfolding parenthesised enclosed
    parenthesised_eats zero ts y e = absurd (let o = bind_ok (expected stop symbol.LeftParen ts) (λ o. Err (TooDeep o.0)) y e in let clash = o.2 in cc)
    parenthesised_eats (suc depth) ts y e =
        let o = bind_ok (expected stop symbol.LeftParen ts) (λ o. enclosed_over stop (operand stop depth) o.1) y e in
        let t = took stop symbol.LeftParen ts o.0 o.1 in
        let less : length y.1 ≤ length o.0.1 = split_no_longer stop ExprTree G (enclosed_over stop (operand stop depth)) (enclosed_over stop (operand stop (suc depth))) o.0.1 ((inside_local depth).split o.0.1) y o.2 in
        omega (arith, ap length t.is)

    parenthesised_step : (depth : ℕ) (t : Spanned) (ts : List Spanned) → ((vs : List Spanned) → place_at stop depth (t ∷ vs) ≡ parenthesised stop depth (t ∷ vs)) → ((vs : List Spanned) → place_at stop (suc depth) (t ∷ vs) ≡ parenthesised stop (suc depth) (t ∷ vs)) → Step stop ExprTree G (place_at stop depth) (place_at stop (suc depth)) t ts
    parenthesised_step depth t ts eq eq' = keeps (parenthesised stop depth) (parenthesised stop (suc depth)) ((parenthesised_local depth).split (t ∷ ts)) (λ y e. parenthesised_eats depth (t ∷ ts) y e) eq eq'

    word_step : (depth : ℕ) (t : Spanned) (ts : List Spanned) (w : Word) → t.token ≡ token.Word w → Step stop ExprTree G (place_at stop depth) (place_at stop (suc depth)) t ts
    unfolding place_at
    word_step depth t ts word.Key e = takes (λ m. Ok (TheKey, m)) (λ m. Ok (TheKey, m)) (done_split stop ExprTree G TheKey ts) (λ vs. rw e refl) (λ vs. rw e refl)
    word_step depth t ts _ e = parenthesised_step depth t ts (λ vs. rw e refl) (λ vs. rw e refl)

    place_step : (depth : ℕ) (t : Spanned) (ts : List Spanned) (k : Token) → t.token ≡ k → Step stop ExprTree G (place_at stop depth) (place_at stop (suc depth)) t ts
    unfolding place_at
    place_step depth t ts (token.Int n) e =
        let tree : ExprTree = Constant (literal.Int n) in
        takes (λ m. Ok (tree, m)) (λ m. Ok (tree, m)) (done_split stop ExprTree G tree ts) (λ vs. rw e refl) (λ vs. rw e refl)
    place_step depth t ts (token.Name s) e =
        let tree : ExprTree = Variable (record { text = s; at = t.at }) in
        takes (λ m. Ok (tree, m)) (λ m. Ok (tree, m)) (done_split stop ExprTree G tree ts) (λ vs. rw e refl) (λ vs. rw e refl)
    place_step depth t ts (token.Word w) e = word_step depth t ts w e
    place_step depth t ts (token.Symbol s) e = parenthesised_step depth t ts (λ vs. rw e refl) (λ vs. rw e refl)
    place_step depth t ts (token.Text s) e = parenthesised_step depth t ts (λ vs. rw e refl) (λ vs. rw e refl)

    place_local : (depth : ℕ) → Local stop ExprTree Any G (place_at stop depth) (place_at stop (suc depth))
    unfolding place_at
    place_local depth =
        by_next stop ExprTree Any G (place_at stop depth) (place_at stop (suc depth)) (record { more = nought ∷ []; part = Constant (literal.Int (pos 0)); starts = λ ws h. tt; goes = λ ws h. refl }) (stops refl) (λ t us. place_step depth t us t.token refl)

  -- ---- lists

  nothing_taken : taken symbol.RightParen [] ≡ None
  unfolding taken
  nothing_taken = refl

  no_comma : expected stop symbol.Comma [] ≡ Err stop
  unfolding expected
  no_comma = refl

  module _ (A : Type 0) where
    -- what follows an item
    abbrev behind : Read (List A) → A → Read (List A)
    behind r x m = goes_on stop r x m (taken symbol.RightParen m)

    -- a comma and the items after it
    abbrev comma : Read (List A) → A → Read (List A)
    comma r x m = expected stop symbol.Comma m >>= λ c. r c.1 >>= λ q. Ok (x ∷ q.0, q.1)

    after_comma : (us : List Spanned) (c : ℕ × List Spanned) → expected stop symbol.Comma us ≡ Ok c → length c.1 < length us
    after_comma us c e = let t = took stop symbol.Comma us c e in omega (arith, ap length t.is)

    behind_fewer : (r s : Read (List A)) (x : A) (us : List Spanned) (n : ℕ) → length us < n → ((vs : List Spanned) → length vs < n → r vs ≡ s vs) → (q : Option (List Spanned)) → goes_on stop r x us q ≡ goes_on stop s x us q
    behind_fewer r s x us n lt same (Some after) = refl
    behind_fewer r s x us n lt same None =
        bind_same ℕ (List A) (expected stop symbol.Comma us) (λ c. r c.1 >>= λ q. Ok (x ∷ q.0, q.1)) (λ c. s c.1 >>= λ q. Ok (x ∷ q.0, q.1))
        (λ c e. let less = after_comma us c e in ap (λ (p : Part (List A)). p >>= λ q. Ok (x ∷ q.0, q.1)) (same c.1 (omega arith)))

    behind_nil : (r : Read (List A)) (x : A) → behind r x [] ≡ Err stop
    behind_nil r x = rw (nothing_taken, no_comma) refl

    closes_list : (x : A) (r : Read (List A)) (ws : List Spanned) → behind r x (of_symbol symbol.RightParen ∷ ws) ≡ Ok (x ∷ [], ws)
    unfolding taken
    closes_list x r ws = refl

    -- a reader of items
    module _ (one : Read A) (eats : Eats stop A one) (empty : one [] ≡ Err stop) where
      abbrev turn : Read (List A) → Read (List A)
      turn r ts = one ts >>= λ x. behind r x.0 x.1

      turn_fewer : (r s : Read (List A)) (ts : List Spanned) → ((us : List Spanned) → length us < length ts → r us ≡ s us) → turn r ts ≡ turn s ts
      turn_fewer r s ts same = bind_same A (List A) (one ts) (λ x. behind r x.0 x.1) (λ x. behind s x.0 x.1) (λ x e. behind_fewer r s x.0 x.1 (length ts) (eats ts x e) same (taken symbol.RightParen x.1))

      turns : (n : ℕ) (t : Spanned) (ts : List Spanned) → listed stop one (suc n) (t ∷ ts) ≡ turn (listed stop one n) (t ∷ ts)
      unfolding listed
      turns n t ts = refl

      none_at_all : (n : ℕ) → listed stop one n [] ≡ Err stop
      unfolding listed
      none_at_all zero = refl
      none_at_all (suc n) = rw empty refl

      turn_nil : (r : Read (List A)) → turn r [] ≡ Err stop
      turn_nil r = rw empty refl

      list_loop : Loop (List A) (listed stop one) turn
      list_loop = record {
        unroll = turns;
        idle = λ n. none_at_all n ∙ sym (none_at_all 0);
        nil = λ r. turn_nil r ∙ sym (none_at_all 0);
        fewer = turn_fewer;
      }

      -- the list behind its parenthesis, from its first item
      abbrev whole : Read (List A)
      whole m = listed stop one (length m) m

    module _ (F G : Follow) (one one' : Read A) (sub : (ws : List Spanned) → G ws → F ws) (close : (ws : List Spanned) → F (of_symbol symbol.RightParen ∷ ws))
        (local : Local stop A Any F one one') (eats : Eats stop A one) (eats' : Eats stop A one') (empty : one [] ≡ Err stop) (empty' : one' [] ≡ Err stop) where
      abbrev list : Read (List A)
      list m = listed stop one (length m) m

      abbrev list' : Read (List A)
      list' m = listed stop one' (length m) m

      abbrev Fewer : List Spanned → Type 0
      Fewer ts = (us : List Spanned) → length us < length ts → Split stop (List A) G list list' us (list us)

      behind_canon : (r : Read (List A)) (x : A) → Canon (List A) F G (behind r x)
      behind_canon r x = record { more = of_symbol symbol.RightParen ∷ []; part = x ∷ []; starts = λ ws h. close ws; goes = λ ws h. closes_list x r ws }

      turn_canon : (r : Read (List A)) → Canon (List A) Any G (turn one' eats' empty' r)
      turn_canon r = canon_then stop A (List A) Any F G one' (λ x. behind r x.0 x.1) local.canon (λ a. behind_canon r a)

      list_canon : Canon (List A) Any G list'
      list_canon =
          let c = turn_canon list' in
          record { more = c.more; part = c.part; starts = c.starts; goes = λ ws h. whole_turns (List A) (listed stop one') (turn one' eats' empty') (list_loop one' eats' empty') (c.more ++ ws) ∙ c.goes ws h }

      list_then : (x : A) → Canon (List A) Any G (λ m. list' m >>= λ q. Ok (x ∷ q.0, q.1))
      list_then x = canon_then stop (List A) (List A) Any G G list' (λ q. Ok (x ∷ q.0, q.1)) list_canon (λ a. done_canon stop (List A) G G (λ ws h. h) (x ∷ a))

      more_at : (x : A) (us : List Spanned) → Split stop (List A) G list list' us (list us) → Split stop (List A) G (λ m. list m >>= λ q. Ok (x ∷ q.0, q.1)) (λ m. list' m >>= λ q. Ok (x ∷ q.0, q.1)) us (list us >>= λ q. Ok (x ∷ q.0, q.1))
      more_at x us split =
          then_at stop (List A) (List A) G G list list' (λ q. Ok (x ∷ q.0, q.1)) (λ q. Ok (x ∷ q.0, q.1)) us (λ a. done_canon stop (List A) G G (λ ws h. h) (x ∷ a)) (λ y z e h. inl (λ ws h. h)) (λ q e. done_split stop (List A) G (x ∷ q.0) q.1) (list us) refl split

      comma_at : (x : A) (us : List Spanned) → Fewer us → Split stop (List A) G (comma list x) (comma list' x) us (comma list x us)
      comma_at x us more =
          then_at stop ℕ (List A) Any G (expected stop symbol.Comma) (expected stop symbol.Comma) (λ c. list c.1 >>= λ q. Ok (x ∷ q.0, q.1)) (λ c. list' c.1 >>= λ q. Ok (x ∷ q.0, q.1)) us
          (λ a. list_then x) (λ y z e h. inl (λ ws h. tt)) (λ c e. more_at x c.1 (more c.1 (after_comma us c e)))
          (expected stop symbol.Comma us) refl ((symbol_local stop Any Any symbol.Comma (λ ws. tt)).split us)

      comma_eats : (x : A) (us : List Spanned) → Fewer us → (y : List A × List Spanned) → comma list x us ≡ Ok y → length y.1 < length us
      comma_eats x us more y e =
          let c = bind_ok (expected stop symbol.Comma us) (λ c. list c.1 >>= λ q. Ok (x ∷ q.0, q.1)) y e in
          let q = bind_ok (list c.0.1) (λ q. Ok (x ∷ q.0, q.1)) y c.2 in
          let shorter = after_comma us c.0 c.1 in
          let less : length q.0.1 ≤ length c.0.1 = split_no_longer stop (List A) G list list' c.0.1 (more c.0.1 shorter) q.0 q.1 in
          let end : List A × List Spanned = (x ∷ q.0.0, q.0.1) in
          let same : q.0.1 ≡ y.1 = ap (λ (p : List A × List Spanned). p.1) (ok_is end y q.2) in
          omega (arith, ap length same)

      behind_step : (x : A) (t : Spanned) (us : List Spanned) → Fewer (t ∷ us) → (b : Bool) → is_symbol symbol.RightParen t.token ≡ b → Step stop (List A) G (behind list x) (behind list' x) t us
      unfolding taken
      behind_step x t us more true e = takes (λ m. Ok (x ∷ [], m)) (λ m. Ok (x ∷ [], m)) (done_split stop (List A) G (x ∷ []) us) (λ vs. rw e refl) (λ vs. rw e refl)
      behind_step x t us more false e = keeps (comma list x) (comma list' x) (comma_at x (t ∷ us) more) (λ y h. comma_eats x (t ∷ us) more y h) (λ vs. rw e refl) (λ vs. rw e refl)

      behind_at : (x : A) (us : List Spanned) → Fewer us → Split stop (List A) G (behind list x) (behind list' x) us (behind list x us)
      behind_at x [] more = end_at stop (List A) F G (behind list x) (behind list' x) (behind_canon list' x) (stops (behind_nil list x))
      behind_at x (t ∷ us) more = step_at stop (List A) F G (behind list x) (behind list' x) t us (behind_canon list' x) (behind_step x t us more (is_symbol symbol.RightParen t.token) refl)

      fewer_still : (ts us : List Spanned) → length us < length ts → Fewer ts → Fewer us
      fewer_still ts us lt more vs lt' = more vs (omega arith)

      turn_at : (ts : List Spanned) → Fewer ts → Split stop (List A) G (turn one eats empty list) (turn one' eats' empty' list') ts (turn one eats empty list ts)
      turn_at ts more =
          then_at stop A (List A) F G one one' (λ x. behind list x.0 x.1) (λ x. behind list' x.0 x.1) ts (λ a. behind_canon list' a) (λ y z e h. inl sub)
          (λ x e. behind_at x.0 x.1 (fewer_still ts x.1 (eats ts x e) more)) (one ts) refl (local.split ts)

      list_split : (ts : List Spanned) → Split stop (List A) G list list' ts (list ts)
      list_split = loop_split stop (List A) G (listed stop one) (listed stop one') (turn one eats empty) (turn one' eats' empty') (list_loop one eats empty) (list_loop one' eats' empty') turn_at

      list_eats : (ts : List Spanned) (y : List A × List Spanned) → list ts ≡ Ok y → length y.1 < length ts
      list_eats ts y e =
          let x = bind_ok (one ts) (λ x. behind list x.0 x.1) y (sym (whole_turns (List A) (listed stop one) (turn one eats empty) (list_loop one eats empty) ts) ∙ e) in
          let shorter : length x.0.1 < length ts = eats ts x.0 x.1 in
          let less : length y.1 ≤ length x.0.1 = split_no_longer stop (List A) G (behind list x.0.0) (behind list' x.0.0) x.0.1 (behind_at x.0.0 x.0.1 (λ us lt. list_split us)) y x.2 in
          omega arith

      -- a list in parentheses, behind the first
      abbrev pub in_parentheses : Read A → Read (List A)
      in_parentheses item m = listed_or_none stop item m (taken symbol.RightParen m)

      list_step : (t : Spanned) (ts : List Spanned) (b : Bool) → is_symbol symbol.RightParen t.token ≡ b → Step stop (List A) G (in_parentheses one) (in_parentheses one') t ts
      unfolding taken
      list_step t ts true e = takes (λ m. Ok ([], m)) (λ m. Ok ([], m)) (done_split stop (List A) G [] ts) (λ vs. rw e refl) (λ vs. rw e refl)
      list_step t ts false e = keeps list list' (list_split (t ∷ ts)) (λ y h. list_eats (t ∷ ts) y h) (λ vs. rw e refl) (λ vs. rw e refl)

      list_nil : in_parentheses one [] ≡ Err stop
      list_nil = rw nothing_taken (none_at_all one eats empty 0)

      empty_list : (ws : List Spanned) → in_parentheses one' (of_symbol symbol.RightParen ∷ ws) ≡ Ok ([], ws)
      unfolding taken
      empty_list ws = refl

      pub list_local : Local stop (List A) Any G (in_parentheses one) (in_parentheses one')
      list_local =
          by_next stop (List A) Any G (in_parentheses one) (in_parentheses one') (record { more = of_symbol symbol.RightParen ∷ []; part = []; starts = λ ws h. tt; goes = λ ws h. empty_list ws })
          (stops list_nil) (λ t ts. list_step t ts (is_symbol symbol.RightParen t.token) refl)

  -- ---- calls

  pub any_first : (A : Type 0) (First After : Follow) (f f' : Read A) → Local stop A First After f f' → Local stop A Any After f f'
  any_first A First After f f' l = record { canon = record { more = l.canon.more; part = l.canon.part; starts = λ ws h. tt; goes = l.canon.goes }; split = l.split }

  module _ (G : Follow) (apart : (ws : List Spanned) → G ws → NoOperator ws) where
    no_arguments : (t : Spanned) → IsSymbol t symbol.LeftParen → (ws : List Spanned) → arguments stop 1 (t ∷ of_symbol symbol.RightParen ∷ ws) ≡ Ok ([], ws)
    unfolding arguments taken
    no_arguments t is ws = rw (symbol_read stop symbol.LeftParen t (of_symbol symbol.RightParen ∷ ws) is) refl

    arguments_local : (depth : ℕ) → Local stop (List ExprTree) Any G (arguments stop depth) (arguments stop (suc depth))
    unfolding arguments
    arguments_local zero =
        shut_local stop Any G (List ExprTree) symbol.LeftParen (arguments stop 1)
        (record { more = of_symbol symbol.LeftParen ∷ of_symbol symbol.RightParen ∷ []; part = []; starts = λ ws h. tt; goes = λ ws h. no_arguments (of_symbol symbol.LeftParen) refl ws })
        (λ t is. record { more = of_symbol symbol.RightParen ∷ []; part = []; goes = λ ws h. no_arguments t is ws })
        (λ t e vs. rw (symbol_refused stop symbol.LeftParen t vs e) refl)
    arguments_local (suc depth) =
        let here = expression_local NoOperator (λ ws h. h) depth in
        let below = expression_local NoOperator (λ ws h. h) (suc depth) in
        then_local stop ℕ (List ExprTree) Any Any G (expected stop symbol.LeftParen) (expected stop symbol.LeftParen) (λ o. arguments_in stop (suc depth) o.0 o.1) (λ o. arguments_in stop (suc (suc depth)) o.0 o.1)
        (λ y z e. inl (λ ws h. tt)) (symbol_local stop Any Any symbol.LeftParen (λ ws. tt))
        (λ a. list_local ExprTree NoOperator G (expression stop depth) (expression stop (suc depth)) apart close_is_none (any_first ExprTree NoOperator NoOperator (expression stop depth) (expression stop (suc depth)) here) (expression_eats depth) (expression_eats (suc depth))
        (at_nil stop ExprTree NoOperator NoOperator (expression stop depth) (expression stop (suc depth)) here (expression_eats depth)) (at_nil stop ExprTree NoOperator NoOperator (expression stop (suc depth)) (expression stop (suc (suc depth))) below (expression_eats (suc depth))))

    pub call_local : (depth : ℕ) → Local stop CallTree Any G (call_at stop depth) (call_at stop (suc depth))
    unfolding call_at
    call_local depth =
        then_local stop Name CallTree Any Any G (name_at stop) (name_at stop) _ _ (λ y z e. inl (λ ws h. tt)) (name_local stop Any Any (λ ws. tt)) (λ target.
        then_local stop ℕ CallTree Any Any G (expected stop symbol.Slash) (expected stop symbol.Slash) _ _ (λ y z e. inl (λ ws h. tt)) (symbol_local stop Any Any symbol.Slash (λ ws. tt)) (λ slash.
        then_local stop ExprTree CallTree Any NoOperator G (place_at stop depth) (place_at stop (suc depth)) _ _ (λ y z e. inl apart) (place_local NoOperator (λ ws h. h) depth) (λ place.
        then_local stop ℕ CallTree NoOperator Any G (expected stop symbol.Dot) (expected stop symbol.Dot) _ _ (λ y z e. inl (λ ws h. tt)) (symbol_local stop NoOperator Any symbol.Dot dot_is_none) (λ dot.
        then_local stop Name CallTree Any Any G (name_at stop) (name_at stop) _ _ (λ y z e. inl (λ ws h. tt)) (name_local stop Any Any (λ ws. tt)) (λ method.
        then_local stop (List ExprTree) CallTree Any G G (arguments stop depth) (arguments stop (suc depth)) _ _ (λ y z e. inl (λ ws h. h)) (arguments_local depth) (λ args.
        done_local stop CallTree G G (λ ws h. h) (record { target = target; place = place; method = method; args = args })))))))
