-- A turn of the loop over operators is a step of `operand_chain`.
use Rattle.std.proofs.Common.{◌≡◌, ℕ, zero, suc, ◌<◌, List, Some, None, Result, Ok, Err, true, false, refl, sym, ap, ◌∙◌, arith}
use Rattle.std.specs.Prelude.{nat_eq}
use Rattle.script_tree.specs.Exprs.{ExprTree, Joined}
use Rattle.script_lexer.specs.declared.faults.ParseFault.{ParseFault}
use Rattle.script_lexer.specs.declared.faults.ParseFault.TheVariants.{BadToken, Unexpected, TooDeep, Memory}
use Rattle.script_lexer.specs.declared.tokens.Spanned.{Spanned}
use Rattle.script_expressions.specs.TokenReaders.{◌>>=◌, Read, FailsReading}
use Rattle.script_expressions.specs.Expressions.{Sized, Operator, operator_at, linked, operand_chain}

-- a fault ends all that follows
pub fails_bind : {A B : Type 0} (e : ParseFault) (r : Result A ParseFault) (f : A → Result B ParseFault) → FailsReading e r → FailsReading e (r >>= f)
fails_bind Memory r f h = tt
fails_bind (BadToken at) r f h = ap (λ x. x >>= f) h
fails_bind (Unexpected at) r f h = ap (λ x. x >>= f) h
fails_bind (TooDeep at) r f h = ap (λ x. x >>= f) h

pub fails_is : {A : Type 0} (e : ParseFault) (r s : Result A ParseFault) → r ≡ s → FailsReading e r → FailsReading e s
fails_is Memory r s h f = tt
fails_is (BadToken at) r s h f = sym h ∙ f
fails_is (Unexpected at) r s h f = sym h ∙ f
fails_is (TooDeep at) r s h f = sym h ∙ f

module _ (side : ℕ → Read Sized) (tier : ℕ) where
  pub chain_none : (n : ℕ) (left : ExprTree) (room : ℕ) (ts : List Spanned) → operator_at tier ts ≡ None → operand_chain side tier n left room ts ≡ Ok ((left, room), ts)
  unfolding operand_chain
  chain_none zero left room ts h = refl
  chain_none (suc n) left room ts h = rw h refl

  pub chain_end : (n : ℕ) (left : ExprTree) (room : ℕ) (ts : List Spanned) → n ≡ 0 → operand_chain side tier n left room ts ≡ Ok ((left, room), ts)
  unfolding operand_chain
  chain_end n left room ts e = rw e refl

  pub chain_full : (n : ℕ) (left : ExprTree) (room : ℕ) (o : Operator) (ts : List Spanned) → 0 < n → room ≡ 0 → operator_at tier ts ≡ Some o → operand_chain side tier n left room ts ≡ Err (TooDeep o.0.1)
  unfolding operand_chain
  chain_full zero left room o ts lt e h = absurd (omega arith)
  chain_full (suc n) left room o ts lt e h = rw (e, h) refl

  pub chain_takes : (n m : ℕ) (left : ExprTree) (room r : ℕ) (o : Operator) (ts : List Spanned) → n ≡ suc m → room ≡ suc r → operator_at tier ts ≡ Some o → operand_chain side tier n left room ts ≡ linked side tier (operand_chain side tier m) left (suc r) ts (Some o)
  unfolding operand_chain
  chain_takes n m left room r o ts en er h = rw (en, er, h) refl

  pub chain_goes : (n m : ℕ) (left : ExprTree) (room r : ℕ) (o : Operator) (ts : List Spanned) (right : ExprTree) (room' : ℕ) (ts' : List Spanned) → n ≡ suc m → room ≡ suc r → operator_at tier ts ≡ Some o → side r o.1 ≡ Ok ((right, room'), ts') → nat_eq tier 3 ≡ false → operand_chain side tier n left room ts ≡ operand_chain side tier m (Joined o.0.0 left right) room' ts'
  chain_goes n m left room r o ts right room' ts' en er h k b = chain_takes n m left room r o ts en er h ∙ rw (k, b) refl

  pub chain_compared : (n m : ℕ) (left : ExprTree) (room r : ℕ) (o : Operator) (ts : List Spanned) (right : ExprTree) (room' : ℕ) (ts' : List Spanned) → n ≡ suc m → room ≡ suc r → operator_at tier ts ≡ Some o → side r o.1 ≡ Ok ((right, room'), ts') → nat_eq tier 3 ≡ true → operand_chain side tier n left room ts ≡ Ok ((Joined o.0.0 left right, room'), ts')
  chain_compared n m left room r o ts right room' ts' en er h k b = chain_takes n m left room r o ts en er h ∙ rw (k, b) refl

  pub chain_fails : (e : ParseFault) (n m : ℕ) (left : ExprTree) (room r : ℕ) (o : Operator) (ts : List Spanned) → n ≡ suc m → room ≡ suc r → operator_at tier ts ≡ Some o → FailsReading e (side r o.1) → FailsReading e (operand_chain side tier n left room ts)
  chain_fails e n m left room r o ts en er h f = fails_is e _ _ (sym (chain_takes n m left room r o ts en er h)) (fails_bind e (side r o.1) _ f)
