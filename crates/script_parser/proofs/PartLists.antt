-- Statements, and parts behind their words, one after another, as the loops read them.
use Rattle.std.proofs.Common.{◌≡◌, ℕ, suc, List, [], ◌∷◌, ◌++◌, Some, None, Ok, refl, sym, ap, ◌∙◌}
use Rattle.std.proofs.lemmas.List.{append-nil}
use Rattle.script_tree.specs.Stmts.{StmtTree}
use Rattle.script_lexer.specs.declared.faults.ParseFault.{ParseFault}
use Rattle.script_lexer.specs.declared.tokens.Spanned.{Spanned}
use Rattle.script_lexer.specs.declared.tokens.Symbol.TheVariants as symbol
use Rattle.script_lexer.specs.declared.tokens.Word.{Word}
use Rattle.script_expressions.specs.TokenReaders.{Part, Read, ◌>>=◌, FailsReading}
use Rattle.script_expressions.specs.Tokens.{taken, taken_word}
use Rattle.script_expressions.proofs.ItemLists.{with_front, regroup}
use Rattle.script_expressions.proofs.Steps.{fails_is, fails_bind}
use Rattle.script_parser.specs.Statements.{statements}
use Rattle.script_parser.specs.Types.{repeated}

module _ (stop : ParseFault) (one : Read StmtTree) where
  pub statements_go : (n m : ℕ) (front : List StmtTree) (ts after : List Spanned) (s : StmtTree) (total : Part (List StmtTree)) → n ≡ suc m → taken symbol.RightBrace ts ≡ None → one ts ≡ Ok (s, after) → with_front front (statements stop one n ts) ≡ total → with_front (front ++ s ∷ []) (statements stop one m after) ≡ total
  unfolding statements
  statements_go n m front ts after s total en b e h =
      let step : with_front front (statements stop one n ts) ≡ with_front (front ++ s ∷ []) (statements stop one m after) = rw (en, b, e) (regroup front s (statements stop one m after)) in
      sym step ∙ h

  pub statements_close : (n m : ℕ) (front : List StmtTree) (ts after : List Spanned) (total : Part (List StmtTree)) → n ≡ suc m → taken symbol.RightBrace ts ≡ Some after → with_front front (statements stop one n ts) ≡ total → total ≡ Ok (front, after)
  unfolding statements
  statements_close n m front ts after total en b h =
      let step : with_front front (statements stop one n ts) ≡ Ok (front, after) = rw (en, b) (ap (λ (l : List StmtTree). Ok (l, after)) (append-nil front)) in
      sym h ∙ step

  pub statements_fail : (e : ParseFault) (n m : ℕ) (front : List StmtTree) (ts : List Spanned) (total : Part (List StmtTree)) → n ≡ suc m → taken symbol.RightBrace ts ≡ None → FailsReading e (one ts) → with_front front (statements stop one n ts) ≡ total → FailsReading e total
  unfolding statements
  statements_fail e n m front ts total en b f h =
      let step : with_front front (statements stop one n ts) ≡ with_front front (one ts >>= λ s. statements stop one m s.1 >>= λ r. Ok (s.0 ∷ r.0, r.1)) = rw (en, b) refl in
      fails_is e _ _ h (fails_is e _ _ (sym step) (fails_bind e _ _ (fails_bind e (one ts) _ f)))

module _ (A : Type 0) (w : Word) (one : Read A) where
  pub repeated_goes : (n m : ℕ) (front : List A) (ts us vs : List Spanned) (x : A) (total : Part (List A)) → n ≡ suc m → taken_word w ts ≡ Some us → one us ≡ Ok (x, vs) → with_front front (repeated w one n ts) ≡ total → with_front (front ++ x ∷ []) (repeated w one m vs) ≡ total
  unfolding repeated
  repeated_goes n m front ts us vs x total en b e h =
      let step : with_front front (repeated w one n ts) ≡ with_front (front ++ x ∷ []) (repeated w one m vs) = rw (en, b, e) (regroup front x (repeated w one m vs)) in
      sym step ∙ h

  pub repeated_ends : (n m : ℕ) (front : List A) (ts : List Spanned) (total : Part (List A)) → n ≡ suc m → taken_word w ts ≡ None → with_front front (repeated w one n ts) ≡ total → total ≡ Ok (front, ts)
  unfolding repeated
  repeated_ends n m front ts total en b h =
      let step : with_front front (repeated w one n ts) ≡ Ok (front, ts) = rw (en, b) (ap (λ (l : List A). Ok (l, ts)) (append-nil front)) in
      sym h ∙ step

  pub repeated_over : (n : ℕ) (front : List A) (ts : List Spanned) (total : Part (List A)) → n ≡ 0 → with_front front (repeated w one n ts) ≡ total → total ≡ Ok (front, ts)
  unfolding repeated
  repeated_over n front ts total en h =
      let step : with_front front (repeated w one n ts) ≡ Ok (front, ts) = rw en (ap (λ (l : List A). Ok (l, ts)) (append-nil front)) in
      sym h ∙ step

  pub repeated_fails : (e : ParseFault) (n m : ℕ) (front : List A) (ts us : List Spanned) (total : Part (List A)) → n ≡ suc m → taken_word w ts ≡ Some us → FailsReading e (one us) → with_front front (repeated w one n ts) ≡ total → FailsReading e total
  unfolding repeated
  repeated_fails e n m front ts us total en b f h =
      let step : with_front front (repeated w one n ts) ≡ with_front front (one us >>= λ x. repeated w one m x.1 >>= λ r. Ok (x.0 ∷ r.0, r.1)) = rw (en, b) refl in
      fails_is e _ _ h (fails_is e _ _ (sym step) (fails_bind e _ _ (fails_bind e (one us) _ f)))
