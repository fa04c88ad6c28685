-- Items one after another, as the loops read them.
use Rattle.std.proofs.Common.{◌≡◌, ℕ, suc, List, [], ◌∷◌, ◌++◌, Some, None, Ok, Err, refl, sym, ap, ◌∙◌, append_assoc}
use Rattle.script_lexer.specs.declared.faults.ParseFault.{ParseFault}
use Rattle.script_lexer.specs.declared.tokens.Spanned.{Spanned}
use Rattle.script_lexer.specs.declared.tokens.Symbol.TheVariants as symbol
use Rattle.script_expressions.specs.TokenReaders.{Part, Read, ◌>>=◌, FailsReading}
use Rattle.script_expressions.specs.Tokens.{refused_token, expected, taken}
use Rattle.script_expressions.specs.Calls.{goes_on, listed}
use Rattle.script_expressions.proofs.Steps.{fails_is, fails_bind}

-- what was read before, and what is still read
abbrev pub with_front : {A : Type 0} → List A → Part (List A) → Part (List A)
with_front front read = read >>= λ r. Ok (front ++ r.0, r.1)

pub regroup : {A : Type 0} (front : List A) (x : A) (read : Part (List A)) → with_front front (read >>= λ r. Ok (x ∷ r.0, r.1)) ≡ with_front (front ++ x ∷ []) read
regroup {A = A} front x (Ok r) = ap (λ (l : List A). Ok (l, r.1)) (sym (append_assoc front (x ∷ []) r.0))
regroup front x (Err f) = refl

module _ (A : Type 0) (stop : ParseFault) (one : Read A) where
  pub listed_goes : (n m : ℕ) (front : List A) (ts us vs : List Spanned) (x : A) (at : ℕ) (total : Part (List A)) → n ≡ suc m → one ts ≡ Ok (x, us) → taken symbol.RightParen us ≡ None → expected stop symbol.Comma us ≡ Ok (at, vs) → with_front front (listed stop one n ts) ≡ total → with_front (front ++ x ∷ []) (listed stop one m vs) ≡ total
  unfolding listed
  listed_goes n m front ts us vs x at total en e none comma h =
      let step : with_front front (listed stop one n ts) ≡ with_front (front ++ x ∷ []) (listed stop one m vs) = rw (en, e, none, comma) (regroup front x (listed stop one m vs)) in
      sym step ∙ h

  pub listed_closes : (n m : ℕ) (front : List A) (ts us after : List Spanned) (x : A) (total : Part (List A)) → n ≡ suc m → one ts ≡ Ok (x, us) → taken symbol.RightParen us ≡ Some after → with_front front (listed stop one n ts) ≡ total → total ≡ Ok (front ++ x ∷ [], after)
  unfolding listed
  listed_closes n m front ts us after x total en e close h =
      let step : with_front front (listed stop one n ts) ≡ Ok (front ++ x ∷ [], after) = rw (en, e, close) refl in
      sym h ∙ step

  pub listed_fails : (e : ParseFault) (n m : ℕ) (front : List A) (ts : List Spanned) (total : Part (List A)) → n ≡ suc m → FailsReading e (one ts) → with_front front (listed stop one n ts) ≡ total → FailsReading e total
  unfolding listed
  listed_fails e n m front ts total en f h =
      let step : with_front front (listed stop one n ts) ≡ with_front front (one ts >>= λ x. goes_on stop (listed stop one m) x.0 x.1 (taken symbol.RightParen x.1)) = rw en refl in
      fails_is e _ _ h (fails_is e _ _ (sym step) (fails_bind e _ _ (fails_bind e (one ts) _ f)))

  pub listed_stops : (e : ParseFault) (n m : ℕ) (front : List A) (ts us : List Spanned) (x : A) (total : Part (List A)) → n ≡ suc m → one ts ≡ Ok (x, us) → taken symbol.RightParen us ≡ None → FailsReading e (expected stop symbol.Comma us) → with_front front (listed stop one n ts) ≡ total → FailsReading e total
  unfolding listed
  listed_stops e n m front ts us x total en i none f h =
      let step : with_front front (listed stop one n ts) ≡ with_front front (expected stop symbol.Comma us >>= λ c. listed stop one m c.1 >>= λ r. Ok (x ∷ r.0, r.1)) = rw (en, i, none) refl in
      fails_is e _ _ h (fails_is e _ _ (sym step) (fails_bind e _ _ (fails_bind e (expected stop symbol.Comma us) _ f)))

  pub listed_ends : (n : ℕ) (front : List A) (ts : List Spanned) (total : Part (List A)) → n ≡ 0 → with_front front (listed stop one n ts) ≡ total → total ≡ Err (refused_token stop ts)
  unfolding listed
  listed_ends n front ts total en h =
      let step : with_front front (listed stop one n ts) ≡ Err (refused_token stop ts) = rw en refl in
      sym h ∙ step
