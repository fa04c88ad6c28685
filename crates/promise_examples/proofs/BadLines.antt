-- Where the first bad line of an input stands, and which part of it was pulled.
use Rattle.std.proofs.Common.{◌≡◌, inl, inr, ℕ, zero, suc, ◌+◌, ◌<◌, List, [], ◌∷◌, ◌++◌, Some, None, sym, ◌∙◌, arith}
use Rattle.std.specs.Prelude.{take}
use Rattle.std.proofs.lemmas.Bool.{cases_Bool, cond-true, cond-false}
use Rattle.std.proofs.lemmas.List.{append_cancel_right}
use Rattle.promise_spec.specs.Windows.{is_bad, first_bad}
use Rattle.promise_spec.proofs.Lists.{some_is}

-- it is one of the lines
pub above : (before : ℕ) (xs : List (List ℕ)) (n : ℕ) → first_bad before xs ≡ Some n → before < n
above before [] n is = absurd cc
above before (x ∷ xs) n is = elim (cases_Bool (is_bad (before + 1) x)) [
  | inl bad ↦ (let same : before + 1 ≡ n = some_is (before + 1) n (sym (cond-true (is_bad (before + 1) x) (Some (before + 1)) (first_bad (before + 1) xs) bad) ∙ is) in omega (arith, same))
  | inr good ↦ (let later = above (before + 1) xs n (sym (cond-false (is_bad (before + 1) x) (Some (before + 1)) (first_bad (before + 1) xs) good) ∙ is) in omega (arith, later))
]

-- behind all lines of which none is bad
pub behind_good : (before allowed : ℕ) (xs : List (List ℕ)) (n : ℕ) → first_bad before (take allowed xs) ≡ None → first_bad before xs ≡ Some n → before + allowed < n
behind_good before zero xs n good is = (let t = above before xs n is in omega (arith, t))
behind_good before (suc allowed) [] n good is = absurd cc
behind_good before (suc allowed) (x ∷ xs) n good is = elim (cases_Bool (is_bad (before + 1) x)) [
  | inl bad ↦ absurd (none_some (before + 1) (sym (cond-true (is_bad (before + 1) x) (Some (before + 1)) (first_bad (before + 1) (take allowed xs)) bad) ∙ good))
  | inr fine ↦
      let later : before + 1 + allowed < n = behind_good (before + 1) allowed xs n
      (sym (cond-false (is_bad (before + 1) x) (Some (before + 1)) (first_bad (before + 1) (take allowed xs)) fine) ∙ good)
      (sym (cond-false (is_bad (before + 1) x) (Some (before + 1)) (first_bad (before + 1) xs) fine) ∙ is) in
      omega (arith, later)
]
  where
    none_some : (m : ℕ) → Some m ≡ None → ⊥
    none_some m e = cc

-- what was pulled is what the input lost
pub one_front : (input left pulled front : List ℕ) → input ≡ pulled ++ left → input ≡ front ++ left → pulled ≡ front
one_front input left pulled front a b = append_cancel_right pulled front left (sym a ∙ b)
