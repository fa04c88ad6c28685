-- Runs of bytes that pass a test.
use Rattle.std.proofs.Common.{◌≡◌, ℕ, suc, ◌+◌, Bool, true, false, cond, not, ◌&&◌, List, [], ◌∷◌, ◌++◌, length, take, drop, refl, arith}
use Rattle.std.specs.List.{prefix_len, list_all}
use Rattle.script_lexer.specs.TokenTexts.{stops}

one_more : (n : ℕ) → 1 + n ≡ suc n
one_more n = omega arith

module _ (p : ℕ → Bool) where
  taken_turn : (b : ℕ) (bs : List ℕ) (q : Bool) → p b ≡ q → list_all p (take (prefix_len p bs) bs) ≡ true → list_all p (take (cond q (1 + prefix_len p bs) 0) (b ∷ bs)) ≡ true
  taken_turn b bs true e rest = rw (one_more, e) rest
  taken_turn b bs false e rest = refl

  -- a run passes
  pub run_passes : (bs : List ℕ) → list_all p (take (prefix_len p bs) bs) ≡ true
  run_passes [] = refl
  run_passes (b ∷ bs) = taken_turn b bs (p b) refl (run_passes bs)

  stops_turn : (b : ℕ) (bs : List ℕ) (q : Bool) → p b ≡ q → stops p (drop (prefix_len p bs) bs) ≡ true → stops p (drop (cond q (1 + prefix_len p bs) 0) (b ∷ bs)) ≡ true
  stops_turn b bs true e rest = rw one_more rest
  stops_turn b bs false e rest = rw e refl

  -- and stops where a byte doesn't
  pub run_stops : (bs : List ℕ) → stops p (drop (prefix_len p bs) bs) ≡ true
  run_stops [] = refl
  run_stops (b ∷ bs) = stops_turn b bs (p b) refl (run_stops bs)

  stopped : (ys : List ℕ) → stops p ys ≡ true → prefix_len p ys ≡ 0
  stopped [] s = refl
  stopped (y ∷ ys) s = stopped_at (p y) s where
    stopped_at : (q : Bool) → not q ≡ true → cond q (1 + prefix_len p ys) 0 ≡ 0
    stopped_at true h = let no : false ≡ true = h in absurd cc
    stopped_at false h = refl

  long_turn : (q : Bool) (rest : Bool) (n m : ℕ) → (q && rest) ≡ true → (rest ≡ true → n ≡ m) → cond q (1 + n) 0 ≡ suc m
  long_turn true rest n m a h = let e = h a in omega (arith, e)
  long_turn false rest n m a h = let no : false ≡ true = a in absurd cc

  -- bytes that pass, before one that doesn't, are the whole run
  pub run_is : (xs ys : List ℕ) → list_all p xs ≡ true → stops p ys ≡ true → prefix_len p (xs ++ ys) ≡ length xs
  run_is [] ys a s = stopped ys s
  run_is (x ∷ xs) ys a s = long_turn (p x) (list_all p xs) (prefix_len p (xs ++ ys)) (length xs) a (λ r. run_is xs ys r s)
