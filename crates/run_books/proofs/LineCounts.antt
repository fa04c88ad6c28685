-- Entries of different lines are as many as their lines, or at most so many.
use Rattle.std.proofs.Common.{◌≡◌, ◌⊎◌, ℕ, zero, suc, ◌≤◌, ◌<◌, List, [], ◌∷◌, length, true≢false, inl, inr, ⊎_elim, refl, sym, ap, ◌∙◌, arith, eqb-true}
use Rattle.std.specs.Prelude.{◌==◌}
use Rattle.std.proofs.lemmas.Bool.{cases_Bool, eq-eqb}
use Rattle.base_types.specs.declared.entries.Entry.{Entry}
use Rattle.core_model.specs.CoreState.{Member}
use Rattle.core_model.specs.Lines.{DifferInLine}

-- a list without one of its elements
taken-out : (x : Entry) (xs : List Entry) → Member x xs → (ys : List Entry) × (length xs ≡ suc (length ys)) × ((y : Entry) → Member y ys → Member y xs) × ((y : Entry) → Member y xs → (y ≡ x) ⊎ Member y ys)
    × (DifferInLine xs → DifferInLine ys × ((y : Entry) → Member y ys → y.line ≡ x.line → ⊥))
taken-out x [] m = absurd m
taken-out x (z ∷ zs) (inl q) = (
  zs,
  refl,
  (λ y k. inr k),
  (λ y k. ⊎_elim (λ (e : y ≡ z). inl (e ∙ sym q)) (λ n. inr n) k),
  (λ d. (d.1, λ y k e. d.0 y k (sym (e ∙ ap (λ (w : Entry). w.line) q)))),
)
taken-out x (z ∷ zs) (inr m) =
    let (ys, long, sub, cover, differ) = taken-out x zs m in (
      z ∷ ys,
      ap suc long,
      (λ y k. ⊎_elim (λ (e : y ≡ z). inl e) (λ n. inr (sub y n)) k),
      (λ y k. ⊎_elim (λ (e : y ≡ z). inr (inl e)) (λ n. ⊎_elim (λ (t : y ≡ x). inl t) (λ p. inr (inr p)) (cover y n)) k),
      (λ d. (
        ((λ y k e. d.0 y (sub y k) e), (differ d.1).0),
        λ y k e. ⊎_elim (λ (t : y ≡ z). d.0 x m (ap (λ (w : Entry). w.line) (sym t) ∙ e)) (λ n. (differ d.1).1 y n e) k,
      )),
    )

-- entries of different lines, one for each line up to a number and none else, are so many
pub so-many : (n : ℕ) (xs : List Entry) → DifferInLine xs → ((x : Entry) → Member x xs → (0 < x.line) × (x.line ≤ n)) → ((k : ℕ) → 1 ≤ k → k ≤ n → (x : Entry) × Member x xs × (x.line ≡ k)) → length xs ≡ n
so-many zero [] d within all = refl
so-many zero (x ∷ xs) d within all = let w = within x (inl refl) in let lo = w.0 in let hi = w.1 in absurd (omega (arith, lo, hi))
so-many (suc n) xs d within all =
    let (x, m, line) = all (suc n) (omega arith) (omega arith) in
    let (ys, long, sub, cover, differ) = taken-out x xs m in
    long ∙ ap suc (so-many n ys (differ d).0
    (λ y k. let w = within y (sub y k) in let lo = w.0 in let hi = w.1 in
    (lo, below y.line (λ e. (differ d).1 y k (e ∙ sym line)) hi))
    (λ k lo hi. let (y, my, at) = all k lo (omega (arith, hi)) in
    (y, ⊎_elim (λ (e : y ≡ x). absurd (let t : k ≡ suc n = sym at ∙ ap (λ (w : Entry). w.line) e ∙ line in omega (arith, t, hi))) (λ p. p) (cover y my), at)))
  where
    below : (k : ℕ) → (k ≡ suc n → ⊥) → k ≤ suc n → k ≤ n
    below k ne hi = search (arith, ne, hi)

-- an entry of that line, or none
has-line : (k : ℕ) (xs : List Entry) → ((x : Entry) × Member x xs × (x.line ≡ k)) ⊎ ((x : Entry) → Member x xs → x.line ≡ k → ⊥)
has-line k [] = inr (λ x m e. absurd m)
has-line k (x ∷ xs) = elim (cases_Bool (x.line == k)) [
  | inl t ↦ inl (x, inl refl, eqb-true x.line k t)
  | inr f ↦ ⊎_elim (λ y. inl (y.0, inr y.1, y.2)) (λ n. inr (λ y m e. ⊎_elim (λ (q : y ≡ x). absurd (true≢false (sym (eq-eqb x.line k (ap (λ (w : Entry). w.line) (sym q) ∙ e)) ∙ f))) (λ p. n y p e) m)) (has-line k xs)
]

-- entries of different lines up to a number are at most so many
pub at-most : (n : ℕ) (xs : List Entry) → DifferInLine xs → ((x : Entry) → Member x xs → (0 < x.line) × (x.line ≤ n)) → length xs ≤ n
at-most zero [] d within = omega arith
at-most zero (x ∷ xs) d within = let w = within x (inl refl) in let lo = w.0 in let hi = w.1 in absurd (omega (arith, lo, hi))
at-most (suc n) xs d within = by (has-line (suc n) xs) (λ ys. at-most n ys)
  where
    below : (k : ℕ) → (k ≡ suc n → ⊥) → k ≤ suc n → k ≤ n
    below k ne hi = search (arith, ne, hi)

    by : ((x : Entry) × Member x xs × (x.line ≡ suc n)) ⊎ ((x : Entry) → Member x xs → x.line ≡ suc n → ⊥)
        → ((ys : List Entry) → DifferInLine ys → ((x : Entry) → Member x ys → (0 < x.line) × (x.line ≤ n)) → length ys ≤ n) → length xs ≤ suc n
    by (inl (x, m, line)) more =
        let (ys, long, sub, cover, differ) = taken-out x xs m in
        let le = more ys (differ d).0 (λ y k. let w = within y (sub y k) in (w.0, below y.line (λ e. (differ d).1 y k (e ∙ sym line)) w.1)) in
        omega (arith, long, le)
    by (inr none) more = let le = more xs d (λ y k. let w = within y k in (w.0, below y.line (none y k) w.1)) in omega (arith, le)
