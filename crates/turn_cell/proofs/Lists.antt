-- Members of lists, by their places and by `Member`.
use Rattle.std.proofs.Common.{◌≡◌, ◌⊎◌, inl, inr, ⊎_elim, ℕ, zero, suc, ◌<◌, List, [], ◌∷◌, ◌++◌, map, length, refl, sym, ap, arith}
use mathlib.Core.Option.{some, some-injective, some-ne-none}
use lib.ListN.{get_elem?}
use Rattle.base_types.specs.Lists.{Member}

module _ {A : Type 0} where
  -- an element of a list with one more at its end
  pub at_push : (l : List A) (a b : A) (j : ℕ) → get_elem? (l ++ a ∷ []) j ≡ some b → (get_elem? l j ≡ some b) ⊎ ((j ≡ length l) × (a ≡ b))
  at_push [] a b zero e = inr (refl, some-injective a b e)
  at_push [] a b (suc j) e = absurd (some-ne-none b (sym e))
  at_push (x ∷ xs) a b zero e = inl e
  at_push (x ∷ xs) a b (suc j) e = ⊎_elim inl (λ t. inr (ap suc t.0, t.1)) (at_push xs a b j e)

  -- where there is an element, the place is below the length
  pub at_inside : (l : List A) (j : ℕ) (a : A) → get_elem? l j ≡ some a → j < length l
  at_inside [] j a e = absurd (some-ne-none a (sym e))
  at_inside (x ∷ xs) zero a e = omega arith
  at_inside (x ∷ xs) (suc j) a e = let h = at_inside xs j a e in omega arith

  -- an element of the left part
  pub in_left : (a : A) (xs ys : List A) → Member a xs → Member a (xs ++ ys)
  in_left a [] ys h = absurd h
  in_left a (x ∷ xs) ys h = ⊎_elim inl (λ t. inr (in_left a xs ys t)) h

  -- an element of the right part
  pub in_right : (a : A) (xs ys : List A) → Member a ys → Member a (xs ++ ys)
  in_right a [] ys h = h
  in_right a (x ∷ xs) ys h = inr (in_right a xs ys h)

  -- an element of two lists in a row is one of either
  pub in_append : (a : A) (xs ys : List A) → Member a (xs ++ ys) → Member a xs ⊎ Member a ys
  in_append a [] ys h = inr h
  in_append a (x ∷ xs) ys h = ⊎_elim (λ t. inl (inl t)) (λ t. ⊎_elim (λ u. inl (inr u)) inr (in_append a xs ys t)) h

module _ {A B : Type 0} where
  -- the image of an element
  pub in_map : (f : A → B) (a : A) (xs : List A) → Member a xs → Member (f a) (map f xs)
  in_map f a [] h = absurd h
  in_map f a (x ∷ xs) h = ⊎_elim (λ t. inl (ap f t)) (λ t. inr (in_map f a xs t)) h

  -- an element of the images is the image of one
  pub from_map : (f : A → B) (b : B) (xs : List A) → Member b (map f xs) → (a : A) × Member a xs × (f a ≡ b)
  from_map f b [] h = absurd h
  from_map f b (x ∷ xs) h = ⊎_elim (λ t. (x, inl refl, sym t)) (λ t. let r = from_map f b xs t in (r.0, inr r.1, r.2)) h
