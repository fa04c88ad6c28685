-- Lists of names.
use Rattle.std.proofs.Common.{◌≡◌, ◌+◌, ◌<◌, ◌≤◌, ℕ, List, [], ◌∷◌, ◌++◌, map, length, take, drop, get_or, Bool, true, false, cond, ◌||◌, Some, refl, sym, ap, ◌∙◌, drop-cons, add-one}
use Rattle.std.specs.Prelude.{option_map}
use Rattle.std.specs.List.{list_any, find}
use Rattle.std.proofs.Math.ListN.{drop_of_length-le}
use Rattle.std.proofs.lemmas.List.{length-map, take-map, take_at}

-- a test of some item of a mapped list
pub any_map : {A B : Type 0} (p : B → Bool) (f : A → B) (xs : List A) → list_any p (map f xs) ≡ list_any (λ x. p (f x)) xs
any_map p f [] = refl
any_map p f (x ∷ xs) = ap (λ b. p (f x) || b) (any_map p f xs)

-- a mapped list is as long
pub map_length : {A B : Type 0} (f : A → B) (xs : List A) → length (map f xs) ≡ length xs
map_length f xs = length-map xs f

-- the first item of a mapped list that meets a test
pub find_map : {A B : Type 0} (p : B → Bool) (f : A → B) (xs : List A) → find p (map f xs) ≡ option_map f (find (λ x. p (f x)) xs)
find_map p f [] = refl
find_map p f (x ∷ xs) =
    elim (p (f x)) as (λ b. cond b (Some (f x)) (find p (map f xs)) ≡ option_map f (cond b (Some x) (find (λ y. p (f y)) xs))) [ true ↦ refl | false ↦ find_map p f xs ]

-- what is left of a mapped list at an index within it
pub drop_map : {A B : Type 0} (f : A → B) (i : ℕ) (xs : List A) (x : A) → i < length xs → x ≡ get_or xs i x → map f (drop i xs) ≡ f x ∷ map f (drop (i + 1) xs)
drop_map f i xs x lt e =
    let h : drop i xs ≡ get_or xs i x ∷ drop (i + 1) xs = rw (add-one, drop-cons xs i x) refl in
    ap (map f) h ∙ ap (λ y. f y ∷ map f (drop (i + 1) xs)) (sym e)

-- nothing is left of a mapped list past its end
pub drop_end : {A B : Type 0} (f : A → B) (i : ℕ) (xs : List A) → length xs ≤ i → map f (drop i xs) ≡ []
drop_end f i xs le = ap (map f) (drop_of_length-le xs le)

-- the front of a list that has grown
pub taken : {A B : Type 0} (f : A → B) (items first : List A) (added : List B) (n : ℕ) → n ≡ length first → map f items ≡ map f first ++ added → map f (take n items) ≡ map f first
taken f items first added n en e = sym (take-map f n items) ∙ ap (take n) e ∙ take_at (map f first) added n (length-map first f ∙ sym en)

-- a mapped list with one more item
pub pushed : {A B : Type 0} (f : A → B) (items first : List A) (x : A) → items ≡ first ++ (x ∷ []) → map f items ≡ map f first ++ (f x ∷ [])
pushed f items [] x e = ap (map f) e
pushed f items (y ∷ ys) x e = ap (map f) e ∙ ap (λ l. f y ∷ l) (pushed f (ys ++ (x ∷ [])) ys x refl)
