-- Members, parts and places of lists.
use Rattle.std.proofs.Common.{◌≡◌, ◌⊎◌, inl, inr, ℕ, zero, suc, List, [], ◌∷◌, ◌++◌, length, Some, refl, sym, subst}
use Rattle.std.specs.Prelude.{slice_get}
use Rattle.std.specs.List.{flat_map, AllByRecursion}
use Rattle.core_model.specs.CoreState.{Member}
use Rattle.promise_spec.specs.Logs.{IsPrefix}

pub head_of : {A : Type 0} (x y : A) (xs ys : List A) → x ∷ xs ≡ y ∷ ys → x ≡ y
head_of x y xs ys e = cc

pub tail_of : {A : Type 0} (x y : A) (xs ys : List A) → x ∷ xs ≡ y ∷ ys → xs ≡ ys
tail_of x y xs ys e = cc

pub none_is : {A : Type 0} (x : A) (xs : List A) → x ∷ xs ≡ [] → ⊥
none_is x xs e = absurd cc

pub none_at : {A : Type 0} (i : ℕ) (x : A) → slice_get [] i ≡ Some x → ⊥
none_at i x is = cc is

pub some_is : {A : Type 0} (x y : A) → Some x ≡ Some y → x ≡ y
some_is x y e = cc

-- what holds of all of two lists holds of all of each
pub parts_of : {A : Type 0} (P : A → Type 0) (xs ys : List A) → AllByRecursion P (xs ++ ys) → AllByRecursion P xs × AllByRecursion P ys
parts_of P [] ys all = (tt, all)
parts_of P (x ∷ xs) ys all = let more = parts_of P xs ys all.1 in ((all.0, more.0), more.1)

-- what holds of all holds of each
pub each_of : {A : Type 0} (P : A → Type 0) (xs : List A) (x : A) → AllByRecursion P xs → Member x xs → P x
each_of P [] x all none = absurd none
each_of P (y ∷ xs) x all (inl same) = subst P (sym same) all.0
each_of P (y ∷ xs) x all (inr there) = each_of P xs x all.1 there

pub in_append : {A : Type 0} (x : A) (xs ys : List A) → Member x xs ⊎ Member x ys → Member x (xs ++ ys)
in_append x [] ys (inl none) = absurd none
in_append x [] ys (inr there) = there
in_append x (z ∷ xs) ys (inl (inl here)) = inl here
in_append x (z ∷ xs) ys (inl (inr there)) = inr (in_append x xs ys (inl there))
in_append x (z ∷ xs) ys (inr there) = inr (in_append x xs ys (inr there))

pub either_in : {A : Type 0} (x : A) (xs ys : List A) → Member x (xs ++ ys) → Member x xs ⊎ Member x ys
either_in x [] ys there = inr there
either_in x (z ∷ xs) ys (inl here) = inl (inl here)
either_in x (z ∷ xs) ys (inr there) = elim (either_in x xs ys there) [ inl l ↦ inl (inr l) | inr r ↦ inr r ]

-- of two first parts of one list, one is a first part of the other
pub fronts : {A : Type 0} (a c b d : List A) → a ++ b ≡ c ++ d → IsPrefix a c ⊎ IsPrefix c a
fronts [] c b d same = inl (c, refl)
fronts (x ∷ a) [] b d same = inr (x ∷ a, refl)
fronts {A} (x ∷ a) (y ∷ c) b d same =
    let heads : x ≡ y = head_of x y (a ++ b) (c ++ d) same in
    elim (fronts a c b d (tail_of x y (a ++ b) (c ++ d) same)) [
      | inl p ↦ inl (p.0, λ i. sym heads i ∷ p.1 i)
      | inr p ↦ inr (p.0, λ i. heads i ∷ p.1 i)
    ]

-- what stands behind a first part
pub get_seam : {A : Type 0} (xs : List A) (y : A) (ys : List A) → slice_get (xs ++ (y ∷ ys)) (length xs) ≡ Some y
get_seam [] y ys = refl
get_seam (x ∷ xs) y ys = get_seam xs y ys

-- what stands at a place is a member
pub member_at : {A : Type 0} (i : ℕ) (x : A) (xs : List A) → slice_get xs i ≡ Some x → Member x xs
member_at i x [] there = none_at i x there
member_at zero x (y ∷ xs) there = inl (sym (some_is y x there))
member_at (suc i) x (y ∷ xs) there = inr (member_at i x xs there)

-- what holds of all of each of two lists holds of all of both
pub both_parts : {A : Type 0} (P : A → Type 0) (xs ys : List A) → AllByRecursion P xs → AllByRecursion P ys → AllByRecursion P (xs ++ ys)
both_parts P [] ys first all = all
both_parts P (x ∷ xs) ys first all = (first.0, both_parts P xs ys first.1 all)

-- what holds of each member holds of all
pub all_of : {A : Type 0} (P : A → Type 0) (xs : List A) → ((x : A) → Member x xs → P x) → AllByRecursion P xs
all_of P [] each = tt
all_of P (x ∷ xs) each = (each x (inl refl), all_of P xs (λ y there. each y (inr there)))

-- what is in the list of one member is in that of all
pub in_flat : {A B : Type 0} (f : A → List B) (g : A) (x : B) (gs : List A) → Member g gs → Member x (f g) → Member x (flat_map f gs)
in_flat f g x [] none there = absurd none
in_flat f g x (h ∷ gs) (inl same) there = in_append x (f h) (flat_map f gs) (inl (subst (λ a. Member x (f a)) same there))
in_flat f g x (h ∷ gs) (inr later) there = in_append x (f h) (flat_map f gs) (inr (in_flat f g x gs later there))

-- what holds of all in the list of each holds of all in that of all
pub all_flat : {A B : Type 0} (P : B → Type 0) (f : A → List B) (gs : List A) → ((g : A) → AllByRecursion P (f g)) → AllByRecursion P (flat_map f gs)
all_flat P f [] each = tt
all_flat P f (g ∷ gs) each = both_parts P (f g) (flat_map f gs) (each g) (all_flat P f gs each)
