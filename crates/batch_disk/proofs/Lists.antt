-- Lists of each of whose items something holds.
use Rattle.std.proofs.Common.{◌≡◌, inl, inr, ℕ, zero, suc, ◌+◌, ◌<◌, List, [], ◌∷◌, ◌++◌, length, map, take, get_or, refl, sym, ◌∙◌, ap, subst, append_assoc, append-nil, arith}
use Rattle.std.specs.List.{flat_map, AllByRecursion}
use Rattle.std.proofs.Math.Seq.{take-suc}
use Rattle.cell_model.specs.Units.{Member}

pub each_any : {A : Type 0} (P : A → Type 0) → ((a : A) → P a) → (xs : List A) → AllByRecursion P xs
each_any P any [] = tt
each_any P any (x ∷ xs) = (any x, each_any P any xs)

pub each_leads : {A : Type 0} (P Q : A → Type 0) → ((a : A) → P a → Q a) → (xs : List A) → AllByRecursion P xs → AllByRecursion Q xs
each_leads P Q leads [] each = tt
each_leads P Q leads (x ∷ xs) each = (leads x each.0, each_leads P Q leads xs each.1)

pub each_both : {A : Type 0} (P Q R : A → Type 0) → ((a : A) → P a → Q a → R a) → (xs : List A) → AllByRecursion P xs → AllByRecursion Q xs → AllByRecursion R xs
each_both P Q R leads [] one two = tt
each_both P Q R leads (x ∷ xs) one two = (leads x one.0 two.0, each_both P Q R leads xs one.1 two.1)

-- of a member
pub each_of : {A : Type 0} (P : A → Type 0) (xs : List A) (x : A) → AllByRecursion P xs → Member x xs → P x
each_of P [] x all none = absurd none
each_of P (y ∷ xs) x all (inl same) = subst P (sym same) all.0
each_of P (y ∷ xs) x all (inr there) = each_of P xs x all.1 there

-- of the item at an index
pub each_at : {A : Type 0} (P : A → Type 0) (xs : List A) (i : ℕ) (d : A) → AllByRecursion P xs → i < length xs → P (get_or xs i d)
each_at P [] i d all low = absurd (omega (arith, low))
each_at P (x ∷ xs) zero d all low = all.0
each_at P (x ∷ xs) (suc i) d all low = each_at P xs i d all.1 (omega (arith, low))

-- two lists as one
pub both_parts : {A : Type 0} (P : A → Type 0) (xs ys : List A) → AllByRecursion P xs → AllByRecursion P ys → AllByRecursion P (xs ++ ys)
both_parts P [] ys first all = all
both_parts P (x ∷ xs) ys first all = (first.0, both_parts P xs ys first.1 all)

-- one list as two
pub split_parts : {A : Type 0} (P : A → Type 0) (xs ys : List A) → AllByRecursion P (xs ++ ys) → AllByRecursion P xs × AllByRecursion P ys
split_parts P [] ys all = (tt, all)
split_parts P (x ∷ xs) ys all = let more = split_parts P xs ys all.1 in ((all.0, more.0), more.1)

-- lists one behind the other, each by itself
pub each_list : {A B : Type 0} (P : B → Type 0) (f : A → List B) (xs : List A) → AllByRecursion P (flat_map f xs) → AllByRecursion (λ x. AllByRecursion P (f x)) xs
each_list P f [] all = tt
each_list P f (x ∷ xs) all = let two = split_parts P (f x) (flat_map f xs) all in (two.0, each_list P f xs two.1)

pub all_lists : {A B : Type 0} (P : B → Type 0) (f : A → List B) (xs : List A) → AllByRecursion (λ x. AllByRecursion P (f x)) xs → AllByRecursion P (flat_map f xs)
all_lists P f [] all = tt
all_lists P f (x ∷ xs) all = both_parts P (f x) (flat_map f xs) all.0 (all_lists P f xs all.1)

-- one list more
pub flat_push : {A : Type 0} (xss : List (List A)) (xs : List A) → flat_map (λ ys. ys) (xss ++ xs ∷ []) ≡ flat_map (λ ys. ys) xss ++ xs
flat_push [] xs = append-nil xs
flat_push (ys ∷ xss) xs = ap (λ l. ys ++ l) (flat_push xss xs) ∙ sym (append_assoc ys (flat_map (λ ys. ys) xss) xs)

-- one item more
pub map_push : {A B : Type 0} (f : A → B) (xs : List A) (x : A) → map f (xs ++ x ∷ []) ≡ map f xs ++ f x ∷ []
map_push f [] x = refl
map_push f (y ∷ xs) x = ap (λ l. f y ∷ l) (map_push f xs x)

-- lists of what is made of each
pub flat_of_map : {A B C : Type 0} (f : B → List C) (g : A → B) (xs : List A) → flat_map f (map g xs) ≡ flat_map (λ x. f (g x)) xs
flat_of_map f g [] = refl
flat_of_map f g (x ∷ xs) = ap (λ l. f (g x) ++ l) (flat_of_map f g xs)

-- a front that is one longer
pub took : {A : Type 0} (xs : List A) (i : ℕ) (x : A) → i < length xs → x ≡ get_or xs i x → take (i + 1) xs ≡ take i xs ++ x ∷ []
took xs i x low is = let next : i + 1 ≡ suc i = omega arith in ap (λ k. take k xs) next ∙ take-suc xs i x low ∙ ap (λ y. take i xs ++ y ∷ []) (sym is)
