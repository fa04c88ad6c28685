-- Lists that pass a test, and how many of a list do.
use Rattle.std.proofs.Common.{◌≡◌, ◌+◌, List, [], ◌∷◌, ◌++◌, length, Bool, true, false, ◌⊎◌, inl, inr, refl, sym, ap, ◌∙◌, subst, map}
use Rattle.std.specs.Prelude.{filter, count_by, if◌then◌else◌, ◌||◌}
use Rattle.std.proofs.lemmas.List.{length-append}
use Rattle.std.proofs.lemmas.List.Sums.{length-filter}
use Rattle.std.proofs.lemmas.List.Elements.{filter-append}
use Rattle.std.proofs.lemmas.Bool.{cases_Bool}
use Rattle.core_model.specs.CoreState.{Member}
use Rattle.core_model.specs.declared.events.CoreEvent.{CoreEvent}
use Rattle.core_model.specs.Tests.{all, any}
use Rattle.cell_model.proofs.Units.{filter-stays}

-- ---- lists

-- what passes a test among those that pass a weaker one
pub filter-among : {A : Type 0} (p q : A → Bool) (xs : List A) → ((x : A) → Member x xs → p x ≡ true → q x ≡ true) → filter p (filter q xs) ≡ filter p xs
filter-among p q [] weak = refl
filter-among {A} p q (x ∷ xs) weak = by (filter-among p q xs (λ y m. weak y (inr m))) (cases_Bool (q x)) (cases_Bool (p x))
  where
    by : filter p (filter q xs) ≡ filter p xs → (q x ≡ true) ⊎ (q x ≡ false) → (p x ≡ true) ⊎ (p x ≡ false) → filter p (filter q (x ∷ xs)) ≡ filter p (x ∷ xs)
    by more (inl a) b =
        subst (λ (t : Bool). filter p (if t then x ∷ filter q xs else filter q xs) ≡ filter p (x ∷ xs)) (sym a) (with (p x))
      where
        with : (t : Bool) → (if t then x ∷ filter p (filter q xs) else filter p (filter q xs)) ≡ (if t then x ∷ filter p xs else filter p xs)
        with true = ap (λ (l : List A). x ∷ l) more
        with false = more
    by more (inr a) (inl b) = (let t : true ≡ false = sym (weak x (inl refl) b) ∙ a in cc)
    by more (inr a) (inr b) =
        subst (λ (t : Bool). filter p (if t then x ∷ filter q xs else filter q xs) ≡ filter p (x ∷ xs)) (sym a)
        (subst (λ (t : Bool). filter p (filter q xs) ≡ (if t then x ∷ filter p xs else filter p xs)) (sym b) more)

-- lists that agree under the weaker test agree under the stronger
pub filter-agree : {A : Type 0} (p q : A → Bool) (xs ys : List A) → ((x : A) → Member x xs ⊎ Member x ys → p x ≡ true → q x ≡ true) → filter q xs ≡ filter q ys → filter p xs ≡ filter p ys
filter-agree p q xs ys weak e = sym (filter-among p q xs (λ x m. weak x (inl m))) ∙ ap (filter p) e ∙ filter-among p q ys (λ x m. weak x (inr m))

-- the same for tests of all
pub filter-stronger : {A : Type 0} (p q : A → Bool) → ((x : A) → p x ≡ true → q x ≡ true) → (xs ys : List A) → filter q xs ≡ filter q ys → filter p xs ≡ filter p ys
filter-stronger p q weak xs ys e = filter-agree p q xs ys (λ x m. weak x) e

-- the first of two
pub or-left : (a b : Bool) → a ≡ true → (a || b) ≡ true
or-left true b e = refl
or-left false b e = cc

-- the second of two
pub or-right : (a b : Bool) → b ≡ true → (a || b) ≡ true
or-right true b e = refl
or-right false b e = e

-- ---- lists

-- two lists that make none are none
pub empty-append : {A : Type 0} (xs ys : List A) → xs ++ ys ≡ [] → (xs ≡ []) × (ys ≡ [])
empty-append [] ys e = (refl, e)
empty-append (x ∷ xs) ys e = absurd cc

-- and so is one that maps to none
pub empty-map : {A B : Type 0} (f : A → B) (xs : List A) → map f xs ≡ [] → xs ≡ []
empty-map f [] e = refl
empty-map f (x ∷ xs) e = absurd cc

-- where none passes, each fails
pub none-passes : {A : Type 0} (p : A → Bool) (xs : List A) → filter p xs ≡ [] → (x : A) → Member x xs → p x ≡ false
none-passes p xs e x m = elim (cases_Bool (p x)) [
  | inl a ↦ absurd (subst (Member x) e (filter-stays p xs x m a))
  | inr a ↦ a
]

-- where each fails, none passes
pub filter-none : {A : Type 0} (p : A → Bool) (xs : List A) → ((x : A) → Member x xs → p x ≡ false) → filter p xs ≡ []
filter-none p [] all = refl
filter-none {A} p (x ∷ xs) all = by (filter-none p xs (λ y m. all y (inr m))) (all x (inl refl))
  where
    by : filter p xs ≡ [] → p x ≡ false → filter p (x ∷ xs) ≡ []
    by more e = subst (λ (t : Bool). (if t then x ∷ filter p xs else filter p xs) ≡ []) (sym e) more

-- whether the unit has a lock is told by its own locks
abbrev pub some_of : {A : Type 0} → List A → Bool
some_of [] = false
some_of (x ∷ xs) = true

-- whether any passes is told by those that do
pub any-filter : {A : Type 0} (p : A → Bool) (xs : List A) → any p xs ≡ some_of (filter p xs)
any-filter p [] = refl
any-filter p (x ∷ xs) = by (any-filter p xs) (p x)
  where
    by : any p xs ≡ some_of (filter p xs) → (t : Bool) → (t || any p xs) ≡ some_of (if t then x ∷ filter p xs else filter p xs)
    by more true = refl
    by more false = more

-- how many of two lists
pub count-more : (p : CoreEvent → Bool) (xs ys : List CoreEvent) → count_by p (xs ++ ys) ≡ count_by p xs + count_by p ys
count-more p xs ys =
    sym (length-filter p (xs ++ ys)) ∙ ap length (filter-append p xs ys) ∙ length-append (filter p xs) (filter p ys)
    ∙ (λ i. length-filter p xs i + length-filter p ys i)

-- one that passes
pub count-one : (p : CoreEvent → Bool) (e : CoreEvent) → p e ≡ true → count_by p (e ∷ []) ≡ 1
count-one p e h = subst (λ (b : Bool). 0 + (if b then 1 else 0) ≡ 1) (sym h) refl

-- one that doesn't
pub count-none : (p : CoreEvent → Bool) (e : CoreEvent) → p e ≡ false → count_by p (e ∷ []) ≡ 0
count-none p e h = subst (λ (b : Bool). 0 + (if b then 1 else 0) ≡ 0) (sym h) refl
