-- Lists of settlements, for a run's books.
use Rattle.std.proofs.Common.{◌≡◌, ℕ, zero, suc, ◌≤◌, List, [], ◌∷◌, ◌++◌, length, map, take, refl, ap, ◌∙◌, arith, append-nil, Some, slice_get}
use Rattle.std.specs.List.{AllByRecursion}
use Rattle.base_types.specs.declared.entries.Entry.{Entry}
use Rattle.promise_spec.specs.Journals.{Settlement, commits_of, entries_of}

-- entries without records, each a settlement of its own
abbrev pub entry_alone : Entry → Settlement
entry_alone x = record { commits = []; entries = x ∷ [] }

abbrev pub alone : List Entry → List Settlement
alone xs = map entry_alone xs

pub alone-commits : (xs : List Entry) → commits_of (alone xs) ≡ []
alone-commits [] = refl
alone-commits (x ∷ xs) = alone-commits xs

pub alone-entries : (xs : List Entry) → entries_of (alone xs) ≡ xs
alone-entries [] = refl
alone-entries (x ∷ xs) = ap (λ (l : List Entry). x ∷ l) (alone-entries xs)

-- at most one entry
abbrev pub IsSingle : Settlement → Type 0
IsSingle s = length s.entries ≤ 1

pub alone-single : (xs : List Entry) → AllByRecursion IsSingle (alone xs)
alone-single [] = tt
alone-single (x ∷ xs) = (omega arith, alone-single xs)

pub both-single : (xs ys : List Settlement) → AllByRecursion IsSingle xs → AllByRecursion IsSingle ys → AllByRecursion IsSingle (xs ++ ys)
both-single [] ys a b = b
both-single (x ∷ xs) ys a b = (a.0, both-single xs ys a.1 b)

-- an empty front and an empty rest
empty-parts : {A : Type 0} (xs ys : List A) → xs ++ ys ≡ [] → (xs ≡ []) × (ys ≡ [])
empty-parts [] ys q = (refl, q)
empty-parts (x ∷ xs) ys q = absurd cc

-- settlements without entries have at most one
pub none-single : (xs : List Settlement) → entries_of xs ≡ [] → AllByRecursion IsSingle xs
none-single [] q = tt
none-single (x ∷ xs) q =
    let parts = empty-parts x.entries (entries_of xs) q in
    (omega (arith, ap length parts.0), none-single xs parts.1)

-- a front that is long enough is that of a longer list
pub take-front : {A : Type 0} (n : ℕ) (xs ys : List A) → n ≤ length xs → take n (xs ++ ys) ≡ take n xs
take-front zero xs ys le = refl
take-front (suc n) [] ys le = absurd (omega (arith, le))
take-front {A} (suc n) (x ∷ xs) ys le = ap (λ (l : List A). x ∷ l) (take-front n xs ys (omega (arith, le)))

-- and one element more
pub take-next : {A : Type 0} (n : ℕ) (xs : List A) (x : A) → slice_get xs n ≡ Some x → take (suc n) xs ≡ take n xs ++ x ∷ []
take-next n [] x q = absurd cc
take-next {A} zero (y ∷ ys) x q = let same : y ≡ x = cc in ap (λ (z : A). z ∷ []) same
take-next {A} (suc n) (y ∷ ys) x q = ap (λ (l : List A). y ∷ l) (take-next n ys x q)

-- nothing was added
pub added-none : {A : Type 0} (xs ys : List A) → xs ++ ys ≡ xs → ys ≡ []
added-none [] ys q = q
added-none (x ∷ xs) ys q = let rest : xs ++ ys ≡ xs = cc in added-none xs ys rest

-- the settlements up to the first entry, and those behind
pub record SplitsAt (js : List Settlement) (x : Entry) (rest : List Entry) : Type 0 where
  pub moved : List Settlement
  pub later : List Settlement
  pub split : js ≡ moved ++ later
  pub one : entries_of moved ≡ x ∷ []
  pub others : entries_of later ≡ rest
  pub single : AllByRecursion IsSingle later

split-at : (s : Settlement) (js : List Settlement) (x : Entry) (rest : List Entry) (es : List Entry) → s.entries ≡ es → length es ≤ 1 → AllByRecursion IsSingle js
    → es ++ entries_of js ≡ x ∷ rest → ((entries_of js ≡ x ∷ rest) → SplitsAt js x rest) → SplitsAt (s ∷ js) x rest
split-at s js x rest [] is one singles q more =
    let t = more q in
    record {
      moved = s ∷ t.moved;
      later = t.later;
      split = ap (λ (l : List Settlement). s ∷ l) t.split;
      one = ap (λ (l : List Entry). l ++ entries_of t.moved) is ∙ t.one;
      others = t.others;
      single = t.single;
    }
split-at s js x rest (y ∷ []) is one singles q more =
    let head : y ≡ x = cc in
    let tail : entries_of js ≡ rest = cc in
    record {
      moved = s ∷ [];
      later = js;
      split = refl;
      one = append-nil s.entries ∙ is ∙ ap (λ (z : Entry). z ∷ []) head;
      others = tail;
      single = singles;
    }
split-at s js x rest (y ∷ (z ∷ es)) is one singles q more = absurd (omega (arith, one))

pub splits-at : (js : List Settlement) (x : Entry) (rest : List Entry) → AllByRecursion IsSingle js → entries_of js ≡ x ∷ rest → SplitsAt js x rest
splits-at [] x rest singles q = absurd cc
splits-at (s ∷ js) x rest singles q = split-at s js x rest s.entries refl singles.0 singles.1 q (λ t. splits-at js x rest singles.1 t)
