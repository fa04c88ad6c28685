-- What holds of each element of a list, and of each two of them.
use Rattle.std.proofs.Common.{suc, List, [], ◌∷◌, map, arith}
use Rattle.std.specs.List.{All, AllPairs}
use Rattle.std.proofs.lemmas.List.Elements.{All-nil, All-cons, All-head, All-tail, All-map}
use Rattle.std.proofs.lemmas.List.Kept.{AllPairs-cons}

-- the pairs of a list, and those of its rest
pub pairs_first : {X : Type 0} (R : X → X → Type 0) (first : X) (rest : List X) → AllPairs R (first ∷ rest) →
    All (R first) rest
pairs_first R first rest pairs = λ k d within. pairs 0 (suc k) d (omega arith) (omega (arith, within))

-- the pairs of the rest
pub pairs_rest : {X : Type 0} (R : X → X → Type 0) (first : X) (rest : List X) → AllPairs R (first ∷ rest) →
    AllPairs R rest
pairs_rest R first rest pairs =
    λ i j d below within. pairs (suc i) (suc j) d (omega (arith, below)) (omega (arith, within))

-- what holds of what a list is mapped to
pub All-from_map : {X Y : Type 0} (P : Y → Type 0) (f : X → Y) (xs : List X) → All P (map f xs) → All (λ x. P (f x)) xs
All-from_map P f [] all = All-nil (λ x. P (f x))
All-from_map P f (first ∷ rest) all =
    All-cons (λ x. P (f x)) first rest (All-head P (f first) (map f rest) all)
    (All-from_map P f rest (All-tail P (f first) (map f rest) all))

-- what holds of each two of what a list is mapped to
pub AllPairs-from_map : {X Y : Type 0} (R : Y → Y → Type 0) (f : X → Y) (xs : List X) → AllPairs R (map f xs) →
    AllPairs (λ x y. R (f x) (f y)) xs
AllPairs-from_map R f [] pairs = λ i j d below within. absurd (omega (arith, within))
AllPairs-from_map R f (first ∷ rest) pairs =
    AllPairs-cons (λ x y. R (f x) (f y)) first rest
    (All-from_map (R (f first)) f rest (pairs_first R (f first) (map f rest) pairs))
    (AllPairs-from_map R f rest (pairs_rest R (f first) (map f rest) pairs))

-- and the other way round
pub AllPairs-map : {X Y : Type 0} (R : Y → Y → Type 0) (f : X → Y) (xs : List X) → AllPairs (λ x y. R (f x) (f y)) xs →
    AllPairs R (map f xs)
AllPairs-map R f [] pairs = λ i j d below within. absurd (omega (arith, within))
AllPairs-map R f (first ∷ rest) pairs =
    AllPairs-cons R (f first) (map f rest)
    (All-map (R (f first)) f rest (pairs_first (λ x y. R (f x) (f y)) first rest pairs))
    (AllPairs-map R f rest (pairs_rest (λ x y. R (f x) (f y)) first rest pairs))
