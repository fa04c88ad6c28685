-- The participants that are made one after the other.
use Rattle.std.proofs.Common.{◌≡◌, ℕ, zero, suc, ◌+◌, ◌<◌, ◌≤◌, List, [], ◌∷◌, ◌++◌, length, get_or, drop, sym, ap, ◌∙◌, arith, append_assoc, append-nil}
use Rattle.std.specs.Prelude.{ℤ}
use Rattle.std.proofs.lemmas.List.{drop_more, drop_all}
use Rattle.two_silos.specs.Nodes.{GrainId}
use Rattle.silo_nodes.specs.LogCache.{Node}
use Rattle.two_silos.specs.World.{nodes_from}

-- an element that is there doesn't rest on what stands for a missing one
pub at-any : {A : Type 0} (xs : List A) (i : ℕ) (x d : A) → i < length xs → x ≡ get_or xs i x → x ≡ get_or xs i d
at-any [] i x d h e = absurd (omega (arith, h))
at-any (y ∷ ys) zero x d h e = e
at-any (y ∷ ys) (suc i) x d h e = at-any ys i x d (omega (arith, h)) e

-- one more is made
pub nodes_on : (os : List (List (GrainId × ℤ))) (i : ℕ) (o : List (GrainId × ℤ)) (now next all : List Node) → i < length os → o ≡ get_or os i o →
    next ≡ now ++ record { number = i; opening = o; log = [] } ∷ [] → now ++ nodes_from i (drop i os) ≡ all → next ++ nodes_from (i + 1) (drop (i + 1) os) ≡ all
nodes_on os i o now next all h e here so_far =
    ap (λ l. l ++ nodes_from (i + 1) (drop (i + 1) os)) here ∙ append_assoc now (record { number = i; opening = o; log = [] } ∷ []) (nodes_from (i + 1) (drop (i + 1) os))
    ∙ ap (λ y. now ++ nodes_from i (y ∷ drop (i + 1) os)) e ∙ ap (λ l. now ++ nodes_from i l) (sym (drop_more os i o h)) ∙ so_far

-- none is left
pub nodes_all : (os : List (List (GrainId × ℤ))) (i : ℕ) (now all : List Node) → length os ≤ i → now ++ nodes_from i (drop i os) ≡ all → now ≡ all
nodes_all os i now all h so_far = sym (append-nil now) ∙ ap (λ l. now ++ nodes_from i l) (sym (drop_all i os h)) ∙ so_far
