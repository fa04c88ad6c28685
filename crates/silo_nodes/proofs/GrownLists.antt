-- Lists that a loop appends to.
use Rattle.std.proofs.Common.{◌≡◌, ℕ, ◌+◌, ◌<◌, ◌≤◌, List, [], ◌∷◌, ◌++◌, Bool, true, false, length, get_or, drop, refl, sym, ap, ◌∙◌, append_assoc, append-nil, filter}
use Rattle.std.specs.Prelude.{if◌then◌else◌}
use Rattle.std.proofs.lemmas.List.{drop_more, drop_all}
use Rattle.silo_nodes.specs.Packets.{TxnId, Prepare}
use Rattle.silo_nodes.specs.Coordinators.{Part, prepare_each, is_late}

-- one element is worked off
pub sends_on : {A B : Type 0} (f : List A → List B) (g : A → List B) → ((x : A) (xs : List A) → f (x ∷ xs) ≡ g x ++ f xs) → (xs : List A) (i : ℕ) (x : A) (now next all : List B) →
    i < length xs → x ≡ get_or xs i x → next ≡ now ++ g x → now ++ f (drop i xs) ≡ all → next ++ f (drop (i + 1) xs) ≡ all
sends_on f g law xs i x now next all lt is here so_far =
    ap (λ l. l ++ f (drop (i + 1) xs)) here ∙ append_assoc now (g x) (f (drop (i + 1) xs)) ∙ ap (λ l. now ++ l) (sym (law x (drop (i + 1) xs)))
    ∙ ap (λ y. now ++ f (y ∷ drop (i + 1) xs)) is ∙ ap (λ l. now ++ f l) (sym (drop_more xs i x lt)) ∙ so_far

-- none is left
pub sends_all : {A B : Type 0} (f : List A → List B) → f [] ≡ [] → (xs : List A) (i : ℕ) (now all : List B) → length xs ≤ i → now ++ f (drop i xs) ≡ all → now ≡ all
sends_all f none xs i now all end so_far = sym (append-nil now) ∙ ap (λ l. now ++ l) (sym none) ∙ ap (λ l. now ++ f l) (sym (drop_all i xs end)) ∙ so_far

-- the requests to those who are late
pub late-first : (t : TxnId) (said : List ℕ) (q : Part) (qs : List Part) →
    prepare_each t (filter (is_late said) (q ∷ qs)) ≡ (if is_late said q then Prepare t q.node q.shifts ∷ [] else []) ++ prepare_each t (filter (is_late said) qs)
late-first t said q qs = go (is_late said q)
  where
    go : (b : Bool) → prepare_each t (if b then q ∷ filter (is_late said) qs else filter (is_late said) qs) ≡ (if b then Prepare t q.node q.shifts ∷ [] else []) ++ prepare_each t (filter (is_late said) qs)
    go true = refl
    go false = refl
