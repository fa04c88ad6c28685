-- The first element of a list that is meant is written.
use Rattle.std.proofs.Common.{◌≡◌, ℕ, suc, ◌<◌, List, ◌∷◌, ◌++◌, length, take, drop, get_or, sym, ap, ◌∙◌, drop-cons}
use Rattle.std.specs.Prelude.{slice_set}
use Rattle.std.proofs.lemmas.List.{set_split}

-- two reads of one element agree
same_element : {A : Type 0} (xs : List A) (i : ℕ) (x y : A) → i < length xs → x ≡ get_or xs i x → y ≡ get_or xs i y → x ≡ y
same_element {A = A} xs i x y within at_x at_y =
    let heads : get_or xs i x ∷ drop (suc i) xs ≡ get_or xs i y ∷ drop (suc i) xs = sym (drop-cons xs i x within) ∙ drop-cons xs i y within in
    cc

-- a change of the first element that is meant, of those from here on, writes it
pub write_at : {A : Type 0} (change : List A → List A) (written : A → A) (xs all : List A) (i : ℕ) (x y : A) → take i xs ++ change (drop i xs) ≡ change all → i < length xs → x ≡ get_or xs i x → y ≡ get_or xs i y → ((rest : List A) → change (x ∷ rest) ≡ written x ∷ rest) → slice_set xs i (written y) ≡ change all
write_at {A = A} change written xs all i x y before within at_x at_y meant =
    let same : x ≡ y = same_element xs i x y within at_x at_y in
    let rest : List A = drop (suc i) xs in
    let head : change (drop i xs) ≡ written y ∷ rest = ap change (drop-cons xs i x within) ∙ ap (λ (z : A). change (z ∷ rest)) (sym at_x) ∙ meant rest ∙ ap (λ (z : A). written z ∷ rest) same in
    set_split xs i (written y) within ∙ ap (λ (t : List A). take i xs ++ t) (sym head) ∙ before
