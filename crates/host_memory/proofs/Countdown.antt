-- Counting down the calls that are to fail.
use Rattle.std.proofs.Common.{◌≡◌, ℕ, ◌+◌, ◌<◌, ◌≤◌, min, Bool, true, false, ◌||◌, List, ◌++◌, map, take, drop, length, get_or, refl, sym, ◌∙◌, ap, arith, length-append, length-take, length-drop}
use Rattle.std.proofs.lemmas.List.{drop_more, get_or_at, length-map}
use Rattle.std.proofs.lemmas.List.Folds.{list_any_more}
use Rattle.std.specs.List.{list_any}

or_true : (a : Bool) → true ≡ (a || true)
or_true true = refl
or_true false = refl

or_false : (a : Bool) → a ≡ (a || false)
or_false true = refl
or_false false = refl

pub or_then : (a r due : Bool) → r ≡ true → due ≡ true → due ≡ (a || r)
or_then a r due yes_r is = is ∙ or_true a ∙ ap (λ (b : Bool). a || b) (sym yes_r)

pub or_else : (a r due : Bool) → r ≡ false → due ≡ a → due ≡ (a || r)
or_else a r due no_r is = is ∙ or_false a ∙ ap (λ (b : Bool). a || b) (sym no_r)

-- the element that a loop has reached, where those before it were changed
pub reached : {X : Type 0} (f : X → X) (old now : List X) (i : ℕ) (e : X) → i < length old → now ≡ map f (take i old) ++ drop i old → e ≡ get_or now i e → e ≡ get_or old i e
reached {X} f old now i e low is held =
    held ∙ ap (λ (l : List X). get_or l i e) (is ∙ ap (λ (l : List X). map f (take i old) ++ l) (drop_more old i e low))
    ∙ get_or_at (map f (take i old)) (get_or old i e) (drop (i + 1) old) e i (omega (arith, length-map (take i old) f, length-take i old))

pub due_more : {X : Type 0} (p : X → Bool) (old : List X) (i : ℕ) (e : X) (a b due : Bool) → i < length old → e ≡ get_or old i e → due ≡ (a || b) → a ≡ list_any p (take i old) → b ≡ p e
    → due ≡ list_any p (take (i + 1) old)
due_more p old i e a b due low held is first second =
    is ∙ ap (λ (x : Bool). x || b) first ∙ ap (λ (x : Bool). list_any p (take i old) || x) (second ∙ ap p held) ∙ sym (list_any_more p old i e low)

-- no bytes were moved into a slice that has room, though some may be: none are left
pub pull_end : (n taken most : ℕ) (into copied items : List ℕ) → 1 ≤ most → n ≡ min (min (length into) (length (drop taken items))) most → copied ≡ take n (drop taken items) → n ≡ 0 → 0 < length (copied ++ drop n into) → length items ≤ taken
pull_end n taken most into copied items moves least is none some =
    omega (arith, moves, least, none, some, length-append copied (drop n into), ap length is, length-take n (drop taken items), length-drop n into, length-drop taken items)
