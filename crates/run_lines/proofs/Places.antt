-- Lines by their places.
use Rattle.std.proofs.Common.{◌≡◌, ℕ, zero, suc, ◌+◌, ◌-◌, ◌≤◌, ◌<◌, ◌==◌, List, [], ◌∷◌, length, drop, Some, None, Bool, true, false, refl, sym, ap, ◌∙◌, subst, arith}
use Rattle.std.specs.Prelude.{slice_get, if◌then◌else◌}
use Rattle.std.specs.List.{slice_split}
use Rattle.std.proofs.Math.Seq.{drop-nil}
use Rattle.std.proofs.lemmas.List.{drop-drop}
use Rattle.std.proofs.lemmas.List.Splits.{length-slice_split}
use Rattle.std.proofs.lemmas.List.Sums.{count_by-le-length}
use Rattle.request_wire.specs.Lines.{lines_of, without_empty_last}
use Rattle.script_tree.specs.Programs.{ProgramTree}
use Rattle.run_lines.specs.LineReadings.{line_from_text, lines_from_texts}

-- ---- what is left behind a place

pub drop_one_more : {A : Type 0} (n : ℕ) (xs : List A) (y : A) (ys : List A) → drop n xs ≡ y ∷ ys → drop (n + 1) xs ≡ ys
drop_one_more n xs y ys q = sym (drop-drop 1 n xs) ∙ ap (drop 1) q

pub none_behind_none : {A : Type 0} (n m : ℕ) (xs : List A) → n ≤ m → drop n xs ≡ [] → drop m xs ≡ []
none_behind_none n m xs within q =
    let e : n + (m - n) ≡ m = omega arith in
    subst (λ (k : ℕ). drop k xs ≡ []) e (sym (drop-drop (m - n) n xs) ∙ ap (drop (m - n)) q ∙ drop-nil (m - n))

-- ---- a line by its place

pub line_there : (types : ProgramTree) (n : ℕ) (texts : List (List ℕ)) (place : ℕ) (text : List ℕ) (later : List (List ℕ)) → drop place texts ≡ text ∷ later
    → slice_get (lines_from_texts types n texts) place ≡ Some (line_from_text types (n + place + 1) text)
line_there types n [] place text later q = absurd (apart (sym (drop-nil place) ∙ q))
  where
    apart : [] ≡ text ∷ later → ⊥
    apart e = cc
line_there types n (first ∷ texts) zero text later q =
    let e : n + 1 ≡ n + 0 + 1 = omega arith in
    ap (λ (t : List ℕ). Some (line_from_text types (n + 1) t)) (same first text texts later q) ∙ ap (λ (k : ℕ). Some (line_from_text types k text)) e
  where
    same : (a b : List ℕ) (more others : List (List ℕ)) → a ∷ more ≡ b ∷ others → a ≡ b
    same a b more others e = cc
line_there types n (first ∷ texts) (suc place) text later q =
    let e : n + 1 + place + 1 ≡ n + suc place + 1 = omega arith in
    line_there types (n + 1) texts place text later q ∙ ap (λ (k : ℕ). Some (line_from_text types k text)) e

pub none_there : (types : ProgramTree) (n : ℕ) (texts : List (List ℕ)) (place : ℕ) → drop place texts ≡ [] → slice_get (lines_from_texts types n texts) place ≡ None
none_there types n [] place q = refl
none_there types n (first ∷ texts) zero q = absurd (apart first texts q)
  where
    apart : (a : List ℕ) (more : List (List ℕ)) → a ∷ more ≡ [] → ⊥
    apart a more e = cc
none_there types n (first ∷ texts) (suc place) q = none_there types (n + 1) texts place q

-- ---- how many there are

-- pieces without an empty last one are no more
pieces_are_no_more : (pieces : List (List ℕ)) → length (without_empty_last pieces) ≤ length pieces
pieces_are_no_more [] = omega arith
pieces_are_no_more (piece ∷ []) = by (length piece == 0)
  where
    by : (b : Bool) → length (if b then [] else piece ∷ []) ≤ 1
    by true = omega arith
    by false = omega arith
pieces_are_no_more (piece ∷ next ∷ more) = let h = pieces_are_no_more (next ∷ more) in omega (arith, h)

-- an input has at most one line more than bytes
pub lines_are_few : (input : List ℕ) → length (lines_of input) ≤ length input + 1
lines_are_few input =
    let a = pieces_are_no_more (slice_split (λ b. b == 10) input) in
    let b = length-slice_split (λ (b : ℕ). b == 10) input in
    let c = count_by-le-length (λ (b : ℕ). b == 10) input in
    omega (arith, a, b, c)

pub place_within : {A : Type 0} (xs : List A) (n : ℕ) (y : A) (ys : List A) → drop n xs ≡ y ∷ ys → n < length xs
place_within [] n y ys q = absurd (apart (sym (drop-nil n) ∙ q))
  where
    apart : [] ≡ y ∷ ys → ⊥
    apart e = cc
place_within (x ∷ xs) zero y ys q = omega arith
place_within (x ∷ xs) (suc n) y ys q = let h = place_within xs n y ys q in omega (arith, h)
