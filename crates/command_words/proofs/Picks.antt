-- A list of numbers, cut at its commas.
use Rattle.std.proofs.Common.{◌≡◌, ◌∙◌, ℕ, zero, suc, ◌+◌, ◌<◌, ◌≤◌, ◌^◌, false, List, [], ◌∷◌, ◌++◌, length, take, map, get_or, Option, Some, None, refl, sym, ap, subst, arith, decimal, inl, inr, add-one}
use Rattle.std.specs.Prelude.{◌==◌, Result, Ok, Err, IfOk, MatchOption}
use Rattle.std.specs.List.{AllByRecursion, All, slice_split, join_with_byte}
use Rattle.std.specs.Str.Parse.{AllDigits}
use Rattle.std.proofs.Math.Seq.{take-suc, take-length}
use Rattle.std.specs.Borrow.{Bor}
use Rattle.std.proofs.lemmas.List.{map-append}
use Rattle.std.proofs.lemmas.Bool.Decides.{eqb_tells}
use Rattle.std.proofs.lemmas.List.Elements.{All-from_recursion}
use Rattle.std.proofs.lemmas.List.Splits.{slice_split_none, slice_split_at, length-slice_split, join_with_byte-slice_split}
use Rattle.std.proofs.lemmas.Fmt.{decimal_is_IsNumeral}
use Rattle.std.proofs.lemmas.Str.Parse.{digit_from_value}
use Rattle.promise_spec.specs.Words.{Turns, IsWithin, list_text}
use Rattle.command_words.specs.Numbers.{AreNumbers}

-- one text and one number more
number_more : (texts : List (List ℕ)) (numbers : List ℕ) (text : List ℕ) (n : ℕ) → AreNumbers texts numbers → text ≡ decimal n → n < 2 ^ 32
    → AreNumbers (texts ++ text ∷ []) (numbers ++ n ∷ [])
number_more [] [] text n are e small = ((e, small), tt)
number_more [] (m ∷ numbers) text n are e small = absurd are
number_more (t ∷ texts) [] text n are e small = absurd are
number_more (t ∷ texts) (m ∷ numbers) text n are e small = (are.0, number_more texts numbers text n are.1 e small)

-- each text is one of a number
number_at : (texts : List (List ℕ)) (numbers : List ℕ) (k : ℕ) (d : List ℕ) → AreNumbers texts numbers → k < length texts
    → (n : ℕ) × (n < 2 ^ 32) × (get_or texts k d ≡ decimal n)
number_at [] numbers k d are lt = absurd (omega (arith, lt))
number_at (t ∷ texts) [] k d are lt = absurd are
number_at (t ∷ texts) (m ∷ numbers) zero d are lt = (m, are.0.1, are.0.0)
number_at (t ∷ texts) (m ∷ numbers) (suc k) d are lt = number_at texts numbers k d are.1 (omega (arith, lt))

same_length : (texts : List (List ℕ)) (numbers : List ℕ) → AreNumbers texts numbers → length texts ≡ length numbers
same_length [] [] are = refl
same_length [] (m ∷ numbers) are = absurd are
same_length (t ∷ texts) [] are = absurd are
same_length (t ∷ texts) (m ∷ numbers) are = ap suc (same_length texts numbers are.1)

all_small : (texts : List (List ℕ)) (numbers : List ℕ) → AreNumbers texts numbers → AllByRecursion (λ (n : ℕ). n < 2 ^ 32) numbers
all_small [] [] are = tt
all_small [] (m ∷ numbers) are = absurd are
all_small (t ∷ texts) [] are = absurd are
all_small (t ∷ texts) (m ∷ numbers) are = (are.0.1, all_small texts numbers are.1)

-- joined by commas they are the list's text
joined : (texts : List (List ℕ)) (numbers : List ℕ) → AreNumbers texts numbers → join_with_byte 44 texts ≡ list_text numbers
joined [] [] are = refl
joined [] (m ∷ numbers) are = absurd are
joined (t ∷ texts) [] are = absurd are
joined (t ∷ []) (m ∷ []) are = are.0.0
joined (t ∷ []) (m ∷ n ∷ numbers) are = absurd are.1
joined (t ∷ u ∷ texts) (m ∷ []) are = absurd are.1
joined (t ∷ u ∷ texts) (m ∷ n ∷ numbers) are =
    let rest : join_with_byte 44 (u ∷ texts) ≡ list_text (n ∷ numbers) = joined (u ∷ texts) (n ∷ numbers) are.1 in
    λ i. are.0.0 i ++ (44 ∷ rest i)

no_commas : (bs : List ℕ) → AllDigits 10 bs → AllByRecursion (λ (b : ℕ). (b == 44) ≡ false) bs
no_commas [] all = tt
no_commas (b ∷ bs) all = elim (eqb_tells b 44) [
  | inl h ↦ absurd (omega (arith, h.1, digit_from_value b all.0))
  | inr h ↦ (h.0, no_commas bs all.1)
]

-- and cut at its commas the list's text is theirs
list_cut : (numbers : List ℕ) → 1 ≤ length numbers → AllByRecursion (λ (n : ℕ). n < 2 ^ 32) numbers → AreNumbers (slice_split (λ (b : ℕ). b == 44) (list_text numbers)) numbers
list_cut [] some small = absurd (omega (arith, some))
list_cut (n ∷ []) some small =
    let digits : All (λ (b : ℕ). (b == 44) ≡ false) (decimal n) = All-from_recursion (λ (b : ℕ). (b == 44) ≡ false) (decimal n) (no_commas (decimal n) (decimal_is_IsNumeral n (omega (arith, small.0))).0.1) in
    subst (λ (l : List (List ℕ)). AreNumbers l (n ∷ [])) (sym (slice_split_none (λ (b : ℕ). b == 44) (decimal n) digits)) ((refl, small.0), tt)
list_cut (n ∷ m ∷ more) some small =
    let digits : All (λ (b : ℕ). (b == 44) ≡ false) (decimal n) = All-from_recursion (λ (b : ℕ). (b == 44) ≡ false) (decimal n) (no_commas (decimal n) (decimal_is_IsNumeral n (omega (arith, small.0))).0.1) in
    let rest = list_cut (m ∷ more) (omega arith) small.1 in
    subst (λ (l : List (List ℕ)). AreNumbers l (n ∷ m ∷ more)) (sym (slice_split_at (λ (b : ℕ). b == 44) (decimal n) 44 (list_text (m ∷ more)) digits refl)) ((refl, small.0), rest)

-- the picks of a text
picks_read : (text : List ℕ) (picks : List ℕ) → AreNumbers (slice_split (λ (b : ℕ). b == 44) text) picks → length (slice_split (λ (b : ℕ). b == 44) text) ≤ 4096
    → IsWithin (Turns picks) × (text ≡ list_text picks)
picks_read text picks are few =
    let same : length (slice_split (λ (b : ℕ). b == 44) text) ≡ length picks = same_length (slice_split (λ (b : ℕ). b == 44) text) picks are in
    let some = length-slice_split (λ (b : ℕ). b == 44) text in (
      (omega (arith, same, some), omega (arith, same, few), all_small (slice_split (λ (b : ℕ). b == 44) text) picks are),
      sym (join_with_byte-slice_split 44 text) ∙ joined (slice_split (λ (b : ℕ). b == 44) text) picks are,
    )

-- ---- texts behind references

abbrev pub now_all : List (Bor (List ℕ)) → List (List ℕ)
now_all texts = map (λ (t : Bor (List ℕ)). t.now) texts

pub next_number : (texts : List (Bor (List ℕ))) (numbers : List ℕ) (k : ℕ) (d : Bor (List ℕ)) (n : ℕ) → k < length texts → AreNumbers (now_all (take k texts)) numbers
    → (get_or texts k d).now ≡ decimal n → n < 2 ^ 32 → AreNumbers (now_all (take (k + 1) texts)) (numbers ++ n ∷ [])
next_number texts numbers k d n lt are e small =
    let more : now_all (take (suc k) texts) ≡ now_all (take k texts) ++ ((get_or texts k d).now ∷ []) =
    ap now_all (take-suc texts k d lt) ∙ map-append (λ (t : Bor (List ℕ)). t.now) (take k texts) (get_or texts k d ∷ []) in
    let one : now_all (take (k + 1) texts) ≡ now_all (take (suc k) texts) = ap (λ (m : ℕ). now_all (take m texts)) (add-one k) in
    subst (λ (l : List (List ℕ)). AreNumbers l (numbers ++ n ∷ [])) (sym (one ∙ more)) (number_more (now_all (take k texts)) numbers (get_or texts k d).now n are e small)

now_at : (texts : List (Bor (List ℕ))) (k : ℕ) (d : Bor (List ℕ)) → k < length texts → get_or (now_all texts) k [] ≡ (get_or texts k d).now
now_at [] k d lt = absurd (omega (arith, lt))
now_at (t ∷ texts) zero d lt = refl
now_at (t ∷ texts) (suc k) d lt = now_at texts k d (omega (arith, lt))

pub now_length : (texts : List (Bor (List ℕ))) → length (now_all texts) ≡ length texts
now_length [] = refl
now_length (t ∷ texts) = ap suc (now_length texts)

pub no_number : (texts : List (Bor (List ℕ))) (k : ℕ) (d : Bor (List ℕ)) → k < length texts → ((n : ℕ) → n < 2 ^ 32 → (get_or texts k d).now ≡ decimal n → ⊥)
    → (numbers : List ℕ) → AreNumbers (now_all texts) numbers → ⊥
no_number texts k d lt none numbers are =
    let at = number_at (now_all texts) numbers k [] are (omega (arith, lt, now_length texts)) in
    none at.0 at.1 (sym (now_at texts k d lt) ∙ at.2)

pub all_numbers : (texts : List (Bor (List ℕ))) (numbers : List ℕ) (k : ℕ) → length texts ≡ k → AreNumbers (now_all (take k texts)) numbers → AreNumbers (now_all texts) numbers
all_numbers texts numbers k e are = subst (λ (l : List (Bor (List ℕ))). AreNumbers (now_all l) numbers) (ap (λ (m : ℕ). take m texts) (sym e) ∙ take-length texts) are

pub too_many : (text : List ℕ) (pieces : List (List ℕ)) → pieces ≡ slice_split (λ (b : ℕ). b == 44) text → 4096 < length pieces
    → (picks : List ℕ) → IsWithin (Turns picks) → text ≡ list_text picks → ⊥
too_many text pieces cut many picks within e =
    let are : AreNumbers (slice_split (λ (b : ℕ). b == 44) (list_text picks)) picks = list_cut picks within.0 within.2 in
    let same = same_length (slice_split (λ (b : ℕ). b == 44) (list_text picks)) picks are in
    let all : length pieces ≡ length picks = ap length (cut ∙ ap (slice_split (λ (b : ℕ). b == 44)) e) ∙ same in
    omega (arith, many, all, within.1)

no_picks : (text : List ℕ) (pieces : List (List ℕ)) → pieces ≡ slice_split (λ (b : ℕ). b == 44) text → ((numbers : List ℕ) → AreNumbers pieces numbers → ⊥)
    → (picks : List ℕ) → IsWithin (Turns picks) → text ≡ list_text picks → ⊥
no_picks text pieces cut none picks within e =
    none picks (subst (λ (l : List (List ℕ)). AreNumbers l picks) (sym (cut ∙ ap (slice_split (λ (b : ℕ). b == 44)) e)) (list_cut picks within.0 within.2))

the_picks : (text : List ℕ) (pieces : List (List ℕ)) → pieces ≡ slice_split (λ (b : ℕ). b == 44) text → length pieces ≤ 4096
    → (picks : List ℕ) → AreNumbers pieces picks → IsWithin (Turns picks) × (text ≡ list_text picks)
the_picks text pieces cut few picks are =
    picks_read text picks (subst (λ (l : List (List ℕ)). AreNumbers l picks) cut are) (subst (λ (l : List (List ℕ)). length l ≤ 4096) cut few)

pub picks_in : {V E : Type 0} (items : V → List ℕ) (text : List ℕ) (pieces : List (List ℕ)) (r : Result (Option V) E) → pieces ≡ slice_split (λ (b : ℕ). b == 44) text → length pieces ≤ 4096
    → IfOk r (λ found. MatchOption found ((numbers : List ℕ) → AreNumbers pieces numbers → ⊥) (λ v. AreNumbers pieces (items v)))
    → IfOk r (λ found. MatchOption found ((picks : List ℕ) → IsWithin (Turns picks) → text ≡ list_text picks → ⊥) (λ v. IsWithin (Turns (items v)) × (text ≡ list_text (items v))))
picks_in items text pieces (Err e) cut few h = tt
picks_in items text pieces (Ok None) cut few h = no_picks text pieces cut h
picks_in items text pieces (Ok (Some v)) cut few h = the_picks text pieces cut few (items v) h
