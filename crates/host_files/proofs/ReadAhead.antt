-- What a window gives is what the file has there.
use Rattle.std.proofs.Common.{◌≡◌, ◌⊎◌, inl, inr, ℕ, zero, suc, ◌+◌, ◌-◌, min, ◌<◌, ◌≤◌, List, take, drop, Bool, IsTrue, refl, sym, ◌∙◌, ap, arith}
use Rattle.std.proofs.lemmas.List.{take-take, drop-take, drop-drop}

-- of what two lists have in common at their front each part is in common
part_of : (xs ys : List ℕ) (count skipped n : ℕ) → take count xs ≡ take count ys → skipped + n ≤ count → take n (drop skipped xs) ≡ take n (drop skipped ys)
part_of xs ys count skipped n same within =
    let front : take (skipped + n) xs ≡ take (skipped + n) ys =
    sym (take-take (skipped + n) count xs within) ∙ ap (λ (l : List ℕ). take (skipped + n) l) same ∙ take-take (skipped + n) count ys within in
    sym (drop-take skipped n xs) ∙ ap (λ (l : List ℕ). drop skipped l) front ∙ drop-take skipped n ys

-- the bytes that a window gives
pub given_bytes : (from count skipped n at : ℕ) (bytes file : List ℕ) → take count bytes ≡ take count (drop from file) → skipped ≡ min (at - from) count → from ≤ at → n ≤ count - skipped
    → take n (drop skipped bytes) ≡ take n (drop at file)
given_bytes from count skipped zero at bytes file same is begins low = refl
given_bytes from count skipped (suc n) at bytes file same is begins low =
    let there : from + skipped ≡ at = omega (arith, is, begins, low) in
    part_of bytes (drop from file) count skipped (suc n) same (omega (arith, low))
    ∙ ap (λ (l : List ℕ). take (suc n) l) (drop-drop skipped from file)
    ∙ ap (λ (k : ℕ). take (suc n) (drop k file)) there

-- how many bytes it gives
pub given_count : (is_last : Bool) (from count skipped n at size file : ℕ) → n ≡ min size (count - skipped) → skipped ≡ min (at - from) count → from ≤ at
    → ((at + size ≤ from + count) ⊎ IsTrue is_last) → (0 < count → from + count ≤ file) → (IsTrue is_last → file ≤ from + count) → n ≡ min size (file - at)
given_count is_last from zero skipped n at size file so is begins (inl reach) within end = omega (arith, so, is, begins, reach)
given_count is_last from (suc count) skipped n at size file so is begins (inl reach) within end = omega (arith, so, is, begins, reach, within (omega arith))
given_count is_last from zero skipped n at size file so is begins (inr last) within end = omega (arith, so, is, begins, end last)
given_count is_last from (suc count) skipped n at size file so is begins (inr last) within end = omega (arith, so, is, begins, end last, within (omega arith))
