-- Bytes that stand in a buffer.
use Rattle.std.proofs.Common.{◌≡◌, ℕ, ◌+◌, ◌-◌, ◌*◌, ◌<◌, ◌≤◌, List, ◌++◌, length, take, drop, zero, suc, refl, sym, ap, ◌∙◌, arith, drop-drop}
use Rattle.std.proofs.Math.Seq.{take-add}
use Rattle.std.proofs.lemmas.List.{drop-take, take-append-drop, length-take, length-drop}

-- what stands behind a place, up to where it was pulled, is cut off all that was pulled
left_is : (xs : List ℕ) (end filled : ℕ) → end ≤ filled → take (filled - end) (drop end xs) ≡ drop end (take filled xs)
left_is xs end filled order =
    let e : end + (filled - end) ≡ filled = omega (arith, order) in
    sym (drop-take end (filled - end) xs) ∙ ap (λ (n : ℕ). drop end (take n xs)) e

-- what is written behind leaves it
pub left_stays : (xs ys : List ℕ) (end filled : ℕ) → end ≤ filled → take filled ys ≡ take filled xs → take (filled - end) (drop end ys) ≡ take (filled - end) (drop end xs)
left_stays xs ys end filled order same = left_is ys end filled order ∙ ap (drop end) same ∙ sym (left_is xs end filled order)

-- what is pulled behind is more of it
pub left_grows : (xs ys : List ℕ) (end filled n : ℕ) → end ≤ filled → take filled ys ≡ take filled xs
    → take (filled + n - end) (drop end ys) ≡ take (filled - end) (drop end xs) ++ take n (drop filled ys)
left_grows xs ys end filled n order same =
    let e : filled + n - end ≡ (filled - end) + n = omega (arith, order) in
    let k : end + (filled - end) ≡ filled = omega (arith, order) in
    ap (λ (m : ℕ). take m (drop end ys)) e ∙ take-add (filled - end) n (drop end ys)
    ∙ ap (λ (l : List ℕ). l ++ take n (drop (filled - end) (drop end ys))) (left_stays xs ys end filled order same)
    ∙ ap (λ (l : List ℕ). take (filled - end) (drop end xs) ++ take n l) (drop-drop (filled - end) end ys ∙ ap (λ (m : ℕ). drop m ys) k)

-- what was pulled stood next in the input
pub pulled_next : (n : ℕ) (into old new : List ℕ) → take n into ≡ take n old → new ≡ drop n old → old ≡ take n into ++ new
pulled_next n into old new bytes rest =
    sym (take-append-drop n old) ∙ ap (λ (l : List ℕ). l ++ drop n old) (sym bytes) ∙ ap (λ (l : List ℕ). take n into ++ l) (sym rest)

-- what wasn't looked at yet
pub fresh_is : (xs : List ℕ) (start filled seen : ℕ) → seen ≤ filled - start → take (filled - (start + seen)) (drop (start + seen) xs) ≡ drop seen (take (filled - start) (drop start xs))
fresh_is xs start filled seen within =
    let e : filled - (start + seen) ≡ (filled - start) - seen = omega (arith, within) in
    ap (λ (n : ℕ). take n (drop (start + seen) xs)) e ∙ ap (take ((filled - start) - seen)) (sym (drop-drop seen start xs)) ∙ left_is (drop start xs) seen (filled - start) within

-- a byte more was looked at, or a piece was pulled
pub measure_falls : (most seen size old next : ℕ) → size < most → seen ≤ old → old ≡ size → size < next → 2 * (most - size) + (1 - (next - size)) < 2 * (most - seen) + (1 - (old - seen))
measure_falls most seen size old next room within same some =
    let a : 1 - (next - size) ≡ 0 = omega (arith, some) in
    by (old - seen) refl a
  where
    by : (fresh : ℕ) → old - seen ≡ fresh → 1 - (next - size) ≡ 0 → 2 * (most - size) + (1 - (next - size)) < 2 * (most - seen) + (1 - (old - seen))
    by zero e a = omega (arith, e, a, room, within, same)
    by (suc n) e a = omega (arith, e, a, room, within, same)

-- how many bytes are left
pub left_size : (xs : List ℕ) (end filled : ℕ) → end ≤ filled → filled ≤ length xs → length (take (filled - end) (drop end xs)) ≡ filled - end
left_size xs end filled order room =
    let t = length-take (filled - end) (drop end xs) in
    let d = length-drop end xs in
    omega (arith, t, d, order, room)

-- what wasn't looked at yet, of the bytes that are left
pub rest_is : (items buffer : List ℕ) (start end filled seen : ℕ) → items ≡ buffer → end ≡ start → end ≤ filled → filled ≤ length buffer → seen ≤ length (take (filled - end) (drop end buffer))
    → take (filled - (start + seen)) (drop (start + seen) items) ≡ drop seen (take (filled - end) (drop end buffer))
rest_is items buffer start end filled seen same begun order room within =
    let size = left_size buffer end filled order room in
    let most : seen ≤ filled - start = omega (arith, size, within, begun) in
    ap (λ (l : List ℕ). take (filled - (start + seen)) (drop (start + seen) l)) same ∙ fresh_is buffer start filled seen most
    ∙ ap (λ (k : ℕ). drop seen (take (filled - k) (drop k buffer))) (sym begun)
