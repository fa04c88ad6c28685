-- Behind a block that stands, the next gate is closed.
use Rattle.std.proofs.Common.{◌≡◌, ℕ, ◌+◌, ◌<◌, List, [], ◌∷◌, ◌++◌, length, take, drop, slice_index, refl, sym, ◌∙◌, ap, arith, append_assoc, length-append}
use Rattle.std.specs.Int.{w32, to_le_bytes}
use Rattle.std.proofs.lemmas.List.{length-take, length-drop, drop_at, get_or_at, get_or-drop}
use Rattle.host_trait.specs.Disk.{Tears, overlaid}
use Rattle.gate_block.specs.Blocks.{block_of}
use Rattle.gate_block.specs.Gates.{IsClosedAt}

module _ (gate : ℕ) (d body : List ℕ) (long : gate < length d) where
  abbrev staged : List ℕ
  staged = overlaid d (gate + 1) (block_of body)

  abbrev front : List ℕ
  front = to_le_bytes w32 (length body) ++ body

  abbrev tail : List ℕ
  tail = drop (gate + 1 + length (block_of body)) d

  length-block : length (block_of body) ≡ length front + 1
  length-block =
      let zero_one : length (body ++ 0 ∷ []) ≡ length body + 1 = length-append body (0 ∷ []) in
      let all : length (block_of body) ≡ length (to_le_bytes w32 (length body)) + length (body ++ 0 ∷ []) = length-append (to_le_bytes w32 (length body)) (body ++ 0 ∷ []) in
      let part : length front ≡ length (to_le_bytes w32 (length body)) + length body = length-append (to_le_bytes w32 (length body)) body in
      omega (arith, zero_one, all, part)

  regroup : block_of body ++ tail ≡ front ++ (0 ∷ tail)
  regroup =
      append_assoc (to_le_bytes w32 (length body)) (body ++ 0 ∷ []) tail
      ∙ ap (λ (l : List ℕ). to_le_bytes w32 (length body) ++ l) (append_assoc body (0 ∷ []) tail) ∙ sym (append_assoc (to_le_bytes w32 (length body)) body (0 ∷ tail))

  back : drop (gate + 1) staged ≡ front ++ (0 ∷ tail)
  back =
      let size : length (take (gate + 1) d) ≡ gate + 1 = omega (arith, length-take (gate + 1) d, long) in
      ap (λ (l : List ℕ). drop (gate + 1) l) (append_assoc (take (gate + 1) d) (block_of body) tail) ∙ drop_at (take (gate + 1) d) (block_of body ++ tail) (gate + 1) size ∙ regroup

  pub next_closed : (c : List ℕ) → Tears gate 1 staged c → IsClosedAt (gate + length (block_of body)) c
  next_closed c tears =
      let behind : drop (gate + 1) c ≡ front ++ (0 ∷ tail) = tears.after ∙ back in
      let at : gate + 1 + length front ≡ gate + length (block_of body) = omega (arith, length-block) in
      let byte : slice_index c (gate + length (block_of body)) ≡ 0 =
      ap (slice_index c) (sym at) ∙ sym (get_or-drop (gate + 1) c (length front) 0) ∙ ap (λ (l : List ℕ). slice_index l (length front)) behind ∙ get_or_at front 0 tail 0 (length front) refl in
      let size : length (drop (gate + 1) c) ≡ length front + length (0 ∷ tail) = ap length behind ∙ length-append front (0 ∷ tail) in
      let there : gate + length (block_of body) < length c = omega (arith, size, length-block, length-drop (gate + 1) c) in
      (there, λ one. let wrong : 0 ≡ 1 = sym byte ∙ one in omega (arith, wrong))
