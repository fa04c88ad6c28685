-- The blocks of a manager file, from what is read and back.
use Rattle.std.proofs.Common.{◌≡◌, ◌≢◌, ℕ, zero, suc, ◌+◌, ◌^◌, ◌<◌, ◌≤◌, nat_lt, Bool, true, false, if◌then◌else◌, List, [], ◌∷◌, ◌++◌, length, slice_index, take, drop, Ok, refl, sym, ◌∙◌, ap, subst, arith, append_assoc, append-nil, length-take, length-drop}
use Rattle.std.proofs.lemmas.Bool.{eqb-true, eq-eqb, ltb-true, false≢true}
use Rattle.std.specs.Int.{w32, to_le_bytes}
use Rattle.std.specs.List.{AllByRecursion}
use Rattle.field_codec.specs.Readers.{AreBytes}
use Rattle.field_codec.proofs.Counts.{wide32, AreBytes-cut}
use Rattle.gate_block.specs.Gates.{is_open_at}
use Rattle.gate_block.specs.Blocks.{BehindGate, shut, bad, whole, found_at, size_at, block_at}
use Rattle.gate_block.specs.Log.{then_bodies, then_gate, bodies_from, bodies_of, gate_from, gate_of, HasBlocks, LogsUpTo, first_gate}
use Rattle.gate_block.proofs.Logs.{is_whole, no_blocks, read_more, spelled, whole_fits}
use Rattle.promise_spec.specs.Openings.{ReadEntry, no_more}

-- ---- blocks

whole_is : (a b : List ℕ) → whole a ≡ whole b → a ≡ b
whole_is a b e = cc

-- what a whole block tells of the tests by which it is found
opens : (b c : Bool) (text body : List ℕ) → (if b then (if c then whole text else bad) else shut) ≡ whole body → (b ≡ true) × (c ≡ true) × (text ≡ body)
opens true true text body e = (refl, refl, whole_is text body e)
opens true false text body e = absurd cc
opens false c text body e = absurd cc

-- what a closed gate tells of them
closes : (b c : Bool) (text : List ℕ) → (if b then (if c then whole text else bad) else shut) ≡ shut → b ≡ false
closes true true text e = absurd cc
closes true false text e = absurd cc
closes false c text e = refl

-- a gate behind which nothing counts is closed
pub shut_closed : (gate : ℕ) (file : List ℕ) → found_at gate file ≡ shut → slice_index file gate ≢ 1
shut_closed gate file found is =
    let no : is_open_at gate file ≡ false = closes (is_open_at gate file) (nat_lt (gate + 5 + size_at gate file) (length file)) (take (size_at gate file) (drop (gate + 5) file)) found in
    false≢true (sym no ∙ eq-eqb (slice_index file gate) 1 is)

module _ (file : List ℕ) (are : AreBytes file) where
  -- a whole block stands in the file as it is spelled
  found_spelled : (gate : ℕ) (body : List ℕ) → found_at gate file ≡ whole body → (take (5 + length body) (drop gate file) ≡ block_at body) × (length body < 2 ^ 32) × AreBytes body
  found_spelled gate body found =
      let size : ℕ = size_at gate file in
      let four : List ℕ = take 4 (drop (gate + 1) file) in
      let t = opens (is_open_at gate file) (nat_lt (gate + 5 + size) (length file)) (take size (drop (gate + 5) file)) body found in
      let first : slice_index file gate ≡ 1 = eqb-true (slice_index file gate) 1 t.0 in
      let within : gate + 5 + size < length file = ltb-true (gate + 5 + size) (length file) t.1 in
      let long : length (take size (drop (gate + 5) file)) ≡ size = omega (arith, within, length-take size (drop (gate + 5) file), length-drop (gate + 5) file) in
      let same : length body ≡ size = sym (ap length t.2) ∙ long in
      let field : length four ≡ 4 = omega (arith, within, length-take 4 (drop (gate + 1) file), length-drop (gate + 1) file) in
      let bytes : AreBytes four = AreBytes-cut 4 (gate + 1) file are in
      let number : four ≡ to_le_bytes w32 (length body) = sym (wide32.back four field bytes) ∙ ap (to_le_bytes w32) (sym same) in
      let is : body ≡ take (length body) (drop (gate + 5) file) = sym t.2 ∙ ap (λ (n : ℕ). take n (drop (gate + 5) file)) (sym same) in
      let low : size < 2 ^ 32 = wide32.below four bytes in
      (spelled gate body file (omega (arith, within, same)) first number is, omega (arith, low, same), subst AreBytes t.2 (AreBytes-cut size (gate + 5) file are))

  -- open blocks before a gate, and those that are found behind it
  more_by : (most gate : ℕ) (before : List (List ℕ)) → HasBlocks before gate file
      → ((next : ℕ) (front : List (List ℕ)) → HasBlocks front next file → HasBlocks (front ++ bodies_from most next file) (gate_from most next file) file)
      → (found : BehindGate) → found_at gate file ≡ found
      → HasBlocks (before ++ then_bodies (λ size. bodies_from most (gate + 5 + size) file) found) (then_gate gate (λ size. gate_from most (gate + 5 + size) file) found) file
  more_by most gate before has on shut is = subst (λ (l : List (List ℕ)). HasBlocks l gate file) (sym (append-nil before)) has
  more_by most gate before has on bad is = subst (λ (l : List (List ℕ)). HasBlocks l gate file) (sym (append-nil before)) has
  more_by most gate before has on (whole body) is =
      let t = found_spelled gate body is in
      let one = read_more before gate body file has is t.0 t.1 in
      subst (λ (l : List (List ℕ)). HasBlocks l (gate_from most (gate + 5 + length body) file) file) (append_assoc before (body ∷ []) (bodies_from most (gate + 5 + length body) file))
      (on (gate + 5 + length body) (before ++ body ∷ []) one)

  more : (most gate : ℕ) (before : List (List ℕ)) → HasBlocks before gate file → HasBlocks (before ++ bodies_from most gate file) (gate_from most gate file) file
  more zero gate before has = subst (λ (l : List (List ℕ)). HasBlocks l gate file) (sym (append-nil before)) has
  more (suc most) gate before has = more_by most gate before has (λ next front there. more most next front there) (found_at gate file) refl

  bytes_by : (most gate : ℕ) → ((next : ℕ) → AllByRecursion AreBytes (bodies_from most next file)) → (found : BehindGate) → found_at gate file ≡ found
      → AllByRecursion AreBytes (then_bodies (λ size. bodies_from most (gate + 5 + size) file) found)
  bytes_by most gate on shut is = tt
  bytes_by most gate on bad is = tt
  bytes_by most gate on (whole body) is = ((found_spelled gate body is).2, on (gate + 5 + length body))

  -- the bodies of a file of bytes are bytes
  pub bodies_bytes : (most gate : ℕ) → AllByRecursion AreBytes (bodies_from most gate file)
  bodies_bytes zero gate = tt
  bodies_bytes (suc most) gate = bytes_by most gate (λ next. bodies_bytes most next) (found_at gate file) refl

  -- where the log of a file ends at a closed gate, its bodies are a log by the relation too
  pub is_logged : first_gate < length file → found_at (gate_of file) file ≡ shut → LogsUpTo (bodies_of file) (gate_of file) file
  is_logged long found = record { blocks = more (length file) 15 [] (no_blocks file long); closed = shut_closed (gate_of file) file found }

module _ (file : List ℕ) where
  stop_by : (gate : ℕ) → length file ≤ gate → (found : BehindGate) → found_at gate file ≡ found → is_whole found ≡ false
  stop_by gate past shut is = refl
  stop_by gate past bad is = refl
  stop_by gate past (whole body) is = absurd (omega (arith, past, whole_fits gate body file is))

  ends_by : (most gate : ℕ) → length file ≤ gate + suc most → ((next : ℕ) → length file ≤ next + most → is_whole (found_at (gate_from most next file) file) ≡ false)
      → (found : BehindGate) → found_at gate file ≡ found → is_whole (found_at (then_gate gate (λ size. gate_from most (gate + 5 + size) file) found) file) ≡ false
  ends_by most gate past on shut is = ap is_whole is
  ends_by most gate past on bad is = ap is_whole is
  ends_by most gate past on (whole body) is = on (gate + 5 + length body) (omega (arith, past))

  -- no whole block stands behind the gate at which a log ends
  ends : (most gate : ℕ) → length file ≤ gate + most → is_whole (found_at (gate_from most gate file) file) ≡ false
  ends zero gate past = stop_by gate (omega (arith, past)) (found_at gate file) refl
  ends (suc most) gate past = ends_by most gate past (λ next on. ends most next on) (found_at gate file) refl

  pub no_whole : is_whole (found_at (gate_of file) file) ≡ false
  no_whole = ends (length file) 15 (omega arith)

-- what ends a log whose last block isn't damaged
pub ended : (gate : ℕ) (found : BehindGate) (last : List ReadEntry) → is_whole found ≡ false → no_more gate found ≡ Ok last → (found ≡ shut) × (last ≡ [])
ended gate shut last stop e = (refl, cc)
ended gate bad last stop e = absurd cc
ended gate (whole body) last stop e = absurd (false≢true (sym stop))
