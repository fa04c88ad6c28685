-- The log of a file, from what stands in the file.
use Rattle.std.proofs.Common.{◌≡◌, ◌≢◌, ◌⊎◌, inl, inr, ℕ, zero, suc, ◌+◌, ◌^◌, ◌<◌, ◌≤◌, nat_lt, Bool, true, false, if◌then◌else◌, List, [], ◌∷◌, ◌++◌, length, slice_index, take, drop, refl, sym, ◌∙◌, ap, subst, arith, append_assoc, append-nil, length-append, length-take, length-drop, take-append-drop, get_or-take, get_or-drop}
use Rattle.std.proofs.lemmas.Bool.{cases_Bool, cases_lt, cases_eq, lt-ltb, le-ltb, eqb-true, false≢true}
use Rattle.std.proofs.lemmas.Nat.{from_le_bytes-to_le_bytes_4}
use Rattle.std.proofs.lemmas.List.{take_at, drop_at, drop-drop, drop_more, take-take, drop-append-le, drop-take, get_or_at}
use Rattle.std.specs.Int.{w32, to_le_bytes, from_le_bytes}
use Rattle.host_trait.specs.Disk.{Tears, overlaid}
use Rattle.host_trait.proofs.Crashes.{Tears-overlaid}
use Rattle.gate_block.specs.Gates.{IsClosedAt, is_open_at}
use Rattle.gate_block.specs.Blocks.{BehindGate, shut, bad, whole, found_at, size_at, block_of, block_at}
use Rattle.gate_block.specs.Log.{then_bodies, then_gate, bodies_from, bodies_of, gate_from, gate_of, IsWhole, open_blocks, AreSmall, HasBlocks, LogsUpTo, first_gate}

-- whether a whole block was found
abbrev pub is_whole : BehindGate → Bool
is_whole shut = false
is_whole bad = false
is_whole (whole body) = true

body_in : BehindGate → List ℕ
body_in shut = []
body_in bad = []
body_in (whole body) = body

length-le : (n : ℕ) → length (to_le_bytes w32 n) ≡ 4
length-le n = refl

pub length-block_at : (body : List ℕ) → length (block_at body) ≡ 5 + length body
length-block_at body = omega (arith, length-append (to_le_bytes w32 (length body)) body, length-le (length body))

pub length-block_of : (body : List ℕ) → length (block_of body) ≡ 5 + length body
length-block_of body = omega (arith, length-append (to_le_bytes w32 (length body)) (body ++ 0 ∷ []), length-append body (0 ∷ []), length-le (length body))

-- the byte with which the rest of a file begins
byte_at : (at x : ℕ) (rest file : List ℕ) → drop at file ≡ x ∷ rest → slice_index file at ≡ x
byte_at at x rest file split =
    let here : at ≡ at + 0 = omega arith in
    ap (λ (n : ℕ). slice_index file n) here ∙ sym (get_or-drop at file 0 0) ∙ ap (λ (l : List ℕ). slice_index l 0) split

pub closed_shut : (gate : ℕ) (file : List ℕ) → slice_index file gate ≢ 1 → found_at gate file ≡ shut
closed_shut gate file closed = elim (cases_Bool (is_open_at gate file)) [
  | inl is ↦ absurd (closed (eqb-true (slice_index file gate) 1 is))
  | inr other ↦
      ap (λ (b : Bool). if b then (if nat_lt (gate + 5 + size_at gate file) (length file) then whole (take (size_at gate file) (drop (gate + 5) file)) else bad) else shut) other
]

module _ (gate : ℕ) (body after file : List ℕ) (split : drop gate file ≡ block_at body ++ after) where
  behind_gate : drop (gate + 1) file ≡ to_le_bytes w32 (length body) ++ (body ++ after)
  behind_gate =
      sym (drop-drop 1 gate file) ∙ ap (λ (l : List ℕ). drop 1 l) split ∙ append_assoc (to_le_bytes w32 (length body)) body after

  behind_size : drop (gate + 5) file ≡ body ++ after
  behind_size =
      let on : gate + 5 ≡ gate + 1 + 4 = omega arith in
      ap (λ (n : ℕ). drop n file) on ∙ sym (drop-drop 4 (gate + 1) file) ∙ ap (λ (l : List ℕ). drop 4 l) behind_gate
      ∙ drop_at (to_le_bytes w32 (length body)) (body ++ after) 4 (length-le (length body))

  pub next_block : drop (gate + 5 + length body) file ≡ after
  next_block = sym (drop-drop (length body) (gate + 5) file) ∙ ap (λ (l : List ℕ). drop (length body) l) behind_size ∙ drop_at body after (length body) refl

  pub found_block : length body < 2 ^ 32 → 0 < length after → found_at gate file ≡ whole body
  found_block small more =
      let first : slice_index file gate ≡ 1 = byte_at gate 1 _ file split in
      let size : size_at gate file ≡ length body =
      ap (λ (l : List ℕ). from_le_bytes w32 (take 4 l)) behind_gate ∙ ap (λ (l : List ℕ). from_le_bytes w32 l) (take_at (to_le_bytes w32 (length body)) (body ++ after) 4 (length-le (length body)))
      ∙ from_le_bytes-to_le_bytes_4 (length body) small in
      let within : gate + 5 + length body < length file = omega (arith, ap length behind_size, length-drop (gate + 5) file, length-append body after) in
      let is : take (length body) (drop (gate + 5) file) ≡ body = ap (λ (l : List ℕ). take (length body) l) behind_size ∙ take_at body after (length body) refl in
      rw (first, size, lt-ltb (gate + 5 + length body) (length file) within, is)

no_bodies : (behind : ℕ → List (List ℕ)) (found : BehindGate) → is_whole found ≡ false → then_bodies behind found ≡ []
no_bodies behind shut stop = refl
no_bodies behind bad stop = refl
no_bodies behind (whole body) stop = absurd (false≢true (sym stop))

same_gate : (gate : ℕ) (behind : ℕ → ℕ) (found : BehindGate) → is_whole found ≡ false → then_gate gate behind found ≡ gate
same_gate gate behind shut stop = refl
same_gate gate behind bad stop = refl
same_gate gate behind (whole body) stop = absurd (false≢true (sym stop))

-- open blocks, and then a gate behind which no whole block is found
walk : (most : ℕ) (bodies : List (List ℕ)) (gate end : ℕ) (after file : List ℕ) → AreSmall bodies → length bodies ≤ most → drop gate file ≡ open_blocks bodies ++ after → 0 < length after
    → end ≡ gate + length (open_blocks bodies) → is_whole (found_at end file) ≡ false → (bodies_from most gate file ≡ bodies) × (gate_from most gate file ≡ end)
walk zero [] gate end after file small enough split more at stop = (refl, omega (arith, at))
walk (suc most) [] gate end after file small enough split more at stop =
    let here : end ≡ gate = omega (arith, at) in
    let stops : is_whole (found_at gate file) ≡ false = subst (λ (n : ℕ). is_whole (found_at n file) ≡ false) here stop in
    (no_bodies (λ size. bodies_from most (gate + 5 + size) file) (found_at gate file) stops, same_gate gate (λ size. gate_from most (gate + 5 + size) file) (found_at gate file) stops ∙ sym here)
walk zero (body ∷ bodies) gate end after file small enough split more at stop = absurd (omega (arith, enough))
walk (suc most) (body ∷ bodies) gate end after file small enough split more at stop =
    let behind : List ℕ = open_blocks bodies ++ after in
    let here : drop gate file ≡ block_at body ++ behind = split ∙ append_assoc (block_at body) (open_blocks bodies) after in
    let found : found_at gate file ≡ whole body = found_block gate body behind file here small.0 (omega (arith, more, length-append (open_blocks bodies) after)) in
    let on : end ≡ gate + 5 + length body + length (open_blocks bodies) = omega (arith, at, length-append (block_at body) (open_blocks bodies), length-block_at body) in
    let later = walk most bodies (gate + 5 + length body) end after file small.1 (omega (arith, enough)) (next_block gate body behind file here) more on stop in (
      ap (λ (f : BehindGate). then_bodies (λ size. bodies_from most (gate + 5 + size) file) f) found ∙ ap (λ (l : List (List ℕ)). body ∷ l) later.0,
      ap (λ (f : BehindGate). then_gate gate (λ size. gate_from most (gate + 5 + size) file) f) found ∙ later.1,
    )

-- each block has bytes
fewer : (bodies : List (List ℕ)) → length bodies ≤ length (open_blocks bodies)
fewer [] = omega arith
fewer (body ∷ bodies) = omega (arith, fewer bodies, length-append (block_at body) (open_blocks bodies), length-block_at body)

-- the rest of a file behind its header, split at a gate
split_at : (bodies : List (List ℕ)) (gate : ℕ) (file : List ℕ) → HasBlocks bodies gate file → drop first_gate file ≡ open_blocks bodies ++ drop gate file
split_at bodies gate file has =
    ap (λ (l : List ℕ). drop 15 l) (sym (take-append-drop gate file))
    ∙ drop-append-le 15 (take gate file) (drop gate file) (omega (arith, length-take gate file, has.at, has.within)) ∙ ap (λ (l : List ℕ). l ++ drop gate file) has.blocks

-- the log ends where no whole block is found
pub walked : (bodies : List (List ℕ)) (gate : ℕ) (file : List ℕ) → HasBlocks bodies gate file → is_whole (found_at gate file) ≡ false → (bodies_of file ≡ bodies) × (gate_of file ≡ gate)
walked bodies gate file has stop =
    walk (length file) bodies 15 gate (drop gate file) file has.small (omega (arith, fewer bodies, has.at, has.within)) (split_at bodies gate file has) (omega (arith, length-drop gate file, has.within)) has.at stop

-- what is a file's log by the relation, is so by the function, and no open block is damaged
pub logged : (bodies : List (List ℕ)) (gate : ℕ) (file : List ℕ) → LogsUpTo bodies gate file → (bodies_of file ≡ bodies) × (gate_of file ≡ gate) × IsWhole file
logged bodies gate file logs =
    let found = closed_shut gate file logs.closed in
    let both = walked bodies gate file logs.blocks (ap is_whole found) in
    (both.0, both.1, ap (λ (n : ℕ). found_at n file) both.1 ∙ found)

-- a file has one log
pub one_log : (a b : List (List ℕ)) (m n : ℕ) (file : List ℕ) → LogsUpTo a m file → LogsUpTo b n file → (a ≡ b) × (m ≡ n)
one_log a b m n file first second =
    let x = logged a m file first in
    let y = logged b n file second in
    (sym x.0 ∙ y.0, sym x.1 ∙ y.1)

-- a file whose log ends before a damaged block
pub damaged : (bodies : List (List ℕ)) (gate : ℕ) (file : List ℕ) → HasBlocks bodies gate file → found_at gate file ≡ bad → (bodies_of file ≡ bodies) × (gate_of file ≡ gate) × (found_at (gate_of file) file ≡ bad)
damaged bodies gate file has found =
    let both = walked bodies gate file has (ap is_whole found) in
    (both.0, both.1, ap (λ (n : ℕ). found_at n file) both.1 ∙ found)

-- a file of at least 16 bytes has no block before its first gate
pub no_blocks : (file : List ℕ) → first_gate < length file → HasBlocks [] first_gate file
no_blocks file within = record { small = tt; at = refl; within = within; blocks = drop-take 15 0 file }

pub open_blocks-push : (bodies : List (List ℕ)) (body : List ℕ) → open_blocks (bodies ++ body ∷ []) ≡ open_blocks bodies ++ block_at body
open_blocks-push [] body = append-nil (block_at body)
open_blocks-push (b ∷ bodies) body = ap (λ (l : List ℕ). block_at b ++ l) (open_blocks-push bodies body) ∙ sym (append_assoc (block_at b) (open_blocks bodies) (block_at body))

AreSmall-push : (bodies : List (List ℕ)) (body : List ℕ) → AreSmall bodies → length body < 2 ^ 32 → AreSmall (bodies ++ body ∷ [])
AreSmall-push [] body small one = (one, tt)
AreSmall-push (b ∷ bodies) body small one = (small.0, AreSmall-push bodies body small.1 one)

-- one block more
pub blocks_push : (bodies : List (List ℕ)) (gate : ℕ) (body after file : List ℕ) → HasBlocks bodies gate file → length body < 2 ^ 32 → drop gate file ≡ block_at body ++ after → 0 < length after
    → HasBlocks (bodies ++ body ∷ []) (gate + 5 + length body) file
blocks_push bodies gate body after file has small split more =
    let blocks : List ℕ = open_blocks bodies ++ block_at body in
    let size : length blocks ≡ length (open_blocks bodies) + (5 + length body) = omega (arith, length-append (open_blocks bodies) (block_at body), length-block_at body) in
    let at : gate + 5 + length body ≡ 15 + length blocks = omega (arith, has.at, size) in
    let rest : drop 15 file ≡ blocks ++ after =
    split_at bodies gate file has ∙ ap (λ (l : List ℕ). open_blocks bodies ++ l) split ∙ sym (append_assoc (open_blocks bodies) (block_at body) after) in
    record {
      small = AreSmall-push bodies body has.small small;
      at = at ∙ ap (λ (l : List ℕ). 15 + length l) (sym (open_blocks-push bodies body));
      within = omega (arith, ap length rest, length-append blocks after, length-drop 15 file, at, more);
      blocks = ap (λ (n : ℕ). drop 15 (take n file)) at ∙ drop-take 15 (length blocks) file ∙ ap (λ (l : List ℕ). take (length blocks) l) rest ∙ take_at blocks after (length blocks) refl ∙ sym (open_blocks-push bodies body);
    }

-- the body of a whole block lies in the file, and a gate behind it
pub whole_fits : (gate : ℕ) (body file : List ℕ) → found_at gate file ≡ whole body → gate + 5 + length body < length file
unfolding body_in
whole_fits gate body file found = elim (cases_Bool (is_open_at gate file)) [
  | inr other ↦
      absurd (
      false≢true (
      ap is_whole (sym (ap (λ (b : Bool). if b then (if nat_lt (gate + 5 + size_at gate file) (length file) then whole (take (size_at gate file) (drop (gate + 5) file)) else bad) else shut) other) ∙ found)
      )
      )
  | inl is ↦
      let opens : found_at gate file ≡ (if nat_lt (gate + 5 + size_at gate file) (length file) then whole (take (size_at gate file) (drop (gate + 5) file)) else bad) =
      ap (λ (b : Bool). if b then (if nat_lt (gate + 5 + size_at gate file) (length file) then whole (take (size_at gate file) (drop (gate + 5) file)) else bad) else shut) is in
      elim (cases_lt (gate + 5 + size_at gate file) (length file)) [
        | inl fits ↦
            let there : found_at gate file ≡ whole (take (size_at gate file) (drop (gate + 5) file)) =
            opens ∙ ap (λ (b : Bool). if b then whole (take (size_at gate file) (drop (gate + 5) file)) else bad) (lt-ltb (gate + 5 + size_at gate file) (length file) fits) in
            let same : take (size_at gate file) (drop (gate + 5) file) ≡ body = ap body_in (sym there ∙ found) in
            omega (arith, fits, ap length same, length-take (size_at gate file) (drop (gate + 5) file), length-drop (gate + 5) file)
        | inr past ↦
            absurd (
            false≢true (
            ap is_whole (
            sym (opens ∙ ap (λ (b : Bool). if b then whole (take (size_at gate file) (drop (gate + 5) file)) else bad) (le-ltb (gate + 5 + size_at gate file) (length file) past))
            ∙ found
            )
            )
            )
      ]
]

-- a block that was read
pub read_more : (bodies : List (List ℕ)) (gate : ℕ) (body file : List ℕ) → HasBlocks bodies gate file → found_at gate file ≡ whole body → take (5 + length body) (drop gate file) ≡ block_at body → length body < 2 ^ 32
    → HasBlocks (bodies ++ body ∷ []) (gate + 5 + length body) file
read_more bodies gate body file has found spelled small =
    let after : List ℕ = drop (5 + length body) (drop gate file) in
    let split : drop gate file ≡ block_at body ++ after = sym (take-append-drop (5 + length body) (drop gate file)) ∙ ap (λ (l : List ℕ). l ++ after) spelled in
    blocks_push bodies gate body after file has small split (omega (arith, whole_fits gate body file found, length-drop (5 + length body) (drop gate file), length-drop gate file))

-- what was read of a block, field by field, spells it
pub spelled : (gate : ℕ) (body seen : List ℕ) → gate + 5 + length body ≤ length seen → slice_index seen gate ≡ 1 → take 4 (drop (gate + 1) seen) ≡ to_le_bytes w32 (length body) → body ≡ take (length body) (drop (gate + 5) seen)
    → take (5 + length body) (drop gate seen) ≡ block_at body
spelled gate body seen long first size is =
    let on : gate + 1 + 4 ≡ gate + 5 = omega arith in
    let rest : List ℕ = drop (length body) (drop (gate + 5) seen) in
    let behind : drop (gate + 5) seen ≡ body ++ rest = sym (take-append-drop (length body) (drop (gate + 5) seen)) ∙ ap (λ (l : List ℕ). l ++ rest) (sym is) in
    let field : drop (gate + 1) seen ≡ to_le_bytes w32 (length body) ++ (body ++ rest) =
    sym (take-append-drop 4 (drop (gate + 1) seen)) ∙ ap (λ (l : List ℕ). l ++ drop 4 (drop (gate + 1) seen)) size
    ∙ ap (λ (l : List ℕ). to_le_bytes w32 (length body) ++ l) (drop-drop 4 (gate + 1) seen ∙ ap (λ (n : ℕ). drop n seen) on ∙ behind) in
    let all : drop gate seen ≡ block_at body ++ rest =
    drop_more seen gate 0 (omega (arith, long)) ∙ ap (λ (x : ℕ). x ∷ drop (gate + 1) seen) first
    ∙ ap (λ (l : List ℕ). 1 ∷ l) (field ∙ sym (append_assoc (to_le_bytes w32 (length body)) body rest)) in
    ap (λ (l : List ℕ). take (5 + length body) l) all ∙ take_at (block_at body) rest (5 + length body) (length-block_at body)

-- the front up to a gate makes the blocks before it
pub blocks_same : (bodies : List (List ℕ)) (gate : ℕ) (d c : List ℕ) → HasBlocks bodies gate d → gate < length c → take gate c ≡ take gate d → HasBlocks bodies gate c
blocks_same bodies gate d c has within same = record { small = has.small; at = has.at; within = within; blocks = ap (λ (l : List ℕ). drop 15 l) same ∙ has.blocks }

-- what stands behind a closed gate doesn't count
pub front_counts : (bodies : List (List ℕ)) (gate : ℕ) (d c : List ℕ) → LogsUpTo bodies gate d → take (gate + 1) c ≡ take (gate + 1) d → LogsUpTo bodies gate c
front_counts bodies gate d c logs same =
    let long : gate < length c = omega (arith, logs.blocks.within, ap length same, length-take (gate + 1) c, length-take (gate + 1) d) in
    let low : gate ≤ gate + 1 = omega arith in
    let front : take gate c ≡ take gate d = sym (take-take gate (gate + 1) c low) ∙ ap (λ (l : List ℕ). take gate l) same ∙ take-take gate (gate + 1) d low in
    let here : gate < gate + 1 = omega arith in
    let byte : slice_index c gate ≡ slice_index d gate = sym (get_or-take (gate + 1) c gate 0 here) ∙ ap (λ (l : List ℕ). slice_index l gate) same ∙ get_or-take (gate + 1) d gate 0 here in
    record { blocks = blocks_same bodies gate d c logs.blocks long front; closed = λ is. logs.closed (sym byte ∙ is) }

-- a gate that a write behind it leaves closed
pub still_closed : (gate n : ℕ) (d c : List ℕ) → IsClosedAt gate d → Tears (gate + 1) n d c → IsClosedAt gate c
still_closed gate n d c closed tears =
    let here : gate < gate + 1 = omega arith in
    let byte : slice_index c gate ≡ slice_index d gate = sym (get_or-take (gate + 1) c gate 0 here) ∙ ap (λ (l : List ℕ). slice_index l gate) tears.before ∙ get_or-take (gate + 1) d gate 0 here in
    (omega (arith, closed.0, tears.no_shorter), λ is. closed.1 (sym byte ∙ is))

module _ (bodies : List (List ℕ)) (gate : ℕ) (d body : List ℕ) (logs : LogsUpTo bodies gate d) (small : length body < 2 ^ 32) where
  -- the file with the block behind its closed gate
  abbrev pub staged : List ℕ
  staged = overlaid d (gate + 1) (block_of body)

  tail : List ℕ
  tail = drop (gate + 1 + length (block_of body)) d

  length-front : length (take (gate + 1) d) ≡ gate + 1
  length-front = omega (arith, length-take (gate + 1) d, logs.blocks.within)

  front : take (gate + 1) staged ≡ take (gate + 1) d
  unfolding tail
  front = ap (λ (l : List ℕ). take (gate + 1) l) (append_assoc (take (gate + 1) d) (block_of body) tail) ∙ take_at (take (gate + 1) d) (block_of body ++ tail) (gate + 1) length-front

  back : drop (gate + 1) staged ≡ block_of body ++ tail
  unfolding tail
  back = ap (λ (l : List ℕ). drop (gate + 1) l) (append_assoc (take (gate + 1) d) (block_of body) tail) ∙ drop_at (take (gate + 1) d) (block_of body ++ tail) (gate + 1) length-front

  regroup : 1 ∷ (block_of body ++ tail) ≡ block_at body ++ 0 ∷ tail
  regroup =
      ap (λ (l : List ℕ). 1 ∷ l) (
      append_assoc (to_le_bytes w32 (length body)) (body ++ 0 ∷ []) tail
      ∙ ap (λ (l : List ℕ). to_le_bytes w32 (length body) ++ l) (append_assoc body (0 ∷ []) tail) ∙ sym (append_assoc (to_le_bytes w32 (length body)) body (0 ∷ tail))
      )

  long : gate < length staged
  long = omega (arith, ap length front, length-front, length-take (gate + 1) staged)

  -- any byte in the gate's place leaves the blocks before it
  before : (c : List ℕ) → Tears gate 1 staged c → HasBlocks bodies gate c
  before c tears =
      let low : gate ≤ gate + 1 = omega arith in
      blocks_same bodies gate d c logs.blocks (omega (arith, long, tears.no_shorter))
      (tears.before ∙ sym (take-take gate (gate + 1) staged low) ∙ ap (λ (l : List ℕ). take gate l) front ∙ take-take gate (gate + 1) d low)

  -- and where it is open, the block counts
  pub torn_open : (c : List ℕ) → Tears gate 1 staged c → slice_index c gate ≡ 1 → LogsUpTo (bodies ++ body ∷ []) (gate + length (block_of body)) c
  torn_open c tears is =
      let has = before c tears in
      let split : drop gate c ≡ block_at body ++ 0 ∷ tail =
      drop_more c gate 0 has.within ∙ ap (λ (x : ℕ). x ∷ drop (gate + 1) c) is ∙ ap (λ (l : List ℕ). 1 ∷ l) (tears.after ∙ back) ∙ regroup in
      let at : gate + 5 + length body ≡ gate + length (block_of body) = omega (arith, length-block_of body) in
      let byte : slice_index c (gate + 5 + length body) ≡ 0 = byte_at (gate + 5 + length body) 0 tail c (next_block gate body (0 ∷ tail) c split) in
      subst (λ (n : ℕ). LogsUpTo (bodies ++ body ∷ []) n c) at (record {
        blocks = blocks_push bodies gate body (0 ∷ tail) c has small split (omega arith);
        closed = λ one. let wrong : 0 ≡ 1 = sym byte ∙ one in omega (arith, wrong);
      })

  -- A torn gate: the block behind it counts whole or not at all.
  pub torn_gate : (c : List ℕ) → Tears gate 1 staged c → LogsUpTo bodies gate c ⊎ LogsUpTo (bodies ++ body ∷ []) (gate + length (block_of body)) c
  torn_gate c tears = elim (cases_eq (slice_index c gate) 1) [
    | inl is ↦ inr (torn_open c tears is)
    | inr closed ↦ inl (record { blocks = before c tears; closed = closed })
  ]

  -- the gate is open, and behind the block the next one is closed
  pub opened_gate : LogsUpTo (bodies ++ body ∷ []) (gate + length (block_of body)) (overlaid staged gate (1 ∷ []))
  opened_gate =
      let low : gate ≤ length staged = omega (arith, long) in
      let size : length (take gate staged) ≡ gate = omega (arith, length-take gate staged, long) in
      torn_open (overlaid staged gate (1 ∷ [])) (Tears-overlaid gate (1 ∷ []) staged low)
      (ap (λ (l : List ℕ). slice_index l gate) (append_assoc (take gate staged) (1 ∷ []) (drop (gate + 1) staged)) ∙ get_or_at (take gate staged) 1 (drop (gate + 1) staged) 0 gate size)

-- what is written as a log: the open blocks of these bodies from byte 15 on, and a closed gate behind them
module _ (bodies : List (List ℕ)) (rest file : List ℕ) (small : AreSmall bodies) (written : drop first_gate file ≡ open_blocks bodies ++ 0 ∷ rest) where
  written_within : first_gate + length (open_blocks bodies) < length file
  written_within = omega (arith, ap length written, length-drop 15 file, length-append (open_blocks bodies) (0 ∷ rest))

  written_closed : slice_index file (first_gate + length (open_blocks bodies)) ≢ 1
  written_closed one =
      let size : ℕ = length (open_blocks bodies) in
      let byte : slice_index (drop 15 file) size ≡ 0 = ap (λ (l : List ℕ). slice_index l size) written ∙ get_or_at (open_blocks bodies) 0 rest 0 size refl in
      let wrong : 0 ≡ 1 = sym byte ∙ get_or-drop 15 file size 0 ∙ one in
      omega (arith, wrong)

  pub written_logs : LogsUpTo bodies (first_gate + length (open_blocks bodies)) file
  written_logs = record {
    blocks = record {
      small = small;
      at = refl;
      within = written_within;
      blocks = drop-take 15 (length (open_blocks bodies)) file ∙ ap (λ (l : List ℕ). take (length (open_blocks bodies)) l) written ∙ take_at (open_blocks bodies) (0 ∷ rest) (length (open_blocks bodies)) refl;
    };
    closed = written_closed;
  }

  pub written_read : (bodies_of file ≡ bodies) × (gate_of file ≡ first_gate + length (open_blocks bodies)) × IsWhole file
  written_read = logged bodies (first_gate + length (open_blocks bodies)) file written_logs

pub open_blocks-append : (front more : List (List ℕ)) → open_blocks (front ++ more) ≡ open_blocks front ++ open_blocks more
open_blocks-append [] more = refl
open_blocks-append (b ∷ front) more = ap (λ (l : List ℕ). block_at b ++ l) (open_blocks-append front more) ∙ sym (append_assoc (block_at b) (open_blocks front) (open_blocks more))

-- what stands behind the first of the blocks before a gate
pub behind_front : (front more : List (List ℕ)) (gate : ℕ) (file : List ℕ) → HasBlocks (front ++ more) gate file → drop (first_gate + length (open_blocks front)) file ≡ open_blocks more ++ drop gate file
behind_front front more gate file has =
    let after : List ℕ = open_blocks more ++ drop gate file in
    let split : drop 15 file ≡ open_blocks front ++ after =
    split_at (front ++ more) gate file has ∙ ap (λ (l : List ℕ). l ++ drop gate file) (open_blocks-append front more) ∙ append_assoc (open_blocks front) (open_blocks more) (drop gate file) in
    sym (drop-drop (length (open_blocks front)) 15 file) ∙ ap (λ (l : List ℕ). drop (length (open_blocks front)) l) split ∙ drop_at (open_blocks front) after (length (open_blocks front)) refl
