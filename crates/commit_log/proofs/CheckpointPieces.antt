-- The laws of a checkpoint's pieces.
use Rattle.std.proofs.Common.{◌≡◌, ℕ, ◌+◌, ◌*◌, ◌<◌, ◌≤◌, ◌^◌, Bool, true, false, eqb, ltb, List, [], ◌∷◌, ◌++◌, length, Option, Some, None, Result, Ok, IfErr, refl, sym, ap, subst, ◌∙◌, append_assoc, append-nil, length-append, arith, eqb-true, eq-eqb}
use Rattle.std.specs.Prelude.{◌&&◌}
use Rattle.std.specs.Int.{w8, w32, w64, to_le_bytes}
use Rattle.std.specs.List.{flat_map}
use Rattle.std.proofs.lemmas.Bool.{eqb-false, ltb-true, lt-ltb}
use Rattle.base_types.specs.declared.calls.GrainId.{GrainId}
use Rattle.base_types.specs.declared.shapes.Shape.{Shape}
use Rattle.field_codec.specs.declared.formats.Format.{Format}
use Rattle.field_codec.specs.declared.formats.Format.TheVariants.{One, Two}
use Rattle.field_codec.specs.declared.units.Numbers.TheVariants.{Logged}
use Rattle.field_codec.specs.declared.faults.CodecFault.{CodecFault}
use Rattle.field_codec.specs.declared.faults.CodecFault.TheVariants.{BadTag, Unknown}
use Rattle.field_codec.specs.Chains.{Chained}
use Rattle.field_codec.specs.Spelling.{spelling_of_session}
use Rattle.field_codec.specs.Units.{SessionFits}
use Rattle.field_codec.specs.Fields.{session_at}
use Rattle.field_codec.specs.Readers.{AreBytes, whole, refused, number_at, count_at}
use Rattle.field_codec.specs.Results.{GivesRead, place_of}
use Rattle.field_codec.proofs.Readers.{Reads, Any, then, done, choose, never, said}
use Rattle.field_codec.proofs.Chains.{chain_reads}
use Rattle.field_codec.proofs.Counts.{wide32, wide64, byte_reads, tested_reads, count_reads}
use Rattle.field_codec.proofs.Things.{session_reads}
use Rattle.field_codec.proofs.Wholes.{whole_takes, whole_again, whole_within}
use Rattle.gate_block.specs.Blocks.{block_at}
use Rattle.commit_log.specs.declared.records.CheckpointHead.{CheckpointHead}
use Rattle.commit_log.specs.declared.records.CheckpointPiece.{CheckpointPiece}
use Rattle.commit_log.specs.declared.records.Written.{Written}
use Rattle.commit_log.specs.Orders.{grain_after}
use Rattle.commit_log.specs.Spelling.{spelling_of_write}
use Rattle.commit_log.specs.Fields.{write_in}
use Rattle.commit_log.specs.Checkpoints.{flag_of, spelling_of_piece, body_of_piece, IsAsFirst, IsSavedIn, IsPieceIn, IsPieceBody, is_as, count_in, next_in, head_session, may_be_count, may_be_next, flag_at, tested_at, kept_session_at, saved_in, piece_in, piece_body_in}
use Rattle.commit_log.proofs.Fields.{write_reads}

-- ---- flags

abbrev Flagged : ℕ → Bool → Type 0
Flagged tag b = Any b × (flag_of b ≡ tag)

is_false : (tag : ℕ) → tag ≡ 0 → (b : Bool) → Flagged tag b → b ≡ false
is_false tag is false known = refl
is_false tag is true known = absurd (let q = known.1 in omega (arith, is, q))

is_true : (tag : ℕ) → tag ≡ 1 → (b : Bool) → Flagged tag b → b ≡ true
is_true tag is true known = refl
is_true tag is false known = absurd (let q = known.1 in omega (arith, is, q))

no_flag : (tag : ℕ) → (tag ≡ 0 → ⊥) → (tag ≡ 1 → ⊥) → (b : Bool) → Flagged tag b → Unit {0} → ⊥
no_flag tag not also false known fits = not (sym known.1)
no_flag tag not also true known fits = also (sym known.1)

flag_small : (b : Bool) → flag_of b < 2 ^ 8
flag_small false = omega arith
flag_small true = omega arith

flag_byte : (b : Bool) → to_le_bytes w8 (flag_of b) ≡ flag_of b ∷ []
flag_byte false = refl
flag_byte true = refl

pub flag_reads : (low : ℕ) → Reads low Any (λ b. flag_of b ∷ []) (λ b. Unit {0}) flag_at
unfolding flag_at
flag_reads low =
    said low Any Any (λ b. to_le_bytes w8 (flag_of b) ++ []) (λ b. flag_of b ∷ []) (λ b. (flag_of b < 2 ^ 8) × Unit {0}) (λ b. Unit {0}) flag_at (λ b p. tt) (λ b p. tt) (λ b p. append-nil (to_le_bytes w8 (flag_of b)) ∙ flag_byte b) (λ b p fits. tt) (λ b p fits. (flag_small b, tt))
    (then flag_of (to_le_bytes w8) (λ n. n < 2 ^ 8) (number_at w8) low Any (λ b. []) (λ b. Unit {0}) _ (byte_reads low) λ tag from.
    choose from (Flagged tag) (λ b. []) (λ b. Unit {0}) (eqb tag 0) _ _
    (λ yes0. let is = eqb-true tag 0 yes0 in done from (Flagged tag) false (tt, sym is) (is_false tag is))
    (λ no0. choose from (Flagged tag) (λ b. []) (λ b. Unit {0}) (eqb tag 1) _ _
    (λ yes1. let is = eqb-true tag 1 yes1 in done from (Flagged tag) true (tt, sym is) (is_true tag is))
    (λ no1. never from (Flagged tag) (λ b. []) (λ b. Unit {0}) (BadTag from tag) (omega arith) (no_flag tag (eqb-false tag 0 no0) (eqb-false tag 1 no1)))))

-- ---- numbers

test_reads : (test : ℕ → Bool) (low : ℕ) → Reads low Any (to_le_bytes w64) (λ n. (n < 2 ^ 64) × (test n ≡ true)) (tested_at test)
unfolding tested_at
test_reads test low = tested_reads w64 (2 ^ 64) wide64 test Unknown (λ from. omega arith) low

both_true : (a b : Bool) → (a && b) ≡ true → (a ≡ true) × (b ≡ true)
both_true true b e = (refl, e)
both_true false b e = absurd cc

true_both : (a b : Bool) → a ≡ true → b ≡ true → (a && b) ≡ true
true_both true b e also = also
true_both false b e also = absurd cc

-- the numbers of the first piece, as the tests and the sentences say them
same_head : (first : Option CheckpointHead) (h : CheckpointHead) → is_as (count_in first) h.count ≡ true → is_as (next_in first) h.next_unit.0 ≡ true → is_as (head_session first) h.session ≡ true → IsAsFirst first h
same_head None h one two three = tt
same_head (Some first) h one two three = λ i. record { count = eqb-true h.count first.count one i; next_unit = record { 0 = eqb-true h.next_unit.0 first.next_unit.0 two i }; session = eqb-true h.session first.session three i }

count_as : (first : Option CheckpointHead) (h : CheckpointHead) → IsAsFirst first h → is_as (count_in first) h.count ≡ true
count_as None h same = refl
count_as (Some first) h same = eq-eqb h.count first.count (ap (λ (x : CheckpointHead). x.count) same)

next_as : (first : Option CheckpointHead) (h : CheckpointHead) → IsAsFirst first h → is_as (next_in first) h.next_unit.0 ≡ true
next_as None h same = refl
next_as (Some first) h same = eq-eqb h.next_unit.0 first.next_unit.0 (ap (λ (x : CheckpointHead). x.next_unit.0) same)

session_as : (first : Option CheckpointHead) (h : CheckpointHead) → IsAsFirst first h → is_as (head_session first) h.session ≡ true
session_as None h same = refl
session_as (Some first) h same = eq-eqb h.session first.session (ap (λ (x : CheckpointHead). x.session) same)

-- ---- sessions

abbrev SessionKept : Format → Option CheckpointHead → ℕ → Type 0
SessionKept format first s = SessionFits format Logged 0 s × (is_as (head_session first) s ≡ true)

kept_session_reads : (format : Format) (first : Option CheckpointHead) (low : ℕ) → Reads low Any (spelling_of_session format) (SessionKept format first) (kept_session_at format first)
unfolding kept_session_at
kept_session_reads format first low =
    let P : ℕ → ℕ → Type 0 = λ n c. Any c × (c ≡ n) in
    let Passes : ℕ → Type 0 = λ c. is_as (head_session first) c ≡ true in
    said low Any Any (λ c. spelling_of_session format c ++ []) (spelling_of_session format) (SessionKept format first) (SessionKept format first) _ (λ c p. tt) (λ c p. tt) (λ c p. append-nil (spelling_of_session format c)) (λ c p fits. fits) (λ c p fits. fits)
    (then (λ (c : ℕ). c) (spelling_of_session format) (SessionFits format Logged 0) (session_at format Logged 0) low Any (λ c. []) Passes _ (session_reads Logged 0 format low) λ n from.
    choose from (P n) (λ c. []) Passes (is_as (head_session first) n) (whole n) (refused (Unknown from))
    (λ passes. said from (P n) (P n) (λ c. []) (λ c. []) (λ c. Unit {0}) Passes (whole n) (λ c p. p) (λ c p. p) (λ c p. refl) (λ c p fits. ap (is_as (head_session first)) p.1 ∙ passes) (λ c p fits. tt)
    (done from (P n) n (tt, refl) (λ d known. known.1)))
    (λ fails. never from (P n) (λ c. []) Passes (Unknown from) (omega arith) (λ c known is. let clash : true ≡ false = sym is ∙ ap (is_as (head_session first)) known.1 ∙ fails in cc)))

-- ---- pieces

abbrev SavedFit : Shape → Option GrainId → List Written → Type 0
SavedFit shape last writes = (length writes ≤ 65536) × Chained (IsSavedIn shape) grain_after last writes

saved_reads : (shape : Shape) (last : Option GrainId) (low : ℕ) → Reads low Any (λ ws. to_le_bytes w32 (length ws) ++ flat_map spelling_of_write ws) (SavedFit shape last) (saved_in shape last)
unfolding saved_in
saved_reads shape last low =
    then (λ (ws : List Written). length ws) (to_le_bytes w32) (λ n. n ≤ 65536) (count_at w32 65536) low Any (flat_map spelling_of_write) (Chained (IsSavedIn shape) grain_after last) _ (count_reads w32 (2 ^ 32) 65536 wide32 (omega arith) low) λ n from.
    chain_reads spelling_of_write (IsSavedIn shape) (write_in shape) grain_after (write_reads shape) from last n

module _ (format : Format) (shape : Shape) (first : Option CheckpointHead) (last : Option GrainId) where
  abbrev FieldsFit : CheckpointPiece → Type 0
  FieldsFit p = Unit {0} × (((p.head.count < 2 ^ 64) × (may_be_count first p.head.count ≡ true)) × (((p.head.next_unit.0 < 2 ^ 64) × (may_be_next first p.head.next_unit.0 ≡ true)) × (SessionKept format first p.head.session × (SavedFit shape last p.writes × Unit {0}))))

  piece_into : (p : CheckpointPiece) → FieldsFit p → IsPieceIn format shape first last p
  piece_into p f =
      let count = both_true (ltb p.head.count 9223372036854775808) (is_as (count_in first) p.head.count) f.1.0.1 in
      let next = both_true (ltb 0 p.head.next_unit.0 && ltb p.head.next_unit.0 9223372036854775809) (is_as (next_in first) p.head.next_unit.0) f.1.1.0.1 in
      let range = both_true (ltb 0 p.head.next_unit.0) (ltb p.head.next_unit.0 9223372036854775809) next.0 in
      let high = ltb-true p.head.next_unit.0 9223372036854775809 range.1 in record {
        count = ltb-true p.head.count 9223372036854775808 count.0;
        next = (ltb-true 0 p.head.next_unit.0 range.0, omega (arith, high));
        session = f.1.1.1.0.0;
        same = same_head first p.head count.1 next.1 f.1.1.1.0.1;
        size = f.1.1.1.1.0.0;
        named = f.1.1.1.1.0.1;
      }

  piece_out : (p : CheckpointPiece) → IsPieceIn format shape first last p → FieldsFit p
  piece_out p is =
      let low = is.count in
      let above = is.next.0 in
      let high = is.next.1 in
      let range = true_both (ltb 0 p.head.next_unit.0) (ltb p.head.next_unit.0 9223372036854775809) (lt-ltb 0 p.head.next_unit.0 above) (lt-ltb p.head.next_unit.0 9223372036854775809 (omega (arith, high))) in (
        tt,
        (
          (omega (arith, low), true_both (ltb p.head.count 9223372036854775808) (is_as (count_in first) p.head.count) (lt-ltb p.head.count 9223372036854775808 low) (count_as first p.head is.same)),
          (
            (omega (arith, high), true_both (ltb 0 p.head.next_unit.0 && ltb p.head.next_unit.0 9223372036854775809) (is_as (next_in first) p.head.next_unit.0) range (next_as first p.head is.same)),
            ((is.session, session_as first p.head is.same), ((is.size, is.named), tt)),
          ),
        ),
      )

  pub piece_reads : (low : ℕ) → Reads low Any (body_of_piece format) (IsPieceIn format shape first last) (piece_in format shape first last)
  unfolding piece_in
  piece_reads low =
      said low Any Any _ (body_of_piece format) FieldsFit (IsPieceIn format shape first last) (piece_in format shape first last) (λ p k. tt) (λ p k. tt) (λ p k. simp append-nil) (λ p k. piece_into p) (λ p k. piece_out p)
      (then (λ (p : CheckpointPiece). p.more) (λ b. flag_of b ∷ []) (λ b. Unit {0}) flag_at low Any _ _ _ (flag_reads low) λ more from0.
      then (λ (p : CheckpointPiece). p.head.count) (to_le_bytes w64) (λ n. (n < 2 ^ 64) × (may_be_count first n ≡ true)) (tested_at (may_be_count first)) from0 _ _ _ _ (test_reads (may_be_count first) from0) λ count from1.
      then (λ (p : CheckpointPiece). p.head.next_unit.0) (to_le_bytes w64) (λ n. (n < 2 ^ 64) × (may_be_next first n ≡ true)) (tested_at (may_be_next first)) from1 _ _ _ _ (test_reads (may_be_next first) from1) λ next from2.
      then (λ (p : CheckpointPiece). p.head.session) (spelling_of_session format) (SessionKept format first) (kept_session_at format first) from2 _ _ _ _ (kept_session_reads format first from2) λ session from3.
      then (λ (p : CheckpointPiece). p.writes) (λ ws. to_le_bytes w32 (length ws) ++ flat_map spelling_of_write ws) (SavedFit shape last) (saved_in shape last) from3 _ _ _ _ (saved_reads shape last from3) λ writes from4.
      done from4 _ (record { more = more; head = record { count = count; next_unit = record { 0 = next }; session = session }; writes = writes }) (((((tt, refl), refl), refl), refl), refl)
      (λ d k i. record { more = k.0.0.0.0.1 i; head = record { count = k.0.0.0.1 i; next_unit = record { 0 = k.0.0.1 i }; session = k.0.1 i }; writes = k.1 i }))

  module _ (body : List ℕ) (result : Result CheckpointPiece CodecFault) (gives : GivesRead result (piece_body_in format shape first last body)) where
    pub found_piece : AreBytes body → (p : CheckpointPiece) → result ≡ Ok p → IsPieceBody format shape first last p body
    found_piece are p is =
        let read : piece_body_in format shape first last body ≡ Ok p = subst (λ (r : Result CheckpointPiece CodecFault). GivesRead r (piece_body_in format shape first last body)) is gives in
        let t = whole_takes (body_of_piece format) (IsPieceIn format shape first last) (piece_in format shape first last) (piece_reads 0) body are p read in
        record { fits = t.0; spelled = t.1 }

    pub only_piece : (p : CheckpointPiece) → IsPieceBody format shape first last p body → GivesRead result (Ok p)
    only_piece p is =
        let read : piece_body_in format shape first last body ≡ Ok p = whole_again (body_of_piece format) (IsPieceIn format shape first last) (piece_in format shape first last) (piece_reads 0) body p is.fits is.spelled in
        subst (λ (r : Result CheckpointPiece CodecFault). GivesRead result r) read gives

    pub within_piece : AreBytes body → IfErr result (λ fault. place_of fault ≤ length body)
    within_piece are = whole_within (body_of_piece format) (IsPieceIn format shape first last) (piece_in format shape first last) (piece_reads 0) body are result gives

-- a piece of a log is read
pub piece_again : (format : Format) (shape : Shape) (first : Option CheckpointHead) (last : Option GrainId) (p : CheckpointPiece) (body : List ℕ) → IsPieceBody format shape first last p body → piece_body_in format shape first last body ≡ Ok p
piece_again format shape first last p body is = whole_again (body_of_piece format) (IsPieceIn format shape first last) (piece_in format shape first last) (piece_reads format shape first last 0) body p is.fits is.spelled

-- and what is read is one
pub piece_taken : (format : Format) (shape : Shape) (first : Option CheckpointHead) (last : Option GrainId) (p : CheckpointPiece) (body : List ℕ) → AreBytes body → piece_body_in format shape first last body ≡ Ok p → IsPieceBody format shape first last p body
piece_taken format shape first last p body are read =
    let t = whole_takes (body_of_piece format) (IsPieceIn format shape first last) (piece_in format shape first last) (piece_reads format shape first last 0) body are p read in
    record { fits = t.0; spelled = t.1 }

-- ---- how long a piece is

write_length : (w : Written) → length (spelling_of_write w) ≡ 18
write_length w = refl

writes_length : (ws : List Written) → length (flat_map spelling_of_write ws) ≡ 18 * length ws
writes_length [] = refl
writes_length (w ∷ ws) = let more = writes_length ws in omega (arith, more, length-append (spelling_of_write w) (flat_map spelling_of_write ws), write_length w)

-- the bytes of a piece beside those of its writes
abbrev pub piece_size : Format → ℕ
piece_size One = 21
piece_size Two = 29

session_length : (format : Format) (session : ℕ) → length (spelling_of_session format session) + 21 ≡ piece_size format
session_length One session = refl
session_length Two session = refl

pub piece_length : (format : Format) (flag count next session : ℕ) (ws : List Written) → length (spelling_of_piece format flag count next session ws) ≡ piece_size format + 18 * length ws
piece_length format flag count next session ws =
    let all = writes_length ws in
    let size = session_length format session in
    omega (arith, all, size, length-append (spelling_of_session format session) (to_le_bytes w32 (length ws) ++ flat_map spelling_of_write ws))

-- an open gate, the length of a piece and the piece
pub piece_block : (flag count next session size : ℕ) (ws : List Written) (block start sized : List ℕ) → start ≡ 1 ∷ [] → sized ≡ start ++ to_le_bytes w32 size → size ≡ 29 + 18 * length ws
    → block ≡ sized ++ spelling_of_piece Two flag count next session ws → block ≡ block_at (spelling_of_piece Two flag count next session ws)
piece_block flag count next session size ws block start sized begins then_size is all =
    let body : List ℕ = spelling_of_piece Two flag count next session ws in
    let len : size ≡ length body = is ∙ sym (piece_length Two flag count next session ws) in
    let front : sized ≡ 1 ∷ to_le_bytes w32 (length body) = then_size ∙ ap (λ (l : List ℕ). l ++ to_le_bytes w32 size) begins ∙ ap (λ (n : ℕ). 1 ∷ to_le_bytes w32 n) len in
    all ∙ ap (λ (l : List ℕ). l ++ body) front

-- what is appended in six parts behind what was
pub six_parts : (old v0 v1 v2 v3 v4 v5 a b c d e f : List ℕ) → v0 ≡ old ++ a → v1 ≡ v0 ++ b → v2 ≡ v1 ++ c → v3 ≡ v2 ++ d → v4 ≡ v3 ++ e → v5 ≡ v4 ++ f
    → v5 ≡ old ++ (a ++ (b ++ (c ++ (d ++ (e ++ f)))))
six_parts old v0 v1 v2 v3 v4 v5 a b c d e f e0 e1 e2 e3 e4 e5 =
    e5 ∙ ap (λ (l : List ℕ). l ++ f) e4 ∙ append_assoc v3 e f ∙ ap (λ (l : List ℕ). l ++ (e ++ f)) e3 ∙ append_assoc v2 d (e ++ f) ∙ ap (λ (l : List ℕ). l ++ (d ++ (e ++ f))) e2
    ∙ append_assoc v1 c (d ++ (e ++ f)) ∙ ap (λ (l : List ℕ). l ++ (c ++ (d ++ (e ++ f)))) e1 ∙ append_assoc v0 b (c ++ (d ++ (e ++ f)))
    ∙ ap (λ (l : List ℕ). l ++ (b ++ (c ++ (d ++ (e ++ f))))) e0 ∙ append_assoc old a (b ++ (c ++ (d ++ (e ++ f))))
