-- A piece that another one follows begins with a 1, and no other does.
use Rattle.std.proofs.Common.{◌≡◌, ℕ, Bool, true, false, cond, eqb, ltb, List, [], ◌∷◌, length, slice_index, Option, Result, Ok, Err, refl, sym, ◌∙◌, ap, arith, eqb-true}
use Rattle.std.specs.Int.{w8, from_le_bytes}
use Rattle.std.proofs.lemmas.Bool.{ne_eqb}
use Rattle.base_types.specs.declared.calls.GrainId.{GrainId}
use Rattle.base_types.specs.declared.shapes.Shape.{Shape}
use Rattle.field_codec.specs.declared.formats.Format.{Format}
use Rattle.field_codec.specs.declared.faults.CodecFault.{CodecFault}
use Rattle.field_codec.specs.declared.faults.CodecFault.TheVariants.{Short, BadTag, Trailing}
use Rattle.field_codec.specs.Readers.{and_then, whole, refused, field, choice}
use Rattle.field_codec.proofs.Readers.{then_ok, chosen}
use Rattle.commit_log.specs.declared.records.CheckpointHead.{CheckpointHead}
use Rattle.commit_log.specs.declared.records.CheckpointPiece.{CheckpointPiece}
use Rattle.commit_log.specs.Checkpoints.{flag_at, tested_at, may_be_count, may_be_next, kept_session_at, saved_in, piece_in, piece_body_in}

abbrev flag_or : Bool × ℕ → Result (Bool × ℕ) CodecFault → Bool × ℕ
flag_or d (Ok x) = x
flag_or d (Err fault) = d

abbrev as_flag : Bool → ℕ → Result (Bool × ℕ) CodecFault
as_flag b n = Ok (b, n)

-- a flag behind two tests
by_tests : (none one : Bool) (tag : ℕ) (x : Bool × ℕ) → cond none (as_flag false 1) (cond one (as_flag true 1) (Err (BadTag 0 tag))) ≡ Ok x → (none ≡ true → one ≡ false) → one ≡ x.0
by_tests true one tag x e not = not refl ∙ ap (λ r. (flag_or x r).0) e
by_tests false true tag x e not = ap (λ r. (flag_or x r).0) e
by_tests false false tag x e not = absurd cc

zero_not_one : (tag : ℕ) → eqb tag 0 ≡ true → eqb tag 1 ≡ false
zero_not_one tag is = (let zero : tag ≡ 0 = eqb-true tag 0 is in ne_eqb tag 1 (λ one. omega (arith, zero, one)))

flag_read : (body : List ℕ) (x : Bool × ℕ) → flag_at body 0 ≡ Ok x → eqb (slice_index body 0) 1 ≡ x.0
unfolding flag_at field choice whole refused
flag_read [] x e = absurd cc
flag_read (b ∷ bytes) x e = by_length (ltb (length (b ∷ bytes)) 1) e where
  tag : ℕ
  tag = from_le_bytes w8 (b ∷ [])

  tag_is : tag ≡ b
  tag_is = omega arith

  by_length : (short : Bool) → and_then {A = ℕ × ℕ} (cond short (Err (Short 0)) (Ok (tag, 1)))
      (λ y. cond (eqb y.0 0) (as_flag false y.1) (cond (eqb y.0 1) (as_flag true y.1) (Err (BadTag 0 y.0)))) ≡ Ok x → eqb b 1 ≡ x.0
  by_length true h = absurd cc
  by_length false h = ap (λ (n : ℕ). eqb n 1) (sym tag_is) ∙ by_tests (eqb tag 0) (eqb tag 1) tag x h (zero_not_one tag)

abbrev piece_or : CheckpointPiece × ℕ → Result (CheckpointPiece × ℕ) CodecFault → CheckpointPiece × ℕ
piece_or d (Ok x) = x
piece_or d (Err fault) = d

pub flag_first : (format : Format) (shape : Shape) (first : Option CheckpointHead) (last : Option GrainId) (body : List ℕ) (piece : CheckpointPiece) → piece_body_in format shape first last body ≡ Ok piece
    → eqb (slice_index body 0) 1 ≡ piece.more
unfolding piece_in field whole
flag_first format shape first last body piece e =
    let w = then_ok (piece_in format shape first last body 0) (λ x. cond (eqb x.1 (length body)) (Ok x.0) (Err (Trailing x.1))) piece e in
    let is = chosen (eqb w.0.1 (length body)) w.0.0 (Trailing w.0.1) piece w.2 in
    let a = then_ok (flag_at body 0) _ w.0 w.1 in
    let b = then_ok (tested_at (may_be_count first) body a.0.1) _ w.0 a.2 in
    let c = then_ok (tested_at (may_be_next first) body b.0.1) _ w.0 b.2 in
    let d = then_ok (kept_session_at format first body c.0.1) _ w.0 c.2 in
    let s = then_ok (saved_in shape last body d.0.1) _ w.0 d.2 in
    let more : a.0.0 ≡ w.0.0.more = ap (λ r. (piece_or w.0 r).0.more) s.2 in
    flag_read body a.0 a.1 ∙ more ∙ ap (λ (p : CheckpointPiece). p.more) is.1
