-- A body of format 1 is one of format 2 behind a session, and so is a piece of a checkpoint with the session put in.
use Rattle.std.proofs.Common.{◌≡◌, ℕ, ◌≤◌, List, [], ◌∷◌, ◌++◌, length, take, drop, Option, refl, sym, ap, ◌∙◌, append_assoc, arith}
use Rattle.std.specs.Int.{w32, w64, to_le_bytes}
use Rattle.std.specs.List.{flat_map}
use Rattle.std.proofs.lemmas.List.{take_at, drop_at}
use Rattle.base_types.specs.declared.calls.GrainId.{GrainId}
use Rattle.base_types.specs.declared.shapes.Shape.{Shape}
use Rattle.field_codec.specs.declared.formats.Format.TheVariants.{One, Two}
use Rattle.field_codec.specs.declared.units.Numbers.TheVariants.{Logged}
use Rattle.field_codec.specs.Units.{may_be_parent}
use Rattle.field_codec.proofs.FormatGrowth.{each_grows}
use Rattle.commit_log.specs.declared.records.CommitRecord.{CommitRecord}
use Rattle.commit_log.specs.declared.records.CheckpointHead.{CheckpointHead}
use Rattle.commit_log.specs.declared.records.CheckpointPiece.{CheckpointPiece}
use Rattle.commit_log.specs.Spelling.{spelling_of_write}
use Rattle.commit_log.specs.Bodies.{IsRecordIn}
use Rattle.commit_log.specs.Checkpoints.{flag_of, body_of_piece, IsPieceBody}
use Rattle.commit_log.specs.declared.contents.Body.{Body}
use Rattle.commit_log.specs.declared.contents.Body.TheVariants.{Records, Upgrade}
use Rattle.commit_log.specs.Contents.{IsContentIn}
use Rattle.commit_log.specs.Sessions.{spelling_with_session, IsSessionBody}
use Rattle.commit_log.proofs.Lengths.{record_grows}

pub record_in_grows : (shape : Shape) (r : CommitRecord) → IsRecordIn One Logged shape r → IsRecordIn Two Logged shape r
record_in_grows shape r is = record { fits = record_grows r is.fits; units = is.units; call = is.call; writes = is.writes }

pub content_grows : (shape : Shape) (b : Body) → IsContentIn One Logged shape b → IsContentIn Two Logged shape b
content_grows shape (Records records) is = (is.0, each_grows (IsRecordIn One Logged shape) (IsRecordIn Two Logged shape) (record_in_grows shape) records is.1)
content_grows shape (Upgrade text) is = is

pub spelled : (session before : ℕ) (b : Body) → spelling_with_session Two session b ≡ to_le_bytes w64 session ++ spelling_with_session One before b
spelled session before b = refl

pub body : (shape : Shape) (last before session : ℕ) (b : Body) (bytes : List ℕ) → last ≤ 1 → IsSessionBody One Logged shape before session b bytes → IsSessionBody Two Logged shape last session b (to_le_bytes w64 1 ++ bytes)
body shape last before session b bytes le is =
    let one : session ≡ 1 = is.session_fits in
    record {
      session_fits = (omega (arith, one), (omega (arith, le, one), ap (may_be_parent Logged) one));
      content_fits = content_grows shape b is.content_fits;
      spelled = ap (λ (n : ℕ). to_le_bytes w64 n ++ bytes) (sym one) ∙ ap (λ (l : List ℕ). to_le_bytes w64 session ++ l) is.spelled;
    }

-- ---- pieces

-- what stands before the session, and what stands behind it
abbrev piece_front : CheckpointPiece → List ℕ
piece_front p = (flag_of p.more ∷ []) ++ (to_le_bytes w64 p.head.count ++ to_le_bytes w64 p.head.next_unit.0)

abbrev piece_rest : CheckpointPiece → List ℕ
piece_rest p = to_le_bytes w32 (length p.writes) ++ flat_map spelling_of_write p.writes

piece_joined : (p : CheckpointPiece) → body_of_piece One p ≡ piece_front p ++ piece_rest p
piece_joined p = simp append_assoc

piece_with_session : (p : CheckpointPiece) → body_of_piece Two p ≡ piece_front p ++ (to_le_bytes w64 p.head.session ++ piece_rest p)
piece_with_session p = simp append_assoc

pub piece : (shape : Shape) (first : Option CheckpointHead) (last : Option GrainId) (p : CheckpointPiece) (bytes : List ℕ) → IsPieceBody One shape first last p bytes → IsPieceBody Two shape first last p (take 17 bytes ++ (to_le_bytes w64 1 ++ drop 17 bytes))
piece shape first last p bytes is =
    let one : p.head.session ≡ 1 = is.fits.session in
    let joined : bytes ≡ piece_front p ++ piece_rest p = is.spelled ∙ piece_joined p in
    let size : length (piece_front p) ≡ 17 = refl in
    let before : take 17 bytes ≡ piece_front p = ap (take 17) joined ∙ take_at (piece_front p) (piece_rest p) 17 size in
    let behind : drop 17 bytes ≡ piece_rest p = ap (drop 17) joined ∙ drop_at (piece_front p) (piece_rest p) 17 size in
    record {
      fits = record {
        count = is.fits.count;
        next = is.fits.next;
        session = (omega (arith, one), (omega arith, ap (may_be_parent Logged) one));
        same = is.fits.same;
        size = is.fits.size;
        named = is.fits.named;
      };
      spelled = ap (λ (l : List ℕ). l ++ (to_le_bytes w64 1 ++ drop 17 bytes)) before ∙ ap (λ (n : ℕ). piece_front p ++ (to_le_bytes w64 n ++ drop 17 bytes)) (sym one)
          ∙ ap (λ (l : List ℕ). piece_front p ++ (to_le_bytes w64 p.head.session ++ l)) behind ∙ sym (piece_with_session p);
    }
