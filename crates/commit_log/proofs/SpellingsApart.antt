-- No spelling of a record, or of what it is made of and stands in, begins another.
use Rattle.std.proofs.Common.{◌≡◌, ℕ, ◌<◌, ◌≤◌, ◌^◌, List, [], ◌∷◌, ◌++◌, length, refl, sym, ap, ◌∙◌, append_assoc, append-nil, arith}
use Rattle.std.specs.Int.{w16, w32, w64, to_le_bytes}
use Rattle.std.specs.List.{flat_map, AllByRecursion}
use Rattle.field_codec.specs.declared.formats.Format.{Format}
use Rattle.field_codec.specs.declared.units.Numbers.TheVariants.{Free}
use Rattle.field_codec.specs.SpellingsApart.{AreApart}
use Rattle.field_codec.specs.Units.{SessionFits}
use Rattle.field_codec.specs.Spelling.{spelling_of_session, spelling_of_origin, spelling_of_call, CallFits, spelling_of_outcome, AnswerFits, ResultFits}
use Rattle.field_codec.specs.Readers.{Reader, whole, field, number_at, list_at}
use Rattle.field_codec.specs.Fields.{session_at, origin_at, call_at, answer_at, result_at}
use Rattle.field_codec.proofs.Readers.{Reads, Any, then, done, said, apart}
use Rattle.field_codec.proofs.Counts.{wide16, wide32, reads16, reads32, reads64, list_reads}
use Rattle.field_codec.proofs.Things.{session_reads, OriginFitsIn, origin_reads, any_parent, call_reads, answer_reads, result_reads}
use Rattle.field_codec.proofs.TextsApart.{counted_apart}
use Rattle.gate_block.specs.Blocks.{block_of}
use Rattle.commit_log.specs.declared.records.Written.{Written}
use Rattle.commit_log.specs.declared.records.CommitRecord.{CommitRecord}
use Rattle.commit_log.specs.declared.records.CheckpointPiece.{CheckpointPiece}
use Rattle.commit_log.specs.Spelling.{spelling_of_write, WriteFits, AnswersFit, spelling_of_record, RecordFits, spelling_of_body, RecordsFit}
use Rattle.commit_log.specs.Fields.{answers_at}
use Rattle.commit_log.specs.Checkpoints.{flag_of, body_of_piece, PieceFits, flag_at}
use Rattle.commit_log.specs.declared.contents.Body.TheVariants.{Records}
use Rattle.commit_log.specs.Sessions.{spelling_with_session}
use Rattle.commit_log.proofs.Lengths.{body_short}
use Rattle.commit_log.proofs.CheckpointPieces.{flag_reads}

-- a write on any grain
abbrev write_at : Reader Written
write_at = field (number_at w16) λ kind p0. field (number_at w32) λ key p1. field (number_at w64) λ offset p2. field (number_at w32) λ len p3.
    whole (record { grain = record { kind = kind; key = key }; place = record { offset = offset; len = len } })

write_reads : (low : ℕ) → Reads low Any spelling_of_write WriteFits write_at
write_reads low =
    said low Any Any _ spelling_of_write _ WriteFits write_at (λ w p. tt) (λ w p. tt) (λ w p. simp (append-nil, append_assoc) refl)
    (λ w p f. record { kind = f.0; key = f.1.0; offset = f.1.1.0; len = f.1.1.1.0 }) (λ w p f. (f.kind, (f.key, (f.offset, (f.len, tt)))))
    (then (λ (w : Written). w.grain.kind) (to_le_bytes w16) (λ n. n < 2 ^ 16) (number_at w16) low Any _ _ _ (reads16 low) λ k from0.
    then (λ (w : Written). w.grain.key) (to_le_bytes w32) (λ n. n < 2 ^ 32) (number_at w32) from0 _ _ _ _ (reads32 from0) λ y from1.
    then (λ (w : Written). w.place.offset) (to_le_bytes w64) (λ n. n < 2 ^ 64) (number_at w64) from1 _ _ _ _ (reads64 from1) λ o from2.
    then (λ (w : Written). w.place.len) (to_le_bytes w32) (λ n. n < 2 ^ 32) (number_at w32) from2 _ _ _ _ (reads32 from2) λ l from3.
    done from3 _ (record { grain = record { kind = k; key = y }; place = record { offset = o; len = l } }) ((((tt, refl), refl), refl), refl)
    (λ d known i. record { grain = record { kind = known.0.0.0.1 i; key = known.0.0.1 i }; place = record { offset = known.0.1 i; len = known.1 i } }))

-- a record of any program, with its writes in any order
abbrev record_at : Format → Reader CommitRecord
record_at format = field (number_at w64) λ unit p0. field (origin_at Free) λ origin p1. field (call_at format) λ call p2. field (answers_at format) λ answers p3. field (result_at format) λ result p4. field (list_at w16 64 write_at) λ writes p5.
    whole (record { unit = record { 0 = unit }; origin = origin; call = call; answers = answers; result = result; writes = writes })

abbrev WritesFitAnywhere : List Written → Type 0
WritesFitAnywhere ws = (length ws ≤ 64) × AllByRecursion WriteFits ws

abbrev FieldsFit : Format → CommitRecord → Type 0
FieldsFit format r = (r.unit.0 < 2 ^ 64) × (OriginFitsIn Free r.origin × (CallFits format r.call × (AnswersFit format r.answers × (ResultFits format r.result × (WritesFitAnywhere r.writes × Unit {0})))))

record_reads : (format : Format) (low : ℕ) → Reads low Any spelling_of_record (FieldsFit format) (record_at format)
record_reads format low =
    said low Any Any _ spelling_of_record (FieldsFit format) (FieldsFit format) (record_at format) (λ r p. tt) (λ r p. tt) (λ r p. simp append-nil) (λ r p f. f) (λ r p f. f)
    (then (λ (r : CommitRecord). r.unit.0) (to_le_bytes w64) (λ n. n < 2 ^ 64) (number_at w64) low Any _ _ _ (reads64 low) λ unit from1.
    then (λ (r : CommitRecord). r.origin) spelling_of_origin (OriginFitsIn Free) (origin_at Free) from1 _ _ _ _ (origin_reads Free from1) λ origin from2.
    then (λ (r : CommitRecord). r.call) spelling_of_call (CallFits format) (call_at format) from2 _ _ _ _ (call_reads format from2) λ call from3.
    then (λ (r : CommitRecord). r.answers) (λ xs. to_le_bytes w16 (length xs) ++ flat_map spelling_of_outcome xs) (AnswersFit format) (answers_at format) from3 _ _ _ _ (list_reads spelling_of_outcome (AnswerFits format) (answer_at format) (answer_reads format) w16 (2 ^ 16) 64 wide16 (omega arith) from3) λ answers from4.
    then (λ (r : CommitRecord). r.result) spelling_of_outcome (ResultFits format) (result_at format) from4 _ _ _ _ (result_reads format from4) λ result from5.
    then (λ (r : CommitRecord). r.writes) (λ ws. to_le_bytes w16 (length ws) ++ flat_map spelling_of_write ws) WritesFitAnywhere (list_at w16 64 write_at) from5 _ _ _ _ (list_reads spelling_of_write WriteFits write_at write_reads w16 (2 ^ 16) 64 wide16 (omega arith) from5) λ writes from6.
    done from6 _ (record { unit = record { 0 = unit }; origin = origin; call = call; answers = answers; result = result; writes = writes }) ((((((tt, refl), refl), refl), refl), refl), refl)
    (λ d p i. record { unit = record { 0 = p.0.0.0.0.0.1 i }; origin = p.0.0.0.0.1 i; call = p.0.0.0.1 i; answers = p.0.0.1 i; result = p.0.1 i; writes = p.1 i }))

fields_fit : (format : Format) (r : CommitRecord) → RecordFits format r → FieldsFit format r
fields_fit format r is = (is.unit, ((is.origin, any_parent r.origin), (is.call, (is.answers, (is.result, ((is.writes.0, is.writes.1.0), tt))))))

all_fields_fit : (format : Format) (rs : List CommitRecord) → AllByRecursion (RecordFits format) rs → AllByRecursion (FieldsFit format) rs
all_fields_fit format [] fits = tt
all_fields_fit format (r ∷ rs) fits = (fields_fit format r fits.0, all_fields_fit format rs fits.1)

pub writes_apart : AreApart spelling_of_write WriteFits
writes_apart = apart spelling_of_write WriteFits write_at (write_reads 0)

pub records_apart : (format : Format) → AreApart spelling_of_record (RecordFits format)
records_apart format a b x y fits also e = apart spelling_of_record (FieldsFit format) (record_at format) (record_reads format 0) a b x y (fields_fit format a fits) (fields_fit format b also) e

pub bodies_apart : (format : Format) → AreApart spelling_of_body (RecordsFit format)
bodies_apart format a b x y fits also e =
    apart spelling_of_body (λ rs. (length rs ≤ 64) × AllByRecursion (FieldsFit format) rs) (list_at w32 64 (record_at format)) (list_reads spelling_of_record (FieldsFit format) (record_at format) (record_reads format) w32 (2 ^ 32) 64 wide32 (omega arith) 0)
    a b x y (fits.0, all_fields_fit format a fits.1) (also.0, all_fields_fit format b also.1) e

-- the records of a body behind its session
abbrev session_records_at : Format → Reader (ℕ × List CommitRecord)
session_records_at format = field (session_at format Free 0) λ session p0. field (list_at w32 64 (record_at format)) λ records p1. whole (session, records)

abbrev session_bytes : Format → ℕ × List CommitRecord → List ℕ
session_bytes format x = spelling_with_session format x.0 (Records x.1)

abbrev RecordsFieldsFit : Format → List CommitRecord → Type 0
RecordsFieldsFit format rs = (length rs ≤ 64) × AllByRecursion (FieldsFit format) rs

session_records_reads : (format : Format) (low : ℕ) → Reads low Any (session_bytes format) (λ x. SessionFits format Free 0 x.0 × RecordsFieldsFit format x.1) (session_records_at format)
session_records_reads format low =
    said low Any Any (λ (x : ℕ × List CommitRecord). spelling_of_session format x.0 ++ (spelling_of_body x.1 ++ [])) (session_bytes format) (λ x. SessionFits format Free 0 x.0 × (RecordsFieldsFit format x.1 × Unit {0})) (λ x. SessionFits format Free 0 x.0 × RecordsFieldsFit format x.1) _
    (λ x p. tt) (λ x p. tt) (λ x p. simp append-nil) (λ x p fits. (fits.0, fits.1.0)) (λ x p fits. (fits.0, (fits.1, tt)))
    (then (λ (x : ℕ × List CommitRecord). x.0) (spelling_of_session format) (SessionFits format Free 0) (session_at format Free 0) low Any _ _ _ (session_reads Free 0 format low) λ session from0.
    then (λ (x : ℕ × List CommitRecord). x.1) spelling_of_body (RecordsFieldsFit format) (list_at w32 64 (record_at format)) from0 _ _ _ _ (list_reads spelling_of_record (FieldsFit format) (record_at format) (record_reads format) w32 (2 ^ 32) 64 wide32 (omega arith) from0) λ records from1.
    done from1 _ (session, records) ((tt, refl), refl) (λ d p i. (p.0.1 i, p.1 i)))

-- a session and records that have a spelling
abbrev BlockFits : Format → ℕ × List CommitRecord → Type 0
BlockFits format x = SessionFits format Free 0 x.0 × RecordsFit format x.1

sessions_apart : (format : Format) → AreApart (session_bytes format) (BlockFits format)
sessions_apart format a b x y fits also e =
    apart (session_bytes format) (λ x. SessionFits format Free 0 x.0 × RecordsFieldsFit format x.1) (session_records_at format) (session_records_reads format 0)
    a b x y (fits.0, (fits.1.0, all_fields_fit format a.1 fits.1.1)) (also.0, (also.1.0, all_fields_fit format b.1 also.1.1)) e

-- a block's length, and then its body
block_split : (body x : List ℕ) → block_of body ++ x ≡ (to_le_bytes w32 (length body) ++ body) ++ (0 ∷ x)
block_split body x = simp append_assoc refl

pub blocks_apart : (format : Format) → AreApart {A = ℕ × List CommitRecord} (λ x. block_of (spelling_with_session format x.0 (Records x.1))) (BlockFits format)
blocks_apart format a b x y fits also e =
    let one : List ℕ = session_bytes format a in
    let other : List ℕ = session_bytes format b in
    let counted = counted_apart w32 (2 ^ 32) wide32 one other (0 ∷ x) (0 ∷ y) (body_short format a.0 a.1 fits.1) (body_short format b.0 b.1 also.1) (sym (block_split one x) ∙ e ∙ block_split other y) in
    let same = sessions_apart format a b [] [] fits also (ap (λ (l : List ℕ). l ++ []) counted.0) in
    let behind : 0 ∷ x ≡ 0 ∷ y = counted.1 in
    (same.0, cc)

-- a piece of any checkpoint
abbrev piece_at : Format → Reader CheckpointPiece
piece_at format = field flag_at λ more p0. field (number_at w64) λ count p1. field (number_at w64) λ next p2. field (session_at format Free 0) λ session p3. field (list_at w32 65536 write_at) λ writes p4.
    whole (record { more = more; head = record { count = count; next_unit = record { 0 = next }; session = session }; writes = writes })

piece_reads : (format : Format) (low : ℕ) → Reads low Any (body_of_piece format) (PieceFits format) (piece_at format)
piece_reads format low =
    said low Any Any _ (body_of_piece format) _ (PieceFits format) (piece_at format) (λ p k. tt) (λ p k. tt) (λ p k. simp append-nil)
    (λ p k f. record { count = f.1.0; next = f.1.1.0; session = f.1.1.1.0; size = f.1.1.1.1.0.0; writes = f.1.1.1.1.0.1 }) (λ p k f. (tt, (f.count, (f.next, (f.session, ((f.size, f.writes), tt))))))
    (then (λ (p : CheckpointPiece). p.more) (λ b. flag_of b ∷ []) (λ b. Unit {0}) flag_at low Any _ _ _ (flag_reads low) λ more from0.
    then (λ (p : CheckpointPiece). p.head.count) (to_le_bytes w64) (λ n. n < 2 ^ 64) (number_at w64) from0 _ _ _ _ (reads64 from0) λ count from1.
    then (λ (p : CheckpointPiece). p.head.next_unit.0) (to_le_bytes w64) (λ n. n < 2 ^ 64) (number_at w64) from1 _ _ _ _ (reads64 from1) λ next from2.
    then (λ (p : CheckpointPiece). p.head.session) (spelling_of_session format) (SessionFits format Free 0) (session_at format Free 0) from2 _ _ _ _ (session_reads Free 0 format from2) λ session from3.
    then (λ (p : CheckpointPiece). p.writes) (λ ws. to_le_bytes w32 (length ws) ++ flat_map spelling_of_write ws) (λ ws. (length ws ≤ 65536) × AllByRecursion WriteFits ws) (list_at w32 65536 write_at) from3 _ _ _ _ (list_reads spelling_of_write WriteFits write_at write_reads w32 (2 ^ 32) 65536 wide32 (omega arith) from3) λ writes from4.
    done from4 _ (record { more = more; head = record { count = count; next_unit = record { 0 = next }; session = session }; writes = writes }) (((((tt, refl), refl), refl), refl), refl)
    (λ d k i. record { more = k.0.0.0.0.1 i; head = record { count = k.0.0.0.1 i; next_unit = record { 0 = k.0.0.1 i }; session = k.0.1 i }; writes = k.1 i }))

pub pieces_apart : (format : Format) → AreApart (body_of_piece format) (PieceFits format)
pieces_apart format = apart (body_of_piece format) (PieceFits format) (piece_at format) (piece_reads format 0)
