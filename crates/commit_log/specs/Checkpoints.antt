-- The checkpoint that a log may begin with: how each piece of it is spelled and read.
use Rattle.std.specs.Prelude.{◌≡◌, ℕ, ◌<◌, ◌≤◌, ◌^◌, Bool, true, false, List, [], ◌∷◌, ◌++◌, length, Option, Some, None, Result, nat_lt, ◌==◌, ◌&&◌}
use Rattle.std.specs.Int.{w8, w32, w64, to_le_bytes}
use Rattle.std.specs.List.{flat_map, AllByRecursion}
use Rattle.base_types.specs.declared.calls.GrainId.{GrainId}
use Rattle.base_types.specs.declared.shapes.Shape.{Shape}
use Rattle.field_codec.specs.declared.formats.Format.{Format}
use Rattle.field_codec.specs.declared.units.Numbers.TheVariants.{Free, Logged}
use Rattle.field_codec.specs.declared.faults.CodecFault.{CodecFault}
use Rattle.field_codec.specs.declared.faults.CodecFault.TheVariants.{BadTag, Unknown}
use Rattle.field_codec.specs.Chains.{Chained}
use Rattle.field_codec.specs.Spelling.{spelling_of_session}
use Rattle.field_codec.specs.Units.{SessionFits}
use Rattle.field_codec.specs.Fields.{session_at}
use Rattle.field_codec.specs.Readers.{Reader, whole_text, whole, refused, field, choice, number_at, count_at}
use Rattle.commit_log.specs.declared.records.CheckpointHead.{CheckpointHead}
use Rattle.commit_log.specs.declared.records.CheckpointPiece.{CheckpointPiece}
use Rattle.commit_log.specs.declared.records.Written.{Written}
use Rattle.commit_log.specs.Bodies.{IsShapeType}
use Rattle.commit_log.specs.Orders.{is_above, grain_after}
use Rattle.commit_log.specs.Spelling.{spelling_of_write, WriteFits}
use Rattle.commit_log.specs.Fields.{writes_behind}

-- ---- spelling

-- the byte that says whether another piece follows
abbrev pub flag_of : Bool → ℕ
flag_of false = 0
flag_of true = 1

-- the body of a piece: the flag, the count, the next unit, the session where the format spells one, and the writes' number and each
abbrev pub spelling_of_piece : Format → ℕ → ℕ → ℕ → ℕ → List Written → List ℕ
spelling_of_piece format flag count next session writes =
    (flag ∷ []) ++ (to_le_bytes w64 count ++ (to_le_bytes w64 next ++ (spelling_of_session format session ++ (to_le_bytes w32 (length writes) ++ flat_map spelling_of_write writes))))

-- the body of this piece
abbrev pub body_of_piece : Format → CheckpointPiece → List ℕ
body_of_piece format p = spelling_of_piece format (flag_of p.more) p.head.count p.head.next_unit.0 p.head.session p.writes

-- each number of a piece fits its field, and there are at most 65,536 writes
pub record PieceFits (format : Format) (p : CheckpointPiece) : Type 0 where
  pub count : p.head.count < 2 ^ 64
  pub next : p.head.next_unit.0 < 2 ^ 64
  pub session : SessionFits format Free 0 p.head.session
  pub size : length p.writes ≤ 65536
  pub writes : AllByRecursion WriteFits p.writes

-- ---- what is a piece of a log

-- the first piece says the same, where one stands before
abbrev pub IsAsFirst : Option CheckpointHead → CheckpointHead → Type 0
IsAsFirst None head = Unit {0}
IsAsFirst (Some first) head = head ≡ first

-- a write on a grain of one of the program's types, above the one before
abbrev pub IsSavedIn : Shape → Option GrainId → Written → Type 0
IsSavedIn shape last w = WriteFits w × (IsShapeType shape w.grain.kind × (is_above last w.grain ≡ true))

-- A piece in a log under the program's shape, behind what the first piece said and the last grain before it, where there are such:
-- the count and the session are below 2 to the 63, the session of format 1 is 1, the next unit is from 1 to 2 to the 63, and its
-- grains ascend.
pub record IsPieceIn (format : Format) (shape : Shape) (first : Option CheckpointHead) (last : Option GrainId) (p : CheckpointPiece) : Type 0 where
  pub count : p.head.count < 2 ^ 63
  pub next : (0 < p.head.next_unit.0) × (p.head.next_unit.0 ≤ 2 ^ 63)
  pub session : SessionFits format Logged 0 p.head.session
  pub same : IsAsFirst first p.head
  pub size : length p.writes ≤ 65536
  pub named : Chained (IsSavedIn shape) grain_after last p.writes

-- the bytes are the body of this piece, and nothing follows them
pub record IsPieceBody (format : Format) (shape : Shape) (first : Option CheckpointHead) (last : Option GrainId) (p : CheckpointPiece) (body : List ℕ) : Type 0 where
  pub fits : IsPieceIn format shape first last p
  pub spelled : body ≡ body_of_piece format p

-- ---- reading

-- the number is the first piece's, where one stands before
abbrev pub is_as : Option ℕ → ℕ → Bool
is_as None n = true
is_as (Some m) n = n == m

-- the count that the first piece says
abbrev pub count_in : Option CheckpointHead → Option ℕ
count_in None = None
count_in (Some first) = Some first.count

-- the next unit that it says
abbrev pub next_in : Option CheckpointHead → Option ℕ
next_in None = None
next_in (Some first) = Some first.next_unit.0

-- the session that it says
abbrev pub head_session : Option CheckpointHead → Option ℕ
head_session None = None
head_session (Some first) = Some first.session

-- which numbers are taken as a count
abbrev pub may_be_count : Option CheckpointHead → ℕ → Bool
may_be_count first n = nat_lt n 9223372036854775808 && is_as (count_in first) n

-- which are taken as the number of the next unit
abbrev pub may_be_next : Option CheckpointHead → ℕ → Bool
may_be_next first n = (nat_lt 0 n && nat_lt n 9223372036854775809) && is_as (next_in first) n

-- a flag
unfoldable pub flag_at : Reader Bool
flag_at = field (number_at w8) λ tag place. choice (tag == 0) (whole false) (choice (tag == 1) (whole true) (refused (BadTag place tag)))

-- a number that passes a test
unfoldable pub tested_at : (ℕ → Bool) → Reader ℕ
tested_at test = field (number_at w64) λ n place. choice (test n) (whole n) (refused (Unknown place))

-- the session of a piece: one that a log may have, and the first piece's, where one stands before
unfoldable pub kept_session_at : Format → Option CheckpointHead → Reader ℕ
kept_session_at format first = field (session_at format Logged 0) λ session place. choice (is_as (head_session first) session) (whole session) (refused (Unknown place))

-- at most 65,536 writes, each on a grain above the one before it, the first one's above this
unfoldable pub saved_in : Shape → Option GrainId → Reader (List Written)
saved_in shape last = field (count_at w32 65536) λ n place. writes_behind shape last n

-- a piece behind what the first one said and the last grain before it
unfoldable pub piece_in : Format → Shape → Option CheckpointHead → Option GrainId → Reader CheckpointPiece
piece_in format shape first last = field flag_at λ more p0. field (tested_at (may_be_count first)) λ count p1. field (tested_at (may_be_next first)) λ next p2. field (kept_session_at format first) λ session p3. field (saved_in shape last) λ writes p4.
    whole (record { more = more; head = record { count = count; next_unit = record { 0 = next }; session = session }; writes = writes })

-- the piece of a whole body
abbrev pub piece_body_in : Format → Shape → Option CheckpointHead → Option GrainId → List ℕ → Result CheckpointPiece CodecFault
piece_body_in format shape first last body = whole_text (piece_in format shape first last) body
