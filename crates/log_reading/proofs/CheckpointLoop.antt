-- A checkpoint is read piece by piece: what was read, and what is left from a gate on.
use Rattle.std.proofs.Common.{◌≡◌, ℕ, zero, suc, ◌+◌, ◌<◌, ◌≤◌, Bool, true, false, eqb, if◌then◌else◌, List, [], ◌∷◌, ◌++◌, length, slice_index, fold, Option, Some, None, Result, Ok, Err, refl, sym, ◌∙◌, ap, arith}
use Rattle.std.proofs.lemmas.List.Sums.{fold-append}
use Rattle.base_types.specs.declared.calls.GrainId.{GrainId}
use Rattle.field_codec.specs.declared.formats.Format.{Format}
use Rattle.field_codec.specs.declared.faults.CodecFault.{CodecFault}
use Rattle.gate_block.specs.Blocks.{BehindGate, shut, bad, whole, found_at}
use Rattle.gate_block.specs.Log.{then_bodies, then_gate, bodies_from, gate_from, gate_of, first_gate}
use Rattle.commit_log.specs.declared.records.CheckpointHead.{CheckpointHead}
use Rattle.commit_log.specs.declared.records.CheckpointPiece.{CheckpointPiece}
use Rattle.commit_log.specs.declared.records.Written.{Written}
use Rattle.commit_log.specs.Checkpoints.{piece_body_in}
use Rattle.commit_log.specs.Orders.{grain_after}
use Rattle.program_file.specs.Programs.{Program, shape_in}
use Rattle.log_reading.specs.Blocks.{LogBase, LogRead, no_more, behind_base, no_piece, and_piece, saved_behind, log_in_file}
use Rattle.log_reading.specs.Sessions.{behind_pieces, bodies_of_entries}
use Rattle.log_reading.specs.Steps.{entries_from, BeginsSaved, and_next, piece_of, next_piece_in, IsFollowedBy}
use Rattle.log_reading.proofs.LogBlocks.{bodies_found, past_shut, clean_log, bodies_by, follows_at}
use Rattle.log_reading.proofs.PieceFlags.{flag_first}

-- the last grain of these writes, none where there are none
abbrev pub last_of : List Written → Option GrainId
last_of writes = fold grain_after None writes

pub last_more : (before writes : List Written) → last_of (before ++ writes) ≡ fold grain_after (last_of before) writes
last_more before writes = fold-append grain_after None before writes

-- the bodies of the entries, by those behind a piece
abbrev pub later_bodies : Bool → List (List ℕ) → List (List ℕ)
later_bodies more bodies = if more then behind_pieces bodies else bodies

-- what a log begins with, by its last piece
abbrev base_by : List Written → CheckpointPiece → LogBase
base_by before piece = record { count = piece.head.count; next = piece.head.next_unit.0; session = piece.head.session; writes = before ++ piece.writes }

module _ (format : Format) (p : Program) (file : List ℕ) where
  -- what is read of a log from a gate on behind these pieces, of at most so many blocks
  abbrev pub saved_from : ℕ → ℕ → Option CheckpointHead → List Written → Result LogRead ℕ
  saved_from fuel gate first before =
      saved_behind format p gate first before (bodies_from fuel gate file) (no_more (gate_from fuel gate file) (found_at (gate_from fuel gate file) file)) (no_piece (gate_from fuel gate file) (found_at (gate_from fuel gate file) file))

  abbrev gate_by : ℕ → ℕ → BehindGate → ℕ
  gate_by m gate found = then_gate gate (λ size. gate_from m (gate + 5 + size) file) found

  -- the same, by what was found at the gate
  abbrev saved_found : ℕ → ℕ → Option CheckpointHead → List Written → BehindGate → Result LogRead ℕ
  saved_found m gate first before found =
      saved_behind format p gate first before (then_bodies (λ size. bodies_from m (gate + 5 + size) file) found) (no_more (gate_by m gate found) (found_at (gate_by m gate found) file)) (no_piece (gate_by m gate found) (found_at (gate_by m gate found) file))

  -- what is read behind a piece
  abbrev behind_piece : ℕ → ℕ → List Written → CheckpointPiece → Result LogRead ℕ
  behind_piece m next before piece = if piece.more then saved_from m next (Some piece.head) (before ++ piece.writes) else behind_base (base_by before piece) (entries_from format p piece.head.session m next file)

abbrev pair_or : CheckpointPiece × ℕ → Result (CheckpointPiece × ℕ) ℕ → CheckpointPiece × ℕ
pair_or d (Ok p) = p
pair_or d (Err place) = d

abbrev at_place : ℕ → Result (CheckpointPiece × ℕ) ℕ
at_place place = Err place

next_ok : (gate size : ℕ) (r : Result CheckpointPiece CodecFault) (piece : CheckpointPiece) (next : ℕ) → and_next gate size r ≡ Ok (piece, next) → (r ≡ Ok piece) × (next ≡ gate + 5 + size)
next_ok gate size (Ok found) piece next e =
    let same : found ≡ piece = ap (λ x. (pair_or (piece, next) x).0) e in
    let at : gate + 5 + size ≡ next = ap (λ x. (pair_or (piece, next) x).1) e in
    (ap Ok same, sym at)
next_ok gate size (Err fault) piece next e = absurd cc

next_err : (gate size : ℕ) (r : Result CheckpointPiece CodecFault) (place : ℕ) (behind : CheckpointPiece → Result LogRead ℕ) → and_next gate size r ≡ Err place → and_piece (gate + 5) behind r ≡ Err place
next_err gate size (Ok found) place behind e = absurd cc
next_err gate size (Err fault) place behind e = cc

module _ (format : Format) (p : Program) (file : List ℕ) (first : Option CheckpointHead) (before : List Written) where
  further_by : (m gate : ℕ) (found : BehindGate) → found_at gate file ≡ found → (piece : CheckpointPiece) (next : ℕ) → piece_of format (shape_in p) first (last_of before) gate found ≡ Ok (piece, next)
      → (saved_from format p file (suc m) gate first before ≡ behind_piece format p file m next before piece) × (gate_from (suc m) gate file ≡ gate_from m next file) × (gate + 5 ≤ next)
      × (behind_pieces (bodies_from (suc m) gate file) ≡ later_bodies piece.more (bodies_from m next file))
  further_by m gate shut is piece next e = absurd cc
  further_by m gate bad is piece next e = absurd cc
  further_by m gate (whole body) is piece next e =
      let t = next_ok gate (length body) (piece_body_in format (shape_in p) first (last_of before) body) piece next e in
      let one : saved_from format p file (suc m) gate first before ≡ and_piece (gate + 5) (behind_piece format p file m (gate + 5 + length body) before) (piece_body_in format (shape_in p) first (last_of before) body) = ap (saved_found format p file m gate first before) is in
      let two : and_piece (gate + 5) (behind_piece format p file m (gate + 5 + length body) before) (piece_body_in format (shape_in p) first (last_of before) body) ≡ behind_piece format p file m (gate + 5 + length body) before piece = ap (and_piece (gate + 5) (behind_piece format p file m (gate + 5 + length body) before)) t.0 in
      let gates : gate_from (suc m) gate file ≡ gate_from m (gate + 5 + length body) file = ap (gate_by format p file m gate) is in
      let bodies : bodies_from (suc m) gate file ≡ body ∷ bodies_from m (gate + 5 + length body) file = ap (bodies_found format file m gate) is in
      let flag : eqb (slice_index body 0) 1 ≡ piece.more = flag_first format (shape_in p) first (last_of before) body piece t.0 in (
        one ∙ two ∙ ap (λ (n : ℕ). behind_piece format p file m n before piece) (sym t.1),
        gates ∙ ap (λ (n : ℕ). gate_from m n file) (sym t.1),
        omega (arith, t.1),
        ap behind_pieces bodies ∙ ap (λ (b : Bool). later_bodies b (bodies_from m (gate + 5 + length body) file)) flag ∙ ap (λ (n : ℕ). later_bodies piece.more (bodies_from m n file)) (sym t.1),
      )

  break_by : (m gate : ℕ) (found : BehindGate) → found_at gate file ≡ found → (place : ℕ) → piece_of format (shape_in p) first (last_of before) gate found ≡ Err place → saved_from format p file (suc m) gate first before ≡ Err place
  break_by m gate shut is place e =
      let one : saved_from format p file (suc m) gate first before ≡ Err (no_piece gate (found_at gate file)) = ap (saved_found format p file m gate first before) is in
      one ∙ ap (λ (f : BehindGate). Err (no_piece gate f)) is ∙ cc
  break_by m gate bad is place e =
      let one : saved_from format p file (suc m) gate first before ≡ Err (no_piece gate (found_at gate file)) = ap (saved_found format p file m gate first before) is in
      one ∙ ap (λ (f : BehindGate). Err (no_piece gate f)) is ∙ cc
  break_by m gate (whole body) is place e =
      let one : saved_from format p file (suc m) gate first before ≡ and_piece (gate + 5) (behind_piece format p file m (gate + 5 + length body) before) (piece_body_in format (shape_in p) first (last_of before) body) = ap (saved_found format p file m gate first before) is in
      one ∙ next_err gate (length body) (piece_body_in format (shape_in p) first (last_of before) body) place _ e

  -- at a file's end no piece stands
  nothing : (gate : ℕ) → length file < gate + zero → next_piece_in format (shape_in p) first (last_of before) gate file ≡ Err gate
  nothing gate past = ap (piece_of format (shape_in p) first (last_of before) gate) (past_shut file gate (omega (arith, past)))

-- These pieces were read of a log that begins with a checkpoint, and what is read from the gate on behind them is what the file's log
-- is. And the log ends where it does from that gate on.
pub record FollowsPieces (format : Format) (p : Program) (file : List ℕ) (first : Option CheckpointHead) (before : List Written) (gate : ℕ) : Type 0 where
  pub fuel : ℕ
  pub enough : length file < gate + fuel
  pub rest : saved_from format p file fuel gate first before ≡ log_in_file format p file
  pub last : gate_from fuel gate file ≡ gate_of file
  pub bodies : behind_pieces (bodies_from fuel gate file) ≡ bodies_of_entries file

-- behind a header that says that a checkpoint follows nothing is read yet
pub pieces_begin : (format : Format) (p : Program) (file : List ℕ) → BeginsSaved file → FollowsPieces format p file None [] first_gate
pieces_begin format p file begins = record { fuel = length file; enough = omega arith; rest = sym (clean_log format p file begins.0 true begins.1); last = refl; bodies = sym (bodies_by file true begins.1) }

module _ (format : Format) (p : Program) (file : List ℕ) (first : Option CheckpointHead) (before : List Written) (gate : ℕ) where
  abbrev one_more : ℕ → CheckpointPiece → ℕ → Type 0
  one_more m piece next = (behind_piece format p file m next before piece ≡ log_in_file format p file) × (gate_from m next file ≡ gate_of file) × (length file < next + m)
      × (later_bodies piece.more (bodies_from m next file) ≡ bodies_of_entries file)

  step_by : (fuel : ℕ) → length file < gate + fuel → saved_from format p file fuel gate first before ≡ log_in_file format p file → gate_from fuel gate file ≡ gate_of file → behind_pieces (bodies_from fuel gate file) ≡ bodies_of_entries file
      → (piece : CheckpointPiece) (next : ℕ) → next_piece_in format (shape_in p) first (last_of before) gate file ≡ Ok (piece, next) → (m : ℕ) × one_more m piece next
  step_by zero enough rest last bodies piece next e = let none = nothing format p file first before gate enough in absurd cc
  step_by (suc m) enough rest last bodies piece next e =
      let t = further_by format p file first before m gate (found_at gate file) refl piece next e in
      (m, (sym t.0 ∙ rest, sym t.1 ∙ last, omega (arith, enough, t.2), sym t.3 ∙ bodies))

  -- behind a piece that says that another one follows
  pub pieces_on : FollowsPieces format p file first before gate → (piece : CheckpointPiece) (next : ℕ) → next_piece_in format (shape_in p) first (last_of before) gate file ≡ Ok (piece, next) → piece.more ≡ true
      → FollowsPieces format p file (Some piece.head) (before ++ piece.writes) next
  pieces_on f piece next e more =
      let s = step_by f.fuel f.enough f.rest f.last f.bodies piece next e in
      let either : Bool → Result LogRead ℕ = λ b. if b then saved_from format p file s.0 next (Some piece.head) (before ++ piece.writes) else behind_base (base_by before piece) (entries_from format p piece.head.session s.0 next file) in
      record { fuel = s.0; enough = s.1.2; rest = sym (ap either more) ∙ s.1.0; last = s.1.1; bodies = sym (ap (λ (b : Bool). later_bodies b (bodies_from s.0 next file)) more) ∙ s.1.3 }

  -- and behind the last one
  pub pieces_end : FollowsPieces format p file first before gate → (piece : CheckpointPiece) (next : ℕ) → next_piece_in format (shape_in p) first (last_of before) gate file ≡ Ok (piece, next) → piece.more ≡ false
      → IsFollowedBy format p file (record { count = piece.head.count; next = piece.head.next_unit.0; session = piece.head.session; writes = before ++ piece.writes }) [] [] piece.head.session next
  pieces_end f piece next e more =
      let s = step_by f.fuel f.enough f.rest f.last f.bodies piece next e in
      let either : Bool → Result LogRead ℕ = λ b. if b then saved_from format p file s.0 next (Some piece.head) (before ++ piece.writes) else behind_base (base_by before piece) (entries_from format p piece.head.session s.0 next file) in
      follows_at format p file (base_by before piece) next s.0 s.1.2 (sym (ap either more) ∙ s.1.0) s.1.1 (sym (ap (λ (b : Bool). later_bodies b (bodies_from s.0 next file)) more) ∙ s.1.3)

  breaks_by : (fuel : ℕ) → length file < gate + fuel → saved_from format p file fuel gate first before ≡ log_in_file format p file → (place : ℕ) → next_piece_in format (shape_in p) first (last_of before) gate file ≡ Err place
      → log_in_file format p file ≡ Err place
  breaks_by zero enough rest place e =
      let past : found_at gate file ≡ shut = past_shut file gate (omega (arith, enough)) in
      let none : saved_from format p file zero gate first before ≡ Err gate = ap (λ (f : BehindGate). Err (no_piece gate f)) past in
      let same : at_place gate ≡ at_place place = sym (nothing format p file first before gate enough) ∙ e in
      let at : gate ≡ place = cc in
      sym rest ∙ none ∙ ap Err at
  breaks_by (suc m) enough rest place e = sym rest ∙ break_by format p file first before m gate (found_at gate file) refl place e

  pub pieces_break : FollowsPieces format p file first before gate → (place : ℕ) → next_piece_in format (shape_in p) first (last_of before) gate file ≡ Err place → log_in_file format p file ≡ Err place
  pieces_break f place e = breaks_by f.fuel f.enough f.rest place e
