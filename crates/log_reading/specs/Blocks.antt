-- What stands in a manager file, block by block behind its header: the pieces of a checkpoint, where its log begins with one, and then
-- records and upgrades, each under the program in force; or the first place that is damaged.
use Rattle.std.specs.Prelude.{◌≡◌, ℕ, ◌+◌, ◌==◌, nat_le, if◌then◌else◌, Bool, true, false, List, [], ◌∷◌, ◌++◌, length, map, fold, slice_index, Option, Some, None, Result, Ok, Err, ⊤}
use Rattle.std.specs.List.{flat_map}
use Rattle.base_types.specs.declared.shapes.Shape.{Shape}
use Rattle.field_codec.specs.declared.formats.Format.{Format}
use Rattle.field_codec.specs.declared.faults.CodecFault.{CodecFault}
use Rattle.field_codec.specs.Results.{place_of}
use Rattle.field_codec.specs.Fields.{session_of}
use Rattle.gate_block.specs.Blocks.{BehindGate, shut, bad, whole, found_at}
use Rattle.gate_block.specs.Log.{first_gate, bodies_of, gate_of}
use Rattle.commit_log.specs.declared.records.CheckpointHead.{CheckpointHead}
use Rattle.commit_log.specs.declared.records.CheckpointPiece.{CheckpointPiece}
use Rattle.commit_log.specs.declared.records.CommitRecord.{CommitRecord}
use Rattle.commit_log.specs.declared.records.Written.{Written}
use Rattle.commit_log.specs.Checkpoints.{piece_body_in}
use Rattle.commit_log.specs.Orders.{grain_after}
use Rattle.script_tree.specs.Programs.{ProgramTree}
use Rattle.program_file.specs.Programs.{Program, shape_in}
use Rattle.program_file.specs.Succession.{shapes_in_turn}
use Rattle.log_reading.specs.Entries.{BodyEntry, Recorded, Upgraded, entry_of_body, SessionEntry, body_with, IsSessionEntryIn}

-- What a log begins with: how many records stand before it, the number of the unit behind these, the greatest session of these, and the
-- version of each grain that has one.
pub record LogBase : Type 0 where
  pub count : ℕ
  pub next : ℕ
  pub session : ℕ
  pub writes : List Written

-- what the log of a new silo begins with
abbrev pub fresh_base : LogBase
fresh_base = record { count = 0; next = 1; session = 0; writes = [] }

-- an entry as it is read: a record, or the program that comes into force
pub data ReadEntry : Type 0 where
  ReadRecord : CommitRecord → ReadEntry
  ReadUpgrade : Program → ReadEntry

-- a log as it is read: what it begins with, and its entries
pub record LogRead : Type 0 where
  pub base : LogBase
  pub entries : List ReadEntry

-- ---- the header

-- the first of the header's bytes 13 and 14 that is damaged: the first is 0 or 1, the other is zero
abbrev pub header_damage : List ℕ → Option ℕ
header_damage file = if nat_le (slice_index file 13) 1 then (if slice_index file 14 == 0 then None else Some 14) else Some 13

-- what is read behind a header that is damaged there first, or nowhere
abbrev pub behind_header : {A : Type 0} → Option ℕ → Result A ℕ → Result A ℕ
behind_header None read = read
behind_header (Some place) read = Err place

-- ---- entries

-- the entries of a body
abbrev pub entries_said : BodyEntry → List ReadEntry
entries_said (Recorded records) = map ReadRecord records
entries_said (Upgraded p) = ReadUpgrade p ∷ []

-- the program in force behind it
abbrev pub program_behind : Program → BodyEntry → Program
program_behind p (Recorded records) = p
program_behind p (Upgraded q) = q

-- these entries before others
abbrev pub before_others : List ReadEntry → Result (List ReadEntry) ℕ → Result (List ReadEntry) ℕ
before_others entries (Ok more) = Ok (entries ++ more)
before_others entries (Err place) = Err place

-- the entries of a body that stands at an offset, and then the others, which are read under the program in force behind it; or the first
-- place that is damaged
abbrev pub and_entries : Program → ℕ → (Program → Result (List ReadEntry) ℕ) → Result BodyEntry ℕ → Result (List ReadEntry) ℕ
and_entries p at behind (Err place) = Err (at + place)
and_entries p at behind (Ok entry) = before_others (entries_said entry) (behind (program_behind p entry))

-- behind the bodies the log ends at a closed gate, or is damaged at the length field of a block that isn't whole
abbrev pub no_more : ℕ → BehindGate → Result (List ReadEntry) ℕ
no_more gate shut = Ok []
no_more gate bad = Err (gate + 1)
no_more gate (whole bytes) = Ok []

-- The entries of these bodies, and then of what ends them. The first body is read under this program and behind this session, the greatest
-- before it, and stands behind this gate.
abbrev pub entries_behind : Format → Program → ℕ → ℕ → List (List ℕ) → Result (List ReadEntry) ℕ → Result (List ReadEntry) ℕ
entries_behind format p last gate [] end = end
entries_behind format p last gate (bytes ∷ bodies) end =
    and_entries p (gate + 5) (λ q. entries_behind format q (session_of format bytes) (gate + 5 + length bytes) bodies end)
    (entry_of_body format p.types (shape_in p) last bytes)

-- the log that begins so
abbrev pub behind_base : LogBase → Result (List ReadEntry) ℕ → Result LogRead ℕ
behind_base base (Ok entries) = Ok (record { base = base; entries = entries })
behind_base base (Err place) = Err place

-- each of these is so under the program in force and behind the session of those before it
abbrev pub AreEntriesIn : Format → Program → ℕ → List SessionEntry → Type 0
AreEntriesIn format p last [] = ⊤
AreEntriesIn format p last (b ∷ later) = IsSessionEntryIn format p last b × AreEntriesIn format (program_behind p b.entry) b.session later

-- These entries were read of the bodies that say them, each under the program in force at it, and the rest is what ends them.
pub record AreSaidBy (format : Format) (p : Program) (last : ℕ) (bodies : List (List ℕ)) (end : Result (List ReadEntry) ℕ) (found : List ReadEntry) : Type 0 where
  pub said : List SessionEntry
  pub rest : List ReadEntry
  pub bodies_are : bodies ≡ map (body_with format) said
  pub entries : AreEntriesIn format p last said
  pub ended : end ≡ Ok rest
  pub are : found ≡ flat_map (λ b. entries_said b.entry) said ++ rest

-- ---- pieces of a checkpoint

-- behind the bodies a piece is missing: the file is damaged at the gate that is closed, or at the length field of a block that isn't
-- whole
abbrev pub no_piece : ℕ → BehindGate → ℕ
no_piece gate shut = gate
no_piece gate bad = gate + 1
no_piece gate (whole body) = gate

-- a piece of a body that stands at an offset, and what is read behind it
abbrev pub and_piece : ℕ → (CheckpointPiece → Result LogRead ℕ) → Result CheckpointPiece CodecFault → Result LogRead ℕ
and_piece at behind (Err fault) = Err (at + place_of fault)
and_piece at behind (Ok piece) = behind piece

-- The log of these bodies, of which the first stands behind this gate and is a piece of a checkpoint: behind what the first piece
-- said and the writes of those before it. Behind the last piece stand entries, and then what ends them; where the bodies end before
-- it, the file is damaged where it is missing.
abbrev pub saved_behind : Format → Program → ℕ → Option CheckpointHead → List Written → List (List ℕ) → Result (List ReadEntry) ℕ → ℕ → Result LogRead ℕ
saved_behind format p gate first before [] end missing = Err missing
saved_behind format p gate first before (bytes ∷ bodies) end missing = and_piece (gate + 5)
    (λ piece. if piece.more then saved_behind format p (gate + 5 + length bytes) (Some piece.head) (before ++ piece.writes) bodies end missing
    else behind_base (record { count = piece.head.count; next = piece.head.next_unit.0; session = piece.head.session; writes = before ++ piece.writes })
    (entries_behind format p piece.head.session (gate + 5 + length bytes) bodies end))
    (piece_body_in format (shape_in p) first (fold grain_after None before) bytes)

-- ---- the file

-- the log of these bodies under the program of the folder, which begins with a checkpoint or not
abbrev pub log_as : Format → Program → Bool → List (List ℕ) → ℕ → BehindGate → Result LogRead ℕ
log_as format p false bodies gate end = behind_base fresh_base (entries_behind format p fresh_base.session first_gate bodies (no_more gate end))
log_as format p true bodies gate end = saved_behind format p first_gate None [] bodies (no_more gate end) (no_piece gate end)

-- the log of a manager file under the program of the folder, or the first place that is damaged
abbrev pub log_in_file : Format → Program → List ℕ → Result LogRead ℕ
log_in_file format p file =
    behind_header (header_damage file) (log_as format p (slice_index file 13 == 1) (bodies_of file) (gate_of file) (found_at (gate_of file) file))

-- ---- what entries say

-- the records among entries
abbrev pub records_read : List ReadEntry → List CommitRecord
records_read [] = []
records_read (ReadRecord r ∷ later) = r ∷ records_read later
records_read (ReadUpgrade p ∷ later) = records_read later

-- the programs that come into force there
abbrev pub programs_read : List ReadEntry → List Program
programs_read [] = []
programs_read (ReadRecord r ∷ later) = programs_read later
programs_read (ReadUpgrade p ∷ later) = p ∷ programs_read later

-- the program in force behind entries that are read under this one
abbrev pub program_after : Program → List ReadEntry → Program
program_after p [] = p
program_after p (ReadRecord r ∷ later) = program_after p later
program_after p (ReadUpgrade q ∷ later) = program_after q later

-- the types of the programs of a log, by their numbers, from that of the folder
abbrev pub types_read : Program → List ReadEntry → List ProgramTree
types_read p entries = p.types ∷ map (λ q. q.types) (programs_read entries)

-- the shape of each
abbrev pub shapes_read : Program → LogRead → List Shape
shapes_read p log = shapes_in_turn (types_read p log.entries)
