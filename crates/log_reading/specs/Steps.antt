-- What is read behind a gate, and what is left of a log there.
use Rattle.std.specs.Prelude.{◌≡◌, ℕ, ◌+◌, ◌<◌, ◌≤◌, ◌^◌, ◌==◌, true, List, ◌++◌, length, slice_index, Option, Some, None, Result, Ok, Err}
use Rattle.base_types.specs.declared.calls.GrainId.{GrainId}
use Rattle.base_types.specs.declared.shapes.Shape.{Shape}
use Rattle.base_types.specs.declared.shapes.TypeShape.{TypeShape}
use Rattle.host_trait.specs.World.{Disk, Image}
use Rattle.host_trait.specs.declared.channels.FileId.TheVariants.{Manager}
use Rattle.field_codec.specs.declared.formats.Format.{Format}
use Rattle.field_codec.specs.declared.faults.CodecFault.{CodecFault}
use Rattle.field_codec.specs.Results.{place_of}
use Rattle.field_codec.specs.Units.{SessionFits}
use Rattle.field_codec.specs.Fields.{session_of}
use Rattle.field_codec.specs.declared.units.Numbers.TheVariants.{Logged}
use Rattle.gate_block.specs.Blocks.{BehindGate, shut, bad, whole, found_at}
use Rattle.gate_block.specs.Log.{bodies_from, gate_from, gate_of}
use Rattle.commit_log.specs.declared.records.CheckpointHead.{CheckpointHead}
use Rattle.commit_log.specs.declared.records.CheckpointPiece.{CheckpointPiece}
use Rattle.commit_log.specs.Checkpoints.{piece_body_in}
use Rattle.script_tree.specs.Programs.{ProgramTree}
use Rattle.script_check.specs.Shapes.{type_shapes}
use Rattle.program_file.specs.Programs.{Program}
use Rattle.log_reading.specs.declared.bodies.Said.{Said}
use Rattle.log_reading.specs.Entries.{BodyEntry, Recorded, Upgraded, entry_of_body, IsEntryIn, entry_said}
use Rattle.log_reading.specs.declared.bases.Base.{Base}
use Rattle.log_reading.specs.Blocks.{LogBase, ReadEntry, header_damage, entries_said, before_others, no_more, entries_behind, behind_base, program_after, log_in_file}
use Rattle.log_reading.specs.Sessions.{bodies_of_entries, last_session, sessions_behind}

-- the files as they read
abbrev pub seen_in : Disk → Image
seen_in disk file = (disk file).seen

-- the session of a body of this length that stands behind a gate, what it says, and the next gate
abbrev pub and_gate : ℕ → ℕ → ℕ → Result BodyEntry ℕ → Result (Option (ℕ × BodyEntry × ℕ)) ℕ
and_gate session gate size (Ok entry) = Ok (Some (session, entry, gate + 5 + size))
and_gate session gate size (Err place) = Err (gate + 5 + place)

-- what a body says under the program in force, behind the greatest session before it
abbrev pub entry_under : Format → ProgramTree → ℕ → List ℕ → Result BodyEntry ℕ
entry_under format types last bytes = entry_of_body format types (record { types = type_shapes types }) last bytes

-- what was found behind a gate, under the program in force and behind the greatest session before it: nothing at a closed gate
abbrev pub next_of : Format → ProgramTree → ℕ → ℕ → BehindGate → Result (Option (ℕ × BodyEntry × ℕ)) ℕ
next_of format types last gate shut = Ok None
next_of format types last gate bad = Err (gate + 1)
next_of format types last gate (whole bytes) = and_gate (session_of format bytes) gate (length bytes) (entry_under format types last bytes)

-- the session of the block behind a gate of a file, what it says, and the next gate
abbrev pub next_in : Format → ProgramTree → ℕ → ℕ → List ℕ → Result (Option (ℕ × BodyEntry × ℕ)) ℕ
next_in format types last gate file = next_of format types last gate (found_at gate file)

-- the same of a slot's manager file, as it reads
abbrev pub next_at : Format → ProgramTree → ℕ → ℕ → Disk → ℕ → Result (Option (ℕ × BodyEntry × ℕ)) ℕ
next_at format types last gate disk slot = next_in format types last gate (disk (Manager slot)).seen

-- these are the shapes of these types
abbrev pub IsShapeOf : ProgramTree → Shape → Type 0
IsShapeOf types shape = shape.types ≡ type_shapes types

-- what is said stands behind a gate, with a byte for each entry, and the next gate behind it lies below 2^63
abbrev pub IsSaidBehind : ℕ → ℕ × Said × ℕ → Type 0
IsSaidBehind gate found = (gate + 5 + length (entries_said (entry_said found.1)) ≤ found.2) × (found.2 < 2 ^ 63)

-- what was answered: the session, what is said, and the next gate
abbrev pub found_as : Option (ℕ × Said × ℕ) → Option (ℕ × BodyEntry × ℕ)
found_as None = None
found_as (Some found) = Some (found.0, entry_said found.1, found.2)

-- what is said is within the limits of the format, under a program in force with these types
abbrev pub IsSaidIn : Format → ProgramTree → Said → Type 0
IsSaidIn format types said = (p : Program) → p.types ≡ types → IsEntryIn format p (entry_said said)

-- so is what was answered between its session, which is one that is taken behind the greatest before it, and the next gate
abbrev pub IsFoundIn : Format → ProgramTree → ℕ → ℕ × Said × ℕ → Type 0
IsFoundIn format types last found = SessionFits format Logged last found.0 × IsSaidIn format types found.1

-- the entries from a gate on under this program and behind this session, of at most so many blocks
abbrev pub entries_from : Format → Program → ℕ → ℕ → ℕ → List ℕ → Result (List ReadEntry) ℕ
entries_from format p last most gate file =
    entries_behind format p last gate (bodies_from most gate file) (no_more (gate_from most gate file) (found_at (gate_from most gate file) file))

-- a fault's place, counted in the manager file
abbrev pub placed : {A : Type 0} → ℕ → Result A CodecFault → Result A ℕ
placed start (Ok x) = Ok x
placed start (Err fault) = Err (start + place_of fault)

-- a place in a body, counted in the manager file
abbrev pub counted_from : {A : Type 0} → ℕ → Result A ℕ → Result A ℕ
counted_from start (Ok x) = Ok x
counted_from start (Err place) = Err (start + place)

-- the text in force behind what a body says, where there was a later one than the folder's
abbrev pub text_behind : Option (List ℕ) → BodyEntry → Option (List ℕ)
text_behind text (Recorded records) = text
text_behind text (Upgraded q) = Some q.text

-- the types' shapes in force behind it
abbrev pub shapes_behind : List TypeShape → BodyEntry → List TypeShape
shapes_behind types (Recorded records) = types
shapes_behind types (Upgraded q) = type_shapes q.types

-- These entries of these sessions were read of a log of this program that begins so, the last of a block of this session, and those from
-- this gate on, under the program in force and behind the session behind them, are the others of the file: of at most so many blocks, which
-- are enough. And the log ends where it does from that gate on.
pub record IsFollowedBy (format : Format) (p : Program) (file : List ℕ) (base : LogBase) (entries : List ReadEntry) (sessions : List ℕ) (session gate : ℕ) : Type 0 where
  pub fuel : ℕ
  pub enough : length file < gate + fuel
  pub rest : behind_base base (before_others entries (entries_from format (program_after p entries) session fuel gate file)) ≡ log_in_file format p file
  pub last : gate_from fuel gate file ≡ gate_of file
  pub greatest : last_session format session (bodies_from fuel gate file) ≡ last_session format base.session (bodies_of_entries file)
  pub each : sessions ++ sessions_behind format (program_after p entries) session (bodies_from fuel gate file)
      ≡ sessions_behind format p base.session (bodies_of_entries file)

-- the header of a file is whole, and says that its log begins with a checkpoint
abbrev pub BeginsSaved : List ℕ → Type 0
BeginsSaved file = (header_damage file ≡ None) × ((slice_index file 13 == 1) ≡ true)

-- a piece of a body of this length that stands behind a gate, and the next gate
abbrev pub and_next : ℕ → ℕ → Result CheckpointPiece CodecFault → Result (CheckpointPiece × ℕ) ℕ
and_next gate size (Ok piece) = Ok (piece, gate + 5 + size)
and_next gate size (Err fault) = Err (gate + 5 + place_of fault)

-- what was found behind a gate where a piece must stand
abbrev pub piece_of : Format → Shape → Option CheckpointHead → Option GrainId → ℕ → BehindGate → Result (CheckpointPiece × ℕ) ℕ
piece_of format shape first last gate shut = Err gate
piece_of format shape first last gate bad = Err (gate + 1)
piece_of format shape first last gate (whole body) = and_next gate (length body) (piece_body_in format shape first last body)

-- the piece of a checkpoint behind a gate of a file, and the next gate
abbrev pub next_piece_in : Format → Shape → Option CheckpointHead → Option GrainId → ℕ → List ℕ → Result (CheckpointPiece × ℕ) ℕ
next_piece_in format shape first last gate file = piece_of format shape first last gate (found_at gate file)

-- what a log begins with, as it was read
abbrev pub log_base_of : Base → LogBase
log_base_of b = record { count = b.count; next = b.next_unit.0; session = b.session; writes = b.saved }

-- what a log begins with has as many records, as high a next unit and as high a session as a checkpoint may have, and its gate lies below
-- 2^63
pub record IsBaseInBounds (b : Base) : Type 0 where
  pub gate : b.gate_at < 2 ^ 63
  pub count : b.count < 2 ^ 63
  pub some : 0 < b.next_unit.0
  pub next : b.next_unit.0 ≤ 2 ^ 63
  pub session : b.session < 2 ^ 63
