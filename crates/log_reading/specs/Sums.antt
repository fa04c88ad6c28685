-- What is kept of the records and versions that are read.
use Rattle.std.specs.Prelude.{◌≡◌, ℕ, ◌+◌, ◌<◌, ◌^◌, max, Bool, false, IsTrue, if◌then◌else◌, List, [], ◌∷◌, ◌++◌, length, map, fold, Option, Some, None, unwrap_or, Ok, ⊤}
use Rattle.std.specs.List.{flat_map, AllByRecursion}
use Rattle.base_types.specs.declared.calls.GrainId.{GrainId}
use Rattle.base_types.specs.declared.calls.Value.{Value}
use Rattle.base_types.specs.declared.shapes.Shape.{Shape}
use Rattle.base_types.specs.declared.stores.Ends.{Ends}
use Rattle.base_types.specs.Stores.{end_in}
use Rattle.base_types.specs.declared.stores.Place.{Place}
use Rattle.base_types.specs.declared.stores.Version.{Version}
use Rattle.base_types.specs.declared.places.Placed.{Placed}
use Rattle.base_types.specs.declared.places.Places.{Places}
use Rattle.base_types.specs.Places.{placed_in}
use Rattle.host_trait.specs.World.{Image}
use Rattle.host_trait.specs.declared.channels.FileId.{FileId}
use Rattle.host_trait.specs.declared.channels.FileId.TheVariants.{Grain}
use Rattle.field_codec.specs.declared.formats.Format.{Format}
use Rattle.field_codec.specs.declared.units.Numbers.TheVariants.{Logged}
use Rattle.gate_block.specs.Blocks.{shut, found_at}
use Rattle.gate_block.specs.Log.{gate_of}
use Rattle.commit_log.specs.declared.records.CommitRecord.{CommitRecord}
use Rattle.commit_log.specs.Bodies.{IsRecordIn}
use Rattle.script_tree.specs.Programs.{ProgramTree, program_tree}
use Rattle.script_tree.specs.declared.programs.Program.{Program as TreeProgram}
use Rattle.script_check.specs.Comparison.{last_program}
use Rattle.program_file.specs.Succession.{shapes_in_turn, version_meant}
use Rattle.program_file.specs.Programs.{Program, shape_in}
use Rattle.log_reading.specs.Entries.{BodyEntry, Recorded, Upgraded, MayFollow}
use Rattle.commit_log.specs.declared.records.Named.{Named}
use Rattle.log_reading.specs.declared.log.ReadLog.{ReadLog}
use Rattle.log_reading.specs.declared.entries.LogSoFar.{LogSoFar}
use Rattle.log_reading.specs.declared.faults.FolderFault.{FolderFault}
use Rattle.host_trait.specs.Files.{same_grain}
use Rattle.log_reading.specs.Blocks.{ReadEntry, ReadRecord, ReadUpgrade, LogRead, entries_said, log_in_file, records_read, programs_read, program_after}
use Rattle.log_reading.specs.Sessions.{session_in_file}
use Rattle.log_reading.specs.Steps.{text_behind, shapes_behind}
use Rattle.log_reading.specs.Versions.{named_by, named_in, version_numbered, version_found, state_of, first_missing}

-- the number of the next unit after these records
abbrev pub next_after : ℕ → List CommitRecord → ℕ
next_after next records = fold (λ n r. max n (r.unit.0 + 1)) next records

-- the versions that records name, which are read under the program of a number
abbrev pub named_of_records : ℕ → List CommitRecord → List Named
named_of_records number records = flat_map (λ r. map (λ w. record { unit = Some r.unit; program = number; written = w }) r.writes) records

-- a record's unit has a number below 2 to the 63
abbrev pub AreUnitsLow : BodyEntry → Type 0
AreUnitsLow (Recorded records) = AllByRecursion (λ r. r.unit.0 < 2 ^ 63) records
AreUnitsLow (Upgraded q) = ⊤

-- the types of the program in force behind the first one and those of the log so far
abbrev pub types_now : TreeProgram → LogSoFar → ProgramTree
types_now first s = last_program (program_tree first) (map program_tree s.later)

-- what is known of a log, once a body that says this is added
pub record AddsEntry (old new : LogSoFar) (entry : BodyEntry) : Type 0 where
  pub count : new.count ≡ old.count + length (entries_said entry)
  pub next : new.next ≡ next_after old.next (records_read (entries_said entry))
  pub named : new.named ≡ old.named ++ named_by (length old.later) (entries_said entry)
  pub later : map program_tree new.later ≡ map program_tree old.later ++ map (λ q. q.types) (programs_read (entries_said entry))
  pub shape : new.shape.types ≡ shapes_behind old.shape.types entry
  pub text : new.text ≡ text_behind old.text entry

-- each record is within the limits of the format under the program of its time
abbrev pub AreRecordsIn : Format → Program → List ReadEntry → Type 0
AreRecordsIn format p [] = ⊤
AreRecordsIn format p (ReadRecord r ∷ later) = IsRecordIn format Logged (shape_in p) r × AreRecordsIn format p later
AreRecordsIn format p (ReadUpgrade q ∷ later) = AreRecordsIn format q later

-- each program that comes into force may follow the one before it
abbrev pub AreUpgradesIn : Program → List ReadEntry → Type 0
AreUpgradesIn p [] = ⊤
AreUpgradesIn p (ReadRecord r ∷ later) = AreUpgradesIn p later
AreUpgradesIn p (ReadUpgrade q ∷ later) = MayFollow p q × AreUpgradesIn q later

-- What is kept of a log of this program is that of what it begins with and of entries within the limits, each under the program of its
-- time: the programs that come into force, and the text of the last one. Where the file is told they are the file's and end at the log's
-- gate, behind which no block counts, and the greatest session is the file's.
pub record IsReadAs (tells : Bool) (format : Format) (p : Program) (file : List ℕ) (l : ReadLog) : Type 0 where
  pub log : LogRead
  pub count : l.count ≡ log.base.count + length log.entries
  pub next : l.next_unit.0 ≡ next_after log.base.next (records_read log.entries)
  pub named : l.named ≡ named_in log
  pub later : map program_tree l.later ≡ map (λ q. q.types) (programs_read log.entries)
  pub text : unwrap_or l.text p.text ≡ (program_after p log.entries).text
  pub fit : AreRecordsIn format p log.entries
  pub follow : AreUpgradesIn p log.entries
  pub read : IsTrue tells → log_in_file format p file ≡ Ok log
  pub session : IsTrue tells → l.session ≡ session_in_file format p file
  pub gate : IsTrue tells → gate_of file ≡ l.gate_at
  pub closed : IsTrue tells → found_at l.gate_at file ≡ shut

-- a grain's last state after these versions with the number of the program under which it was written, from one of before
abbrev pub state_after : ℕ → Format → List Shape → Image → Option (ℕ × List Value) → List Named → GrainId → Option (ℕ × List Value)
state_after live format shapes image state [] grain = state
state_after live format shapes image state (n ∷ named) grain =
    state_after live format shapes image (if same_grain n.written.grain grain then Some (n.program, state_of (version_numbered live format shapes image n)) else state) named grain

-- a version of a grain that was found at a place of the log that is opened, and was written under the program of a number: it is known as
-- what it means under the last of the programs
abbrev pub placed_as : List ProgramTree → GrainId → Place → ℕ → Version → Placed
placed_as programs grain place program version =
    record { place = place; program = program; is_new = false; known = record { version = version_meant programs program grain version } }

-- where a grain's last version stands after these versions, from a place of before
abbrev pub placed_after : ℕ → Format → List ProgramTree → Image → Option Placed → List Named → GrainId → Option Placed
placed_after live format programs image placed [] grain = placed
placed_after live format programs image placed (n ∷ named) grain =
    placed_after live format programs image (if same_grain n.written.grain grain then Some
    (placed_as programs n.written.grain n.written.place n.program (version_found (version_numbered live format (shapes_in_turn programs) image n))) else placed) named grain

-- the greater of an end and one that may be missing
abbrev pub greater_end : Option ℕ → ℕ → Option ℕ
greater_end None end = Some end
greater_end (Some last) end = Some (max last end)

-- the greatest end among the places that are named in a grain's file, from one of before
abbrev pub end_after : Option ℕ → List Named → GrainId → Option ℕ
end_after end [] grain = end
end_after end (n ∷ named) grain =
    end_after (if same_grain n.written.grain grain then greater_end end (n.written.place.offset + n.written.place.len) else end) named grain

-- in each grain's file the places end below 2^63
abbrev pub AreNear : Ends → Type 0
AreNear ends = (grain : GrainId) → unwrap_or (end_in ends grain) 0 < 2 ^ 63

-- the places' versions were written under programs whose numbers are below this one
abbrev pub AreOfPrograms : ℕ → Places → Type 0
AreOfPrograms count places = (grain : GrainId) (placed : Placed) → placed_in places grain ≡ Some placed → placed.program < count

-- A version couldn't be read for a fault of its grain's file, and all before it are there.
pub record StopsAt (live : ℕ) (format : Format) (shapes : List Shape) (image : Image) (named : List Named) (file : FileId) : Type 0 where
  pub front : List Named
  pub here : Named
  pub back : List Named
  pub are : named ≡ front ++ (here ∷ back)
  pub whole : first_missing live format shapes image front ≡ None
  pub is : file ≡ Grain live here.written.grain

-- All of these versions are there, and what is kept of them goes on from what was kept before: where the last version of each grain
-- stands.
pub record AreKept (live : ℕ) (format : Format) (programs : List ProgramTree) (image : Image) (named : List Named) (before after : Places) : Type 0 where
  pub whole : first_missing live format (shapes_in_turn programs) image named ≡ None
  pub places : (grain : GrainId) → placed_in after grain ≡ placed_after live format programs image (placed_in before grain) named grain

-- what a fault says of versions that are read one after the other: where the first is that isn't there, or whose file failed
abbrev pub AreUnread : ℕ → Format → List Shape → Image → List Named → FolderFault → Type 0
AreUnread live format shapes image named (FolderFault.Damaged file place) = first_missing live format shapes image named ≡ Some (file, place)
AreUnread live format shapes image named (FolderFault.Failed file) = StopsAt live format shapes image named file
AreUnread live format shapes image named FolderFault.Memory = ⊤
