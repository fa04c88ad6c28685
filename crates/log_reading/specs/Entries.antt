-- What a body of a log says under the program in force, behind its session, or the first place at which it is damaged.
use Rattle.std.specs.Prelude.{◌≡◌, ◌≤◌, ◌<◌, ℕ, ◌+◌, ◌-◌, ◌==◌, if◌then◌else◌, List, length, Option, Some, None, Result, Ok, Err}
use Rattle.std.specs.List.{AllByRecursion}
use Rattle.base_types.specs.declared.shapes.Shape.{Shape}
use Rattle.field_codec.specs.declared.faults.CodecFault.{CodecFault}
use Rattle.field_codec.specs.declared.formats.Format.{Format}
use Rattle.field_codec.specs.declared.units.Numbers.TheVariants.{Logged}
use Rattle.field_codec.specs.Results.{place_of}
use Rattle.field_codec.specs.Units.{SessionFits}
use Rattle.commit_log.specs.declared.records.CommitRecord.{CommitRecord}
use Rattle.script_tree.specs.Programs.{ProgramTree, program_tree}
use Rattle.program_file.specs.declared.faults.ProgramFault.{ProgramFault}
use Rattle.program_file.specs.Programs.{Program, IsChecked, shape_in, program_in, fault_place}
use Rattle.script_check.specs.Comparison.{GoesOnFrom, compared}
use Rattle.commit_log.specs.declared.contents.Body.{Body}
use Rattle.commit_log.specs.declared.contents.Body.TheVariants as body
use Rattle.commit_log.specs.Sessions.{spelling_with_session, front_in}
use Rattle.commit_log.specs.Bodies.{IsRecordIn}
use Rattle.log_reading.specs.declared.bodies.Said.{Said}
use Rattle.log_reading.specs.declared.bodies.Said.TheVariants as said
use Rattle.log_reading.specs.declared.bodies.EntryFault.{EntryFault}
use Rattle.log_reading.specs.declared.bodies.EntryFault.TheVariants.{Damaged, Memory}

-- what a body adds to a log: records, or the program that comes into force
pub data BodyEntry : Type 0 where
  Recorded : List CommitRecord → BodyEntry
  Upgraded : Program → BodyEntry

-- this, where the body ends here, and else it is damaged here
abbrev pub where_ended : List ℕ → ℕ → BodyEntry → Result BodyEntry ℕ
where_ended bytes end entry = if end == length bytes then Ok entry else Err end

-- the program of this text and these types, unless they don't go on from those in force: then the body is damaged at the name's place,
-- or at the text's end; the text ends here, and begins at an offset
abbrev pub where_followed : List ℕ → ℕ → ℕ → Program → Option ℕ → Result BodyEntry ℕ
where_followed bytes start end p None = where_ended bytes end (Upgraded p)
where_followed bytes start end p (Some at) = Err (start + at)

-- the program that the text is, or the place in it at which it is none
abbrev pub where_accepted : List ℕ → ProgramTree → ℕ → ℕ → List ℕ → Result ProgramTree ProgramFault → Result BodyEntry ℕ
where_accepted bytes types start end text (Ok news) = where_followed bytes start end (record { text = text; types = news }) (compared types news (length text))
where_accepted bytes types start end text (Err fault) = Err (start + fault_place fault)

-- what a body says, by its content, which ends here
abbrev pub entry_by_content : List ℕ → ProgramTree → ℕ → Body → Result BodyEntry ℕ
entry_by_content bytes types end (body.Records records) = where_ended bytes end (Recorded records)
entry_by_content bytes types end (body.Upgrade text) = where_accepted bytes types (end - length text) end text (program_in text)

-- what a body says, by what was read of it: its session, its content, and where that ends
abbrev pub entry_read : List ℕ → ProgramTree → Result ((ℕ × Body) × ℕ) CodecFault → Result BodyEntry ℕ
entry_read bytes types (Ok found) = entry_by_content bytes types found.1 found.0.1
entry_read bytes types (Err fault) = Err (place_of fault)

-- What a body says under the program in force and its shape, or the first place at which it is damaged. Its session isn't below the
-- greatest before it.
abbrev pub entry_of_body : Format → ProgramTree → Shape → ℕ → List ℕ → Result BodyEntry ℕ
entry_of_body format types shape last bytes = entry_read bytes types (front_in format Logged shape last bytes 0)

-- ---- what is said

-- a program may come into force after another: it is a checked one, and its types go on from the other's
abbrev pub MayFollow : Program → Program → Type 0
MayFollow p q = IsChecked q × GoesOnFrom p.types q.types

-- at most 64 records of the program in force, or a program that may follow it
abbrev pub IsEntryIn : Format → Program → BodyEntry → Type 0
IsEntryIn format p (Recorded records) = (length records ≤ 64) × AllByRecursion (IsRecordIn format Logged (shape_in p)) records
IsEntryIn format p (Upgraded q) = MayFollow p q

-- the body of a session that says this
abbrev pub body_said : Format → ℕ → BodyEntry → List ℕ
body_said format session (Recorded records) = spelling_with_session format session (body.Records records)
body_said format session (Upgraded p) = spelling_with_session format session (body.Upgrade p.text)

-- what a body adds to a log, and its session
pub record SessionEntry : Type 0 where
  pub session : ℕ
  pub entry : BodyEntry

-- the body that says it
abbrev pub body_with : Format → SessionEntry → List ℕ
body_with format b = body_said format b.session b.entry

-- it is a body behind these sessions, under the program in force
abbrev pub IsSessionEntryIn : Format → Program → ℕ → SessionEntry → Type 0
IsSessionEntryIn format p last b = SessionFits format Logged last b.session × IsEntryIn format p b.entry

-- ---- answers

-- a text that ends before this place is short enough for a program's
abbrev pub EndsAt : ℕ → Body → Type 0
EndsAt end (body.Records records) = Unit {0}
EndsAt end (body.Upgrade text) = (length text ≤ end) × (length text ≤ 262144)

-- what was answered
abbrev pub entry_said : Said → BodyEntry
entry_said (said.Records records) = Recorded records
entry_said (said.Upgrade text checked) = Upgraded (record { text = text; types = program_tree checked })

-- the answer is what is read, or where that is damaged, unless memory ran out
abbrev pub IsSaid : Result Said EntryFault → Result BodyEntry ℕ → Type 0
IsSaid (Ok answer) read = read ≡ Ok (entry_said answer)
IsSaid (Err (Damaged place)) read = read ≡ Err place
IsSaid (Err Memory) read = Unit {0}

-- so is an answer with a session
abbrev pub IsRead : Result (ℕ × Said) EntryFault → Result BodyEntry ℕ → Type 0
IsRead (Ok answer) read = IsSaid (Ok answer.1) read
IsRead (Err fault) read = IsSaid (Err fault) read

-- the fault of what stands at an offset, by the place that it names there
abbrev pub damage_from : ℕ → Option ℕ → EntryFault
damage_from start None = Memory
damage_from start (Some place) = Damaged (start + place)

-- the place that is damaged lies before this one
abbrev pub IsNear : ℕ → EntryFault → Type 0
IsNear bound (Damaged place) = place < bound
IsNear bound Memory = Unit {0}
