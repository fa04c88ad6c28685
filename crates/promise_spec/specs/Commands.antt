-- What the commands promise that carry no lines.
use Rattle.std.specs.Prelude.{◌≡◌, ◌≢◌, ◌⊎◌, ℕ, ◌<◌, ◌≤◌, List, [], ◌∷◌, ◌++◌, length, Option, Some, None, Ok, Err, ⊤}
use Rattle.base_types.specs.declared.calls.GrainId.{GrainId}
use Rattle.host_trait.specs.declared.channels.FileId.{FileId}
use Rattle.host_trait.specs.declared.channels.FileId.TheVariants.{Manager, Program as ProgramFile}
use Rattle.host_trait.specs.World.{World, Moment, Image, IsImage, Passes, moment_of}
use Rattle.field_codec.specs.declared.formats.Format.TheVariants.{Two}
use Rattle.silo_spec.specs.Silos.{IsEitherManager, IsMadeFile, IsNewSilo}
use Rattle.silo_spec.specs.Slots.{IsLive, IsSiloImage, ShowsSilos}
use Rattle.silo_spec.specs.Moments.{IsUntouched}
use Rattle.silo_spec.specs.Creation.{CameThisFar, IsBeside}
use Rattle.script_tree.specs.Programs.{ProgramTree}
use Rattle.promise_spec.specs.Programs.{Program, ProgramFault, text_limit, program_in}
use Rattle.promise_spec.specs.Records.{Commit}
use Rattle.promise_spec.specs.Entries.{LogEntry, Recorded, Log, standing_of, after_entries}
use Rattle.promise_spec.specs.SerialExecution.{IsSerialFrom, Replays}
use Rattle.promise_spec.specs.Logs.{IsMagic, IsPrefix}
use Rattle.promise_spec.specs.Openings.{Reads, program_in_file, sessions_read, opened_as}
use Rattle.promise_spec.specs.Endings.{Ending, Done, Memory, ReadFault, WriteFault, DiskFault, AlreadyASilo, BadProgram, InputTooLong, HasRisen}
use Rattle.promise_spec.specs.Courses.{Observed, seen_at_entry}
use Rattle.promise_spec.specs.Refusals.{IsUnopened}
use Rattle.promise_spec.specs.Reports.{AreHeld, show_text, history_text, audit_text}

-- ---- init

-- the input was read to its end, and is the text of a program
pub record IsProgramText (r : Observed) : Type 0 where
  pub input : r.new.input ≡ []
  pub small : length r.old.input ≤ text_limit
  pub types : ProgramTree
  pub reads : program_in r.old.input ≡ Ok types

-- the folder reads as a silo at entry, by either slot
abbrev pub WasSilo : Observed → Type 0
WasSilo r = IsSiloImage IsMagic (seen_at_entry r)

-- where it did, a manager file alone may be at fault, and all stays as it was
abbrev pub StaysSilo : Observed → FileId → Type 0
StaysSilo r file = WasSilo r → IsEitherManager file × IsUntouched r.old r.new

-- the input was read whole, is short enough, and has this fault
abbrev pub HasFault : Observed → ProgramFault → Type 0
HasFault r fault = (r.new.input ≡ []) × (length r.old.input ≤ text_limit) × (program_in r.old.input ≡ Err fault)

-- what each manager file reads lasts, where it reads anything
abbrev pub ManagersLast : Observed → Type 0
ManagersLast r = (image : Image) → IsImage r.new.disk image → (slot : ℕ) → slot ≤ 1 →
    seen_at_entry r (Manager slot) ≢ [] → image (Manager slot) ≡ seen_at_entry r (Manager slot)

-- Each image is a new silo of this program. Its slot is the live one, unless the other one's manager file reads too short and may be a
-- silo's.
abbrev pub AreNewSilos : List ℕ → Observed → World → Type 0
AreNewSilos text r made = (image : Image) → IsImage made.disk image →
    IsNewSilo text image × (ShowsSilos IsMagic r.old.disk → IsLive IsMagic 0 image)

-- How `init` ends. The input comes before the program in it, and that before the folder; want of memory is free, and
-- comes before the folder.
abbrev pub MakesAs : Ending → Observed → Type 0
MakesAs Done r = IsProgramText r × (WasSilo r → ⊥) × AreNewSilos r.old.input r r.new
MakesAs Memory r = IsUntouched r.old r.new
MakesAs ReadFault r = IsUntouched r.old r.new
MakesAs (DiskFault file) r = IsProgramText r × IsMadeFile file × StaysSilo r file
MakesAs AlreadyASilo r = IsProgramText r × WasSilo r × IsUntouched r.old r.new × ManagersLast r
MakesAs (BadProgram fault) r = HasFault r fault × IsUntouched r.old r.new
MakesAs (InputTooLong line) r = (line ≡ 0) × (text_limit < length r.old.input) × IsUntouched r.old r.new
MakesAs _ r = ⊥

-- What `init` promises. It emits nothing, and no file but the program's and the manager files of both slots changes, of which the
-- second is at most synced. Where no manager file that reads too short is a silo's: either nothing was written; or the manager files
-- that read with bytes were synced first, and from then on each image is no silo, or one of the program that is the input, with an
-- empty log; and no manager file that reads too short is a silo's afterwards.
pub record MakesSilo (r : Observed) : Type 0 where
  pub beside : Passes (IsBeside r.old) r.old.past r.new.past
  pub beside_now : IsBeside r.old (moment_of r.new)
  pub makes : ShowsSilos IsMagic r.old.disk → CameThisFar IsMagic r.old.input r.old r.new
  pub shows : ShowsSilos IsMagic r.old.disk → ShowsSilos IsMagic r.new.disk
  pub ends_as : MakesAs r.ending r
  pub risen : HasRisen r.ending r.faults_before r.faults_after

-- ---- reports

-- a command that prints may end so with a part of its text
abbrev pub MayCut : Ending → Type 0
MayCut Memory = ⊤
MayCut WriteFault = ⊤
MayCut (DiskFault file) = ⊤
MayCut _ = ⊥

-- What a command that prints adds to the output is a first part of its text: all of it where it is done, and nothing
-- unless it is done or ended so.
pub record Prints (text : List ℕ) (r : Observed) : Type 0 where
  pub added : List ℕ
  pub output : r.new.output ≡ r.old.output ++ added
  pub front : IsPrefix added text
  pub whole : r.ending ≡ Done → added ≡ text
  pub none : (added ≡ []) ⊎ ((r.ending ≡ Done) ⊎ MayCut r.ending)

-- Each outcome of a crash at this moment is one of those at entry; once anything was written, it has the live manager file as
-- it reads, so that what a report tells lasts.
abbrev pub LeavesAsBefore : ℕ → World → Moment → Type 0
LeavesAsBefore live old m = (image : Image) → IsImage m.disk image →
    IsImage old.disk image × (m.output ≢ old.output → image (Manager live) ≡ (old.disk (Manager live)).seen)

-- A report of the folder: it prints the text of the log as the folder reads at entry, and nothing of the folder
-- changes, nor is any input read. It is done, or there was no memory, or the output or a file failed, which the count
-- shows.
pub record IsReported (text : Log → List ℕ) (r : Observed) : Type 0 where
  pub live : ℕ
  pub log : Log
  pub reads : opened_as (seen_at_entry r) ≡ Reads live log
  pub prints : Prints (text log) r
  pub unread : r.new.input ≡ r.old.input
  pub moments : Passes (LeavesAsBefore live r.old) r.old.past r.new.past
  pub now : LeavesAsBefore live r.old (moment_of r.new)
  pub seen : (file : FileId) → (r.new.disk file).seen ≡ (r.old.disk file).seen
  pub ending : (r.ending ≡ Done) ⊎ MayCut r.ending
  pub risen : HasRisen r.ending r.faults_before r.faults_after

-- a report of the log's entries, each with the session of the block that it stands in, as the live manager file says it
pub record IsHistoryTold (r : Observed) : Type 0 where
  pub sessions : List ℕ
  pub report : IsReported (history_text sessions) r
  pub program : Program
  pub first : program_in_file (seen_at_entry r (ProgramFile report.live)) ≡ Ok program
  pub are : sessions ≡ sessions_read Two program (seen_at_entry r (Manager report.live))

-- What `history` promises of any folder: it doesn't open it and leaves all as it was, or it reports its log.
abbrev pub Reports : Observed → Type 0
Reports r = IsUnopened r ⊎ IsHistoryTold r

-- a report of the grains that have a state in the store
pub record IsShown (r : Observed) : Type 0 where
  pub grains : List GrainId
  pub report : IsReported (show_text grains) r
  pub held : AreHeld grains (standing_of report.log)

-- What `show` promises of any folder: it doesn't open it and leaves all as it was, or shows its grains.
abbrev pub ShowsStates : Observed → Type 0
ShowsStates r = IsUnopened r ⊎ IsShown r

-- the first record that doesn't replay is this unit's; there is none exactly where the log is serial
abbrev pub IsFirstBad : Log → Option ℕ → Type 0
IsFirstBad log None = IsSerialFrom log.base log.entries
IsFirstBad log (Some unit) =
    (front : List LogEntry) × (bad : Commit) × (back : List LogEntry) × (log.entries ≡ (front ++ (Recorded bad ∷ back))) × (bad.logged.unit.0 ≡ unit)
    × IsSerialFrom log.base front × (Replays (after_entries log.base front).program.types (after_entries log.base front).states bad → ⊥)

-- an audit of the folder: it names the first unit of the log whose record doesn't replay
pub record IsAudited (r : Observed) : Type 0 where
  pub first_bad : Option ℕ
  pub report : IsReported (λ log. audit_text log first_bad) r
  pub first : IsFirstBad report.log first_bad

-- What `audit` promises of any folder, sound or not: it doesn't open it and leaves all as it was, or audits its log.
abbrev pub Audits : Observed → Type 0
Audits r = IsUnopened r ⊎ IsAudited r
