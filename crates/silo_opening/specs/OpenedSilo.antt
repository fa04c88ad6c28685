-- What an opened silo is, and what its refusals say.
use Rattle.std.specs.Prelude.{◌≡◌, ℕ, ◌+◌, ◌^◌, ◌<◌, ◌≤◌, Bool, ◌&&◌, ◌==◌, nat_lt, if◌then◌else◌, List, length, map, take, drop, slice_index, unwrap_or, Option, Some, None, Ok}
use Rattle.std.specs.List.{list_any, AllByRecursion}
use Rattle.base_types.specs.declared.calls.GrainId.{GrainId}
use Rattle.base_types.specs.declared.shapes.Shape.{Shape}
use Rattle.base_types.specs.declared.stores.Version.{Version}
use Rattle.base_types.specs.declared.stores.Store.{Store}
use Rattle.base_types.specs.Stores.{state_in, end_in}
use Rattle.base_types.specs.Places.{placed_in}
use Rattle.host_trait.specs.declared.channels.FileId.TheVariants.{Manager, Program as ProgramFile, Grain}
use Rattle.host_trait.specs.Files.{same_grain}
use Rattle.host_trait.specs.Disk.{settled}
use Rattle.host_trait.specs.World.{World, Image}
use Rattle.field_codec.specs.declared.formats.Format.{Format}
use Rattle.field_codec.specs.declared.formats.Format.TheVariants.{One, Two}
use Rattle.gate_block.specs.Gates.{IsClosedAt}
use Rattle.gate_block.specs.Log.{gate_of}
use Rattle.commit_log.specs.declared.records.Named.{Named}
use Rattle.commit_log.specs.Orders.{IsAscending}
use Rattle.log_reading.specs.declared.faults.FolderFault.{FolderFault}
use Rattle.log_reading.specs.Blocks.{LogRead, log_in_file, types_read}
use Rattle.log_reading.specs.Sessions.{session_in_file}
use Rattle.log_reading.specs.Versions.{named_in, named_by_grain, version_numbered, first_missing, latest_of}
use Rattle.log_reading.specs.Steps.{seen_in}
use Rattle.log_reading.specs.Sums.{placed_after, end_after, AreNear, AreOfPrograms}
use Rattle.program_file.specs.declared.faults.ProgramFileFault.{ProgramFileFault}
use Rattle.program_file.specs.Succession.{ArePrograms, newest_program, shapes_in_turn, carried_from}
use Rattle.program_file.specs.Files.{program_in_file}
use Rattle.script_tree.specs.Programs.{ProgramTree, program_tree}
use Rattle.silo_spec.specs.Silos.{is_magic}
use Rattle.silo_spec.specs.Slots.{generation}
use Rattle.silo_spec.specs.OpenedDisks.{opening_syncs, opened_disk}
use Rattle.promise_spec.specs.Programs.{Program}
use Rattle.promise_spec.specs.Entries.{Log, initial_states, standing_of}
use Rattle.promise_spec.specs.Openings.{is_silo, has_format, log_of, Reads, reading_in}
use Rattle.promise_spec.specs.Endings as ending
use Rattle.silo_opening.specs.declared.faults.OpenFault.{OpenFault}
use Rattle.silo_opening.specs.declared.headers.Header.{Header}
use Rattle.silo_opening.specs.declared.opened_silo.Opened.{Opened}
use Rattle.silo_opening.specs.Steps.{SettlesBoth}

-- ---- the live slot

-- the first byte is 1, and the next eight are a magic
abbrev pub is_header : List ℕ → Bool
is_header file = (slice_index file 0 == 1) && is_magic (take 8 (drop 1 file))

-- what a silo's header says: its generation, and its format
abbrev pub header_of : List ℕ → Header
header_of file = record { generation = generation file; format = if has_format One file then One else Two }

-- the header of a manager file, none where it isn't a silo's
abbrev pub header_in : List ℕ → Option Header
header_in file = if is_silo file then Some (header_of file) else None

-- the live slot and its header, by those of both slots
abbrev pub live_header : Option Header → Option Header → Option (ℕ × Header)
live_header None None = None
live_header (Some first) None = Some (0, first)
live_header None (Some other) = Some (1, other)
live_header (Some first) (Some other) = if nat_lt first.generation other.generation then Some (1, other) else Some (0, first)

-- ---- an opened silo

-- the program in force
abbrev pub program_in : Opened → Program
program_in o = record { text = o.text; types = program_tree o.checked }

-- the programs that came into force one after the other, the one in force too
abbrev pub programs_of : Opened → List ProgramTree
programs_of o = map program_tree o.programs

-- the shape of each
abbrev pub shapes_of : Opened → List Shape
shapes_of o = shapes_in_turn (programs_of o)

-- the states of this store, where a grain that isn't there has its type's initial fields, are those for which a log stands
abbrev pub AreStates : Program → Store → Log → Type 0
AreStates p store log = (grain : GrainId) → unwrap_or (state_in store grain) (initial_states p grain) ≡ (standing_of log).states grain

-- The folder reads in this format as a silo with this live slot, of this generation, and a log, at whose end this program is in force.
-- Its program file has the first of the programs that came into force one after the other, and the log's entries have the others. Of the
-- log's standing is kept how many entries there are and the number of the next unit, and beside it the greatest session of the log's
-- blocks, 0 where it has none. Each grain's place is the last that the log names, with the version
-- that stands there, and the number of the program under which it was written. The ends are the greatest of the places that it names in
-- each grain's file, those that it begins with too, and lie in the file. The gate is that at which the log ends, and closed.
pub record IsOpenedIn (format : Format) (image : Image) (o : Opened) : Type 0 where
  pub log : Log
  pub reads : reading_in format image ≡ Reads o.slot log
  pub generation_is : generation (image (Manager o.slot)) ≡ o.generation
  pub program : (standing_of log).program ≡ program_in o
  pub count : o.count ≡ (standing_of log).count
  pub next : o.next_unit.0 ≡ (standing_of log).next
  pub first : Program
  pub first_is : program_in_file (image (ProgramFile o.slot)) ≡ Ok first
  pub read : LogRead
  pub read_as : log_in_file format first (image (Manager o.slot)) ≡ Ok read
  pub session : o.session ≡ session_in_file format first (image (Manager o.slot))
  pub programs : programs_of o ≡ types_read first read.entries
  pub log_is : log ≡ log_of format o.slot first image read
  pub whole : first_missing o.slot format (shapes_of o) image (named_by_grain (named_in read)) ≡ None
  pub places : (grain : GrainId) → placed_in o.places grain ≡ placed_after o.slot format (programs_of o) image None (named_by_grain (named_in read)) grain
  pub ends : (grain : GrainId) → end_in o.ends grain ≡ end_after None (named_by_grain (named_in read)) grain
  pub within : (grain : GrainId) (end : ℕ) → end_in o.ends grain ≡ Some end → end ≤ length (image (Grain o.slot grain))
  pub gate : gate_of (image (Manager o.slot)) ≡ o.gate_at
  pub closed : IsClosedAt o.gate_at (image (Manager o.slot))

-- by a command that reads format 2, as all do but `migrate`
abbrev pub IsOpenedFrom : Image → Opened → Type 0
IsOpenedFrom image o = IsOpenedIn Two image o

-- What an opening leaves that gave this silo: the folder reads as it; each manager file of 16 bytes or more was synced once, the live
-- one among them, and beside that there was nothing but asking. So nothing is pending in these files, and all others are as they were.
pub record LeavesOpenedIn (format : Format) (old new : World) (o : Opened) : Type 0 where
  pub opened : IsOpenedIn format (seen_in old.disk) o
  pub settles : SettlesBoth old new
  pub left : new.disk ≡ opened_disk old.disk
  pub settled : new.disk (Manager o.slot) ≡ settled (old.disk (Manager o.slot)).seen
  pub count : new.syncs ≡ old.syncs + opening_syncs (seen_in old.disk)

-- the same of a command that reads format 2
abbrev pub LeavesOpened : World → World → Opened → Type 0
LeavesOpened old new o = LeavesOpenedIn Two old new o

-- what an opened silo has is within its bounds, and each place is of one of its programs, of which the last is in force, whatever the host
-- tells
pub record IsOpenedInBounds (o : Opened) : Type 0 where
  pub slot : o.slot ≤ 1
  pub gate : o.gate_at < 2 ^ 63
  pub next : (0 < o.next_unit.0) × (o.next_unit.0 ≤ 2 ^ 63)
  pub session : o.session < 2 ^ 63
  pub near : AreNear o.ends
  pub programs : ArePrograms (programs_of o)
  pub newest : newest_program (programs_of o) ≡ program_tree o.checked
  pub numbered : AreOfPrograms (length o.programs) o.places
  pub text : length o.text ≤ 262144

-- these names are of this grain too
abbrev pub names_grain : List Named → GrainId → Bool
names_grain named grain = list_any (λ n. same_grain n.written.grain grain) named

-- a named version is there, and its state, carried to the programs after that of its time, is its grain's
pub record IsLatest (image : Image) (o : Opened) (log : Log) (n : Named) : Type 0 where
  pub version : Version
  pub there : version_numbered o.slot Two (shapes_of o) image n ≡ Ok version
  pub state : carried_from (programs_of o) n.program n.written.grain.kind version.state ≡ (standing_of log).states n.written.grain

-- One version of each grain that has a state in the store, which means that state, by ascending grains: the last of each that the log names.
pub record AreLatest (image : Image) (o : Opened) (log : Log) (named : List Named) : Type 0 where
  pub latest : (first : Program) (read : LogRead) → program_in_file (image (ProgramFile o.slot)) ≡ Ok first → log_in_file Two first (image (Manager o.slot)) ≡ Ok read
      → named ≡ latest_of (named_by_grain (named_in read))
  pub order : IsAscending None (map (λ n. n.written) named)
  pub held : (grain : GrainId) → names_grain named grain ≡ (standing_of log).held grain
  pub each : AllByRecursion (IsLatest image o log) named

-- ---- refusals

-- the fault of a slot's program file that gave no program
abbrev pub in_program_file : ℕ → ProgramFileFault → OpenFault
in_program_file slot (ProgramFileFault.Damaged place) = OpenFault.Damaged (ProgramFile slot) place
in_program_file slot ProgramFileFault.Failed = OpenFault.DiskFault (ProgramFile slot)
in_program_file slot ProgramFileFault.Memory = OpenFault.Memory

-- the fault of a log, or of a version that it names
abbrev pub in_folder : FolderFault → OpenFault
in_folder (FolderFault.Damaged file place) = OpenFault.Damaged file place
in_folder (FolderFault.Failed file) = OpenFault.DiskFault file
in_folder FolderFault.Memory = OpenFault.Memory

-- how a command ends that meets this fault
abbrev pub ending_of : OpenFault → ending.Ending
ending_of OpenFault.NotASilo = ending.NotASilo
ending_of OpenFault.OldFormat = ending.OldFormat
ending_of (OpenFault.Damaged file place) = ending.Damaged file place
ending_of (OpenFault.DiskFault file) = ending.DiskFault file
ending_of OpenFault.LastGeneration = ending.LastGeneration
ending_of OpenFault.Memory = ending.Memory
