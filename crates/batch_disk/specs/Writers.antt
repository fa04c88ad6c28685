-- What a writer of batches stands for.
use Rattle.std.specs.Prelude.{◌≡◌, ℕ, ◌==◌, ◌<◌, ◌≤◌, ◌^◌, if◌then◌else◌, Bool, true, false, IsTrue, List, [], length, map, Some, unwrap_or}
use Rattle.std.specs.List.{AllByRecursion}
use Rattle.base_types.specs.Places.{placed_in, has_seat}
use Rattle.base_types.specs.Stores.{end_in, has_room}
use Rattle.base_types.specs.declared.calls.GrainId.{GrainId}
use Rattle.base_types.specs.declared.shapes.Shape.{Shape}
use Rattle.base_types.specs.declared.places.Placed.{Placed}
use Rattle.script_tree.specs.Programs.{ProgramTree}
use Rattle.program_file.specs.Succession.{ArePrograms}
use Rattle.host_trait.specs.World.{World, Disk}
use Rattle.gate_block.specs.Gates.{IsClosedAt}
use Rattle.host_trait.specs.declared.channels.FileId.{FileId}
use Rattle.host_trait.specs.declared.channels.FileId.TheVariants.{Manager, Grain}
use Rattle.host_trait.specs.Files.{StaysReady}
use Rattle.promise_spec.specs.Entries.{Log}
use Rattle.batch_disk.specs.ImagesAtRest.{EachImage, write_end, Voted, PlacesAreNamed, IsAtRest}
use Rattle.program_file.specs.ProgramsInTurn.{programs_in, newest_in, HasShapes}
use Rattle.batch_disk.specs.declared.kept_version.KeptVersion.{KeptVersion}
use Rattle.batch_disk.specs.declared.writer.BatchWriter.{BatchWriter}

-- where the places that the log names in a grain's file end, 0 where it names none
abbrev pub file_end : BatchWriter → GrainId → ℕ
file_end writer grain = unwrap_or (end_in writer.ends grain) 0

-- a version as a vote keeps it
abbrev pub voted_by : KeptVersion → Voted
voted_by k = record { unit = k.unit; write = record { grain = k.grain; place = k.place }; state = k.known.version.state }

-- the versions that votes wrote and that are kept
abbrev pub kept_of : BatchWriter → List Voted
kept_of writer = map voted_by writer.kept.items

-- those of this batch's votes: none where what is kept is another's
abbrev pub voted_of : ℕ → BatchWriter → List Voted
voted_of batch writer = if writer.batch == batch then kept_of writer else []

-- the programs that came into force one after the other, by their numbers
abbrev pub programs_of : BatchWriter → List ProgramTree
programs_of writer = programs_in writer.programs

-- the number of the one in force: the last
abbrev pub newest_number : BatchWriter → ℕ
newest_number writer = newest_in writer.programs

-- the version's end can count without memory: it has room, and fits
abbrev pub CanCount : BatchWriter → Voted → Type 0
CanCount writer v = (has_room writer.ends v.write.grain ≡ true) × (write_end v.write < 2 ^ 63)

-- the version's grain has room for a place: it can be the last one without memory
abbrev pub HasSeat : BatchWriter → Voted → Type 0
HasSeat writer v = has_seat writer.places v.write.grain ≡ true

-- The slot is one of two, the next gate, the session and each end are below 2 to the 63, each version that is kept can count, and be its
-- grain's last one, without memory, and each grain's last version was written under one of the programs.
pub record IsInBounds (writer : BatchWriter) : Type 0 where
  pub slot : writer.slot ≤ 1
  pub gate : writer.gate_at < 2 ^ 63
  pub session : writer.session < 2 ^ 63
  pub ends : (g : GrainId) → file_end writer g < 2 ^ 63
  pub kept : AllByRecursion (CanCount writer) (kept_of writer)
  pub seats : AllByRecursion (HasSeat writer) (kept_of writer)
  pub programs : ArePrograms (programs_of writer)
  pub shapes : HasShapes writer.programs
  pub numbered : (g : GrainId) (p : Placed) → placed_in writer.places g ≡ Some p → p.program < length writer.programs.checked

-- What the calls of a writer need of this slot's files as they read: they go on to its ends at least, the versions that are kept
-- lie in them, and the next gate is closed, unless a batch is in doubt.
pub record FitsSlot (live : ℕ) (writer : BatchWriter) (disk : Disk) : Type 0 where
  pub long : (g : GrainId) → file_end writer g ≤ length (disk (Grain live g)).seen
  pub kept : AllByRecursion (λ v. write_end v.write ≤ length (disk (Grain live v.write.grain)).seen) (kept_of writer)
  pub closed : writer.in_doubt ≡ false → IsClosedAt writer.gate_at (disk (Manager live)).seen

-- so do the files of the writer's own slot
abbrev pub FitsDisk : BatchWriter → Disk → Type 0
FitsDisk writer disk = FitsSlot writer.slot writer disk

-- The writer can go on: it is within its bounds, and over a host that tells it fits the disk.
pub record IsSafe (tells : Bool) (writer : BatchWriter) (now : World) : Type 0 where
  pub bounds : IsInBounds writer
  pub fits : IsTrue tells → FitsDisk writer now.disk

-- What a call leaves of the host that the writer's folder is on: the writer can go on, and each file that was ready is.
pub record StaysSafe {Host : Type 0} (tells : Bool) (is_ready : Host → FileId → Bool) (world : Host → World) (writer : BatchWriter) (old new : Host)
    : Type 0 where
  pub safe : IsSafe tells writer (world new)
  pub ready : StaysReady (is_ready old) (is_ready new)

-- What the writer keeps of the folder, where this slot is live: its gate and its ends are those of this log, whose blocks have these
-- bodies, in each image, where what the votes wrote stands; and no session so far is above its own.
pub record KeepsDisk (live : ℕ) (shape : Shape) (head : List ℕ) (log : Log) (bodies : List (List ℕ)) (writer : BatchWriter) (disk : Disk) : Type 0 where
  pub named : PlacesAreNamed shape log (file_end writer)
  pub reached : ℕ
  pub later : reached ≤ writer.session
  pub images : EachImage (IsAtRest live shape head log bodies writer.gate_at reached (file_end writer) (kept_of writer)) disk

-- slot, gate, session, ends, places, programs and doubt are as they were
pub record HasSameEnds (old new : BatchWriter) : Type 0 where
  pub slot : new.slot ≡ old.slot
  pub gate : new.gate_at ≡ old.gate_at
  pub session : new.session ≡ old.session
  pub ends : (g : GrainId) → file_end new g ≡ file_end old g
  pub places : (g : GrainId) → placed_in new.places g ≡ placed_in old.places g
  pub programs : new.programs ≡ old.programs
  pub doubt : new.in_doubt ≡ old.in_doubt
