-- What a silo that is written anew shows on the way, and what its next generation is made of, as `compact` makes it.
use Rattle.std.specs.Prelude.{◌≡◌, ℕ, ◌+◌, ◌-◌, ◌<◌, ◌≤◌, ◌^◌, List, length, Ok}
use Rattle.std.specs.List.{list_any, AllByRecursion}
use Rattle.base_types.specs.declared.calls.GrainId.{GrainId}
use Rattle.base_types.specs.declared.stores.Version.{Version}
use Rattle.base_types.specs.Grains.{same_grain}
use Rattle.host_trait.specs.declared.channels.FileId.TheVariants.{Manager}
use Rattle.host_trait.specs.World.{World, Moment, Disk, Image, IsImage, Passes, Arrives, moment_of}
use Rattle.field_codec.specs.declared.formats.Format.{Format}
use Rattle.field_codec.specs.declared.formats.Format.TheVariants.{Two}
use Rattle.commit_log.specs.declared.records.Named.{Named}
use Rattle.script_tree.specs.Programs.{ProgramTree}
use Rattle.program_file.specs.Succession.{newest_program, shapes_in_turn, carried_from}
use Rattle.log_reading.specs.Steps.{seen_in}
use Rattle.log_reading.specs.Versions.{version_numbered}
use Rattle.silo_spec.specs.Slots.{generation, ShowsSilos}
use Rattle.promise_spec.specs.Programs.{Program, IsChecked}
use Rattle.promise_spec.specs.Entries.{Log, standing_of, checkpointed}
use Rattle.promise_spec.specs.Logs.{IsMagic, IsLogOf}
use Rattle.promise_spec.specs.EitherSlot.{AllEither, KeepsSlot, IsCompactable}
use Rattle.silo_opening.specs.declared.opened_silo.Opened.{Opened}
use Rattle.checkpoint.specs.declared.compaction.Next.{Next}

-- A moment on the way: nothing was emitted, the live slot's files are as they were, and each image has one of the two logs, that of the
-- live slot in its format.
pub record IsOnTheWay (format : Format) (live : ℕ) (log new : Log) (w : World) (m : Moment) : Type 0 where
  pub quiet : m.output ≡ w.output
  pub kept : KeepsSlot live w.disk m.disk
  pub either : AllEither format Two live log new m

-- A named version is there, of a unit that may be logged, and its state, carried to the last of these programs, is its grain's.
pub record IsLastVersionOf (live : ℕ) (programs : List ProgramTree) (image : Image) (log : Log) (n : Named) : Type 0 where
  pub version : Version
  pub there : version_numbered live Two (shapes_in_turn programs) image n ≡ Ok version
  pub unit : (0 < version.unit.0) × (version.unit.0 < 2 ^ 63)
  pub state : carried_from programs n.program n.written.grain.kind version.state ≡ (standing_of log).states n.written.grain

-- The next generation is made of what the log stands for: the program in force, its count and next unit, and the last version of each
-- grain that has a state in the store.
pub record IsMadeOf (next : Next) (programs : List ProgramTree) (p : Program) (image : Image) (log : Log) : Type 0 where
  pub program : (standing_of log).program ≡ p
  pub newest : newest_program programs ≡ p.types
  pub text : next.text ≡ p.text
  pub checked : IsChecked p
  pub count : next.head.count ≡ (standing_of log).count
  pub next_unit : next.head.next_unit.0 ≡ (standing_of log).next
  pub generation_is : next.generation ≡ generation (image (Manager next.live)) + 1
  pub held : (grain : GrainId) → list_any (λ n. same_grain n.written.grain grain) next.latest ≡ (standing_of log).held grain
  pub each : AllByRecursion (IsLastVersionOf next.live programs image log) next.latest

-- Where the other slot's files may be filled: the next generation is made of this log, which the live slot has in each image.
pub record MayFill (next : Next) (programs : List ProgramTree) (p : Program) (log : Log) (w : World) : Type 0 where
  pub made : IsMadeOf next programs p (seen_in w.disk) log
  pub can : IsCompactable Two next.live log w
  pub shown : ShowsSilos IsMagic w.disk

-- Each moment up to this one was on the way from the one log to the other, and no image is a silo by a slot whose manager file reads too
-- short.
pub record HasGone (format : Format) (live : ℕ) (log next : Log) (old new : World) : Type 0 where
  pub moments : Passes (IsOnTheWay format live log next old) old.past new.past
  pub now : IsOnTheWay format live log next old (moment_of new)
  pub shows : ShowsSilos IsMagic new.disk

-- of whichever log it may be filled with, the other slot is filled so far
abbrev pub FillsOtherSlot : Next → List ProgramTree → World → World → Type 0
FillsOtherSlot next programs old new = (p : Program) (log : Log) → MayFill next programs p log old → HasGone Two next.live log (checkpointed log) old new

-- each image has this log in the other slot, in format 2 and of this generation
abbrev pub HasNextSilo : ℕ → ℕ → Log → Disk → Type 0
HasNextSilo live generation_is log disk =
    (image : Image) → IsImage disk image → IsLogOf Two (1 - live) image log × (generation (image (Manager (1 - live))) ≡ generation_is)

-- nothing is emitted, no input is taken, and the clock goes on
pub record IsQuietly (old new : World) : Type 0 where
  pub quiet : new.output ≡ old.output
  pub unread : new.input ≡ old.input
  pub clock : Arrives old new

-- what the next generation of an opened silo is made of
abbrev pub next_generation : Opened → List Named → Next
next_generation o latest = record {
  live = o.slot;
  generation = o.generation + 1;
  text = o.text;
  head = record { count = o.count; next_unit = o.next_unit; session = o.session };
  latest = latest;
}

-- A slot, a text and numbers that a checkpoint may have.
pub record MayBeWritten (next : Next) : Type 0 where
  pub slot : next.live ≤ 1
  pub text : length next.text ≤ 262144
  pub count : next.head.count < 2 ^ 63
  pub next_unit : (1 ≤ next.head.next_unit.0) × (next.head.next_unit.0 ≤ 2 ^ 63)
  pub session : next.head.session < 2 ^ 63
  pub generation : next.generation < 2 ^ 32
