-- What a command answers that doesn't open the folder.
use Rattle.std.specs.Prelude.{◌≡◌, ◌⊎◌, ℕ, ◌+◌, ◌≤◌, false, map, Ok, ⊤}
use Rattle.base_types.specs.declared.calls.GrainId.{GrainId}
use Rattle.host_trait.specs.declared.channels.FileId.{FileId}
use Rattle.host_trait.specs.declared.channels.FileId.TheVariants.{Manager, Program as ProgramFile, Grain}
use Rattle.host_trait.specs.World.{Image}
use Rattle.field_codec.specs.declared.formats.Format.{Format}
use Rattle.field_codec.specs.declared.formats.Format.TheVariants.{One, Two}
use Rattle.core_model.specs.CoreState.{Member}
use Rattle.core_model.specs.Tests.{is_before}
pub use Rattle.silo_spec.specs.Silos.{IsEitherManager}
use Rattle.silo_spec.specs.Moments.{IsUntouched}
use Rattle.silo_spec.specs.OpenedDisks.{opening_syncs}
use Rattle.promise_spec.specs.Programs.{Program}
use Rattle.promise_spec.specs.Openings.{Reading, NoSilo, OtherFormat, DamagedAt, Reads, LogRead, program_in_file, log_in_file, named_in, reading_in}
use Rattle.promise_spec.specs.Endings.{Ending, Memory, DiskFault, NotASilo, Damaged, OldFormat, NotOld, HasFailedAs}
use Rattle.promise_spec.specs.Courses.{Observed, seen_at_entry}

-- the file is a manager file, or the program's of this slot
abbrev pub IsHead : ℕ → FileId → Type 0
IsHead live file = IsEitherManager file ⊎ (file ≡ ProgramFile live)

-- a checkpoint or a record of this slot's manager file names the grain
pub record IsNamedIn (format : Format) (live : ℕ) (image : Image) (grain : GrainId) : Type 0 where
  pub program : Program
  pub log : LogRead
  pub first : program_in_file (image (ProgramFile live)) ≡ Ok program
  pub then_log : log_in_file format program (image (Manager live)) ≡ Ok log
  pub named : Member grain (map (λ n. n.written.grain) (named_in log))

-- the file is a manager file, the program's of this slot, or that of a grain of this slot that it names
abbrev pub IsReadFor : Format → ℕ → Image → FileId → Type 0
IsReadFor format live image file = IsHead live file ⊎ ((grain : GrainId) × (file ≡ Grain live grain) × IsNamedIn format live image grain)

-- such files have to be read where the first damage is in this one: of the grains' files those of grains that aren't behind
abbrev pub IsReadBefore : Format → Image → FileId → FileId → Type 0
IsReadBefore format image (ProgramFile slot) file = IsHead slot file
IsReadBefore format image (Manager slot) file = IsHead slot file
IsReadBefore format image (Grain slot last) file =
    IsHead slot file ⊎ ((grain : GrainId) × (file ≡ Grain slot grain) × IsNamedIn format slot image grain × (is_before last grain ≡ false))

-- the file has to be read to see that the folder reads so in a format
abbrev pub MustBeRead : Format → Image → Reading → FileId → Type 0
MustBeRead format image NoSilo file = IsEitherManager file
MustBeRead format image OtherFormat file = IsEitherManager file
MustBeRead format image (DamagedAt last place) file = IsReadBefore format image last file
MustBeRead format image (Reads live log) file = IsReadFor format live image file

-- A folder that reads so in a format may be refused so: for want of memory always, for a fault of a file that has to be read, as no
-- silo exactly where it reads as none, as one of the other format exactly where it is, and as damaged exactly where and at the place at
-- which it first is. The old format is refused where format 2 is read, and the new one where format 1 is.
abbrev pub IsRefusedBy : Format → Image → Reading → Ending → Type 0
IsRefusedBy format image reading Memory = ⊤
IsRefusedBy format image reading (DiskFault file) = MustBeRead format image reading file
IsRefusedBy format image reading NotASilo = reading ≡ NoSilo
IsRefusedBy format image reading OldFormat = (format ≡ Two) × (reading ≡ OtherFormat)
IsRefusedBy format image reading NotOld = (format ≡ One) × (reading ≡ OtherFormat)
IsRefusedBy format image reading (Damaged file place) = reading ≡ DamagedAt file place
IsRefusedBy format image reading _ = ⊥

-- The folder wasn't opened in this format: nothing was written, no input was read, no more syncs were asked for than an opening asks
-- for, and at each moment each image is one of those at entry. Why is shown by how the folder reads; and where a call failed the command
-- is refused for that call, and for no other.
pub record IsUnopenedIn (format : Format) (r : Observed) : Type 0 where
  pub untouched : IsUntouched r.old r.new
  pub unread : r.new.input ≡ r.old.input
  pub syncs : r.new.syncs ≤ r.old.syncs + opening_syncs (seen_at_entry r)
  pub refused : IsRefusedBy format (seen_at_entry r) (reading_in format (seen_at_entry r)) r.ending
  pub failed : HasFailedAs r.ending r.faults_before r.faults_after

-- by a command that reads format 2, as all do but `migrate`
abbrev pub IsUnopened : Observed → Type 0
IsUnopened r = IsUnopenedIn Two r
