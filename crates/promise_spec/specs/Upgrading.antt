-- What `upgrade` promises: the program that is its input comes into force, as the last entry of the log.
use Rattle.std.specs.Prelude.{◌≡◌, ◌≢◌, ◌⊎◌, ℕ, ◌+◌, ◌<◌, ◌≤◌, List, ◌++◌, length, take, Some, ⊤}
use Rattle.core_model.specs.CoreState.{Member}
use Rattle.host_trait.specs.declared.channels.FileId.{FileId}
use Rattle.host_trait.specs.declared.channels.FileId.TheVariants.{Manager}
use Rattle.host_trait.specs.Faults.{NoneFailed}
use Rattle.host_trait.specs.World.{Moment, Image, IsImage}
use Rattle.field_codec.specs.declared.formats.Format.TheVariants.{Two}
use Rattle.script_check.specs.Comparison.{GoesOnFrom, compared}
use Rattle.silo_spec.specs.Slots.{ShowsSilos}
use Rattle.silo_spec.specs.Moments.{IsAsAtEntry, IsUntouched}
use Rattle.silo_spec.specs.OpenedDisks.{opened_disk, opening_syncs}
use Rattle.promise_spec.specs.Programs.{Program, text_limit}
use Rattle.promise_spec.specs.Entries.{Log, standing_of, upgraded}
use Rattle.promise_spec.specs.Logs.{IsMagic, IsLog}
use Rattle.promise_spec.specs.Images.{IsWholeFolder}
use Rattle.promise_spec.specs.Moments.{IsImageOf, counted_moments}
use Rattle.promise_spec.specs.Openings.{Reads, opened_as}
use Rattle.promise_spec.specs.Endings.{Ending, Done, Memory, ReadFault, DiskFault, BadProgram, InputTooLong, UpgradeRefused, HasFailedAs}
use Rattle.promise_spec.specs.Courses.{Observed, seen_at_entry}
use Rattle.promise_spec.specs.Refusals.{IsRefusedBy}
use Rattle.promise_spec.specs.Commands.{IsProgramText, HasFault}

-- ---- what is refused before anything is written

-- the input that isn't the text of a program, or was too long to be read; or there was no memory for it, or a call on it failed
abbrev pub RefusesInput : Ending → Observed → Type 0
RefusesInput Memory r = ⊤
RefusesInput ReadFault r = ⊤
RefusesInput (InputTooLong line) r = (line ≡ 0) × (text_limit < length r.old.input)
RefusesInput (BadProgram fault) r = HasFault r fault
RefusesInput _ r = ⊥

-- No program was read: no file was touched.
pub record IsInputRefused (r : Observed) : Type 0 where
  pub untouched : IsUntouched r.old r.new
  pub syncs : r.new.syncs ≡ r.old.syncs
  pub refused : RefusesInput r.ending r
  pub failed : HasFailedAs r.ending r.faults_before r.faults_after

-- The input is a program, but the folder wasn't opened: nothing was written, and no more syncs were asked for than an opening asks for.
-- Why is shown by how the folder reads; and where a call failed the command is refused for that call, and for no other.
pub record IsUpgradeUnopened (r : Observed) : Type 0 where
  pub text : IsProgramText r
  pub untouched : IsUntouched r.old r.new
  pub syncs : r.new.syncs ≤ r.old.syncs + opening_syncs (seen_at_entry r)
  pub refused : IsRefusedBy Two (seen_at_entry r) (opened_as (seen_at_entry r)) r.ending
  pub failed : HasFailedAs r.ending r.faults_before r.faults_after

-- The folder was opened, but the program's types don't begin with the names of those in force: nothing was written. The place that is told
-- is that of the first name that differs, or the text's end where types are missing.
pub record IsUpgradeRefused (r : Observed) : Type 0 where
  pub text : IsProgramText r
  pub live : ℕ
  pub log : Log
  pub reads : opened_as (seen_at_entry r) ≡ Reads live log
  pub at : ℕ
  pub other : compared (standing_of log).program.types text.types (length r.old.input) ≡ Some at
  pub ending : r.ending ≡ UpgradeRefused at
  pub untouched : IsUntouched r.old r.new
  pub syncs : r.new.syncs ≡ r.old.syncs + opening_syncs (seen_at_entry r)
  pub calm : NoneFailed r.faults_before r.faults_after

-- ---- an upgrade

-- the program that is the input
abbrev pub program_read : {r : Observed} → IsProgramText r → Program
program_read {r} text = record { text = r.old.input; types = text.types }

-- Nothing is emitted, no file but the live slot's manager file is otherwise than an opening leaves it, and of that the header is as it
-- read at entry; each image has the log, or it with the upgrade more.
pub record IsUpgrading (live : ℕ) (log : Log) (p : Program) (r : Observed) (m : Moment) : Type 0 where
  pub quiet : m.output ≡ r.old.output
  pub others : (file : FileId) → file ≢ Manager live → m.disk file ≡ opened_disk r.old.disk file
  pub header : (image : Image) → IsImage m.disk image → take 15 (image (Manager live)) ≡ take 15 (seen_at_entry r (Manager live))
  pub either : (image : Image) → IsImage m.disk image → IsLog live image log ⊎ IsLog live image (upgraded log p)

-- Up to the return of the opening's last sync each image is one of those at entry, and from then on the log is upgraded. Done means that
-- each image has the upgrade. The upgrade's block is of the session behind the greatest that was read: that is the greatest of each image
-- that has it. No image is a silo by a slot whose manager file reads too short at the end.
pub record Upgrades (live : ℕ) (log : Log) (p : Program) (r : Observed) : Type 0 where
  pub read : IsLog live (seen_at_entry r) log
  pub early : List Moment
  pub late : List Moment
  pub past : r.new.past ≡ r.old.past ++ (early ++ late)
  pub before : (m : Moment) → Member m early → IsAsAtEntry r.old m
  pub moments : (m : Moment) → Member m (counted_moments r.old early late r.new) → IsUpgrading live log p r m
  pub session : (image : Image) → IsImageOf (counted_moments r.old early late r.new) image → (has : IsLog live image (upgraded log p)) → has.is.session ≡ read.is.session + 1
  pub shows : ShowsSilos IsMagic r.new.disk
  pub done : r.ending ≡ Done → (image : Image) → IsImage r.new.disk image → IsLog live image (upgraded log p)

-- How it ends: done, with two syncs behind those of the opening; for a fault of the live slot's manager file; or for want of memory, and
-- then nothing was written.
abbrev pub UpgradesAs : Ending → ℕ → Observed → Type 0
UpgradesAs Done live r = r.new.syncs ≡ r.old.syncs + opening_syncs (seen_at_entry r) + 2
UpgradesAs (DiskFault file) live r = file ≡ Manager live
UpgradesAs Memory live r = IsUntouched r.old r.new
UpgradesAs _ live r = ⊥

-- The input is a program whose types begin with the names of those in force in the folder, which was opened. Nothing was emitted. Where a
-- call failed the command ended for that call, and for no other. Over a folder whose images are whole, its log was upgraded.
pub record IsUpgraded (r : Observed) : Type 0 where
  pub text : IsProgramText r
  pub live : ℕ
  pub log : Log
  pub reads : opened_as (seen_at_entry r) ≡ Reads live log
  pub goes_on : GoesOnFrom (standing_of log).program.types text.types
  pub quiet : r.new.output ≡ r.old.output
  pub ends_as : UpgradesAs r.ending live r
  pub most : r.new.syncs ≤ r.old.syncs + opening_syncs (seen_at_entry r) + 2
  pub failed : HasFailedAs r.ending r.faults_before r.faults_after
  pub over_whole : IsWholeFolder r.old → Upgrades live log (program_read text) r

-- What `upgrade` promises of any folder: the input is looked at first, then the folder, and then whether the program may follow.
abbrev pub UpgradesSilo : Observed → Type 0
UpgradesSilo r = IsInputRefused r ⊎ (IsUpgradeUnopened r ⊎ (IsUpgradeRefused r ⊎ IsUpgraded r))
