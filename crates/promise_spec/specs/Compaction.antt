-- What `compact` promises: the next generation of a silo, in its other slot.
use Rattle.std.specs.Prelude.{◌≡◌, ◌⊎◌, ℕ, ◌+◌, ◌-◌, ◌<◌, ◌≤◌, List, ◌++◌}
use Rattle.core_model.specs.CoreState.{Member}
use Rattle.host_trait.specs.declared.channels.FileId.TheVariants.{Manager}
use Rattle.host_trait.specs.Faults.{NoneFailed}
use Rattle.host_trait.specs.World.{Moment, Image, IsImage}
use Rattle.field_codec.specs.declared.formats.Format.{Format}
use Rattle.field_codec.specs.declared.formats.Format.TheVariants.{Two}
use Rattle.silo_spec.specs.Slots.{generation, last_generation, ShowsSilos}
use Rattle.silo_spec.specs.Moments.{IsAsAtEntry, IsUntouched}
use Rattle.silo_spec.specs.OpenedDisks.{opened_disk, opening_syncs}
use Rattle.promise_spec.specs.Entries.{Log, checkpointed}
use Rattle.promise_spec.specs.Logs.{IsMagic, IsLogOf}
use Rattle.promise_spec.specs.Images.{IsWholeFolder}
use Rattle.promise_spec.specs.Moments.{counted_moments}
use Rattle.promise_spec.specs.Openings.{Reads, reading_in, opened_as}
use Rattle.promise_spec.specs.Endings.{Ending, Done, Memory, LastGeneration, IsDiskFault, HasFailedAs}
use Rattle.promise_spec.specs.Courses.{Observed, seen_at_entry}
use Rattle.promise_spec.specs.Refusals.{IsUnopened}
use Rattle.promise_spec.specs.EitherSlot.{KeepsSlot, AllEither}

-- Nothing is emitted, the live slot's files are as an opening leaves them, and each image has the log there, or the new one in the
-- other slot, each in its format.
pub record IsRewriting (from to : Format) (live : ℕ) (old new : Log) (r : Observed) (m : Moment) : Type 0 where
  pub quiet : m.output ≡ r.old.output
  pub kept : KeepsSlot live (opened_disk r.old.disk) m.disk
  pub either : AllEither from to live old new m

-- Up to the return of the opening's last sync each image is one of those at entry, and from then on the log is rewritten. Done means
-- that each image has the new log, in the next generation. No image is a silo by a slot whose manager file reads too short at the end.
pub record Rewrites (from to : Format) (live : ℕ) (old new : Log) (r : Observed) : Type 0 where
  pub read : IsLogOf from live (seen_at_entry r) old
  pub early : List Moment
  pub late : List Moment
  pub past : r.new.past ≡ r.old.past ++ (early ++ late)
  pub before : (m : Moment) → Member m early → IsAsAtEntry r.old m
  pub moments : (m : Moment) → Member m (counted_moments r.old early late r.new) → IsRewriting from to live old new r m
  pub shows : ShowsSilos IsMagic r.new.disk
  pub done : r.ending ≡ Done → (image : Image) → IsImage r.new.disk image
      → IsLogOf to (1 - live) image new × (generation (image (Manager (1 - live))) ≡ generation (seen_at_entry r (Manager live)) + 1)

-- how a command that rewrites may end
abbrev pub IsRewritten : Ending → Type 0
IsRewritten ending = (ending ≡ Done) ⊎ ((ending ≡ Memory) ⊎ IsDiskFault ending)

-- The folder was opened, and written anew as far as the call came: nothing was emitted and no input read. Where a call failed it ended
-- for that call, and for no other. Over a folder whose images are whole, what stands for the log alone is the other slot's new log.
pub record IsCompacted (r : Observed) : Type 0 where
  pub live : ℕ
  pub log : Log
  pub reads : opened_as (seen_at_entry r) ≡ Reads live log
  pub follows : generation (seen_at_entry r (Manager live)) < last_generation
  pub unread : r.new.input ≡ r.old.input
  pub quiet : r.new.output ≡ r.old.output
  pub ending : IsRewritten r.ending
  pub failed : HasFailedAs r.ending r.faults_before r.faults_after
  pub over_whole : IsWholeFolder r.old → Rewrites Two Two live log (checkpointed log) r

-- The folder was opened in this format, but no generation follows its own: all is left as it was.
pub record IsLastGeneration (format : Format) (r : Observed) : Type 0 where
  pub live : ℕ
  pub log : Log
  pub reads : reading_in format (seen_at_entry r) ≡ Reads live log
  pub last : last_generation ≤ generation (seen_at_entry r (Manager live))
  pub untouched : IsUntouched r.old r.new
  pub unread : r.new.input ≡ r.old.input
  pub syncs : r.new.syncs ≤ r.old.syncs + opening_syncs (seen_at_entry r)
  pub ending : r.ending ≡ LastGeneration
  pub calm : NoneFailed r.faults_before r.faults_after

-- What `compact` promises of any folder: it doesn't open it and leaves all as it was, or no generation follows, or it is written anew.
abbrev pub Compacts : Observed → Type 0
Compacts r = IsUnopened r ⊎ (IsLastGeneration Two r ⊎ IsCompacted r)
