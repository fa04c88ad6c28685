-- What `migrate` promises: the same log in format 2, as the next generation of a silo of format 1, in its other slot.
use Rattle.std.specs.Prelude.{◌≡◌, ◌⊎◌, ℕ, ◌<◌}
use Rattle.host_trait.specs.declared.channels.FileId.TheVariants.{Manager}
use Rattle.field_codec.specs.declared.formats.Format.TheVariants.{One, Two}
use Rattle.silo_spec.specs.Slots.{generation, last_generation}
use Rattle.promise_spec.specs.Entries.{Log}
use Rattle.promise_spec.specs.Images.{IsWholeFolder}
use Rattle.promise_spec.specs.Openings.{Reads, reading_in}
use Rattle.promise_spec.specs.Endings.{HasFailedAs}
use Rattle.promise_spec.specs.Courses.{Observed, seen_at_entry}
use Rattle.promise_spec.specs.Refusals.{IsUnopenedIn}
use Rattle.promise_spec.specs.Compaction.{Rewrites, IsRewritten, IsLastGeneration}

-- The folder wasn't opened as one of format 1: it may have format 2 already.
abbrev pub IsMigrateUnopened : Observed → Type 0
IsMigrateUnopened r = IsUnopenedIn One r

-- The folder was opened in format 1, and written anew in format 2 as far as the call came: nothing was emitted and no input read. Where a
-- call failed it ended for that call, and for no other. Over a folder whose images are whole, the very same log stands in the other slot.
pub record IsMigrated (r : Observed) : Type 0 where
  pub live : ℕ
  pub log : Log
  pub reads : reading_in One (seen_at_entry r) ≡ Reads live log
  pub follows : generation (seen_at_entry r (Manager live)) < last_generation
  pub unread : r.new.input ≡ r.old.input
  pub quiet : r.new.output ≡ r.old.output
  pub ending : IsRewritten r.ending
  pub failed : HasFailedAs r.ending r.faults_before r.faults_after
  pub over_whole : IsWholeFolder r.old → Rewrites One Two live log log r

-- What `migrate` promises of any folder: it doesn't open it and leaves all as it was, or no generation follows, or its log is written anew
-- in format 2.
abbrev pub Migrates : Observed → Type 0
Migrates r = IsMigrateUnopened r ⊎ (IsLastGeneration One r ⊎ IsMigrated r)
