-- A folder stays whole behind a command that changes no image, and behind one that writes its log anew or makes it longer by an upgrade.
use Rattle.std.proofs.Common.{◌≡◌, ◌⊎◌, inl, inr, ℕ, ◌-◌, ◌<◌, length, List, [], ◌∷◌, refl, sym, ap, subst}
use Rattle.host_trait.specs.declared.channels.FileId.{FileId}
use Rattle.host_trait.specs.declared.channels.FileId.TheVariants.{Manager}
use Rattle.host_trait.specs.World.{World, Disk, Image, IsImage, moment_of}
use Rattle.field_codec.specs.declared.formats.Format.{Format}
use Rattle.field_codec.specs.declared.formats.Format.TheVariants.{One, Two}
use Rattle.silo_spec.specs.Silos.{IsMagic}
use Rattle.silo_spec.specs.Slots.{ShowsSilos}
use Rattle.silo_spec.specs.Moments.{IsUntouched}
use Rattle.promise_spec.specs.Programs.{Program}
use Rattle.promise_spec.specs.Entries.{Upgraded, Log, records_of, checkpointed, upgraded}
use Rattle.promise_spec.specs.Logs.{IsLog, IsLogOf, HasLog}
use Rattle.promise_spec.specs.Prefixes.{IsPrefixOf}
use Rattle.promise_spec.specs.Images.{AreNumbered, IsWholeSilo, IsWholeIfSilo, IsWholeFolder}
use Rattle.promise_spec.specs.Courses.{Observed, seen_at_entry}
use Rattle.promise_spec.specs.EitherSlot.{HasEither}
use Rattle.promise_spec.specs.Compaction.{Rewrites, Compacts}
use Rattle.promise_spec.specs.Migration.{Migrates}
use Rattle.promise_spec.specs.Upgrading.{Upgrades, UpgradesSilo, program_read}
use Rattle.promise_laws.specs.Closings.{ReadsMayStay}
use Rattle.promise_laws.proofs.RewrittenFolders.{of_two, two_chain}
use Rattle.promise_laws.proofs.SoundUpgrades.{records_upgraded}
use Rattle.promise_spec.proofs.Lists.{in_append}
use Rattle.promise_spec.proofs.OneLog.{one_log}
use Rattle.promise_spec.proofs.Prefixes.{of_itself, saved, over_one_base}
use Rattle.promise_spec.proofs.Slots.{one_slot}

-- ---- what changes no image

-- each image is one of before, and the files read as they did
pub as_before : (old new : World) → ((image : Image) → IsImage new.disk image → IsImage old.disk image) → ((file : FileId) → (new.disk file).seen ≡ (old.disk file).seen) → IsWholeFolder old → IsWholeFolder new
as_before old new images seen folder = record {
  chain = λ one other left left_too. folder.chain one other (images one left) (images other left_too);
  whole = λ image left. folder.whole image (images image left);
  shows = λ image left slot low short. folder.shows image (images image left) slot low (subst (λ (l : List ℕ). length l < 16) (seen (Manager slot)) short);
}

-- the files are as they were
pub same_files : (old new : World) → new.disk ≡ old.disk → IsWholeFolder old → IsWholeFolder new
same_files old new same folder = as_before old new (λ image left. subst (λ (d : Disk). IsImage d image) same left) (λ file. ap (λ (d : Disk). (d file).seen) same) folder

-- a folder that was left untouched stays whole
pub untouched : (old new : World) → IsUntouched old new → IsWholeFolder old → IsWholeFolder new
untouched old new u folder = as_before old new u.now.images u.seen folder

-- ---- images with one of two logs

-- the units of its records are numbered
abbrev pub IsNumbered : Log → Type 0
IsNumbered log = AreNumbered log.base.next (records_of log)

-- each image has one of two logs, of which the first is a prefix of the second
module _ (a b : Log) (front : IsPrefixOf a b) (w : World) (either : (image : Image) → IsImage w.disk image → HasLog image a ⊎ HasLog image b) where
  whole_by : (image : Image) → HasLog image a ⊎ HasLog image b → IsNumbered a → IsNumbered b → IsWholeIfSilo image
  whole_by image (inl x) first second live is =
      subst (λ (slot : ℕ). IsWholeSilo slot image) (one_slot x.1 live image x.2.is_live is) (record { format = x.0; log = a; is = x.2; numbered = first })
  whole_by image (inr x) first second live is =
      subst (λ (slot : ℕ). IsWholeSilo slot image) (one_slot x.1 live image x.2.is_live is) (record { format = x.0; log = b; is = x.2; numbered = second })

  two_logs : IsNumbered a → IsNumbered b → ShowsSilos IsMagic w.disk → IsWholeFolder w
  two_logs first second shows = record {
    chain = λ one other left left_too x y is_x is_y. two_chain a b front (moment_of w) either x y (of_two a b front (moment_of w) either one (either one left) x is_x) (of_two a b front (moment_of w) either other (either other left_too) y is_y);
    whole = λ image left. whole_by image (either image left) first second;
    shows = shows;
  }

-- over a whole folder the units of the log that the files read as are numbered
log_numbered : (format : Format) (live : ℕ) (log : Log) (r : Observed) → ReadsMayStay r.old → IsWholeFolder r.old → IsLogOf format live (seen_at_entry r) log → IsNumbered log
log_numbered format live log r stay folder read =
    let s : IsWholeSilo live (seen_at_entry r) = folder.whole (seen_at_entry r) stay live read.is_live in
    subst IsNumbered (one_log s.format format live live (seen_at_entry r) s.log log s.is read) s.numbered

-- ---- `compact` and `migrate`

-- a call that rewrites a log to one that it is a prefix of
rewritten : (from to : Format) (live : ℕ) (log new : Log) (r : Observed) → IsPrefixOf log new → Rewrites from to live log new r → IsNumbered log → IsNumbered new → IsWholeFolder r.new
rewritten from to live log new r front rewrites first second =
    let last = rewrites.moments (moment_of r.new) (inr (in_append (moment_of r.new) rewrites.late (moment_of r.new ∷ []) (inr (inl refl)))) in
    two_logs log new front r.new (λ image left. sides image (last.either image left)) first second rewrites.shows
  where
    sides : (image : Image) → HasEither from to live log new image → HasLog image log ⊎ HasLog image new
    sides image (inl x) = inl (from, live, x)
    sides image (inr x) = inr (to, 1 - live, x)

pub compact_keeps : (r : Observed) → ReadsMayStay r.old → Compacts r → IsWholeFolder r.old → IsWholeFolder r.new
compact_keeps r stay (inl unopened) folder = untouched r.old r.new unopened.untouched folder
compact_keeps r stay (inr (inl last)) folder = untouched r.old r.new last.untouched folder
compact_keeps r stay (inr (inr is)) folder =
    let rewrites : Rewrites Two Two is.live is.log (checkpointed is.log) r = is.over_whole folder in
    rewritten Two Two is.live is.log (checkpointed is.log) r (saved is.log).0 rewrites (log_numbered Two is.live is.log r stay folder rewrites.read) tt

pub migrate_keeps : (r : Observed) → ReadsMayStay r.old → Migrates r → IsWholeFolder r.old → IsWholeFolder r.new
migrate_keeps r stay (inl unopened) folder = untouched r.old r.new unopened.untouched folder
migrate_keeps r stay (inr (inl last)) folder = untouched r.old r.new last.untouched folder
migrate_keeps r stay (inr (inr is)) folder =
    let rewrites : Rewrites One Two is.live is.log is.log r = is.over_whole folder in
    let numbered : IsNumbered is.log = log_numbered One is.live is.log r stay folder rewrites.read in
    rewritten One Two is.live is.log is.log r (of_itself is.log) rewrites numbered numbered

-- ---- `upgrade`

-- an upgrade has no record, so the units stay numbered
numbered_upgraded : (log : Log) (q : Program) → IsNumbered log → IsNumbered (upgraded log q)
numbered_upgraded log q numbered = subst (AreNumbered log.base.next) (sym (records_upgraded log.entries q)) numbered

-- a log and it with the upgrade more are a chain
upgrading : (live : ℕ) (log : Log) (q : Program) (r : Observed) → Upgrades live log q r → IsNumbered log → IsWholeFolder r.new
upgrading live log q r upgrades numbered =
    let last = upgrades.moments (moment_of r.new) (inr (in_append (moment_of r.new) upgrades.late (moment_of r.new ∷ []) (inr (inl refl)))) in
    two_logs log (upgraded log q) (over_one_base log (upgraded log q) refl (Upgraded q ∷ [], refl)) r.new (λ image left. sides image (last.either image left)) numbered (numbered_upgraded log q numbered) upgrades.shows
  where
    sides : (image : Image) → IsLog live image log ⊎ IsLog live image (upgraded log q) → HasLog image log ⊎ HasLog image (upgraded log q)
    sides image (inl x) = inl (Two, live, x)
    sides image (inr x) = inr (Two, live, x)

pub upgrade_keeps : (r : Observed) → ReadsMayStay r.old → UpgradesSilo r → IsWholeFolder r.old → IsWholeFolder r.new
upgrade_keeps r stay (inl input) folder = untouched r.old r.new input.untouched folder
upgrade_keeps r stay (inr (inl unopened)) folder = untouched r.old r.new unopened.untouched folder
upgrade_keeps r stay (inr (inr (inl refused))) folder = untouched r.old r.new refused.untouched folder
upgrade_keeps r stay (inr (inr (inr is))) folder =
    let upgrades : Upgrades is.live is.log (program_read is.text) r = is.over_whole folder in
    upgrading is.live is.log (program_read is.text) r upgrades (log_numbered Two is.live is.log r stay folder upgrades.read)
