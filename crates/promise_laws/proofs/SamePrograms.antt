-- A call over a sound folder leaves it one of the same program: each log has the base that each had before which begins at its position.
use Rattle.std.proofs.Common.{◌≡◌, ◌⊎◌, inl, inr, ℕ, ◌-◌, List, [], ◌∷◌, refl, sym, ap, subst, ◌∙◌}
use Rattle.host_trait.specs.World.{World, Disk, Image, IsImage, moment_of}
use Rattle.field_codec.specs.declared.formats.Format.TheVariants.{One, Two}
use Rattle.promise_spec.specs.Entries.{Log, standing_of, checkpointed, grown, upgraded}
use Rattle.promise_spec.specs.Logs.{IsLog, HasLog}
use Rattle.promise_spec.specs.Images.{AreChained, IsSoundFolder}
use Rattle.promise_spec.specs.Words.{Manner}
use Rattle.promise_spec.specs.Courses.{Observed, Course, seen_at_entry, program_in_force}
use Rattle.promise_spec.specs.Commands.{IsReported, Reports, ShowsStates, Audits}
use Rattle.promise_spec.specs.Checks.{Checks}
use Rattle.promise_spec.specs.Calls.{IsBadUse}
use Rattle.promise_spec.specs.Promise.{Keeps, Promises}
use Rattle.promise_spec.specs.EitherSlot.{HasEither}
use Rattle.promise_spec.specs.Compaction.{Compacts}
use Rattle.promise_spec.specs.Migration.{IsMigrated, Migrates}
use Rattle.promise_spec.specs.Programs.{Program}
use Rattle.promise_spec.specs.Upgrading.{IsUpgraded, UpgradesSilo, program_read}
use Rattle.promise_spec.proofs.Chains.{chains}
use Rattle.promise_spec.proofs.Lists.{in_append}
use Rattle.promise_spec.proofs.OneLog.{one_log}
use Rattle.promise_spec.proofs.WholeFolders.{whole_folder}
use Rattle.promise_laws.specs.SoundMoments.{IsRestarted}
use Rattle.promise_laws.proofs.SoundFolders.{exit_of, restarted_image}

-- images that are a chain, whose logs begin at one position, have logs over one base
based : (x y : Image) (a b : Log) → AreChained x y → HasLog x a → HasLog y b → a.base.count ≡ b.base.count → a.base ≡ b.base
based x y a b chained has also same = (chains has.0 also.0 has.1 also.1 x y a b chained has.2 also.2 same).0

-- where no image is new, the folder is of the same program
stays : (old new : World) → ((image : Image) → IsImage new.disk image → IsImage old.disk image) → IsSoundFolder old
    → (one two : Image) (a b : Log) → IsImage old.disk one → IsImage new.disk two → HasLog one a → HasLog two b → a.base.count ≡ b.base.count → a.base ≡ b.base
stays old new images sound one two a b left later has also same = based one two a b (sound.chain one two left (images two later)) has also same

-- and so where a course went on from the log that the files read as
goes_on : (r : Observed) (c : Course) → Keeps (program_in_force c) r c → IsSoundFolder r.old → IsImage r.old.disk (seen_at_entry r)
    → (one two : Image) (a b : Log) → IsImage r.old.disk one → IsImage r.new.disk two → HasLog one a → HasLog two b → a.base.count ≡ b.base.count → a.base ≡ b.base
goes_on r c keeps sound seen one two a b left later has also same =
    let k = keeps.headline.crashes.keeps two (exit_of r c two later) in
    let new : b ≡ grown c.opening k.more = one_log also.0 Two also.1 c.live two b (grown c.opening k.more) also.2 k.is in
    let begins : a.base.count ≡ c.opening.base.count = same ∙ ap (λ (l : Log). l.base.count) new in
    let old : a.base ≡ c.opening.base = based one (seen_at_entry r) a c.opening (sound.chain one (seen_at_entry r) left seen) has (Two, c.live, keeps.headline.ordered.read) begins in
    old ∙ sym (ap (λ (l : Log). l.base) new)

-- a run
pub run_stays : (m : Manner) (r : Observed) → Promises m r → IsSoundFolder r.old → IsImage r.old.disk (seen_at_entry r)
    → (one two : Image) (a b : Log) → IsImage r.old.disk one → IsImage r.new.disk two → HasLog one a → HasLog two b → a.base.count ≡ b.base.count → a.base ≡ b.base
run_stays m r promises sound seen = elim (promises.over_whole (whole_folder r.old sound)) [
  | inl unopened ↦ stays r.old r.new unopened.untouched.now.images sound
  | inr kept ↦ goes_on r kept.0 kept.1 sound seen
]

reported_stays : (text : Log → List ℕ) (r : Observed) → IsReported text r → IsSoundFolder r.old
    → (one two : Image) (a b : Log) → IsImage r.old.disk one → IsImage r.new.disk two → HasLog one a → HasLog two b → a.base.count ≡ b.base.count → a.base ≡ b.base
reported_stays text r is sound = stays r.old r.new (λ image left. (is.now image left).0) sound

-- a listing of the grains
pub shows_stay : (r : Observed) → ShowsStates r → IsSoundFolder r.old
    → (one two : Image) (a b : Log) → IsImage r.old.disk one → IsImage r.new.disk two → HasLog one a → HasLog two b → a.base.count ≡ b.base.count → a.base ≡ b.base
shows_stay r (inl unopened) sound = stays r.old r.new unopened.untouched.now.images sound
shows_stay r (inr is) sound = reported_stays _ r is.report sound

-- a report
pub reports_stay : (r : Observed) → Reports r → IsSoundFolder r.old
    → (one two : Image) (a b : Log) → IsImage r.old.disk one → IsImage r.new.disk two → HasLog one a → HasLog two b → a.base.count ≡ b.base.count → a.base ≡ b.base
reports_stay r (inl unopened) sound = stays r.old r.new unopened.untouched.now.images sound
reports_stay r (inr is) sound = reported_stays _ r is.report sound

-- an audit
pub audits_stay : (r : Observed) → Audits r → IsSoundFolder r.old
    → (one two : Image) (a b : Log) → IsImage r.old.disk one → IsImage r.new.disk two → HasLog one a → HasLog two b → a.base.count ≡ b.base.count → a.base ≡ b.base
audits_stay r (inl unopened) sound = stays r.old r.new unopened.untouched.now.images sound
audits_stay r (inr is) sound = reported_stays _ r is.report sound

-- words that say nothing
pub bad_use_stays : (r : Observed) → IsBadUse r → IsSoundFolder r.old
    → (one two : Image) (a b : Log) → IsImage r.old.disk one → IsImage r.new.disk two → HasLog one a → HasLog two b → a.base.count ≡ b.base.count → a.base ≡ b.base
bad_use_stays r bad sound = stays r.old r.new (λ image left. subst (λ (w : World). IsImage w.disk image) bad.unused left) sound

-- a check
pub checks_stay : (n seed : ℕ) (r : Observed) → Checks n seed r → IsSoundFolder r.old
    → (one two : Image) (a b : Log) → IsImage r.old.disk one → IsImage r.new.disk two → HasLog one a → HasLog two b → a.base.count ≡ b.base.count → a.base ≡ b.base
checks_stay n seed r checks sound = stays r.old r.new (λ image left. subst (λ (d : Disk). IsImage d image) checks.files left) sound

-- a crash
pub restart_stays : (w after : World) (image : Image) → IsSoundFolder w → IsImage w.disk image → IsRestarted image after
    → (one two : Image) (a b : Log) → IsImage w.disk one → IsImage after.disk two → HasLog one a → HasLog two b → a.base.count ≡ b.base.count → a.base ≡ b.base
restart_stays w after image sound left restarted =
    stays w after (λ other may. subst (IsImage w.disk) (sym (restarted_image image after restarted other may)) left) sound

-- ---- `upgrade`

-- a log with an upgrade more begins as it did
same_begin : (live : ℕ) (image : Image) (log b : Log) (q : Program) → IsLog live image log ⊎ IsLog live image (upgraded log q) → HasLog image b → b.base ≡ log.base
same_begin live image log b q (inl is) has = ap (λ (l : Log). l.base) (one_log has.0 Two has.1 live image b log has.2 is)
same_begin live image log b q (inr is) has = ap (λ (l : Log). l.base) (one_log has.0 Two has.1 live image b (upgraded log q) has.2 is)

upgraded_stays : (r : Observed) → IsUpgraded r → IsSoundFolder r.old → IsImage r.old.disk (seen_at_entry r)
    → (one two : Image) (a b : Log) → IsImage r.old.disk one → IsImage r.new.disk two → HasLog one a → HasLog two b → a.base.count ≡ b.base.count → a.base ≡ b.base
upgraded_stays r is sound seen one two a b left later has also same =
    let upgrades = is.over_whole (whole_folder r.old sound) in
    let last = upgrades.moments (moment_of r.new) (inr (in_append (moment_of r.new) upgrades.late (moment_of r.new ∷ []) (inr (inl refl)))) in
    let begins : b.base ≡ is.log.base = same_begin is.live two is.log b (program_read is.text) (last.either two later) also in
    let count : a.base.count ≡ is.log.base.count = same ∙ (λ i. (begins i).count) in
    based one (seen_at_entry r) a is.log (sound.chain one (seen_at_entry r) left seen) has (Two, is.live, upgrades.read) count ∙ sym begins

-- a program that comes into force leaves the log's beginning
pub upgrade_stays : (r : Observed) → UpgradesSilo r → IsSoundFolder r.old → IsImage r.old.disk (seen_at_entry r)
    → (one two : Image) (a b : Log) → IsImage r.old.disk one → IsImage r.new.disk two → HasLog one a → HasLog two b → a.base.count ≡ b.base.count → a.base ≡ b.base
upgrade_stays r (inl input) sound seen = stays r.old r.new input.untouched.now.images sound
upgrade_stays r (inr (inl unopened)) sound seen = stays r.old r.new unopened.untouched.now.images sound
upgrade_stays r (inr (inr (inl refused))) sound seen = stays r.old r.new refused.untouched.now.images sound
upgrade_stays r (inr (inr (inr is))) sound seen = upgraded_stays r is sound seen

-- ---- `compact`

-- where no image is new, a log behind is one at entry
as_at_entry : (r : Observed) → ((image : Image) → IsImage r.new.disk image → IsImage r.old.disk image) → (image : Image) (after : Log) → IsImage r.new.disk image → HasLog image after
    → ((entry : Image) × IsImage r.old.disk entry × HasLog entry after) ⊎ ((read : Log) × HasLog (seen_at_entry r) read × ((after ≡ read) ⊎ (after.base.program ≡ (standing_of read).program)))
as_at_entry r images image after left has = inl (image, images image left, has)

-- the log that was read, or what stands for it alone
either_stays : (r : Observed) (live : ℕ) (log : Log) → IsLog live (seen_at_entry r) log → (image : Image) (after : Log) → HasEither Two Two live log (checkpointed log) image → HasLog image after
    → ((entry : Image) × IsImage r.old.disk entry × HasLog entry after) ⊎ ((read : Log) × HasLog (seen_at_entry r) read × ((after ≡ read) ⊎ (after.base.program ≡ (standing_of read).program)))
either_stays r live log read image after (inl is) has = inr (log, (Two, live, read), inl (one_log has.0 Two has.1 live image after log has.2 is))
either_stays r live log read image after (inr is) has =
    inr (log, (Two, live, read), inr (ap (λ (l : Log). l.base.program) (one_log has.0 Two has.1 (1 - live) image after (checkpointed log) has.2 is)))

-- a folder that is written anew keeps the program in force
pub compact_stays : (r : Observed) → Compacts r → IsSoundFolder r.old → (image : Image) (after : Log) → IsImage r.new.disk image → HasLog image after
    → ((entry : Image) × IsImage r.old.disk entry × HasLog entry after) ⊎ ((read : Log) × HasLog (seen_at_entry r) read × ((after ≡ read) ⊎ (after.base.program ≡ (standing_of read).program)))
compact_stays r (inl unopened) sound image after left has = as_at_entry r unopened.untouched.now.images image after left has
compact_stays r (inr (inl last)) sound image after left has = as_at_entry r last.untouched.now.images image after left has
compact_stays r (inr (inr is)) sound image after left has =
    let rewrites = is.over_whole (whole_folder r.old sound) in
    let last = rewrites.moments (moment_of r.new) (inr (in_append (moment_of r.new) rewrites.late (moment_of r.new ∷ []) (inr (inl refl)))) in
    either_stays r is.live is.log rewrites.read image after (last.either image left) has

-- ---- `migrate`

-- in either slot stands the same log
same_either : (live : ℕ) (log b : Log) (image : Image) → HasEither One Two live log log image → HasLog image b → b ≡ log
same_either live log b image (inl is) has = one_log has.0 One has.1 live image b log has.2 is
same_either live log b image (inr is) has = one_log has.0 Two has.1 (1 - live) image b log has.2 is

migrated_stays : (r : Observed) → IsMigrated r → IsSoundFolder r.old → IsImage r.old.disk (seen_at_entry r)
    → (one two : Image) (a b : Log) → IsImage r.old.disk one → IsImage r.new.disk two → HasLog one a → HasLog two b → a.base.count ≡ b.base.count → a.base ≡ b.base
migrated_stays r is sound seen one two a b left later has also same =
    let rewrites = is.over_whole (whole_folder r.old sound) in
    let last = rewrites.moments (moment_of r.new) (inr (in_append (moment_of r.new) rewrites.late (moment_of r.new ∷ []) (inr (inl refl)))) in
    let log : b ≡ is.log = same_either is.live is.log b two (last.either two later) also in
    let count : a.base.count ≡ is.log.base.count = same ∙ ap (λ (l : Log). l.base.count) log in
    based one (seen_at_entry r) a is.log (sound.chain one (seen_at_entry r) left seen) has (One, is.live, rewrites.read) count ∙ sym (ap (λ (l : Log). l.base) log)

-- a folder that is put into format 2 keeps its log
pub migrate_stays : (r : Observed) → Migrates r → IsSoundFolder r.old → IsImage r.old.disk (seen_at_entry r)
    → (one two : Image) (a b : Log) → IsImage r.old.disk one → IsImage r.new.disk two → HasLog one a → HasLog two b → a.base.count ≡ b.base.count → a.base ≡ b.base
migrate_stays r (inl unopened) sound seen = stays r.old r.new unopened.untouched.now.images sound
migrate_stays r (inr (inl last)) sound seen = stays r.old r.new last.untouched.now.images sound
migrate_stays r (inr (inr is)) sound seen = migrated_stays r is sound seen
