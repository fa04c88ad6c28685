-- How `compact` and `migrate` end, and what is shown then.
use Rattle.std.proofs.Common.{◌≡◌, ◌≢◌, ◌⊎◌, inl, inr, ℕ, zero, suc, ◌<◌, ◌≤◌, ◌^◌, false, List, length, refl, sym, ◌∙◌, ap, subst, arith}
use Rattle.std.proofs.lemmas.Bool.{cases_lt}
use Rattle.host_trait.specs.declared.channels.Channel.{Channel}
use Rattle.host_trait.specs.declared.channels.FileId.{FileId}
use Rattle.host_trait.specs.declared.channels.FileId.TheVariants.{Manager}
use Rattle.host_trait.specs.Faults.{NoneFailed}
use Rattle.host_trait.specs.Runs.{OnlyAsked}
use Rattle.host_trait.specs.Disk.{settled}
use Rattle.host_trait.specs.World.{World, Disk}
use Rattle.field_codec.specs.declared.formats.Format.{Format}
use Rattle.field_codec.specs.declared.formats.Format.TheVariants.{One, Two}
use Rattle.log_reading.specs.declared.faults.FolderFault.{FolderFault}
use Rattle.log_reading.specs.Counts.{ReadFaulted}
use Rattle.log_reading.specs.Steps.{seen_in}
use Rattle.log_reading.proofs.Errors.{failed}
use Rattle.silo_spec.specs.OpenedDisks.{opened_disk, opening_syncs, OnlyOpens}
use Rattle.promise_spec.specs.Entries.{checkpointed}
use Rattle.promise_spec.specs.Openings.{Reading, reading_in}
use Rattle.promise_spec.specs.Words.{Manner}
use Rattle.promise_spec.specs.Endings.{Ending, Done, BadUse, LastGeneration, HasFailedAs}
use Rattle.promise_spec.specs.Courses.{Observed}
use Rattle.promise_spec.specs.Images.{IsWholeFolder}
use Rattle.promise_spec.specs.Refusals.{IsEitherManager, MustBeRead, IsRefusedBy, IsUnopenedIn}
use Rattle.promise_spec.specs.Compaction.{Rewrites, IsRewritten, IsCompacted, IsLastGeneration}
use Rattle.promise_spec.specs.Migration.{IsMigrated}
use Rattle.silo_opening.specs.declared.faults.OpenFault.{OpenFault}
use Rattle.silo_opening.specs.declared.opened_silo.Opened.{Opened}
use Rattle.silo_opening.specs.Counts.{OpenFaulted}
use Rattle.silo_opening.specs.OpenedSilo.{in_folder, ending_of, IsOpenedIn, IsOpenedFrom}
use Rattle.silo_opening.proofs.OpeningCalls.{opened_seen, long_opened, opens_untouched}
use Rattle.checkpoint.specs.Steps.{LastsIfLong}
use Rattle.checkpoint.proofs.Compacted.{read_so, generation_so, opens_too, untouched}

-- ---- faults

pub open_failed : (before after : Channel → ℕ) (e : OpenFault) → OpenFaulted e before after → HasFailedAs (ending_of e) before after
open_failed before after OpenFault.NotASilo f = f
open_failed before after OpenFault.OldFormat f = f
open_failed before after (OpenFault.Damaged file place) f = f
open_failed before after (OpenFault.DiskFault file) f = f
open_failed before after OpenFault.LastGeneration f = f
open_failed before after OpenFault.Memory f = f

pub read_failed : (before after : Channel → ℕ) (fault : FolderFault) → ReadFaulted fault before after → HasFailedAs (ending_of (in_folder fault)) before after
read_failed before after (FolderFault.Damaged file place) f = f
read_failed before after (FolderFault.Failed file) f = f
read_failed before after FolderFault.Memory f = f

-- behind calls that didn't fail
pub calm_before : (e : Ending) (before mid after : Channel → ℕ) → NoneFailed before mid → HasFailedAs e mid after → HasFailedAs e before after
calm_before e before mid after none fails = subst (λ (f : Channel → ℕ). HasFailedAs e f after) (λ i c. none c i) fails

pub calm_then : (before mid after : Channel → ℕ) → NoneFailed before mid → NoneFailed mid after → NoneFailed before after
calm_then before mid after first second channel = second channel ∙ first channel

-- no fault is told as bad use
pub never_bad_use : (e : OpenFault) → ending_of e ≡ BadUse → ⊥
never_bad_use OpenFault.NotASilo same = cc
never_bad_use OpenFault.OldFormat same = cc
never_bad_use (OpenFault.Damaged file place) same = cc
never_bad_use (OpenFault.DiskFault file) same = cc
never_bad_use OpenFault.LastGeneration same = cc
never_bad_use OpenFault.Memory same = cc

pub never_done : (fault : FolderFault) → ending_of (in_folder fault) ≡ Done → ⊥
never_done (FolderFault.Damaged file place) same = cc
never_done (FolderFault.Failed file) same = cc
never_done FolderFault.Memory same = cc

-- a fault that isn't damage
pub not_damaged : {A : Type 0} (fault : FolderFault) → ((file : FileId) (place : ℕ) → failed {A = A} fault ≡ failed (FolderFault.Damaged file place) → ⊥) → IsRewritten (ending_of (in_folder fault))
not_damaged (FolderFault.Damaged file place) none = absurd (none file place refl)
not_damaged (FolderFault.Failed file) none = inr (inr tt)
not_damaged FolderFault.Memory none = inr (inl refl)

-- ---- what lasts

-- each slot's manager file that is long enough, once the folder was opened
pub opened_lasts : (slot : ℕ) (disk now : Disk) → slot ≤ 1 → now ≡ opened_disk disk → LastsIfLong (now (Manager slot))
opened_lasts slot disk now low is =
    let seen = opened_seen (Manager slot) (disk (Manager slot)) in
    subst (λ (d : Disk). LastsIfLong (d (Manager slot))) (sym is)
    (λ long. long_opened slot (disk (Manager slot)) low (subst (λ (l : List ℕ). 16 ≤ length l) seen long) ∙ ap settled (sym seen))

-- ---- what is shown

module _ (manner : Manner) (lines : List (List ℕ)) (before after : Channel → ℕ) where
  abbrev pub shown_as : World → World → Ending → Observed
  shown_as old new ending = record { manner = manner; asked = lines; windowed = false; old = old; new = new; faults_before = before; faults_after = after; ending = ending }

  -- the folder wasn't opened
  pub unopened : (f : Format) (ending : Ending) (old new : World) → OnlyOpens old new → IsRefusedBy f (seen_in old.disk) (reading_in f (seen_in old.disk)) ending → HasFailedAs ending before after → IsUnopenedIn f (shown_as old new ending)
  unopened f ending old new opens refused fails = record {
    untouched = opens_untouched (opening_syncs (seen_in old.disk)) old new opens;
    unread = opens.input;
    syncs = opens.syncs;
    refused = refused;
    failed = fails;
  }

  module _ (f : Format) (o : Opened) (w0 w1 w2 : World) (from : IsOpenedIn f (seen_in w1.disk) o) (slot : o.slot ≤ 1) (opens : OnlyOpens w0 w1) (left : w1.disk ≡ opened_disk w0.disk) (asked : OnlyAsked w1 w2) where
    -- no generation follows
    pub is_last : o.generation ≡ 4294967295 → NoneFailed before after → IsLastGeneration f (shown_as w0 w2 LastGeneration)
    is_last last none = record {
      live = o.slot;
      log = from.log;
      reads = read_so f o w0 w1 w2 from slot opens left asked;
      last = omega (arith, last, generation_so f o w0 w1 w2 from slot opens left asked);
      untouched = untouched f o w0 w1 w2 from slot opens left asked;
      unread = (opens_too f o w0 w1 w2 from slot opens left asked).input;
      syncs = (opens_too f o w0 w1 w2 from slot opens left asked).syncs;
      ending = refl;
      calm = none;
    }

    -- the versions weren't found for want of memory, or for a fault of the manager file
    pub latest_refused : (e : OpenFault) → (e ≡ OpenFault.Memory) ⊎ (e ≡ OpenFault.DiskFault (Manager o.slot)) → IsRefusedBy f (seen_in w0.disk) (reading_in f (seen_in w0.disk)) (ending_of e)
    latest_refused e (inl same) = subst (λ (x : OpenFault). IsRefusedBy f (seen_in w0.disk) (reading_in f (seen_in w0.disk)) (ending_of x)) (sym same) tt
    latest_refused e (inr same) =
        subst (λ (x : OpenFault). IsRefusedBy f (seen_in w0.disk) (reading_in f (seen_in w0.disk)) (ending_of x)) (sym same)
        (subst (λ (reading : Reading). MustBeRead f (seen_in w0.disk) reading (Manager o.slot)) (sym (read_so f o w0 w1 w2 from slot opens left asked)) (inl (inl (either o.slot slot))))
      where
        either : (n : ℕ) → n ≤ 1 → IsEitherManager (Manager n)
        either zero low = inl refl
        either (suc zero) low = inr refl
        either (suc (suc n)) low = absurd (omega (arith, low))

    follows_it : o.generation ≢ 4294967295 → o.generation < 2 ^ 32 → o.generation < 4294967295
    follows_it other low = elim (cases_lt o.generation 4294967295) [
      | inl less ↦ less
      | inr more ↦ absurd (other (omega (arith, more, low)))
    ]

    unread_too : (w3 : World) → w3.input ≡ w2.input → w3.input ≡ w0.input
    unread_too w3 unread = unread ∙ (opens_too f o w0 w1 w2 from slot opens left asked).input

    quiet_too : (w3 : World) → w3.output ≡ w2.output → w3.output ≡ w0.output
    quiet_too w3 quiet = quiet ∙ (opens_too f o w0 w1 w2 from slot opens left asked).now.output

  -- it was written anew
  module _ (o : Opened) (w0 w1 w2 : World) (from : IsOpenedFrom (seen_in w1.disk) o) (slot : o.slot ≤ 1) (opens : OnlyOpens w0 w1) (left : w1.disk ≡ opened_disk w0.disk) (asked : OnlyAsked w1 w2) where
    pub is_compacted : (ending : Ending) (w3 : World) → o.generation ≢ 4294967295 → o.generation < 2 ^ 32 → w3.input ≡ w2.input → w3.output ≡ w2.output → IsRewritten ending → HasFailedAs ending before after
        → (IsWholeFolder w0 → Rewrites Two Two o.slot from.log (checkpointed from.log) (shown_as w0 w3 ending)) → IsCompacted (shown_as w0 w3 ending)
    is_compacted ending w3 other low unread quiet rewritten fails over = record {
      live = o.slot;
      log = from.log;
      reads = read_so Two o w0 w1 w2 from slot opens left asked;
      follows = omega (arith, low, generation_so Two o w0 w1 w2 from slot opens left asked, follows_it Two o w0 w1 w2 from slot opens left asked other low);
      unread = unread_too Two o w0 w1 w2 from slot opens left asked w3 unread;
      quiet = quiet_too Two o w0 w1 w2 from slot opens left asked w3 quiet;
      ending = rewritten;
      failed = fails;
      over_whole = over;
    }

  -- or copied in format 2
  module _ (o : Opened) (w0 w1 w2 : World) (from : IsOpenedIn One (seen_in w1.disk) o) (slot : o.slot ≤ 1) (opens : OnlyOpens w0 w1) (left : w1.disk ≡ opened_disk w0.disk) (asked : OnlyAsked w1 w2) where
    pub is_migrated : (ending : Ending) (w3 : World) → o.generation ≢ 4294967295 → o.generation < 2 ^ 32 → w3.input ≡ w2.input → w3.output ≡ w2.output → IsRewritten ending → HasFailedAs ending before after
        → (IsWholeFolder w0 → Rewrites One Two o.slot from.log from.log (shown_as w0 w3 ending)) → IsMigrated (shown_as w0 w3 ending)
    is_migrated ending w3 other low unread quiet rewritten fails over = record {
      live = o.slot;
      log = from.log;
      reads = read_so One o w0 w1 w2 from slot opens left asked;
      follows = omega (arith, low, generation_so One o w0 w1 w2 from slot opens left asked, follows_it One o w0 w1 w2 from slot opens left asked other low);
      unread = unread_too One o w0 w1 w2 from slot opens left asked w3 unread;
      quiet = quiet_too One o w0 w1 w2 from slot opens left asked w3 quiet;
      ending = rewritten;
      failed = fails;
      over_whole = over;
    }
