-- What `migrate` shows of the folder that it opened.
use Rattle.std.proofs.Common.{◌≡◌, ℕ, ◌-◌, ◌≤◌, List, sym, ◌∙◌, subst}
use Rattle.host_trait.specs.declared.channels.Channel.{Channel}
use Rattle.host_trait.specs.declared.channels.FileId.{FileId}
use Rattle.host_trait.specs.declared.channels.FileId.TheVariants.{Manager}
use Rattle.host_trait.specs.Disk.{MayLeave}
use Rattle.host_trait.specs.World.{World}
use Rattle.host_trait.proofs.Runs.{none_asked}
use Rattle.field_codec.specs.declared.formats.Format.TheVariants.{One, Two}
use Rattle.log_reading.specs.Steps.{seen_in}
use Rattle.silo_spec.specs.OpenedDisks.{opened_disk, OnlyOpens}
use Rattle.silo_spec.specs.Slots.{generation}
use Rattle.promise_spec.specs.Logs.{IsLogOf}
use Rattle.promise_spec.specs.Images.{IsWholeFolder}
use Rattle.promise_spec.specs.Words.{Manner}
use Rattle.promise_spec.specs.Endings.{Ending, Done}
use Rattle.promise_spec.specs.EitherSlot.{IsCompactable}
use Rattle.promise_spec.specs.Compaction.{Rewrites}
use Rattle.silo_opening.specs.declared.opened_silo.Opened.{Opened}
use Rattle.silo_opening.specs.OpenedSilo.{IsOpenedIn}
use Rattle.checkpoint.specs.declared.migration.OldSilo.{OldSilo}
use Rattle.checkpoint.specs.NextGeneration.{HasGone, HasNextSilo}
use Rattle.checkpoint.specs.Migration.{IsOldOf, MayCopy}
use Rattle.checkpoint.proofs.Compacted.{can, shown, rewrites}
use Rattle.checkpoint.proofs.Endings.{shown_as}
use Rattle.checkpoint.proofs.MigratedSlots.{copied_from}

module _ (o : Opened) (silo : OldSilo) (is : IsOldOf o silo) (w0 w1 : World) (from : IsOpenedIn One (seen_in w1.disk) o) (slot : o.slot ≤ 1) (opens : OnlyOpens w0 w1) (left : w1.disk ≡ opened_disk w0.disk)
    (stay : (file : FileId) → MayLeave (w0.disk file) (w0.disk file).seen) (stay_too : (file : FileId) → MayLeave (w1.disk file) (w1.disk file).seen) (whole : IsWholeFolder w0) where
  -- the other slot's files may be filled
  pub may_copy : MayCopy silo from.log w1
  may_copy = record {
    made = copied_from o silo is w1 from from.generation_is;
    can = subst (λ (n : ℕ). IsCompactable One n from.log w1) (sym is.live) (can One o w0 w1 w1 from slot opens left (none_asked w1) stay stay_too whole);
    shown = shown One o w0 w1 w1 from slot opens left (none_asked w1) stay stay_too whole;
  }

  -- and as far as they were, the log is written anew
  pub migrates_so : (manner : Manner) (lines : List (List ℕ)) (before after : Channel → ℕ) (ending : Ending) (w2 : World) → HasGone One silo.live from.log from.log w1 w2
      → (ending ≡ Done → HasNextSilo silo.live silo.generation from.log w2.disk) → Rewrites One Two o.slot from.log from.log (shown_as manner lines before after w0 w2 ending)
  migrates_so manner lines before after ending w2 gone done =
      let so : HasGone One o.slot from.log from.log w1 w2 = subst (λ (n : ℕ). HasGone One n from.log from.log w1 w2) is.live gone in
      rewrites One o w0 w1 w1 from slot opens left (none_asked w1) stay stay_too whole manner lines before after ending w2 from.log so.moments so.now so.shows
      (λ ends image is_image.
      let there = subst (λ (n : ℕ). IsLogOf Two (1 - n) image from.log × (generation (image (Manager (1 - n))) ≡ silo.generation)) is.live (done ends image is_image) in
      (there.0, there.1 ∙ is.generation_is))
