-- Folders stay sound at the moments of a command that writes the other slot anew.
use Rattle.std.proofs.Common.{◌≡◌, ◌⊎◌, inl, inr, ℕ, ◌-◌, ◌<◌, length, List, [], ◌∷◌, ◌++◌, refl, sym, subst, ◌∙◌}
use Rattle.core_model.specs.CoreState.{Member}
use Rattle.host_trait.specs.declared.channels.FileId.TheVariants.{Manager}
use Rattle.host_trait.proofs.Moments.{weaker}
use Rattle.host_trait.specs.World.{World, Moment, Image, IsImage, Passes, moment_of}
use Rattle.field_codec.specs.declared.formats.Format.{Format}
use Rattle.field_codec.specs.declared.formats.Format.TheVariants.{One, Two}
use Rattle.silo_spec.specs.Silos.{IsMagic}
use Rattle.silo_spec.specs.Slots.{IsLive}
use Rattle.silo_spec.specs.Moments.{IsAsAtEntry, IsUntouched}
use Rattle.promise_spec.specs.Entries.{Log, records_of, checkpointed}
use Rattle.promise_spec.specs.SerialExecution.{IsSerialFrom}
use Rattle.promise_spec.specs.Logs.{IsLogOf, HasLog}
use Rattle.promise_spec.specs.Prefixes.{IsPrefixOf}
use Rattle.promise_spec.specs.Images.{AreNumbered, IsSound, IsSoundFolder}
use Rattle.promise_spec.specs.Courses.{Observed, seen_at_entry}
use Rattle.promise_spec.specs.EitherSlot.{HasEither, AllEither}
use Rattle.promise_spec.specs.Compaction.{Rewrites, IsCompacted, Compacts}
use Rattle.promise_spec.specs.Migration.{IsMigrated, Migrates}
use Rattle.promise_laws.specs.Closings.{ReadsMayStay}
use Rattle.promise_laws.specs.SoundMoments.{IsSoundAt}
use Rattle.promise_spec.proofs.Lists.{all_of, in_append, either_in}
use Rattle.promise_spec.proofs.OneLog.{one_log}
use Rattle.promise_spec.proofs.Prefixes.{of_itself, saved}
use Rattle.promise_spec.proofs.Slots.{one_slot}
use Rattle.promise_spec.proofs.WholeFolders.{whole_folder}

-- its entries are what the one-thread store gives, and the units are numbered
abbrev pub IsGood : Log → Type 0
IsGood log = IsSerialFrom log.base log.entries × AreNumbered log.base.next (records_of log)

-- each image has one of two logs, of which the first is a prefix of the second
module _ (a b : Log) (front : IsPrefixOf a b) (m : Moment) (either : (image : Image) → IsImage m.disk image → HasLog image a ⊎ HasLog image b) where
  pub of_two : (image : Image) → HasLog image a ⊎ HasLog image b → (log : Log) → HasLog image log → (log ≡ a) ⊎ (log ≡ b)
  of_two image (inl x) log y = inl (one_log y.0 x.0 y.1 x.1 image log a y.2 x.2)
  of_two image (inr x) log y = inr (one_log y.0 x.0 y.1 x.1 image log b y.2 x.2)

  pub two_chain : (x y : Log) → (x ≡ a) ⊎ (x ≡ b) → (y ≡ a) ⊎ (y ≡ b) → IsPrefixOf x y ⊎ IsPrefixOf y x
  two_chain x y (inl e) (inl f) = inl (subst (λ (l : Log). IsPrefixOf x l) (e ∙ sym f) (of_itself x))
  two_chain x y (inl e) (inr f) = inl (subst (λ (l : Log). IsPrefixOf l y) (sym e) (subst (λ (l : Log). IsPrefixOf a l) (sym f) front))
  two_chain x y (inr e) (inl f) = inr (subst (λ (l : Log). IsPrefixOf l x) (sym f) (subst (λ (l : Log). IsPrefixOf a l) (sym e) front))
  two_chain x y (inr e) (inr f) = inl (subst (λ (l : Log). IsPrefixOf x l) (e ∙ sym f) (of_itself x))

  sound_by : (image : Image) → HasLog image a ⊎ HasLog image b → IsGood a → IsGood b → (live : ℕ) → IsLive IsMagic live image → IsSound live image
  sound_by image (inl x) good good_too live is =
      subst (λ (slot : ℕ). IsSound slot image) (one_slot x.1 live image x.2.is_live is) (record { format = x.0; log = a; is = x.2; serial = good.0; numbered = good.1 })
  sound_by image (inr x) good good_too live is =
      subst (λ (slot : ℕ). IsSound slot image) (one_slot x.1 live image x.2.is_live is) (record { format = x.0; log = b; is = x.2; serial = good_too.0; numbered = good_too.1 })

  pub two_logs : IsGood a → IsGood b → IsSoundAt m
  two_logs good good_too = record {
    chain = λ one other left left_too x y is_x is_y. two_chain x y (of_two one (either one left) x is_x) (of_two other (either other left_too) y is_y);
    sound = λ image left live is. sound_by image (either image left) good good_too live is;
  }

-- while one is made of the other, which it is a prefix of
rewriting_sound : (from to : Format) (live : ℕ) (log new : Log) (m : Moment) → IsPrefixOf log new → AllEither from to live log new m → IsGood log → IsGood new → IsSoundAt m
rewriting_sound from to live log new m front either good good_too = two_logs log new front m (λ image left. sides image (either image left)) good good_too
  where
    sides : (image : Image) → HasEither from to live log new image → HasLog image log ⊎ HasLog image new
    sides image (inl x) = inl (from, live, x)
    sides image (inr x) = inr (to, 1 - live, x)

-- while what stands for the log alone is made of it
pub compacting_sound : (from to : Format) (live : ℕ) (log : Log) (m : Moment) → AllEither from to live log (checkpointed log) m → IsGood log → IsSoundAt m
compacting_sound from to live log m either good = rewriting_sound from to live log (checkpointed log) m (saved log).0 either good (tt, tt)

-- while the same log is made of it
pub migrating_sound : (from to : Format) (live : ℕ) (log : Log) (m : Moment) → AllEither from to live log log m → IsGood log → IsSoundAt m
migrating_sound from to live log m either good = rewriting_sound from to live log log m (of_itself log) either good good

-- ---- `compact` and `migrate`

-- over a sound folder the log that the files read as is sound
pub log_good : (format : Format) (live : ℕ) (log : Log) (r : Observed) → ReadsMayStay r.old → IsSoundFolder r.old → IsLogOf format live (seen_at_entry r) log → IsGood log
log_good format live log r stay sound read =
    let s : IsSound live (seen_at_entry r) = sound.sound (seen_at_entry r) stay live read.is_live in
    subst IsGood (one_log s.format format live live (seen_at_entry r) s.log log s.is read) (s.serial, s.numbered)

-- where no more images are left than at entry
pub entry_sound : (old : World) (m : Moment) → IsSoundFolder old → ((image : Image) → IsImage m.disk image → IsImage old.disk image) → IsSoundAt m
entry_sound old m sound images = record {
  chain = λ one other left left_too. sound.chain one other (images one left) (images other left_too);
  sound = λ image left. sound.sound image (images image left);
}

-- where each moment that counts is sound, a call that rewrites leaves a sound folder
module _ (from to : Format) (live : ℕ) (log new : Log) (r : Observed) (sound : IsSoundFolder r.old) (rewrites : Rewrites from to live log new r) (sound_at : (m : Moment) → AllEither from to live log new m → IsSoundAt m) where
  rewritten_keeps : IsSoundFolder r.new
  rewritten_keeps =
      let last = rewrites.moments (moment_of r.new) (inr (in_append (moment_of r.new) rewrites.late (moment_of r.new ∷ []) (inr (inl refl)))) in
      let now : IsSoundAt (moment_of r.new) = sound_at (moment_of r.new) last.either in
      record { chain = now.chain; sound = now.sound; shows = rewrites.shows }

  -- and each moment of it is
  rewritten_moments : Passes IsSoundAt r.old.past r.new.past
  rewritten_moments = record {
    more = rewrites.early ++ rewrites.late;
    past = rewrites.past;
    each = all_of IsSoundAt (rewrites.early ++ rewrites.late) (λ m there. by m (either_in m rewrites.early rewrites.late there));
  }
    where
      by : (m : Moment) → Member m rewrites.early ⊎ Member m rewrites.late → IsSoundAt m
      by m (inl early) = entry_sound r.old m sound (rewrites.before m early).images
      by m (inr late) = sound_at m (rewrites.moments m (inr (in_append m rewrites.late (moment_of r.new ∷ []) (inl late)))).either

pub left_untouched : (old new : World) → IsUntouched old new → IsSoundFolder old → IsSoundFolder new
left_untouched old new u sound = record {
  chain = λ one other left left_too. sound.chain one other (u.now.images one left) (u.now.images other left_too);
  sound = λ image left. sound.sound image (u.now.images image left);
  shows = λ image left slot low short. sound.shows image (u.now.images image left) slot low (subst (λ (l : List ℕ). length l < 16) (u.seen (Manager slot)) short);
}

module _ (r : Observed) (stay : ReadsMayStay r.old) (sound : IsSoundFolder r.old) where
  module _ (is : IsCompacted r) where
    compacts : Rewrites Two Two is.live is.log (checkpointed is.log) r
    compacts = is.over_whole (whole_folder r.old sound)

    compacts_sound : (m : Moment) → AllEither Two Two is.live is.log (checkpointed is.log) m → IsSoundAt m
    compacts_sound m either = compacting_sound Two Two is.live is.log m either (log_good Two is.live is.log r stay sound compacts.read)

  module _ (is : IsMigrated r) where
    migrates : Rewrites One Two is.live is.log is.log r
    migrates = is.over_whole (whole_folder r.old sound)

    migrates_sound : (m : Moment) → AllEither One Two is.live is.log is.log m → IsSoundAt m
    migrates_sound m either = migrating_sound One Two is.live is.log m either (log_good One is.live is.log r stay sound migrates.read)

-- `compact` leaves a sound folder
pub compact_keeps : (r : Observed) → ReadsMayStay r.old → Compacts r → IsSoundFolder r.old → IsSoundFolder r.new
compact_keeps r stay (inl unopened) sound = left_untouched r.old r.new unopened.untouched sound
compact_keeps r stay (inr (inl last)) sound = left_untouched r.old r.new last.untouched sound
compact_keeps r stay (inr (inr is)) sound = rewritten_keeps Two Two is.live is.log (checkpointed is.log) r sound (compacts r stay sound is) (compacts_sound r stay sound is)

-- so does `migrate`
pub migrate_keeps : (r : Observed) → ReadsMayStay r.old → Migrates r → IsSoundFolder r.old → IsSoundFolder r.new
migrate_keeps r stay (inl unopened) sound = left_untouched r.old r.new unopened.untouched sound
migrate_keeps r stay (inr (inl last)) sound = left_untouched r.old r.new last.untouched sound
migrate_keeps r stay (inr (inr is)) sound = rewritten_keeps One Two is.live is.log is.log r sound (migrates r stay sound is) (migrates_sound r stay sound is)

pub untouched_so : (old new : World) → IsUntouched old new → IsSoundFolder old → Passes IsSoundAt old.past new.past
untouched_so old new u sound = weaker (IsAsAtEntry old) IsSoundAt (λ m is. entry_sound old m sound is.images) u.moments

-- and so at each moment
pub compact_moments : (r : Observed) → ReadsMayStay r.old → Compacts r → IsSoundFolder r.old → Passes IsSoundAt r.old.past r.new.past
compact_moments r stay (inl unopened) sound = untouched_so r.old r.new unopened.untouched sound
compact_moments r stay (inr (inl last)) sound = untouched_so r.old r.new last.untouched sound
compact_moments r stay (inr (inr is)) sound = rewritten_moments Two Two is.live is.log (checkpointed is.log) r sound (compacts r stay sound is) (compacts_sound r stay sound is)

pub migrate_moments : (r : Observed) → ReadsMayStay r.old → Migrates r → IsSoundFolder r.old → Passes IsSoundAt r.old.past r.new.past
migrate_moments r stay (inl unopened) sound = untouched_so r.old r.new unopened.untouched sound
migrate_moments r stay (inr (inl last)) sound = untouched_so r.old r.new last.untouched sound
migrate_moments r stay (inr (inr is)) sound = rewritten_moments One Two is.live is.log is.log r sound (migrates r stay sound is) (migrates_sound r stay sound is)
