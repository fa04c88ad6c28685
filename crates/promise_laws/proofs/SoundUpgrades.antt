-- Folders stay sound at the moments of an upgrade.
use Rattle.std.proofs.Common.{◌≡◌, ◌⊎◌, inl, inr, ℕ, List, [], ◌∷◌, ◌++◌, refl, sym, ap, subst}
use Rattle.core_model.specs.CoreState.{Member}
use Rattle.host_trait.specs.World.{Moment, Image, IsImage, Passes, moment_of}
use Rattle.field_codec.specs.declared.formats.Format.TheVariants.{Two}
use Rattle.promise_spec.specs.Programs.{Program}
use Rattle.promise_spec.specs.Records.{Commit}
use Rattle.promise_spec.specs.Entries.{LogEntry, Recorded, Upgraded, records_among, Standing, after_entry, Log, upgraded}
use Rattle.promise_spec.specs.SerialExecution.{IsSerialFrom}
use Rattle.promise_spec.specs.Logs.{IsLog, HasLog}
use Rattle.promise_spec.specs.Images.{AreNumbered, IsSoundFolder}
use Rattle.promise_spec.specs.Courses.{Observed}
use Rattle.promise_spec.specs.Upgrading.{IsUpgrading, Upgrades, IsUpgraded, UpgradesSilo, program_read}
use Rattle.promise_laws.specs.Closings.{ReadsMayStay}
use Rattle.promise_laws.specs.SoundMoments.{IsSoundAt}
use Rattle.promise_spec.proofs.Lists.{all_of, in_append, either_in}
use Rattle.promise_spec.proofs.Prefixes.{over_one_base}
use Rattle.promise_spec.proofs.WholeFolders.{whole_folder}
use Rattle.promise_laws.proofs.RewrittenFolders.{IsGood, two_logs, log_good, entry_sound, left_untouched, untouched_so}

-- an upgrade leaves a log serial
serial_upgraded : (before : Standing) (entries : List LogEntry) (q : Program) → IsSerialFrom before entries → IsSerialFrom before (entries ++ Upgraded q ∷ [])
serial_upgraded before [] q serial = tt
serial_upgraded before (Recorded c ∷ entries) q serial = (serial.0, serial_upgraded (after_entry before (Recorded c)) entries q serial.1)
serial_upgraded before (Upgraded p ∷ entries) q serial = serial_upgraded (after_entry before (Upgraded p)) entries q serial

-- and its records
pub records_upgraded : (entries : List LogEntry) (q : Program) → records_among (entries ++ Upgraded q ∷ []) ≡ records_among entries
records_upgraded [] q = refl
records_upgraded (Recorded c ∷ entries) q = ap (λ (l : List Commit). c ∷ l) (records_upgraded entries q)
records_upgraded (Upgraded p ∷ entries) q = records_upgraded entries q

good_upgraded : (log : Log) (q : Program) → IsGood log → IsGood (upgraded log q)
good_upgraded log q good = (serial_upgraded log.base log.entries q good.0, subst (AreNumbered log.base.next) (sym (records_upgraded log.entries q)) good.1)

-- a moment at which each image has the log, or it with the upgrade more
upgrading_sound : (live : ℕ) (log : Log) (q : Program) (m : Moment) → ((image : Image) → IsImage m.disk image → IsLog live image log ⊎ IsLog live image (upgraded log q)) → IsGood log → IsSoundAt m
upgrading_sound live log q m either good =
    two_logs log (upgraded log q) (over_one_base log (upgraded log q) refl (Upgraded q ∷ [], refl)) m (λ image left. sides image (either image left)) good (good_upgraded log q good)
  where
    sides : (image : Image) → IsLog live image log ⊎ IsLog live image (upgraded log q) → HasLog image log ⊎ HasLog image (upgraded log q)
    sides image (inl x) = inl (Two, live, x)
    sides image (inr x) = inr (Two, live, x)

module _ (r : Observed) (stay : ReadsMayStay r.old) (is : IsUpgraded r) (sound : IsSoundFolder r.old) where
  upgrades : Upgrades is.live is.log (program_read is.text) r
  upgrades = is.over_whole (whole_folder r.old sound)

  -- a moment from the opening's last sync on
  sound_at : (m : Moment) → IsUpgrading is.live is.log (program_read is.text) r m → IsSoundAt m
  sound_at m at = upgrading_sound is.live is.log (program_read is.text) m at.either (log_good Two is.live is.log r stay sound upgrades.read)

  upgraded_keeps : IsSoundFolder r.new
  upgraded_keeps =
      let last = upgrades.moments (moment_of r.new) (inr (in_append (moment_of r.new) upgrades.late (moment_of r.new ∷ []) (inr (inl refl)))) in
      let now : IsSoundAt (moment_of r.new) = sound_at (moment_of r.new) last in
      record { chain = now.chain; sound = now.sound; shows = upgrades.shows }

  upgraded_moments : Passes IsSoundAt r.old.past r.new.past
  upgraded_moments = record {
    more = upgrades.early ++ upgrades.late;
    past = upgrades.past;
    each = all_of IsSoundAt (upgrades.early ++ upgrades.late) (λ m there. by m (either_in m upgrades.early upgrades.late there));
  }
    where
      by : (m : Moment) → Member m upgrades.early ⊎ Member m upgrades.late → IsSoundAt m
      by m (inl early) = entry_sound r.old m sound (upgrades.before m early).images
      by m (inr late) = sound_at m (upgrades.moments m (inr (in_append m upgrades.late (moment_of r.new ∷ []) (inl late))))

-- `upgrade` leaves a sound folder
pub upgrade_keeps : (r : Observed) → ReadsMayStay r.old → UpgradesSilo r → IsSoundFolder r.old → IsSoundFolder r.new
upgrade_keeps r stay (inl input) sound = left_untouched r.old r.new input.untouched sound
upgrade_keeps r stay (inr (inl unopened)) sound = left_untouched r.old r.new unopened.untouched sound
upgrade_keeps r stay (inr (inr (inl refused))) sound = left_untouched r.old r.new refused.untouched sound
upgrade_keeps r stay (inr (inr (inr is))) sound = upgraded_keeps r stay is sound

-- and so at each moment
pub upgrade_moments : (r : Observed) → ReadsMayStay r.old → UpgradesSilo r → IsSoundFolder r.old → Passes IsSoundAt r.old.past r.new.past
upgrade_moments r stay (inl input) sound = untouched_so r.old r.new input.untouched sound
upgrade_moments r stay (inr (inl unopened)) sound = untouched_so r.old r.new unopened.untouched sound
upgrade_moments r stay (inr (inr (inl refused))) sound = untouched_so r.old r.new refused.untouched sound
upgrade_moments r stay (inr (inr (inr is))) sound = upgraded_moments r stay is sound
