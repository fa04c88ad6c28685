-- At each moment of a call that keeps its promise over a sound folder the images are a chain, and each that is a silo is sound.
use Rattle.std.proofs.Common.{◌≡◌, ◌⊎◌, inl, inr, ℕ, List, [], ◌∷◌, ◌++◌, sym, subst}
use Rattle.host_trait.proofs.Moments.{both, one, weaker, weaker_twice, joined}
use Rattle.host_trait.specs.World.{World, Moment, Disk, Image, IsImage, Passes, moment_of}
use Rattle.core_model.specs.CoreState.{Member}
use Rattle.silo_spec.specs.Moments.{IsAsAtEntry, IsUntouched}
use Rattle.silo_spec.specs.Creation.{CameThisFar, IsEarly, FromFirstSync, IsNewAt}
use Rattle.promise_spec.specs.Programs.{Program, IsChecked}
use Rattle.promise_spec.specs.Logs.{IsMagic}
use Rattle.promise_spec.specs.Moments.{IsImageOf}
use Rattle.promise_spec.specs.Endings as ending
use Rattle.promise_spec.specs.Endings.{Ending}
use Rattle.promise_spec.specs.Words.{Manner, Command, Init, Run, Show, History, Audit, Load, Check, Compact, Upgrade, Migrate}
use Rattle.promise_spec.specs.Courses.{Observed, Course, moments, program_in_force}
use Rattle.promise_spec.specs.Crashes.{SurvivesCrashes, StaySound}
use Rattle.promise_spec.specs.Refusals.{IsUnopened}
use Rattle.promise_spec.specs.Commands.{IsProgramText, MakesAs, MakesSilo, LeavesAsBefore, Reports, ShowsStates, Audits}
use Rattle.promise_spec.specs.Loads.{bank_text, KeepsLoad, IsUnmade, from_there, LoadsFrom, Loads}
use Rattle.promise_spec.specs.Checks.{Checks}
use Rattle.promise_spec.specs.Calls.{Obeys}
use Rattle.promise_spec.specs.Images.{IsSoundFolder}
use Rattle.promise_spec.specs.Promise.{Promises}
use Rattle.promise_laws.specs.Closings.{ReadsMayStay}
use Rattle.promise_laws.specs.SoundMoments.{IsSoundAt}
use Rattle.promise_spec.proofs.Lists.{all_of, in_append, either_in}
use Rattle.promise_spec.proofs.WholeFolders.{whole_folder}
use Rattle.promise_laws.proofs.RewrittenFolders.{entry_sound, compact_moments, migrate_moments}
use Rattle.promise_laws.proofs.SoundUpgrades.{upgrade_moments}
use Rattle.promise_laws.proofs.SoundFolders.{input_program, new_moment, made_sound}

-- the moments of a call that leaves all as it was
untouched_moments : (old new : World) → IsUntouched old new → IsSoundFolder old → Passes IsSoundAt old.past new.past
untouched_moments old new u sound = weaker (IsAsAtEntry old) IsSoundAt (λ m is. entry_sound old m sound is.images) u.moments

-- those of one that survives crashes
survived_moments : (r : Observed) (c : Course) → IsSoundFolder r.old → SurvivesCrashes r c → StaySound r c → Passes IsSoundAt r.old.past r.new.past
survived_moments r c sound s stay = record {
  more = c.early ++ c.late;
  past = s.past;
  each = all_of IsSoundAt (c.early ++ c.late) (λ m there. by m (either_in m c.early c.late there));
}
  where
    late_of : (m : Moment) → Member m c.late → (image : Image) → IsImage m.disk image → IsImageOf (moments r c) image
    late_of m there image left = record { moment = m; member = inr (in_append m c.late (moment_of r.new ∷ []) (inl there)); left = left }

    by : (m : Moment) → Member m c.early ⊎ Member m c.late → IsSoundAt m
    by m (inl early) = entry_sound r.old m sound (λ image left. s.before image (record { moment = m; member = early; left = left }))
    by m (inr late) = record {
      chain = λ one other left left_too. s.chain one other (late_of m late one left) (late_of m late other left_too);
      sound = λ image left. stay image (late_of m late image left);
    }

-- those of a run
run_moments : (m : Manner) (r : Observed) → Promises m r → IsSoundFolder r.old → Passes IsSoundAt r.old.past r.new.past
run_moments m r promises sound = elim (promises.over_whole (whole_folder r.old sound)) [
  | inl unopened ↦ untouched_moments r.old r.new unopened.untouched sound
  | inr kept ↦ survived_moments r kept.0 sound kept.1.headline.crashes (kept.1.headline.sound sound)
]

-- of a report
report_moments : (r : Observed) → Reports r → IsSoundFolder r.old → Passes IsSoundAt r.old.past r.new.past
report_moments r (inl unopened) sound = untouched_moments r.old r.new unopened.untouched sound
report_moments r (inr is) sound = weaker (LeavesAsBefore is.report.live r.old) IsSoundAt (λ m before. entry_sound r.old m sound (λ image left. (before image left).0)) is.report.moments

-- of an audit
audit_moments : (r : Observed) → Audits r → IsSoundFolder r.old → Passes IsSoundAt r.old.past r.new.past
audit_moments r (inl unopened) sound = untouched_moments r.old r.new unopened.untouched sound
audit_moments r (inr is) sound = weaker (LeavesAsBefore is.report.live r.old) IsSoundAt (λ m before. entry_sound r.old m sound (λ image left. (before image left).0)) is.report.moments

-- the moments of the making of a silo whose first syncs succeeded
first_moments : (q : Program) (old new : World) → IsChecked q → IsSoundFolder old → FromFirstSync (IsNewAt IsMagic q.text) old new → Passes IsSoundAt old.past new.past
first_moments q old new checked sound first =
    joined IsSoundAt (weaker_twice (IsEarly old) (IsNewAt IsMagic q.text) IsSoundAt IsSoundAt (λ m early. entry_sound old m sound early.unwritten.images) (λ m is. new_moment q checked m is) first.moments)

-- and of one, however far it came
makes_moments : (q : Program) (old new : World) → IsChecked q → CameThisFar IsMagic q.text old new → IsSoundFolder old → Passes IsSoundAt old.past new.past
makes_moments q old new checked (inl u) sound = untouched_moments old new u sound
makes_moments q old new checked (inr first) sound = first_moments q old new checked sound first

-- of an `init`
init_moments : (r : Observed) → MakesSilo r → IsSoundFolder r.old → Passes IsSoundAt r.old.past r.new.past
init_moments r makes sound = by r.ending makes.ends_as
  where
    stays : IsUntouched r.old r.new → Passes IsSoundAt r.old.past r.new.past
    stays u = untouched_moments r.old r.new u sound

    of_text : IsProgramText r → Passes IsSoundAt r.old.past r.new.past
    of_text t = makes_moments (record { text = r.old.input; types = t.types }) r.old r.new (input_program r t) (makes.makes sound.shows) sound

    by : (e : Ending) → MakesAs e r → Passes IsSoundAt r.old.past r.new.past
    by ending.Done is = of_text is.0
    by ending.BadUse is = absurd is
    by ending.Memory is = stays is
    by ending.ReadFault is = stays is
    by ending.WriteFault is = absurd is
    by (ending.DiskFault file) is = of_text is.0
    by ending.NotASilo is = absurd is
    by ending.OldFormat is = absurd is
    by ending.NotOld is = absurd is
    by ending.AlreadyASilo is = of_text is.0
    by (ending.Damaged file place) is = absurd is
    by (ending.BadProgram fault) is = stays is.1
    by (ending.InputTooLong line) is = stays is.2
    by ending.LastGeneration is = absurd is
    by (ending.UpgradeRefused at) is = absurd is

-- of a load
load_moments : (n seed : ℕ) (m : Manner) (bank : Program) (r : Observed) → IsChecked bank → bank.text ≡ bank_text → Loads n seed m r → IsSoundFolder r.old
    → Passes IsSoundAt r.old.past r.new.past
load_moments n seed m bank r checked text loads sound = by loads.answers
  where
    by : IsUnmade r ⊎ LoadsFrom n seed r → Passes IsSoundAt r.old.past r.new.past
    by (inl un) = makes_moments bank r.old r.new checked (subst (λ (t : List ℕ). CameThisFar IsMagic t r.old r.new) (sym text) (un.makes sound.shows)) sound
    by (inr from) = both IsSoundAt
        (first_moments bank r.old from.made checked sound (subst (λ (t : List ℕ). FromFirstSync (IsNewAt IsMagic t) r.old from.made) (sym text) (from.has.makes sound.shows)))
        (carried (from.carried sound.shows))
      where
        made : IsSoundFolder from.made
        made = made_sound n seed bank r checked text from sound

        carried : IsUnopened (from_there r from.made) ⊎ ((c : Course) × ((program_in_force c).text ≡ bank_text) × KeepsLoad (program_in_force c) n seed (from_there r from.made) c) → Passes IsSoundAt from.made.past r.new.past
        carried (inl unopened) = untouched_moments from.made r.new unopened.untouched made
        carried (inr kept) = survived_moments (from_there r from.made) kept.0 made kept.2.crashes (kept.2.sound made)

-- of a check
check_moments : (n seed : ℕ) (r : Observed) → Checks n seed r → IsSoundFolder r.old → Passes IsSoundAt r.old.past r.new.past
check_moments n seed r checks sound = one IsSoundAt r.old r.new checks.once (entry_sound r.old (moment_of r.new) sound (λ image left. subst (λ (d : Disk). IsImage d image) checks.files left))

-- of a listing of the grains
show_moments : (r : Observed) → ShowsStates r → IsSoundFolder r.old → Passes IsSoundAt r.old.past r.new.past
show_moments r (inl unopened) sound = untouched_moments r.old r.new unopened.untouched sound
show_moments r (inr is) sound = weaker (LeavesAsBefore is.report.live r.old) IsSoundAt (λ m before. entry_sound r.old m sound (λ image left. (before image left).0)) is.report.moments

-- of a call, whatever its command
pub obeying_moments : (c : Command) (bank : Program) (r : Observed) → IsChecked bank → bank.text ≡ bank_text → ReadsMayStay r.old → Obeys c r → IsSoundFolder r.old
    → Passes IsSoundAt r.old.past r.new.past
obeying_moments Init bank r checked text stay obeys sound = init_moments r obeys sound
obeying_moments (Run m) bank r checked text stay obeys sound = run_moments m r obeys sound
obeying_moments Show bank r checked text stay obeys sound = show_moments r obeys sound
obeying_moments History bank r checked text stay obeys sound = report_moments r obeys sound
obeying_moments Audit bank r checked text stay obeys sound = audit_moments r obeys sound
obeying_moments (Load n seed m) bank r checked text stay obeys sound = load_moments n seed m bank r checked text obeys sound
obeying_moments (Check n seed) bank r checked text stay obeys sound = check_moments n seed r obeys sound
obeying_moments Compact bank r checked text stay obeys sound = compact_moments r stay obeys sound
obeying_moments Upgrade bank r checked text stay obeys sound = upgrade_moments r stay obeys sound
obeying_moments Migrate bank r checked text stay obeys sound = migrate_moments r stay obeys sound
