-- A call that keeps its promise over a whole folder leaves a whole one.
use Rattle.std.proofs.Common.{◌≡◌, ◌⊎◌, inl, inr, ℕ, List, [], sym, subst}
use Rattle.host_trait.specs.World.{World, moment_of}
use Rattle.silo_spec.specs.Slots.{ShowsSilos}
use Rattle.silo_spec.specs.Moments.{IsUntouched}
use Rattle.silo_spec.specs.Creation.{CameThisFar, IsNewAt}
use Rattle.promise_spec.specs.Programs.{Program, IsChecked}
use Rattle.promise_spec.specs.Entries.{Log}
use Rattle.promise_spec.specs.Logs.{IsMagic}
use Rattle.promise_spec.specs.Images.{IsWholeFolder}
use Rattle.promise_spec.specs.Endings as ending
use Rattle.promise_spec.specs.Endings.{Ending}
use Rattle.promise_spec.specs.Words.{Manner, Command, Init, Run, Show, History, Audit, Load, Check, Compact, Upgrade, Migrate}
use Rattle.promise_spec.specs.Courses.{Observed, Course, program_in_force}
use Rattle.promise_spec.specs.Crashes.{SurvivesCrashes}
use Rattle.promise_spec.specs.Refusals.{IsUnopened}
use Rattle.promise_spec.specs.Commands.{IsProgramText, MakesAs, MakesSilo, IsReported, Reports, ShowsStates, Audits}
use Rattle.promise_spec.specs.Loads.{bank_text, KeepsLoad, IsUnmade, from_there, LoadsFrom, Loads}
use Rattle.promise_spec.specs.Checks.{Checks}
use Rattle.promise_spec.specs.Calls.{Obeys, IsBadUse}
use Rattle.promise_spec.specs.Promise.{Promises}
use Rattle.promise_laws.specs.Closings.{ReadsMayStay}
use Rattle.promise_laws.specs.KeptFolders.{IsBank}
use Rattle.promise_spec.proofs.WholeFolders.{whole_folder}
use Rattle.promise_laws.proofs.SoundFolders.{exit_of, shows_at_exit, new_folder, input_program}
use Rattle.folder_laws.proofs.RewrittenWhole.{as_before, same_files, untouched, compact_keeps, migrate_keeps, upgrade_keeps}

-- ---- runs

module _ (r : Observed) (c : Course) (s : SurvivesCrashes r c) (stay_old : ReadsMayStay r.old) (stay_new : ReadsMayStay r.new) where
  -- what survives crashes leaves a whole folder
  survives : ShowsSilos IsMagic r.old.disk → IsWholeFolder r.new
  survives shows = record {
    chain = λ one other left left_too. s.chain one other (exit_of r c one left) (exit_of r c other left_too);
    whole = λ image left. s.whole image (exit_of r c image left);
    shows = shows_at_exit r c s stay_old stay_new shows;
  }

run_keeps : (m : Manner) (r : Observed) → ReadsMayStay r.old → ReadsMayStay r.new → Promises m r → IsWholeFolder r.old → IsWholeFolder r.new
run_keeps m r stay_old stay_new promises folder = elim (promises.over_whole folder) [
  | inl unopened ↦ untouched r.old r.new unopened.untouched folder
  | inr kept ↦ survives r kept.0 kept.1.headline.crashes stay_old stay_new folder.shows
]

-- ---- reports, bad use and checks

-- a report that prints
reported : (text : Log → List ℕ) (r : Observed) → IsReported text r → IsWholeFolder r.old → IsWholeFolder r.new
reported text r is folder = as_before r.old r.new (λ image left. (is.now image left).0) is.seen folder

reports_keep : (r : Observed) → Reports r → IsWholeFolder r.old → IsWholeFolder r.new
reports_keep r (inl unopened) folder = untouched r.old r.new unopened.untouched folder
reports_keep r (inr is) folder = reported _ r is.report folder

shows_keep : (r : Observed) → ShowsStates r → IsWholeFolder r.old → IsWholeFolder r.new
shows_keep r (inl unopened) folder = untouched r.old r.new unopened.untouched folder
shows_keep r (inr is) folder = reported _ r is.report folder

audits_keep : (r : Observed) → Audits r → IsWholeFolder r.old → IsWholeFolder r.new
audits_keep r (inl unopened) folder = untouched r.old r.new unopened.untouched folder
audits_keep r (inr is) folder = reported _ r is.report folder

-- words that say nothing
pub bad_use_keeps : (r : Observed) → IsBadUse r → IsWholeFolder r.old → IsWholeFolder r.new
bad_use_keeps r bad folder = subst IsWholeFolder (sym bad.unused) folder

checks_keep : (n seed : ℕ) (r : Observed) → Checks n seed r → IsWholeFolder r.old → IsWholeFolder r.new
checks_keep n seed r checks folder = same_files r.old r.new checks.files folder

-- ---- `init`

-- however far a call came that makes a silo of q
makes_keeps : (q : Program) (old new : World) → IsChecked q → CameThisFar IsMagic q.text old new → (ShowsSilos IsMagic old.disk → ShowsSilos IsMagic new.disk) → IsWholeFolder old → IsWholeFolder new
makes_keeps q old new checked (inl u) shows folder = untouched old new u folder
makes_keeps q old new checked (inr first) shows folder = whole_folder new (new_folder q new checked first.now (shows folder.shows))

init_keeps : (r : Observed) → MakesSilo r → IsWholeFolder r.old → IsWholeFolder r.new
init_keeps r makes folder = by r.ending makes.ends_as
  where
    stays : IsUntouched r.old r.new → IsWholeFolder r.new
    stays u = untouched r.old r.new u folder

    of_text : IsProgramText r → IsWholeFolder r.new
    of_text t = makes_keeps (record { text = r.old.input; types = t.types }) r.old r.new (input_program r t) (makes.makes folder.shows) makes.shows folder

    by : (e : Ending) → MakesAs e r → IsWholeFolder r.new
    by ending.Done is = of_text is.0
    by ending.BadUse is = absurd is
    by ending.Memory is = stays is
    by ending.ReadFault is = stays is
    by ending.WriteFault is = absurd is
    by (ending.DiskFault file) is = of_text is.0
    by ending.NotASilo is = absurd is
    by ending.OldFormat is = absurd is
    by ending.NotOld is = absurd is
    by ending.AlreadyASilo is = of_text is.0
    by (ending.Damaged file place) is = absurd is
    by (ending.BadProgram fault) is = stays is.1
    by (ending.InputTooLong line) is = stays is.2
    by ending.LastGeneration is = absurd is
    by (ending.UpgradeRefused at) is = absurd is

-- ---- `load`

module _ (bank : Program) (is : IsBank bank) where
  -- one that made no silo
  unmade_keeps : (r : Observed) → IsUnmade r → IsWholeFolder r.old → IsWholeFolder r.new
  unmade_keeps r un folder =
      makes_keeps bank r.old r.new is.checked (subst (λ (t : List ℕ). CameThisFar IsMagic t r.old r.new) (sym is.text) (un.makes folder.shows)) un.shows folder

  -- one that made one: the folder was whole then
  made_whole : (n seed : ℕ) (r : Observed) → (from : LoadsFrom n seed r) → IsWholeFolder r.old → IsWholeFolder from.made
  made_whole n seed r from folder =
      whole_folder from.made (new_folder bank from.made is.checked (subst (λ (t : List ℕ). IsNewAt IsMagic t (moment_of from.made)) (sym is.text) (from.has.makes folder.shows).now) (from.has.shows folder.shows))

  load_keeps : (n seed : ℕ) (m : Manner) (r : Observed) → ReadsMayStay r.new → Loads n seed m r → IsWholeFolder r.old → IsWholeFolder r.new
  load_keeps n seed m r stay loads folder = by loads.answers
    where
      by : IsUnmade r ⊎ LoadsFrom n seed r → IsWholeFolder r.new
      by (inl un) = unmade_keeps r un folder
      by (inr from) = carried (from.carried folder.shows)
        where
          made : IsWholeFolder from.made
          made = made_whole n seed r from folder

          carried : IsUnopened (from_there r from.made) ⊎ ((c : Course) × ((program_in_force c).text ≡ bank_text) × KeepsLoad (program_in_force c) n seed (from_there r from.made) c) → IsWholeFolder r.new
          carried (inl unopened) = untouched from.made r.new unopened.untouched made
          carried (inr kept) = survives (from_there r from.made) kept.0 kept.2.crashes from.has.stays stay made.shows

-- ---- any command

pub obeying_keeps : (c : Command) (bank : Program) (r : Observed) → IsBank bank → ReadsMayStay r.old → ReadsMayStay r.new → Obeys c r → IsWholeFolder r.old → IsWholeFolder r.new
obeying_keeps Init bank r is stay_old stay_new obeys folder = init_keeps r obeys folder
obeying_keeps (Run m) bank r is stay_old stay_new obeys folder = run_keeps m r stay_old stay_new obeys folder
obeying_keeps Show bank r is stay_old stay_new obeys folder = shows_keep r obeys folder
obeying_keeps History bank r is stay_old stay_new obeys folder = reports_keep r obeys folder
obeying_keeps Audit bank r is stay_old stay_new obeys folder = audits_keep r obeys folder
obeying_keeps (Load n seed m) bank r is stay_old stay_new obeys folder = load_keeps bank is n seed m r stay_new obeys folder
obeying_keeps (Check n seed) bank r is stay_old stay_new obeys folder = checks_keep n seed r obeys folder
obeying_keeps Compact bank r is stay_old stay_new obeys folder = compact_keeps r stay_old obeys folder
obeying_keeps Upgrade bank r is stay_old stay_new obeys folder = upgrade_keeps r stay_old obeys folder
obeying_keeps Migrate bank r is stay_old stay_new obeys folder = migrate_keeps r stay_old obeys folder
