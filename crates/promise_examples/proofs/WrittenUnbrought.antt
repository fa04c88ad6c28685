-- The run that is written out, in which a grain's file can't be read, keeps the promise.
use Rattle.std.proofs.Common.{◌≡◌, inl, inr, ℕ, ◌+◌, ◌≤◌, true, List, [], ◌∷◌, drop, take, refl, sym, ap, subst, arith}
use Rattle.std.specs.Prelude.{count_by}
use Rattle.base_types.specs.declared.calls.GrainId.{GrainId}
use Rattle.base_types.specs.declared.calls.Mode.TheVariants.{Update as Alone}
use Rattle.core_model.specs.declared.events.CoreEvent.{CoreEvent}
use Rattle.core_model.specs.declared.events.CoreEvent.TheVariants as event
use Rattle.core_model.specs.LegalRuns.{Run, begins}
use Rattle.core_model.specs.CoreState.{put, put_grain}
use Rattle.gate_block.specs.Log.{gate_of}
use Rattle.host_trait.specs.declared.channels.Channel.TheVariants.{File}
use Rattle.host_trait.specs.declared.channels.FileId.{FileId}
use Rattle.host_trait.specs.declared.channels.FileId.TheVariants.{Grain}
use Rattle.host_trait.specs.Disk.{settled}
use Rattle.host_trait.proofs.Crashes.{settled_only}
use Rattle.script_meaning.specs.Play.{unit, next, play_over}
use Rattle.silo_spec.specs.Silos.{manager}
use Rattle.promise_spec.specs.Cores.{applied_in, how_many, state_before}
use Rattle.promise_spec.specs.UnitAnswers.{got_from}
use Rattle.promise_spec.specs.UnitRule.{IsDue, KeepsUnitRule}
use Rattle.promise_spec.specs.TurnRule.{KeepsTurnRule}
use Rattle.promise_spec.specs.Causes.{NoneRose, RoseBy, RunHasDoubt, AreCaused, is_no, is_unsealed, most_syncs_of}
use Rattle.promise_spec.specs.Endings.{DiskFault}
use Rattle.promise_spec.specs.Words.{plain_manner}
use Rattle.promise_spec.specs.Courses.{seen_at_entry, basis, core_run, core_end}
use Rattle.promise_spec.specs.Explanation.{AreAdded, AreSettled, IsUnloaded, IsExplained}
use Rattle.promise_spec.specs.Journals.{Backs}
use Rattle.promise_spec.specs.Promise.{IsSoundFolder, HasEnded, Keeps, Promises}
use Rattle.promise_laws.specs.Obligations.{Shows}
use Rattle.promise_laws.proofs.ShownPromise.{promised}
use Rattle.promise_laws.proofs.SoundFolders.{run_keeps, same_files}
use Rattle.promise_examples.specs.Examples.{account_log, accounts, account_program, account_1, first_commit, grain_bytes, manager_bytes}
use Rattle.promise_examples.specs.HostCalls.{IsHosted}
use Rattle.promise_examples.specs.StillRuns.{IsStillRun}
use Rattle.promise_examples.specs.WrittenRun.{new_manager, sealed_disk, written_run, moment}
use Rattle.promise_examples.specs.WrittenVote.{grain_fault}
use Rattle.promise_examples.specs.WrittenUnbrought.{wanting_events, unbrought_before, unbrought, unbrought_course, unbrought_steps}
use Rattle.promise_examples.proofs.DepositRules.{Each, each_from_0, TurnAt, is_transaction}
use Rattle.promise_examples.proofs.HostSteps.{pulled, ended, synced_log, unread}
use Rattle.promise_examples.proofs.NewSilo.{opened_aside, sealed_images, seen_possible}
use Rattle.promise_examples.proofs.ShownRuns.{shows}
use Rattle.promise_examples.proofs.StillRun.{headline, traced, unvoted, exit, says}
use Rattle.promise_examples.proofs.WholeInputs.{whole_read}
use Rattle.promise_examples.proofs.WrittenRun as first
use Rattle.promise_examples.proofs.WrittenVote.{grain_fails}

-- ---- the folder

-- the first run left it sound
pub sound_at_entry : IsSoundFolder unbrought_before
sound_at_entry =
    same_files written_run.new unbrought_before refl
    (run_keeps plain_manner written_run (seen_possible new_manager []) (seen_possible (manager_bytes 1) grain_bytes) first.written_promises first.sound_at_entry)

-- and this one leaves it as it was
still : IsStillRun account_program unbrought (account_log (first_commit ∷ []))
still = record {
  given = refl;
  output = refl;
  syncs = refl;
  read = (sealed_images (seen_at_entry unbrought) (seen_possible (manager_bytes 1) grain_bytes)).0;
  in_force = refl;
  synced = refl;
  entry = λ image left. left;
  logs = λ image left. (sealed_images image left).0;
  behind = λ image left. ap (λ (f : List ℕ). drop (gate_of (image manager) + 1) f) (settled_only (manager_bytes 1) (image manager) (left manager));
  sound = sound_at_entry.sound;
  alone = record {
    aside = λ file is. sym (opened_aside (settled (manager_bytes 1)) (settled grain_bytes) file is);
    header = λ image left. ap (λ (f : List ℕ). take 15 f) (settled_only (manager_bytes 1) (image manager) (left manager));
  };
  unwritten = λ g. refl;
  some = seen_at_entry unbrought;
  possible = seen_possible (manager_bytes 1) grain_bytes;
}

-- ---- the core

abbrev core : Run
core = core_run account_program unbrought_course

-- the grain is wanted, and not in memory
pub wanted : IsUnloaded core account_1
unfolding put put_grain
wanted = (2, omega arith, refl)

abbrev DueHere : ℕ → CoreEvent → Type 0
DueHere at e = IsDue (basis account_program unbrought unbrought_course) (state_before core at) (got_from (begins core) (take at wanting_events)) e

due : Each DueHere 0 wanting_events
unfolding put put_grain unit next play_over
due = ((first.asks, is_transaction 5), ((Alone, refl), tt))

unit_rule : KeepsUnitRule (basis account_program unbrought unbrought_course) core
unit_rule at e is = each_from_0 DueHere wanting_events at e due is.there

turns : Each (TurnAt 1 1 [] core) 0 wanting_events
unfolding put put_grain unit next play_over
turns = (record { whose = refl; made = tt }, (record { whose = refl; made = tt }, tt))

turn_rule : KeepsTurnRule accounts true 1 1 [] core
turn_rule at e is = each_from_0 (TurnAt 1 1 [] core) wanting_events at e turns is.there

no_doubt : RunHasDoubt core → ⊥
no_doubt doubt =
    let P : ℕ → CoreEvent → Type 0 = λ at e. (n : ℕ) → e ≡ event.Doubt n → ⊥ in
    let all : Each P 0 wanting_events = ((λ n e. absurd (cc e)), ((λ n e. absurd (cc e)), tt)) in
    each_from_0 P wanting_events doubt.at (event.Doubt doubt.number) all doubt.doubt.there doubt.number refl

settled_is : (core_end account_program unbrought_course).manager.settled ≡ []
unfolding put put_grain
settled_is = refl

caused : AreCaused core
unfolding put put_grain
caused = record { entries = λ x none. absurd none; units = λ u is. absurd (cc is) }

records : AreAdded (core_end account_program unbrought_course) []
unfolding put put_grain
records = inl tt

all_apply : applied_in core ≡ wanting_events
unfolding put put_grain
all_apply = refl

no_votes : (g : GrainId) → how_many (is_no g) core ≡ 0
no_votes g = ap (λ (events : List CoreEvent). count_by (is_no g) events) all_apply

no_seals : how_many is_unsealed core ≡ 0
no_seals = ap (λ (events : List CoreEvent). count_by is_unsealed events) all_apply

-- one sync at most, the opening's
one_most : most_syncs_of (seen_at_entry unbrought) core ≡ 1
unfolding put put_grain
one_most = refl

few_begun : (core_end account_program unbrought_course).units.lines ≤ 1
unfolding put put_grain
few_begun = omega arith

few_emitted : (core_end account_program unbrought_course).manager.emitted ≤ 0
unfolding put put_grain
few_emitted = omega arith

-- ---- the promise

-- the file that failed is the account's
file_is : (file : FileId) → unbrought.ending ≡ DiskFault file → file ≡ Grain 0 account_1
file_is file is = let e : DiskFault (Grain 0 account_1) ≡ DiskFault file = is in cc e

explained : IsExplained account_program unbrought unbrought_course
explained = record {
  records = records;
  units = unit_rule;
  turns = λ single. turn_rule;
  loads = (tt, (tt, tt));
  caused = caused;
  faults = record {
    votes = λ g. subst (λ n. RoseBy n 0 (grain_fault (File (Grain 0 g)))) (sym (no_votes g)) (omega arith);
    seals = subst (λ n. RoseBy n 0 0) (sym no_seals) (omega arith);
  };
  doubted = λ file is. inr (account_1, file_is file is, wanted, no_doubt);
  doubt_ends = λ doubt. tt;
  unvoted = unvoted account_program unbrought (account_log (first_commit ∷ [])) still 1 wanting_events;
}

written : AreSettled account_program unbrought unbrought_course
written = record { entries = ([], settled_is); all = λ done. sym settled_is; told = few_emitted; cut = inl refl }

-- the account's file's count rose
not_calm : NoneRose unbrought.faults_before unbrought.faults_after → ⊥
not_calm calm = let same : 1 ≡ 0 = (calm (File (Grain 0 account_1))).0 in absurd (omega (arith, same))

ends : HasEnded account_program unbrought unbrought_course
ends = record {
  given = refl;
  risen = grain_fails.rose;
  carried = tt;
  read = whole_read account_program unbrought unbrought_course refl refl refl few_begun (λ none. absurd (let zero : 1 ≡ 0 = none in omega (arith, zero))) (λ all. inl all);
  answered = λ is. absurd is;
  complete = λ calm. absurd (not_calm calm);
  alone = λ single one none e there. absurd there;
  syncs = λ calm is. absurd (not_calm calm);
  most = (let few : most_syncs_of (seen_at_entry unbrought) core ≡ 1 = one_most in omega (arith, few));
}

-- it keeps the promise
pub unbrought_keeps : Keeps account_program unbrought unbrought_course
unbrought_keeps = record {
  headline = headline account_program unbrought (account_log (first_commit ∷ [])) still 1 wanting_events;
  traced = traced account_program unbrought (account_log (first_commit ∷ [])) still 1 wanting_events;
  settled = written;
  explained = explained;
  exit = exit account_program unbrought (account_log (first_commit ∷ [])) still 1 wanting_events no_doubt;
  ended = ends;
}

-- no record has to be backed
backs : Backs [] []
backs e l s front back split here added is = absurd added

-- it shows what has to be shown
pub unbrought_shows : Shows account_program unbrought unbrought_course
unbrought_shows =
    shows account_program unbrought unbrought_course unbrought_keeps refl sound_at_entry (seen_at_entry unbrought) (seen_possible (manager_bytes 1) grain_bytes) [] refl backs
    (says account_program unbrought (account_log (first_commit ∷ [])) still 1 wanting_events)

-- in the manner of its words
pub unbrought_promises : Promises plain_manner unbrought
unbrought_promises = promised account_program unbrought unbrought_course unbrought_shows plain_manner refl refl

-- ---- the host's calls

-- each call does as a host does
pub is_hosted : IsHosted unbrought unbrought_steps
is_hosted = (
  synced_log [] (settled (manager_bytes 1)) (settled grain_bytes) 0 [] unbrought_before.input,
  (
    pulled [] sealed_disk 1 (moment [] sealed_disk ∷ []) (λ channel. 0) unbrought_before.input (λ none. cc none),
    (
      ended [] sealed_disk 1 (moment [] sealed_disk ∷ []) (λ channel. 0) unbrought_before.input,
      (unread [] sealed_disk 1 (moment [] sealed_disk ∷ []) (Grain 0 account_1) grain_fault grain_fails, refl),
    ),
  ),
)
