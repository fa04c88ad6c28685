-- A run of one deposit keeps the whole promise.
use Rattle.std.proofs.Common.{◌≡◌, inl, inr, ℕ, ◌+◌, ◌≤◌, Bool, true, false, List, [], ◌∷◌, ◌++◌, length, refl, sym, ◌∙◌, ap, subst, arith, lit<}
use Rattle.std.specs.Prelude.{count_by, if◌then◌else◌}
use Rattle.std.proofs.lemmas.List.{append-nil}
use Rattle.base_types.specs.declared.calls.GrainId.{GrainId}
use Rattle.base_types.specs.declared.entries.Entry.{Entry}
use Rattle.base_types.specs.declared.entries.Settled.TheVariants as settled
use Rattle.core_model.specs.declared.events.CoreEvent.{CoreEvent}
use Rattle.core_model.specs.declared.events.CoreEvent.TheVariants as event
use Rattle.core_model.specs.declared.phases.Verdict.TheVariants as verdict
use Rattle.core_model.specs.Changes.{seal}
use Rattle.core_model.specs.LegalRuns.{Run, IsLegal}
use Rattle.core_laws.proofs.EntryCauses.{caused-ends}
use Rattle.core_model.specs.CoreState.{Member, same_unit, same_grain, put, put_grain}
use Rattle.host_trait.specs.declared.channels.Channel.{Channel}
use Rattle.host_trait.specs.declared.channels.Channel.TheVariants.{File}
use Rattle.host_trait.specs.declared.channels.FileId.TheVariants.{Grain}
use Rattle.host_trait.specs.World.{Moment, Image, IsImage, moment_of}
use Rattle.silo_spec.specs.Silos.{manager, program_file, HasProgram}
use Rattle.silo_spec.specs.OpenedDisks.{opening_syncs}
use Rattle.field_codec.specs.declared.formats.Format.TheVariants.{Two}
use Rattle.promise_spec.specs.Programs.{shape_in}
use Rattle.promise_spec.specs.Entries.{Log}
use Rattle.promise_spec.specs.Logs.{IsLog, IsPrefix}
use Rattle.promise_spec.specs.Moments.{IsImageOf}
use Rattle.promise_spec.specs.Outputs.{IsProper, Grew, reply_lines}
use Rattle.promise_spec.specs.Cores.{HasBegun, applied_in, how_many}
use Rattle.promise_spec.specs.TurnRule.{KeepsTurnRule}
use Rattle.promise_spec.specs.Causes.{RoseBy, RunHasDoubt, AreCaused, is_no, is_vote_of, is_unsealed, syncs_of, most_syncs_of}
use Rattle.promise_spec.specs.Family.{IsUnitOf, IsReached, by_line}
use Rattle.promise_spec.specs.Endings as ending
use Rattle.promise_spec.specs.Courses.{Observed, Course, moments, lines, core_end, seen_at_entry}
use Rattle.promise_spec.specs.Orders.{IsOrdered}
use Rattle.promise_spec.specs.Replies.{AreReplies, IsTrueOf, HasNoRecord}
use Rattle.promise_spec.specs.Crashes.{LeavesAlone, SurvivesCrashes, StaySound, HoldsReplies}
use Rattle.promise_spec.specs.Batches.{EndsABatch}
use Rattle.promise_spec.specs.Exits.{IsExit, IsNowhere}
use Rattle.promise_spec.specs.Explanation.{ComeOfEvents, AreAdded, AreSettled, IsExplained}
use Rattle.promise_spec.specs.Journals.{Settlement, KeepsJournal, Backs, commits_of, entries_of}
use Rattle.promise_spec.specs.Promise.{AllowedBy, IsSoundFolder, IsUndisturbed, IsNoLock, HasEnded, Keeps}
use Rattle.promise_laws.specs.Obligations.{Shows}
use Rattle.promise_examples.specs.Examples.{account_log, accounts, account_program, account_1, unit_no, first_commit, first_entry, deposit_events, account_run}
use Rattle.promise_examples.specs.DepositRuns.{MayHaveDeposit, LeavesOthers, IsBetween, IsDepositRun, deposit_course}
use Rattle.promise_spec.proofs.Lists.{none_is}
use Rattle.promise_spec.proofs.OneLog.{one_log}
use Rattle.promise_laws.proofs.JournalCrashes.{commits_of-append, chained, longest, holds, whole as all_whole, sound}
use Rattle.promise_examples.proofs.WholeInputs.{whole_read}
use Rattle.promise_examples.proofs.FirstDeposit.{five}
use Rattle.promise_examples.proofs.MomentParts.{at_each, exit_there, all_less}
use Rattle.promise_examples.proofs.WholeBatches.{no_batch}
use Rattle.promise_examples.proofs.ShownRuns.{shows}
use Rattle.promise_examples.proofs.FirstFamily.{only, only_at, serial, numbered, none_of, none_counted, family_of}
use Rattle.promise_examples.proofs.DepositRules.{Each, each_from_0, one_loads, one_unit_rule, one_turn_rule}

abbrev settlement : Settlement
settlement = record { commits = first_commit ∷ []; entries = first_entry ∷ [] }

abbrev journal : List Settlement
journal = settlement ∷ []

-- the reply's record stands beside it
backs : Backs journal (first_commit ∷ [])
backs e l s [] back split here added is =
    let same : settlement ≡ s = (let e : settlement ∷ [] ≡ s ∷ back = split in cc) in
    subst (λ (t : Settlement). Member l (commits_of (t ∷ []))) same (only (λ x. Member x (first_commit ∷ [])) first_commit l (inl refl) added)
backs e l s (x ∷ []) back split here added is = absurd (none_is s back (let same : settlement ∷ [] ≡ x ∷ (s ∷ back) = split in cc))
backs e l s (x ∷ y ∷ front) back split here added is = absurd (none_is y (front ++ (s ∷ back)) (let same : settlement ∷ [] ≡ x ∷ (y ∷ (front ++ (s ∷ back))) = split in cc))

abbrev core : Run
core = account_run deposit_events

no_doubt : RunHasDoubt core → ⊥
no_doubt doubt =
    let P : ℕ → CoreEvent → Type 0 = λ at e. (n : ℕ) → e ≡ event.Doubt n → ⊥ in
    let all : Each P 0 deposit_events =
    ((λ n e. absurd (cc e)), ((λ n e. absurd (cc e)), ((λ n e. absurd (cc e)), ((λ n e. absurd (cc e)), ((λ n e. absurd (cc e)), ((λ n e. absurd (cc e)), ((λ n e. absurd (cc e)), ((λ n e. absurd (cc e)), ((λ n e. absurd (cc e)), ((λ n e. absurd (cc e)), ((λ n e. absurd (cc e)), ((λ n e. absurd (cc e)), tt)))))))))))) in
    each_from_0 P deposit_events doubt.at (event.Doubt doubt.number) all doubt.doubt.there doubt.number refl

not_aborted : (b : Bool) → seal (if b then verdict.Chosen else verdict.Open) ≡ verdict.Aborted → ⊥
not_aborted true is = absurd (cc is)
not_aborted false is = absurd (cc is)

legal : IsLegal (λ e. true) core
legal = record {
  above = omega arith;
  effects = (tt, (tt, (tt, (tt, (refl, (tt, (tt, (tt, (tt, (tt, (tt, (tt, tt))))))))))));
  loads = one_loads;
}

caused : AreCaused core
unfolding put put_grain
caused = record { entries = λ x there. caused-ends (λ e. true) core legal x there; units = λ u is. absurd (not_aborted (same_unit u (unit_no 1)) is) }

all_apply : applied_in core ≡ deposit_events
unfolding put put_grain
all_apply = refl

no_votes : (g : GrainId) → how_many (is_no g) core ≡ 0
no_votes g =
    ap (λ (events : List CoreEvent). count_by (is_no g) events) all_apply
    ∙ none_counted (is_no g) deposit_events (refl, (refl, (refl, (refl, (refl, (refl, (refl, (none_of (same_grain account_1 g), (refl, (refl, (refl, (refl, tt))))))))))))

-- the one vote is on `account/1`
one_vote : how_many (is_vote_of account_1) core ≡ 1
one_vote = ap (λ (events : List CoreEvent). count_by (is_vote_of account_1) events) all_apply

voted_on : (g : GrainId) → g ≡ account_1 → how_many (is_vote_of g) core ≡ 0 → ⊥
voted_on g same none = (let one : how_many (is_vote_of g) core ≡ 1 = subst (λ (x : GrainId). how_many (is_vote_of x) core ≡ 1) (sym same) one_vote in absurd (omega (arith, one, none)))

-- as many syncs are asked for at most
four_most : (image : Image) → most_syncs_of image core ≡ opening_syncs image + 3
unfolding put put_grain
four_most image = refl

-- one of the opening, one of the vote, and two of the batch
four_syncs : (image : Image) → syncs_of image core ≡ opening_syncs image + 3
unfolding put put_grain
four_syncs image = refl

-- each image of the moment has the deposit or not
abbrev AllMayHave : Moment → Type 0
AllMayHave m = (image : Image) → IsImage m.disk image → MayHaveDeposit image

proper : IsProper (shape_in account_program) first_entry
proper = record { line = (omega arith, lit< tt); unit = (omega arith, lit< tt); what = five }

module _ (r : Observed) (opened : Moment) (sealing : List Moment) (run : IsDepositRun r opened sealing) where
  abbrev course : Course
  course = deposit_course opened sealing r

  -- what a moment keeps of the journal, where the entries that it says are a first part of the run's
  abbrev KeepsAt : Moment → Image → Type 0
  KeepsAt m image = (k : KeepsJournal 0 account_program (account_log []) r.old.output journal m image) × IsPrefix (entries_of k.said) (first_entry ∷ [])

  unsaid_at : (m : Moment) (image : Image) → m.output ≡ r.old.output → IsLog 0 image (account_log []) → KeepsAt m image
  unsaid_at m image quiet log = (
    record { said = []; unsaid = []; later = journal; rest = []; split = refl; log = log; output = record { output = quiet ∙ sym (append-nil r.old.output); unended = tt; proper = tt } },
    (first_entry ∷ [], refl),
  )

  sealed_at : (m : Moment) (image : Image) → m.output ≡ r.old.output → IsLog 0 image (account_log (first_commit ∷ [])) → KeepsAt m image
  sealed_at m image quiet log = (
    record { said = []; unsaid = journal; later = []; rest = []; split = refl; log = log; output = record { output = quiet ∙ sym (append-nil r.old.output); unended = tt; proper = tt } },
    (first_entry ∷ [], refl),
  )

  grew : Grew (shape_in account_program) r.old.output r.new.output (first_entry ∷ []) []
  grew = record { output = run.output ∙ ap (λ (l : List ℕ). r.old.output ++ l) (sym (append-nil (reply_lines (shape_in account_program) (first_entry ∷ [])))); unended = tt; proper = (proper, tt) }

  said_at : (image : Image) → IsLog 0 image (account_log (first_commit ∷ [])) → KeepsAt (moment_of r.new) image
  said_at image log = (record { said = journal; unsaid = []; later = []; rest = []; split = refl; log = log; output = grew }, ([], refl))

  abbrev Known : Moment → Type 0
  Known m = (image : Image) → IsImage m.disk image → KeepsAt m image × HasProgram account_program.text (image program_file)

  at_opened : Known opened
  at_opened image left = let has = run.entry image left in (unsaid_at opened image run.quiet has.1.0, has.1.1)

  at_sealing : (m : Moment) → IsBetween r r.old.output MayHaveDeposit m → Known m
  at_sealing m is image left = elim (is.images image left) [
    | inl none ↦ (unsaid_at m image is.output none.0, none.1)
    | inr has ↦ (sealed_at m image is.output has.0, has.1)
  ]

  at_exit : Known (moment_of r.new)
  at_exit image left = let has = run.logged image left in (said_at image has.0, has.1)

  known : (m : Moment) → Member m (moments r course) → Known m
  known = at_each Known opened sealing (moment_of r.new) at_opened (all_less (IsBetween r r.old.output MayHaveDeposit) Known sealing at_sealing run.sealed) at_exit

  keeps_at : (image : Image) (is : IsImageOf (moments r course) image) → KeepsJournal 0 account_program (account_log []) r.old.output journal is.moment image
  keeps_at image is = (known is.moment is.member image is.left).0.0

  begun : HasBegun (core_end account_program course) (unit_no 1)
  unfolding put put_grain
  begun is = absurd (cc is)

  unit_is : IsUnitOf (core_end account_program course) first_commit
  unfolding put put_grain
  unit_is = record { origin = refl; call = refl }

  reached : IsReached accounts (lines r) (core_end account_program course) (first_commit ∷ []) (unit_no 1)
  unfolding put put_grain
  reached = by_line {u = unit_no 1} 1 begun refl run.asks

  ordered : IsOrdered account_program r course
  ordered = record {
    in_force = refl;
    read = run.read;
    opened = λ image left. record { entry = (run.entry image left).0; log = (run.entry image left).1.0 };
    longest = longest 0 account_program (account_log []) r.old.output journal (moments r course) run.some (record { moment = moment_of r.new; member = exit_there opened sealing (moment_of r.new); left = run.possible }) (run.logged run.some run.possible).0
        (λ m there image left. (known m there image left).0.0);
    serial = serial;
  }

  replies : AreReplies account_program r course
  replies = record {
    output = grew;
    whole = λ other. refl;
    within = λ e there. only (λ (d : Entry). (1 ≤ d.line) × (d.line ≤ length (lines r))) first_entry e (let one : length (lines r) ≡ 1 = run.one in (omega arith, omega arith)) there;
    once = ((λ y none. absurd none), tt);
    true_each = λ e there.
        only (λ (d : Entry). IsTrueOf account_program r course d d.what) first_entry e
        (inl (record { commit = first_commit; added = inl refl; of = record { unit = refl; line = refl }; result = refl })) there;
    in_order = λ i j m n d e a b at other log_at other_log of also before.
        let zero_i : i ≡ 0 = only_at first_entry i d at in
        let zero_j : j ≡ 0 = only_at first_entry j e other in
        absurd (omega arith);
  }

  -- at each moment other files and the header are as they were
  alone : (m : Moment) → Member m (moments r course) → LeavesAlone 0 r m
  alone =
      at_each (LeavesAlone 0 r) opened sealing (moment_of r.new) run.alone.0
      (all_less (IsBetween r r.old.output MayHaveDeposit) (LeavesAlone 0 r) sealing (λ m is. is.alone) run.sealed) run.alone.1

  -- each image of each moment has the deposit or not
  may_have : (m : Moment) → Member m (moments r course) → (image : Image) → IsImage m.disk image → MayHaveDeposit image
  may_have =
      at_each AllMayHave opened sealing (moment_of r.new) (λ image left. inl (run.entry image left).1)
      (all_less (IsBetween r r.old.output MayHaveDeposit) AllMayHave sealing (λ m is. is.images) run.sealed) (λ image left. inr (run.logged image left))

  -- the one batch is the deposit's
  one_batch : EndsABatch (core_end account_program course) (account_log []) (account_log (first_commit ∷ []))
  unfolding put put_grain
  one_batch = record { batches = 1; more = first_commit ∷ []; split = refl; records = (record { unit = refl; origin = refl; call = refl; answers = refl; result = refl; writes = refl }, tt) }

  whole_batches : (image : Image) (log : Log) → MayHaveDeposit image → IsLog 0 image log → EndsABatch (core_end account_program course) (account_log []) log
  whole_batches image log (inl none) is =
      subst (EndsABatch (core_end account_program course) (account_log [])) (one_log Two Two 0 0 image (account_log []) log none.0 is) (no_batch (core_end account_program course) (account_log []))
  whole_batches image log (inr has) is =
      subst (EndsABatch (core_end account_program course) (account_log [])) (one_log Two Two 0 0 image (account_log (first_commit ∷ [])) log has.0 is) one_batch

  crashes : SurvivesCrashes r course
  crashes = record {
    past = run.past;
    quiet = λ m there. only (λ (n : Moment). n.output ≡ r.old.output) opened m run.quiet there;
    before = λ image is. only (λ (n : Moment). IsImage n.disk image → IsImage r.old.disk image) opened is.moment (λ left. (run.entry image left).0) is.member is.left;
    chain = λ one other a b. chained 0 account_program (account_log []) r.old.output journal a.moment b.moment one other (keeps_at one a) (keeps_at other b);
    whole = λ image is. all_whole 0 account_program (account_log []) r.old.output journal is.moment image (keeps_at image is) numbered;
    keeps = λ image is. let k = keeps_at image is in record { more = commits_of (k.said ++ k.unsaid); is = k.log; front = (commits_of k.later, ap commits_of k.split ∙ commits_of-append (k.said ++ k.unsaid) k.later) };
    alone = alone;
  }

  sound_all : StaySound r course
  sound_all image is = sound 0 account_program (account_log []) r.old.output journal is.moment image (keeps_at image is) serial numbered

  -- and the files of other grains
  apart : (m : Moment) → Member m (moments r course) → LeavesOthers r m
  apart =
      at_each (LeavesOthers r) opened sealing (moment_of r.new) run.apart.0
      (all_less (IsBetween r r.old.output MayHaveDeposit) (LeavesOthers r) sealing (λ m is. is.apart) run.sealed) run.apart.1

  -- the records come of the events
  of_events : ComeOfEvents account_program r course
  of_events = record {
    family = family_of (lines r) (core_end account_program course) run.asks begun unit_is reached;
    whole = λ image log is log_is. whole_batches image log (may_have is.moment is.member image is.left) log_is;
  }

  replied : HoldsReplies account_program r course
  replied m image there left = let k = (known m there image left).0 in holds account_program r course journal m image backs k.0 k.1

  exit : IsExit account_program r course
  exit = record {
    logs = λ image left. record { log = account_log (first_commit ∷ []); is = (run.logged image left).0; which = inl refl };
    doubt = λ one other a b is_one is_other log_a log_b differ.
        absurd (differ (one_log Two Two 0 0 one a (account_log (first_commit ∷ [])) log_a (run.logged one is_one).0 ∙ sym (one_log Two Two 0 0 other b (account_log (first_commit ∷ [])) log_b (run.logged other is_other).0)));
    nowhere = λ e there. only (λ (d : Entry). d.what ≡ settled.InDoubt → IsNowhere 0 r d.unit → HasNoRecord course d.unit) first_entry e (λ is. absurd (cc is)) there;
    block = λ doubt. absurd (no_doubt doubt);
    behind = λ none. run.behind;
  }

  no_fault : (channel : Channel) → RoseBy 0 (r.faults_before channel) (r.faults_after channel)
  no_fault channel = let same : r.faults_after channel ≡ r.faults_before channel = run.faults channel in omega arith

  records : AreAdded (core_end account_program course) (first_commit ∷ [])
  unfolding put put_grain
  records = inl (record { unit = refl; origin = refl; call = refl; answers = refl; result = refl; writes = refl }, tt)

  settled_is : (core_end account_program course).manager.settled ≡ first_entry ∷ []
  unfolding put put_grain
  settled_is = refl

  few_emitted : (core_end account_program course).manager.emitted ≤ 1
  unfolding put put_grain
  few_emitted = omega arith

  no_seals : how_many is_unsealed core ≡ 0
  unfolding put put_grain
  no_seals = refl

  turns : KeepsTurnRule accounts r.windowed (length (lines r)) r.manner.width r.manner.picks core
  turns =
      subst (λ (windowed : Bool). KeepsTurnRule accounts windowed (length (lines r)) r.manner.width r.manner.picks core) (sym run.windowed)
      (subst (λ n. KeepsTurnRule accounts true n r.manner.width r.manner.picks core) (sym run.one)
      (subst (λ w. KeepsTurnRule accounts true 1 w r.manner.picks core) (sym run.single.1) (subst (λ (picks : List ℕ). KeepsTurnRule accounts true 1 1 picks core) (sym run.single.2) one_turn_rule)))

  begun_is : (core_end account_program course).units.lines ≡ 1
  unfolding put put_grain
  begun_is = refl

  -- no more lines than are asked
  few : (core_end account_program course).units.lines ≤ length (lines r)
  few = (let begun : (core_end account_program course).units.lines ≡ 1 = begun_is in let all : length (lines r) ≡ 1 = run.one in omega (arith, begun, all))

  written : AreSettled account_program r course
  written = record {
    entries = ([], settled_is);
    all = λ done. sym settled_is;
    told = few_emitted;
    cut = inl refl;
  }

  explained : IsExplained account_program r course
  explained = record {
    records = records;
    units = one_unit_rule (lines r) run.asks;
    turns = λ single. turns;
    loads = one_loads;
    caused = caused;
    faults = record {
      votes = λ g. subst (λ n. RoseBy n (r.faults_before (File (Grain 0 g))) (r.faults_after (File (Grain 0 g)))) (sym (no_votes g)) (no_fault (File (Grain 0 g)));
      seals = subst (λ n. RoseBy n (r.faults_before (File manager)) (r.faults_after (File manager))) (sym no_seals) (no_fault (File manager));
    };
    doubted = λ file is. absurd (let e : ending.Done ≡ ending.DiskFault file = sym run.ending ∙ is in cc e);
    doubt_ends = λ doubt. absurd (no_doubt doubt);
    unvoted = λ g m none there. apart m there g (λ same. voted_on g same none);
  }

  statuses : ending.HasRisen r.ending r.faults_before r.faults_after × ending.IsCarried r.ending × ending.IsCalm r.ending
  statuses =
      subst (λ e. ending.HasRisen e r.faults_before r.faults_after × ending.IsCarried e × ending.IsCalm e) (sym run.ending) (tt, tt, tt)

  ended : HasEnded account_program r course
  ended = record {
    given = run.given;
    risen = statuses.0;
    carried = statuses.1;
    read =
        whole_read account_program r course run.left refl run.good few
        (λ none. absurd (let all : length (lines r) ≡ 1 = run.one in let zero : length (lines r) ≡ 0 = none in omega (arith, all, zero)))
        (λ all. subst (λ (e : ending.Ending). AllowedBy e r.old.input r course.allowed) (sym run.ending) all);
    answered = λ is n low high. (first_entry, inl refl, (let one : length (lines r) ≡ 1 = run.one in let most : n ≤ length (lines r) = high in omega (arith, one, low, most)));
    complete = λ calm. record { calm = statuses.2; undisturbed = λ e there. only (λ (d : Entry). IsUndisturbed d.what) first_entry e tt there };
    alone = λ single one none e there. only (λ (d : Entry). IsNoLock d.what) first_entry e tt there;
    syncs = λ calm is. run.syncs ∙ ap (λ (n : ℕ). r.old.syncs + n) (sym (four_syncs (seen_at_entry r)));
    most = (let n = run.syncs in let few : most_syncs_of (seen_at_entry r) core ≡ opening_syncs (seen_at_entry r) + 3 = four_most (seen_at_entry r) in omega (arith, n, few));
  }

  pub kept : Keeps account_program r course
  kept = record {
    headline = record { ordered = ordered; replies = replies; crashes = crashes; sound = λ folder. sound_all; holds = replied };
    traced = of_events;
    settled = written;
    explained = explained;
    exit = exit;
    ended = ended;
  }

  -- and over a sound folder it shows what has to be shown, where some image was there at the return of the opening's sync
  pub shown : IsSoundFolder r.old → (some : Image) → IsImage opened.disk some → Shows account_program r course
  shown sound_folder some possible = shows account_program r course kept refl sound_folder some possible journal refl backs (λ m there image left. (known m there image left).0)
