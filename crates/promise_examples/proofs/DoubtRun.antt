-- A run with a lock that is refused and a batch in doubt keeps the whole promise.
use Rattle.std.proofs.Common.{◌≡◌, ◌≢◌, ◌⊎◌, inl, inr, ℕ, zero, suc, ◌+◌, ◌<◌, ◌≤◌, Bool, true, false, List, [], ◌∷◌, ◌++◌, length, Some, refl, sym, ◌∙◌, ap, subst, arith, lit<}
use Rattle.std.specs.List.{AllByRecursion}
use Rattle.std.specs.Prelude.{slice_get, count_by, ◌==◌, if◌then◌else◌}
use Rattle.std.proofs.lemmas.Bool.{eqb-true}
use Rattle.std.proofs.lemmas.List.{append-nil}
use Rattle.base_types.specs.declared.calls.GrainId.{GrainId}
use Rattle.base_types.specs.declared.calls.UnitNo.{UnitNo}
use Rattle.base_types.specs.declared.entries.Entry.{Entry}
use Rattle.base_types.specs.declared.entries.Settled.{Settled}
use Rattle.base_types.specs.declared.entries.Settled.TheVariants as settled
use Rattle.core_model.specs.declared.events.CoreEvent.{CoreEvent}
use Rattle.core_model.specs.declared.phases.Verdict.TheVariants as verdict
use Rattle.core_model.specs.Causes.{IsCaused}
use Rattle.core_model.specs.Changes.{leave}
use Rattle.core_model.specs.LegalRuns.{Run, IsLegal}
use Rattle.core_model.specs.SerialOrder.{chosen}
use Rattle.core_model.specs.CoreState.{Member, same_grain, put, put_grain}
use Rattle.core_laws.proofs.EntryCauses.{caused-ends}
use Rattle.host_trait.specs.Faults.{Rose}
use Rattle.host_trait.specs.declared.channels.Channel.TheVariants.{File}
use Rattle.host_trait.specs.declared.channels.FileId.{FileId}
use Rattle.host_trait.specs.declared.channels.FileId.TheVariants.{Manager, Grain}
use Rattle.host_trait.specs.World.{Moment, Image, IsImage, moment_of}
use Rattle.silo_spec.specs.Silos.{manager, program_file, HasProgram}
use Rattle.silo_spec.specs.OpenedDisks.{opening_syncs}
use Rattle.field_codec.specs.declared.formats.Format.TheVariants.{Two}
use Rattle.promise_spec.specs.Programs.{shape_in}
use Rattle.promise_spec.specs.Entries.{Log}
use Rattle.promise_spec.specs.Records.{Commit, AreRecordsOf}
use Rattle.promise_spec.specs.Logs.{IsLog, IsPrefix}
use Rattle.promise_spec.specs.Moments.{IsImageOf}
use Rattle.promise_spec.specs.Outputs.{IsProper, reply_lines}
use Rattle.promise_spec.specs.Cores.{HasBegun, applied_in, how_many}
use Rattle.promise_spec.specs.TurnRule.{KeepsTurnRule}
use Rattle.promise_spec.specs.Causes.{IsAbortedFor, NoneRose, RoseBy, RunHasDoubt, AreCaused, is_no, is_vote_of, is_unsealed, most_syncs_of}
use Rattle.promise_spec.specs.Family.{IsUnitOf, IsReached, by_line}
use Rattle.promise_spec.specs.Endings as ending
use Rattle.promise_spec.specs.Courses.{Observed, Course, moments, lines, core_end, seen_at_entry}
use Rattle.promise_spec.specs.Orders.{IsOrdered}
use Rattle.promise_spec.specs.Replies.{AreReplies, IsTrueOf, HasNoRecord}
use Rattle.promise_spec.specs.Crashes.{HasOutcome, LeavesAlone, SurvivesCrashes, StaySound, HoldsReplies}
use Rattle.promise_spec.specs.Batches.{EndsABatch}
use Rattle.promise_spec.specs.Exits.{IsExit, ImagesMayDiffer, HasLogAtExit, IsNowhere, units_in_doubt}
use Rattle.promise_spec.specs.Explanation.{ComeOfEvents, AreAdded, AreSettled, IsExplained}
use Rattle.promise_spec.specs.Journals.{Settlement, KeepsJournal, Backs, commits_of, entries_of}
use Rattle.promise_spec.specs.Promise.{AllowedBy, IsSoundFolder, HasEnded, Keeps}
use Rattle.promise_laws.specs.Obligations.{Shows}
use Rattle.promise_examples.specs.Examples.{account_log, accounts, account_program, account_1, unit_no, first_commit, locked_entry, doubt_entry, conflict_entries, conflict_events, account_run}
use Rattle.promise_examples.specs.DepositRuns.{HasNone, HasDeposit, MayHaveDeposit, LeavesOthers, IsBetween}
use Rattle.promise_examples.specs.DoubtRuns.{IsDoubtRun, doubt_course, first_told}
use Rattle.promise_spec.proofs.Lists.{none_at, some_is, in_append, both_parts}
use Rattle.promise_spec.proofs.OneLog.{one_log}
use Rattle.promise_laws.proofs.JournalCrashes.{commits_of-append, chained, longest, holds, whole as all_whole, sound}
use Rattle.promise_examples.proofs.WholeInputs.{whole_read}
use Rattle.promise_examples.proofs.MomentParts.{at_each, exit_there, all_less}
use Rattle.promise_examples.proofs.WholeBatches.{no_batch}
use Rattle.promise_examples.proofs.ShownRuns.{shows}
use Rattle.promise_examples.proofs.FirstFamily.{only, either_of, serial, numbered, none_of, none_counted, family_of}
use Rattle.promise_examples.proofs.DepositRules.{two_loads, two_unit_rule, two_turn_rule, two_settled}

abbrev pub locked : Settlement
locked = record { commits = []; entries = locked_entry ∷ [] }

abbrev pub doubted : Settlement
doubted = record { commits = []; entries = doubt_entry ∷ [] }

abbrev batch : Settlement
batch = record { commits = first_commit ∷ []; entries = [] }

abbrev journal : List Settlement
journal = locked ∷ doubted ∷ batch ∷ []

-- no entry of the journal has an outcome
abbrev HasNoOutcome : Settlement → Type 0
HasNoOutcome s = (e : Entry) → Member e s.entries → HasOutcome e.what → ⊥

no_outcome : (s : Settlement) → Member s journal → HasNoOutcome s
no_outcome s (inl same) = subst HasNoOutcome (sym same) (λ e there. only (λ (d : Entry). HasOutcome d.what → ⊥) locked_entry e (λ has. has) there)
no_outcome s (inr (inl same)) = subst HasNoOutcome (sym same) (λ e there. only (λ (d : Entry). HasOutcome d.what → ⊥) doubt_entry e (λ has. has) there)
no_outcome s (inr (inr (inl same))) = subst HasNoOutcome (sym same) (λ e there. absurd there)
no_outcome s (inr (inr (inr none))) = absurd none

backs : Backs journal (first_commit ∷ [])
backs e l s front back split here added is = absurd (no_outcome s (subst (λ (j : List Settlement). Member s j) (sym split) (in_append s front (s ∷ back) (inr (inl refl)))) e here is.0)

abbrev pub core : Run
core = account_run conflict_events

legal : IsLegal (λ e. true) core
legal = record {
  above = omega arith;
  effects = (tt, (tt, (tt, (tt, (tt, (tt, (tt, (refl, (tt, (tt, (tt, (tt, (tt, (tt, tt))))))))))))));
  loads = two_loads;
}

entry_caused : (x : Entry) → Member x conflict_entries → IsCaused core x
entry_caused x there = caused-ends (λ e. true) core legal x (subst (λ (l : List Entry). Member x l) (sym two_settled) there)

-- the second unit alone is aborted
abbrev AbortedAt : UnitNo → Type 0
AbortedAt u = (why : Settled) × IsAbortedFor core u why

second_aborted : AbortedAt (unit_no 2)
second_aborted =
    let k = entry_caused locked_entry (inl refl) in
    (settled.Lock (unit_no 1) account_1, record { before = k.before; event = k.event; later = k.later; split = k.split; applied = k.applied; abort = tt; cause = k.cause })

aborted_by : (u : UnitNo) (first second : Bool) → (u.0 == 2) ≡ second → leave (if first then verdict.Chosen else (if second then verdict.Aborted else verdict.Open)) ≡ verdict.Aborted → AbortedAt u
aborted_by u true second is same = absurd (cc same)
aborted_by u false false is same = absurd (cc same)
aborted_by u false true is same = let number : u.0 ≡ 2 = eqb-true u.0 2 is in subst AbortedAt (λ i. record { 0 = sym number i }) second_aborted

caused : AreCaused core
unfolding put put_grain
caused = record { entries = entry_caused; units = λ u is. aborted_by u (u.0 == 1) (u.0 == 2) refl is }

all_apply : applied_in core ≡ conflict_events
unfolding put put_grain
all_apply = refl

pub no_votes : (g : GrainId) → how_many (is_no g) core ≡ 0
no_votes g =
    ap (λ (events : List CoreEvent). count_by (is_no g) events) all_apply
    ∙ none_counted (is_no g) conflict_events (refl, (refl, (refl, (refl, (refl, (refl, (refl, (refl, (refl, (refl, (none_of (same_grain account_1 g), (refl, (refl, (refl, tt))))))))))))))

one_vote : how_many (is_vote_of account_1) core ≡ 1
one_vote = ap (λ (events : List CoreEvent). count_by (is_vote_of account_1) events) all_apply

pub voted_on : (g : GrainId) → g ≡ account_1 → how_many (is_vote_of g) core ≡ 0 → ⊥
voted_on g same none = (let one : how_many (is_vote_of g) core ≡ 1 = subst (λ (x : GrainId). how_many (is_vote_of x) core ≡ 1) (sym same) one_vote in absurd (omega (arith, one, none)))

-- one sync of the opening at most, one of the vote, and two of the batch
pub four_most : (image : Image) → most_syncs_of image core ≡ opening_syncs image + 3
unfolding put put_grain
four_most image = refl

pub one_seal : how_many is_unsealed core ≡ 1
one_seal = ap (λ (events : List CoreEvent). count_by is_unsealed events) all_apply

pub has_doubt : RunHasDoubt core
unfolding put put_grain
has_doubt = record { at = 12; number = 1; doubt = record { there = refl; applied = refl } }

pub locked_proper : IsProper (shape_in account_program) locked_entry
locked_proper = record { line = (omega arith, lit< tt); unit = (omega arith, lit< tt); what = (lit< tt, (omega arith, lit< tt)) }

pub doubt_proper : IsProper (shape_in account_program) doubt_entry
doubt_proper = record { line = (omega arith, lit< tt); unit = (omega arith, lit< tt); what = tt }

not_one : unit_no 2 ≡ unit_no 1 → ⊥
not_one same = let numbers : 2 ≡ 1 = ap (λ (u : UnitNo). u.0) same in omega (arith, numbers)

only_get : {A : Type 0} (x : A) (i : ℕ) (y : A) → slice_get (x ∷ []) i ≡ Some y → x ≡ y
only_get x zero y is = some_is x y is
only_get x (suc i) y is = absurd (none_at i y is)

-- each image of the moment has the deposit or not
abbrev AllMayHave : Moment → Type 0
AllMayHave m = (image : Image) → IsImage m.disk image → MayHaveDeposit image

-- of two entries the first is the one that met a lock
earlier : (i j : ℕ) (d e : Entry) → slice_get conflict_entries i ≡ Some d → slice_get conflict_entries j ≡ Some e → i < j → d ≡ locked_entry
earlier zero j d e at other before = sym (some_is locked_entry d at)
earlier (suc zero) zero d e at other before = absurd (omega arith)
earlier (suc zero) (suc zero) d e at other before = absurd (omega arith)
earlier (suc zero) (suc (suc j)) d e at other before = absurd (none_at j e other)
earlier (suc (suc i)) j d e at other before = absurd (none_at i d at)

module _ (r : Observed) (opened : Moment) (told doubting : List Moment) (run : IsDoubtRun r opened told doubting) where
  abbrev course : Course
  course = doubt_course opened told doubting r

  abbrev KeepsAt : Moment → Image → Type 0
  KeepsAt m image = (k : KeepsJournal 0 account_program (account_log []) r.old.output journal m image) × IsPrefix (entries_of k.said) conflict_entries

  abbrev Known : Moment → Type 0
  Known m = (image : Image) → IsImage m.disk image → KeepsAt m image × HasProgram account_program.text (image program_file)

  at_opened : Known opened
  at_opened image left =
      let has = run.entry image left in (
        (record { said = []; unsaid = []; later = journal; rest = []; split = refl; log = has.1.0; output = record { output = run.quiet ∙ sym (append-nil r.old.output); unended = tt; proper = tt } }, (conflict_entries, refl)),
        has.1.1,
      )

  -- an output of these entries
  grew : (now : List ℕ) (entries : List Entry) → now ≡ r.old.output ++ reply_lines (shape_in account_program) entries → now ≡ r.old.output ++ (reply_lines (shape_in account_program) entries ++ [])
  grew now entries is = is ∙ ap (λ (l : List ℕ). r.old.output ++ l) (sym (append-nil (reply_lines (shape_in account_program) entries)))

  told_at : (m : Moment) (image : Image) → m.output ≡ r.old.output ++ reply_lines (shape_in account_program) (locked_entry ∷ []) → HasNone image ⊎ HasDeposit image → KeepsAt m image × HasProgram account_program.text (image program_file)
  told_at m image said (inl none) = (
    (record { said = locked ∷ []; unsaid = []; later = doubted ∷ batch ∷ []; rest = []; split = refl; log = none.0; output = record { output = grew m.output (locked_entry ∷ []) said; unended = tt; proper = (locked_proper, tt) } }, (doubt_entry ∷ [], refl)),
    none.1,
  )
  told_at m image said (inr has) = (
    (record { said = locked ∷ []; unsaid = doubted ∷ batch ∷ []; later = []; rest = []; split = refl; log = has.0; output = record { output = grew m.output (locked_entry ∷ []) said; unended = tt; proper = (locked_proper, tt) } }, (doubt_entry ∷ [], refl)),
    has.1,
  )

  exit_at : (image : Image) → HasNone image ⊎ HasDeposit image → KeepsAt (moment_of r.new) image × HasProgram account_program.text (image program_file)
  exit_at image (inl none) = (
    (record { said = locked ∷ doubted ∷ []; unsaid = []; later = batch ∷ []; rest = []; split = refl; log = none.0; output = record { output = grew r.new.output conflict_entries run.output; unended = tt; proper = (locked_proper, (doubt_proper, tt)) } }, ([], refl)),
    none.1,
  )
  exit_at image (inr has) = (
    (record { said = locked ∷ doubted ∷ []; unsaid = batch ∷ []; later = []; rest = []; split = refl; log = has.0; output = record { output = grew r.new.output conflict_entries run.output; unended = tt; proper = (locked_proper, (doubt_proper, tt)) } }, ([], refl)),
    has.1,
  )

  at_exit : Known (moment_of r.new)
  at_exit image left = exit_at image (run.exit image left)

  between : AllByRecursion Known (told ++ doubting)
  between =
      both_parts Known told doubting (all_less (IsBetween r (first_told r) HasNone) Known told (λ m is image left. told_at m image is.output (inl (is.images image left))) run.none)
      (all_less (IsBetween r (first_told r) MayHaveDeposit) Known doubting (λ m is image left. told_at m image is.output (is.images image left)) run.either)

  known : (m : Moment) → Member m (moments r course) → Known m
  known = at_each Known opened (told ++ doubting) (moment_of r.new) at_opened between at_exit

  keeps_at : (image : Image) (is : IsImageOf (moments r course) image) → KeepsJournal 0 account_program (account_log []) r.old.output journal is.moment image
  keeps_at image is = (known is.moment is.member image is.left).0.0

  begun : HasBegun (core_end account_program course) (unit_no 1)
  unfolding put put_grain
  begun is = absurd (cc is)

  unit_is : IsUnitOf (core_end account_program course) first_commit
  unfolding put put_grain
  unit_is = record { origin = refl; call = refl }

  reached : IsReached accounts (lines r) (core_end account_program course) (first_commit ∷ []) (unit_no 1)
  unfolding put put_grain
  reached = by_line {u = unit_no 1} 1 begun refl run.asks.first

  ordered : IsOrdered account_program r course
  ordered = record {
    in_force = refl;
    read = run.read;
    opened = λ image left. record { entry = (run.entry image left).0; log = (run.entry image left).1.0 };
    longest = longest 0 account_program (account_log []) r.old.output journal (moments r course) run.some (record { moment = moment_of r.new; member = exit_there opened (told ++ doubting) (moment_of r.new); left = run.possible }) run.there.0
        (λ m there image left. (known m there image left).0.0);
    serial = serial;
  }

  replies : AreReplies account_program r course
  replies = record {
    output = record { output = grew r.new.output conflict_entries run.output; unended = tt; proper = (locked_proper, (doubt_proper, tt)) };
    whole = λ other. refl;
    within = λ e there.
        let two : length (lines r) ≡ 2 = run.two in
        either_of (λ (d : Entry). (1 ≤ d.line) × (d.line ≤ length (lines r))) locked_entry doubt_entry e (omega arith, omega arith) (omega arith, omega arith) there;
    once = ((λ y there same. only (λ (d : Entry). 2 ≡ d.line → ⊥) doubt_entry y (λ is. omega (arith, is)) there same), ((λ y none. absurd none), tt));
    true_each = λ e there.
        either_of (λ (d : Entry). IsTrueOf account_program r course d d.what) locked_entry doubt_entry e
        (λ l added same. only (λ (x : Commit). x.logged.unit ≡ unit_no 2 → ⊥) first_commit l (λ is. not_one (sym is)) added same) tt there;
    in_order = λ i j m n d e a b at other log_at log_other of also before.
        let same : d ≡ locked_entry = earlier i j d e at other before in
        let commit : first_commit ≡ a = only_get first_commit m a log_at in
        absurd (not_one (sym (ap (λ (x : Commit). x.logged.unit) commit ∙ of.unit ∙ ap (λ (x : Entry). x.unit) same)));
  }

  -- at each moment other files and the header are as they were
  alone : (m : Moment) → Member m (moments r course) → LeavesAlone 0 r m
  alone =
      at_each (LeavesAlone 0 r) opened (told ++ doubting) (moment_of r.new) run.alone.0
      (both_parts (LeavesAlone 0 r) told doubting (all_less (IsBetween r (first_told r) HasNone) (LeavesAlone 0 r) told (λ m is. is.alone) run.none)
      (all_less (IsBetween r (first_told r) MayHaveDeposit) (LeavesAlone 0 r) doubting (λ m is. is.alone) run.either))
      run.alone.1

  -- each image of each moment has the deposit or not
  may_have : (m : Moment) → Member m (moments r course) → (image : Image) → IsImage m.disk image → MayHaveDeposit image
  may_have =
      at_each AllMayHave opened (told ++ doubting) (moment_of r.new) (λ image left. inl (run.entry image left).1)
      (both_parts AllMayHave told doubting (all_less (IsBetween r (first_told r) HasNone) AllMayHave told (λ m is image left. inl (is.images image left)) run.none)
      (all_less (IsBetween r (first_told r) MayHaveDeposit) AllMayHave doubting (λ m is. is.images) run.either))
      run.exit

  -- the one batch is the deposit's, which is in doubt
  one_batch : EndsABatch (core_end account_program course) (account_log []) (account_log (first_commit ∷ []))
  unfolding put put_grain
  one_batch = record { batches = 1; more = first_commit ∷ []; split = refl; records = (record { unit = refl; origin = refl; call = refl; answers = refl; result = refl; writes = refl }, tt) }

  whole_batches : (image : Image) (log : Log) → MayHaveDeposit image → IsLog 0 image log → EndsABatch (core_end account_program course) (account_log []) log
  whole_batches image log (inl none) is =
      subst (EndsABatch (core_end account_program course) (account_log [])) (one_log Two Two 0 0 image (account_log []) log none.0 is) (no_batch (core_end account_program course) (account_log []))
  whole_batches image log (inr has) is =
      subst (EndsABatch (core_end account_program course) (account_log [])) (one_log Two Two 0 0 image (account_log (first_commit ∷ [])) log has.0 is) one_batch

  sound_all : StaySound r course
  sound_all image is = sound 0 account_program (account_log []) r.old.output journal is.moment image (keeps_at image is) serial numbered

  -- and the files of other grains
  apart : (m : Moment) → Member m (moments r course) → LeavesOthers r m
  apart =
      at_each (LeavesOthers r) opened (told ++ doubting) (moment_of r.new) run.apart.0
      (both_parts (LeavesOthers r) told doubting (all_less (IsBetween r (first_told r) HasNone) (LeavesOthers r) told (λ m is. is.apart) run.none)
      (all_less (IsBetween r (first_told r) MayHaveDeposit) (LeavesOthers r) doubting (λ m is. is.apart) run.either))
      run.apart.1

  crashes : SurvivesCrashes r course
  crashes = record {
    past = run.past;
    quiet = λ m there. only (λ (n : Moment). n.output ≡ r.old.output) opened m run.quiet there;
    before = λ image is. only (λ (n : Moment). IsImage n.disk image → IsImage r.old.disk image) opened is.moment (λ left. (run.entry image left).0) is.member is.left;
    chain = λ one other a b. chained 0 account_program (account_log []) r.old.output journal a.moment b.moment one other (keeps_at one a) (keeps_at other b);
    whole = λ image is. all_whole 0 account_program (account_log []) r.old.output journal is.moment image (keeps_at image is) numbered;
    keeps = λ image is. let k = keeps_at image is in record { more = commits_of (k.said ++ k.unsaid); is = k.log; front = (commits_of k.later, ap commits_of k.split ∙ commits_of-append (k.said ++ k.unsaid) k.later) };
    alone = alone;
  }

  doubtful_is : units_in_doubt (core_end account_program course) ≡ unit_no 1 ∷ []
  unfolding put put_grain
  doubtful_is = refl

  doubt_is : (core_end account_program course).manager.doubt ≡ Some 0
  unfolding put put_grain
  doubt_is = refl

  ends_with : (image : Image) → HasNone image ⊎ HasDeposit image → HasLogAtExit course (core_end account_program course) image
  ends_with image (inl none) = record { log = account_log []; is = none.0; which = inr (record { begins = 0; doubt = doubt_is; last = first_commit ∷ []; split = refl; units = sym doubtful_is }) }
  ends_with image (inr has) = record { log = account_log (first_commit ∷ []); is = has.0; which = inl refl }

  rose : Rose (r.faults_before (File manager)) (r.faults_after (File manager))
  rose = let one : r.faults_after (File manager) ≡ r.faults_before (File manager) + 1 = run.rose in omega arith

  may_doubt : ending.EndingMayDoubt r.ending
  may_doubt = subst ending.EndingMayDoubt (sym run.ending) tt

  is_doubt : ImagesMayDiffer 0 r course (core_end account_program course)
  is_doubt = record {
    rose = rose;
    ending = may_doubt;
    told = λ e there doubtful_unit.
        let unit_there : Member e.unit (unit_no 1 ∷ []) = subst (λ (l : List UnitNo). Member e.unit l) doubtful_is doubtful_unit in
        either_of (λ (d : Entry). Member d.unit (unit_no 1 ∷ []) → d.what ≡ settled.InDoubt) locked_entry doubt_entry e
        (λ is. only (λ (u : UnitNo). unit_no 2 ≡ u → settled.Lock (unit_no 1) account_1 ≡ settled.InDoubt) (unit_no 1) (unit_no 2) (λ same. absurd (not_one same)) is refl)
        (λ is. refl) there unit_there;
  }

  chosen_is : AreRecordsOf (chosen (core_end account_program course)) (first_commit ∷ [])
  unfolding put put_grain
  chosen_is = (record { unit = refl; origin = refl; call = refl; answers = refl; result = refl; writes = refl }, tt)

  -- the records come of the events
  of_events : ComeOfEvents account_program r course
  of_events = record {
    family = family_of (lines r) (core_end account_program course) run.asks.first begun unit_is reached;
    whole = λ image log is log_is. whole_batches image log (may_have is.moment is.member image is.left) log_is;
  }

  replied : HoldsReplies account_program r course
  replied m image there left = let k = (known m there image left).0 in holds account_program r course journal m image backs k.0 k.1

  exit : IsExit account_program r course
  exit = record {
    logs = λ image left. ends_with image (run.exit image left);
    doubt = λ one other a b is_one is_other log_a log_b differ. is_doubt;
    nowhere = λ e there.
        either_of (λ (d : Entry). d.what ≡ settled.InDoubt → IsNowhere 0 r d.unit → HasNoRecord course d.unit) locked_entry doubt_entry e
        (λ is. absurd (cc is))
        (λ is nowhere. absurd (nowhere run.some (account_log (first_commit ∷ [])) first_commit run.possible run.there.0 (inl refl) refl)) there;
    block = λ doubt. record {
      gate = 15;
      reached = 0;
      session = 1;
      follows = omega arith;
      batch = first_commit ∷ [];
      before = account_log [];
      bodies = [];
      records = chosen_is;
      log = inr refl;
      front = run.front;
      block = run.block;
      differ = run.differ;
    };
    behind = λ none. absurd (omega (arith, none, one_seal));
  }

  records : AreAdded (core_end account_program course) (first_commit ∷ [])
  unfolding put put_grain
  records = inr (record { begins = 0; doubt = refl; records = (record { unit = refl; origin = refl; call = refl; answers = refl; result = refl; writes = refl }, tt) })

  few_emitted : (core_end account_program course).manager.emitted ≤ 2
  unfolding put put_grain
  few_emitted = omega arith

  turns : KeepsTurnRule accounts r.windowed (length (lines r)) r.manner.width r.manner.picks core
  turns =
      subst (λ (windowed : Bool). KeepsTurnRule accounts windowed (length (lines r)) r.manner.width r.manner.picks core) (sym run.windowed)
      (subst (λ n. KeepsTurnRule accounts true n r.manner.width r.manner.picks core) (sym run.two)
      (subst (λ w. KeepsTurnRule accounts true 2 w r.manner.picks core) (sym run.pair.1) (subst (λ (picks : List ℕ). KeepsTurnRule accounts true 2 2 picks core) (sym run.pair.2) two_turn_rule)))

  begun_is : (core_end account_program course).units.lines ≡ 2
  unfolding put put_grain
  begun_is = refl

  -- no more lines than are asked
  few : (core_end account_program course).units.lines ≤ length (lines r)
  few = (let begun : (core_end account_program course).units.lines ≡ 2 = begun_is in let all : length (lines r) ≡ 2 = run.two in omega (arith, begun, all))

  other_file : (g : GrainId) → File (Grain 0 g) ≢ File manager
  other_file g same = let files : Grain 0 g ≡ Manager 0 = cc same in absurd (cc files)

  votes : (g : GrainId) → RoseBy (how_many (is_no g) core) (r.faults_before (File (Grain 0 g))) (r.faults_after (File (Grain 0 g)))
  votes g =
      let same : r.faults_after (File (Grain 0 g)) ≡ r.faults_before (File (Grain 0 g)) = run.others (File (Grain 0 g)) (other_file g) in
      subst (λ n. RoseBy n (r.faults_before (File (Grain 0 g))) (r.faults_after (File (Grain 0 g)))) (sym (no_votes g)) (omega arith)

  seals : RoseBy (how_many is_unsealed core) (r.faults_before (File manager)) (r.faults_after (File manager))
  seals = subst (λ n. RoseBy n (r.faults_before (File manager)) (r.faults_after (File manager))) (sym one_seal) rose

  file_is : (file : FileId) → r.ending ≡ ending.DiskFault file → file ≡ manager
  file_is file is = let e : ending.DiskFault manager ≡ ending.DiskFault file = sym run.ending ∙ is in cc e

  written : AreSettled account_program r course
  written = record {
    entries = ([], two_settled);
    all = λ done. sym two_settled;
    told = few_emitted;
    cut = inl refl;
  }

  explained : IsExplained account_program r course
  explained = record {
    records = records;
    units = two_unit_rule (lines r) run.asks;
    turns = λ single. turns;
    loads = two_loads;
    caused = caused;
    faults = record { votes = votes; seals = seals };
    doubted = λ file is. inl (file_is file is, has_doubt);
    doubt_ends = λ doubt. may_doubt;
    unvoted = λ g m none there. apart m there g (λ same. voted_on g same none);
  }

  statuses : ending.HasRisen r.ending r.faults_before r.faults_after × ending.IsCarried r.ending
  statuses =
      subst (λ e. ending.HasRisen e r.faults_before r.faults_after × ending.IsCarried e) (sym run.ending) (rose, tt)

  not_calm : NoneRose r.faults_before r.faults_after → ⊥
  not_calm calm =
      let same : r.faults_after (File manager) ≡ r.faults_before (File manager) = (calm (File manager)).0 in
      let one : r.faults_after (File manager) ≡ r.faults_before (File manager) + 1 = run.rose in
      omega arith

  ended : HasEnded account_program r course
  ended = record {
    given = run.given;
    risen = statuses.0;
    carried = statuses.1;
    read =
        whole_read account_program r course run.left refl run.good few
        (λ none. absurd (let all : length (lines r) ≡ 2 = run.two in let zero : length (lines r) ≡ 0 = none in omega (arith, all, zero)))
        (λ all. subst (λ (e : ending.Ending). AllowedBy e r.old.input r course.allowed) (sym run.ending) (inl all));
    answered = λ is. absurd (subst ending.IsAllWritten run.ending is);
    complete = λ calm. absurd (not_calm calm);
    alone = λ single one none e there. absurd (let two : r.manner.width ≡ 2 = run.pair.1 in let width : r.manner.width ≡ 1 = one in omega arith);
    syncs = λ calm is. absurd (not_calm calm);
    most = (let n = run.syncs in let few : most_syncs_of (seen_at_entry r) core ≡ opening_syncs (seen_at_entry r) + 3 = four_most (seen_at_entry r) in omega (arith, n, few));
  }

  pub kept : Keeps account_program r course
  kept = record {
    headline = record { ordered = ordered; replies = replies; crashes = crashes; sound = λ folder. sound_all; holds = replied };
    traced = of_events;
    settled = written;
    explained = explained;
    exit = exit;
    ended = ended;
  }

  -- and over a sound folder it shows what has to be shown, where some image was there at the return of the opening's sync
  pub shown : IsSoundFolder r.old → (some : Image) → IsImage opened.disk some → Shows account_program r course
  shown sound_folder some possible = shows account_program r course kept refl sound_folder some possible journal refl backs (λ m there image left. (known m there image left).0)
