-- A run with a failed vote, and a unit that depended on what it wrote, keeps the whole promise.
use Rattle.std.proofs.Common.{◌≡◌, ◌≢◌, inl, inr, ℕ, zero, suc, ◌+◌, ◌≤◌, Bool, true, false, List, [], ◌∷◌, ◌++◌, length, refl, sym, ◌∙◌, ap, subst, arith, lit<}
use Rattle.std.specs.Prelude.{count_by, ◌==◌, ◌&&◌, if◌then◌else◌}
use Rattle.std.proofs.lemmas.Bool.{and_parts, eqb-true}
use Rattle.std.proofs.lemmas.List.{append-nil}
use Rattle.base_types.specs.declared.calls.GrainId.{GrainId}
use Rattle.base_types.specs.declared.calls.UnitNo.{UnitNo}
use Rattle.base_types.specs.declared.entries.Entry.{Entry}
use Rattle.base_types.specs.declared.entries.Settled.{Settled}
use Rattle.base_types.specs.declared.entries.Settled.TheVariants as settled
use Rattle.core_model.specs.declared.events.CoreEvent.{CoreEvent}
use Rattle.core_model.specs.declared.events.CoreEvent.TheVariants as event
use Rattle.core_model.specs.declared.phases.Verdict.TheVariants as verdict
use Rattle.core_model.specs.Causes.{IsCaused}
use Rattle.core_model.specs.Changes.{seal}
use Rattle.core_model.specs.LegalRuns.{Run, IsLegal}
use Rattle.core_model.specs.SerialOrder.{committed}
use Rattle.core_model.specs.CoreState.{Member, same_grain, put, put_grain}
use Rattle.core_laws.proofs.EntryCauses.{caused-ends}
use Rattle.host_trait.specs.declared.channels.Channel.TheVariants.{File}
use Rattle.host_trait.specs.declared.channels.FileId.TheVariants.{Manager, Grain}
use Rattle.host_trait.specs.World.{Moment, Image, IsImage, moment_of}
use Rattle.silo_spec.specs.Silos.{manager, program_file, HasProgram}
use Rattle.silo_spec.specs.OpenedDisks.{opening_syncs}
use Rattle.field_codec.specs.declared.formats.Format.TheVariants.{Two}
use Rattle.promise_spec.specs.Programs.{shape_in}
use Rattle.promise_spec.specs.Records.{AreRecordsOf}
use Rattle.promise_spec.specs.Logs.{IsPrefix}
use Rattle.promise_spec.specs.Moments.{IsImageOf}
use Rattle.promise_spec.specs.Outputs.{IsProper, Grew, reply_lines}
use Rattle.promise_spec.specs.Cores.{applied_in, how_many}
use Rattle.promise_spec.specs.TurnRule.{KeepsTurnRule}
use Rattle.promise_spec.specs.Causes.{IsAbortedFor, NoneRose, RoseBy, RunHasDoubt, AreCaused, is_no, is_vote_of, is_unsealed, most_syncs_of}
use Rattle.promise_spec.specs.Endings as ending
use Rattle.promise_spec.specs.Courses.{Observed, Course, moments, lines, core_end, seen_at_entry}
use Rattle.promise_spec.specs.Orders.{IsOrdered}
use Rattle.promise_spec.specs.Replies.{AreReplies, IsTrueOf}
use Rattle.promise_spec.specs.Crashes.{LeavesAlone, SurvivesCrashes, StaySound, HoldsReplies}
use Rattle.promise_spec.specs.Batches.{EndsABatch}
use Rattle.promise_spec.specs.Exits.{IsExit}
use Rattle.promise_spec.specs.Explanation.{ComeOfEvents, AreSettled, IsExplained}
use Rattle.promise_spec.specs.Journals.{Settlement, KeepsJournal, Backs, commits_of, entries_of}
use Rattle.promise_spec.specs.Promise.{AllowedBy, IsSoundFolder, HasEnded, Keeps}
use Rattle.promise_laws.specs.Obligations.{Shows}
use Rattle.promise_examples.specs.Examples.{account_log, accounts, account_program, account_1, unit_no, voted_entry, dependent_entry, vote_entries, vote_events, account_run}
use Rattle.promise_examples.specs.DepositRuns.{HasNone, LeavesOthers, IsBetween}
use Rattle.promise_examples.specs.VoteRuns.{IsVoteRun, vote_course}
use Rattle.promise_spec.proofs.Lists.{none_at, both_parts}
use Rattle.promise_spec.proofs.OneLog.{one_log}
use Rattle.promise_laws.proofs.JournalCrashes.{commits_of-append, chained, longest, holds, whole as all_whole, sound}
use Rattle.promise_examples.proofs.WholeInputs.{whole_read}
use Rattle.promise_examples.proofs.MomentParts.{at_each, exit_there, all_less}
use Rattle.promise_examples.proofs.WholeBatches.{no_batch}
use Rattle.promise_examples.proofs.ShownRuns.{shows}
use Rattle.promise_examples.proofs.FirstFamily.{only, either_of, none_counted, no_family}
use Rattle.promise_examples.proofs.DepositRules.{Each, each_from_0, vote_loads, vote_unit_rule, vote_turn_rule, vote_settled}

abbrev voted : Settlement
voted = record { commits = []; entries = voted_entry ∷ [] }

abbrev depends : Settlement
depends = record { commits = []; entries = dependent_entry ∷ [] }

abbrev journal : List Settlement
journal = voted ∷ depends ∷ []

backs : Backs journal []
backs e l s front back split here none is = absurd none

abbrev core : Run
core = account_run vote_events

legal : IsLegal (λ e. true) core
legal = record {
  above = omega arith;
  effects = (tt, (tt, (tt, (tt, (tt, (refl, (tt, (tt, (refl, (tt, (tt, (tt, (tt, (tt, (tt, (tt, tt))))))))))))))));
  loads = vote_loads;
}

entry_caused : (x : Entry) → Member x vote_entries → IsCaused core x
entry_caused x there = caused-ends (λ e. true) core legal x (subst (λ (l : List Entry). Member x l) (sym vote_settled) there)

-- both units are aborted
abbrev AbortedAt : UnitNo → Type 0
AbortedAt u = (why : Settled) × IsAbortedFor core u why

first_aborted : AbortedAt (unit_no 1)
first_aborted =
    let k = entry_caused voted_entry (inl refl) in
    (settled.Vote account_1, record { before = k.before; event = k.event; later = k.later; split = k.split; applied = k.applied; abort = tt; cause = k.cause })

second_aborted : AbortedAt (unit_no 2)
second_aborted =
    let k = entry_caused dependent_entry (inr (inl refl)) in
    (settled.Dependency (unit_no 1), record { before = k.before; event = k.event; later = k.later; split = k.split; applied = k.applied; abort = tt; cause = k.cause })

aborted_by : (u : UnitNo) (first second : Bool) → (u.0 == 1) ≡ first → (u.0 == 2) ≡ second → seal (if second then verdict.Condemned else (if first then verdict.Condemned else verdict.Open)) ≡ verdict.Aborted → AbortedAt u
aborted_by u first true one two same = let number : u.0 ≡ 2 = eqb-true u.0 2 two in subst AbortedAt (λ i. record { 0 = sym number i }) second_aborted
aborted_by u true false one two same = let number : u.0 ≡ 1 = eqb-true u.0 1 one in subst AbortedAt (λ i. record { 0 = sym number i }) first_aborted
aborted_by u false false one two same = absurd (cc same)

caused : AreCaused core
unfolding put put_grain
caused = record { entries = entry_caused; units = λ u is. aborted_by u (u.0 == 1) (u.0 == 2) refl refl is }

no_doubt : RunHasDoubt core → ⊥
no_doubt doubt =
    let P : ℕ → CoreEvent → Type 0 = λ at e. (n : ℕ) → e ≡ event.Doubt n → ⊥ in
    let all : Each P 0 vote_events =
    ((λ n e. absurd (cc e)), ((λ n e. absurd (cc e)), ((λ n e. absurd (cc e)), ((λ n e. absurd (cc e)), ((λ n e. absurd (cc e)), ((λ n e. absurd (cc e)), ((λ n e. absurd (cc e)), ((λ n e. absurd (cc e)), ((λ n e. absurd (cc e)), ((λ n e. absurd (cc e)), ((λ n e. absurd (cc e)), ((λ n e. absurd (cc e)), ((λ n e. absurd (cc e)), ((λ n e. absurd (cc e)), ((λ n e. absurd (cc e)), ((λ n e. absurd (cc e)), tt)))))))))))))))) in
    each_from_0 P vote_events doubt.at (event.Doubt doubt.number) all doubt.doubt.there doubt.number refl

all_apply : applied_in core ≡ vote_events
unfolding put put_grain
all_apply = refl

-- the one vote of no is on `account/1`
no_others : (g : GrainId) → same_grain account_1 g ≡ false → how_many (is_no g) core ≡ 0
no_others g other =
    ap (λ (events : List CoreEvent). count_by (is_no g) events) all_apply
    ∙ none_counted (is_no g) vote_events (refl, (refl, (refl, (refl, (refl, (refl, (refl, (refl, (refl, (refl, (refl, (ap (λ (b : Bool). b && true) other, (refl, (refl, (refl, (refl, tt))))))))))))))))

one_no : how_many (is_no account_1) core ≡ 1
one_no = ap (λ (events : List CoreEvent). count_by (is_no account_1) events) all_apply

one_vote : how_many (is_vote_of account_1) core ≡ 1
one_vote = ap (λ (events : List CoreEvent). count_by (is_vote_of account_1) events) all_apply

voted_on : (g : GrainId) → g ≡ account_1 → how_many (is_vote_of g) core ≡ 0 → ⊥
voted_on g same none = (let one : how_many (is_vote_of g) core ≡ 1 = subst (λ (x : GrainId). how_many (is_vote_of x) core ≡ 1) (sym same) one_vote in absurd (omega (arith, one, none)))

-- one sync of the opening at most, and one of the vote
two_most : (image : Image) → most_syncs_of image core ≡ opening_syncs image + 1
unfolding put put_grain
two_most image = refl

no_seals : how_many is_unsealed core ≡ 0
no_seals = ap (λ (events : List CoreEvent). count_by is_unsealed events) all_apply

voted_proper : IsProper (shape_in account_program) voted_entry
voted_proper = record { line = (omega arith, lit< tt); unit = (omega arith, lit< tt); what = (omega arith, lit< tt) }

dependent_proper : IsProper (shape_in account_program) dependent_entry
dependent_proper = record { line = (omega arith, lit< tt); unit = (omega arith, lit< tt); what = lit< tt }

answered : (n : ℕ) → 1 ≤ n → n ≤ 2 → (e : Entry) × Member e vote_entries × (e.line ≡ n)
answered zero low high = absurd (omega arith)
answered (suc zero) low high = (voted_entry, inl refl, refl)
answered (suc (suc zero)) low high = (dependent_entry, inr (inl refl), refl)
answered (suc (suc (suc n))) low high = absurd (omega arith)

same_account : (g : GrainId) → same_grain account_1 g ≡ true → account_1 ≡ g
same_account g same =
    let parts = and_parts (0 == g.kind) (1 == g.key) same in
    let kind : 0 ≡ g.kind = eqb-true 0 g.kind parts.0 in
    let key : 1 ≡ g.key = eqb-true 1 g.key parts.1 in
    λ i. record { kind = kind i; key = key i }

other_account : (g : GrainId) → same_grain account_1 g ≡ false → File (Grain 0 g) ≢ File (Grain 0 account_1)
other_account g other same =
    let files : g ≡ account_1 = cc same in
    let is : same_grain account_1 account_1 ≡ false = subst (λ (h : GrainId). same_grain account_1 h ≡ false) files other in
    absurd (cc is)

-- no image of the moment has a record
abbrev AllHaveNone : Moment → Type 0
AllHaveNone m = (image : Image) → IsImage m.disk image → HasNone image

not_manager : File manager ≢ File (Grain 0 account_1)
not_manager same = let files : Manager 0 ≡ Grain 0 account_1 = cc same in absurd (cc files)

module _ (r : Observed) (opened : Moment) (failing told : List Moment) (run : IsVoteRun r opened failing told) where
  abbrev course : Course
  course = vote_course opened failing told r

  abbrev KeepsAt : Moment → Image → Type 0
  KeepsAt m image = (k : KeepsJournal 0 account_program (account_log []) r.old.output journal m image) × IsPrefix (entries_of k.said) vote_entries

  abbrev Known : Moment → Type 0
  Known m = (image : Image) → IsImage m.disk image → KeepsAt m image × HasProgram account_program.text (image program_file)

  -- an output of these entries
  grew : (now : List ℕ) (entries : List Entry) → now ≡ r.old.output ++ reply_lines (shape_in account_program) entries → now ≡ r.old.output ++ (reply_lines (shape_in account_program) entries ++ [])
  grew now entries is = is ∙ ap (λ (l : List ℕ). r.old.output ++ l) (sym (append-nil (reply_lines (shape_in account_program) entries)))

  whole : Grew (shape_in account_program) r.old.output r.new.output vote_entries []
  whole = record { output = grew r.new.output vote_entries run.output; unended = tt; proper = (voted_proper, (dependent_proper, tt)) }

  at_opened : Known opened
  at_opened image left =
      let has = run.entry image left in (
        (record { said = []; unsaid = []; later = journal; rest = []; split = refl; log = has.1.0; output = record { output = run.quiet ∙ sym (append-nil r.old.output); unended = tt; proper = tt } }, (vote_entries, refl)),
        has.1.1,
      )

  -- a moment at which nothing is said yet
  at_failing : (m : Moment) → IsBetween r r.old.output HasNone m → Known m
  at_failing m is image left =
      let has = is.images image left in (
        (record { said = []; unsaid = []; later = journal; rest = []; split = refl; log = has.0; output = record { output = is.output ∙ sym (append-nil r.old.output); unended = tt; proper = tt } }, (vote_entries, refl)),
        has.1,
      )

  at_told : (m : Moment) → IsBetween r (r.old.output ++ reply_lines (shape_in account_program) (voted_entry ∷ [])) HasNone m → Known m
  at_told m is image left =
      let has = is.images image left in (
        (record { said = voted ∷ []; unsaid = []; later = depends ∷ []; rest = []; split = refl; log = has.0; output = record { output = grew m.output (voted_entry ∷ []) is.output; unended = tt; proper = (voted_proper, tt) } }, (dependent_entry ∷ [], refl)),
        has.1,
      )

  at_exit : Known (moment_of r.new)
  at_exit image left = let has = run.exit image left in ((record { said = journal; unsaid = []; later = []; rest = []; split = refl; log = has.0; output = whole }, ([], refl)), has.1)

  known : (m : Moment) → Member m (moments r course) → Known m
  known =
      at_each Known opened (failing ++ told) (moment_of r.new) at_opened
      (both_parts Known failing told (all_less (IsBetween r r.old.output HasNone) Known failing at_failing run.unsaid)
      (all_less (IsBetween r (r.old.output ++ reply_lines (shape_in account_program) (voted_entry ∷ [])) HasNone) Known told at_told run.first))
      at_exit

  keeps_at : (image : Image) (is : IsImageOf (moments r course) image) → KeepsJournal 0 account_program (account_log []) r.old.output journal is.moment image
  keeps_at image is = (known is.moment is.member image is.left).0.0

  ordered : IsOrdered account_program r course
  ordered = record {
    in_force = refl;
    read = run.read;
    opened = λ image left. record { entry = (run.entry image left).0; log = (run.entry image left).1.0 };
    longest = longest 0 account_program (account_log []) r.old.output journal (moments r course) run.some (record { moment = moment_of r.new; member = exit_there opened (failing ++ told) (moment_of r.new); left = run.possible }) (run.exit run.some run.possible).0
        (λ m there image left. (known m there image left).0.0);
    serial = tt;
  }

  replies : AreReplies account_program r course
  replies = record {
    output = whole;
    whole = λ other. refl;
    within = λ e there.
        let two : length (lines r) ≡ 2 = run.two in
        either_of (λ (d : Entry). (1 ≤ d.line) × (d.line ≤ length (lines r))) voted_entry dependent_entry e (omega arith, omega arith) (omega arith, omega arith) there;
    once = ((λ y there same. only (λ (d : Entry). 1 ≡ d.line → ⊥) dependent_entry y (λ is. omega (arith, is)) there same), ((λ y none. absurd none), tt));
    true_each = λ e there.
        either_of (λ (d : Entry). IsTrueOf account_program r course d d.what) voted_entry dependent_entry e (λ l none same. absurd none) (λ l none same. absurd none) there;
    in_order = λ i j m n d e a b at other log_at. absurd (none_at m a log_at);
  }

  -- at each moment other files and the header are as they were
  alone : (m : Moment) → Member m (moments r course) → LeavesAlone 0 r m
  alone =
      at_each (LeavesAlone 0 r) opened (failing ++ told) (moment_of r.new) run.alone.0
      (both_parts (LeavesAlone 0 r) failing told (all_less (IsBetween r r.old.output HasNone) (LeavesAlone 0 r) failing (λ m is. is.alone) run.unsaid)
      (all_less (IsBetween r (r.old.output ++ reply_lines (shape_in account_program) (voted_entry ∷ [])) HasNone) (LeavesAlone 0 r) told (λ m is. is.alone) run.first))
      run.alone.1

  -- no image of any moment has a record
  have_none : (m : Moment) → Member m (moments r course) → (image : Image) → IsImage m.disk image → HasNone image
  have_none =
      at_each AllHaveNone opened (failing ++ told) (moment_of r.new) (λ image left. (run.entry image left).1)
      (both_parts AllHaveNone failing told (all_less (IsBetween r r.old.output HasNone) AllHaveNone failing (λ m is. is.images) run.unsaid)
      (all_less (IsBetween r (r.old.output ++ reply_lines (shape_in account_program) (voted_entry ∷ [])) HasNone) AllHaveNone told (λ m is. is.images) run.first))
      run.exit

  sound_all : StaySound r course
  sound_all image is = sound 0 account_program (account_log []) r.old.output journal is.moment image (keeps_at image is) tt tt

  -- and the files of other grains
  apart : (m : Moment) → Member m (moments r course) → LeavesOthers r m
  apart =
      at_each (LeavesOthers r) opened (failing ++ told) (moment_of r.new) run.apart.0
      (both_parts (LeavesOthers r) failing told (all_less (IsBetween r r.old.output HasNone) (LeavesOthers r) failing (λ m is. is.apart) run.unsaid)
      (all_less (IsBetween r (r.old.output ++ reply_lines (shape_in account_program) (voted_entry ∷ [])) HasNone) (LeavesOthers r) told (λ m is. is.apart) run.first))
      run.apart.1

  crashes : SurvivesCrashes r course
  crashes = record {
    past = run.past;
    quiet = λ m there. only (λ (n : Moment). n.output ≡ r.old.output) opened m run.quiet there;
    before = λ image is. only (λ (n : Moment). IsImage n.disk image → IsImage r.old.disk image) opened is.moment (λ left. (run.entry image left).0) is.member is.left;
    chain = λ one other a b. chained 0 account_program (account_log []) r.old.output journal a.moment b.moment one other (keeps_at one a) (keeps_at other b);
    whole = λ image is. all_whole 0 account_program (account_log []) r.old.output journal is.moment image (keeps_at image is) tt;
    keeps = λ image is. let k = keeps_at image is in record { more = commits_of (k.said ++ k.unsaid); is = k.log; front = (commits_of k.later, ap commits_of k.split ∙ commits_of-append (k.said ++ k.unsaid) k.later) };
    alone = alone;
  }

  -- the records come of the events
  of_events : ComeOfEvents account_program r course
  of_events = record {
    family = no_family accounts (lines r) _ _ _;
    whole = λ image log is log_is.
        subst (EndsABatch (core_end account_program course) (account_log [])) (one_log Two Two 0 0 image (account_log []) log (have_none is.moment is.member image is.left).0 log_is) (no_batch (core_end account_program course) (account_log []));
  }

  replied : HoldsReplies account_program r course
  replied m image there left = let k = (known m there image left).0 in holds account_program r course journal m image backs k.0 k.1

  exit : IsExit account_program r course
  exit = record {
    logs = λ image left. record { log = account_log []; is = (run.exit image left).0; which = inl refl };
    doubt = λ one other a b is_one is_other log_a log_b differ.
        absurd (differ (one_log Two Two 0 0 one a (account_log []) log_a (run.exit one is_one).0 ∙ sym (one_log Two Two 0 0 other b (account_log []) log_b (run.exit other is_other).0)));
    nowhere = λ e there is nowhere l none. absurd none;
    block = λ doubt. absurd (no_doubt doubt);
    behind = λ none. run.behind;
  }

  no_records : AreRecordsOf (committed (core_end account_program course)) []
  unfolding put put_grain
  no_records = tt

  few_emitted : (core_end account_program course).manager.emitted ≤ 2
  unfolding put put_grain
  few_emitted = omega arith

  turns : KeepsTurnRule accounts r.windowed (length (lines r)) r.manner.width r.manner.picks core
  turns =
      subst (λ (windowed : Bool). KeepsTurnRule accounts windowed (length (lines r)) r.manner.width r.manner.picks core) (sym run.windowed)
      (subst (λ n. KeepsTurnRule accounts true n r.manner.width r.manner.picks core) (sym run.two)
      (subst (λ w. KeepsTurnRule accounts true 2 w r.manner.picks core) (sym run.pair.1) (subst (λ (picks : List ℕ). KeepsTurnRule accounts true 2 2 picks core) (sym run.pair.2) vote_turn_rule)))

  begun_is : (core_end account_program course).units.lines ≡ 2
  unfolding put put_grain
  begun_is = refl

  -- no more lines than are asked
  few : (core_end account_program course).units.lines ≤ length (lines r)
  few = (let begun : (core_end account_program course).units.lines ≡ 2 = begun_is in let all : length (lines r) ≡ 2 = run.two in omega (arith, begun, all))

  account_votes : RoseBy (how_many (is_no account_1) core) (r.faults_before (File (Grain 0 account_1))) (r.faults_after (File (Grain 0 account_1)))
  account_votes =
      let one : r.faults_after (File (Grain 0 account_1)) ≡ r.faults_before (File (Grain 0 account_1)) + 1 = run.rose in
      subst (λ n. RoseBy n (r.faults_before (File (Grain 0 account_1))) (r.faults_after (File (Grain 0 account_1)))) (sym one_no) (omega arith)

  votes : (g : GrainId) (b : Bool) → same_grain account_1 g ≡ b → RoseBy (how_many (is_no g) core) (r.faults_before (File (Grain 0 g))) (r.faults_after (File (Grain 0 g)))
  votes g true same = subst (λ (h : GrainId). RoseBy (how_many (is_no h) core) (r.faults_before (File (Grain 0 h))) (r.faults_after (File (Grain 0 h)))) (same_account g same) account_votes
  votes g false other =
      let same : r.faults_after (File (Grain 0 g)) ≡ r.faults_before (File (Grain 0 g)) = run.others (File (Grain 0 g)) (other_account g other) in
      subst (λ n. RoseBy n (r.faults_before (File (Grain 0 g))) (r.faults_after (File (Grain 0 g)))) (sym (no_others g other)) (omega arith)

  seals : RoseBy (how_many is_unsealed core) (r.faults_before (File manager)) (r.faults_after (File manager))
  seals =
      let same : r.faults_after (File manager) ≡ r.faults_before (File manager) = run.others (File manager) not_manager in
      subst (λ n. RoseBy n (r.faults_before (File manager)) (r.faults_after (File manager))) (sym no_seals) (omega arith)

  written : AreSettled account_program r course
  written = record {
    entries = ([], vote_settled);
    all = λ done. sym vote_settled;
    told = few_emitted;
    cut = inl refl;
  }

  explained : IsExplained account_program r course
  explained = record {
    records = inl no_records;
    units = vote_unit_rule (lines r) run.asks;
    turns = λ single. turns;
    loads = vote_loads;
    caused = caused;
    faults = record { votes = λ g. votes g (same_grain account_1 g) refl; seals = seals };
    doubted = λ file is. absurd (let e : ending.Done ≡ ending.DiskFault file = sym run.ending ∙ is in cc e);
    doubt_ends = λ doubt. absurd (no_doubt doubt);
    unvoted = λ g m none there. apart m there g (λ same. voted_on g same none);
  }

  statuses : ending.HasRisen r.ending r.faults_before r.faults_after × ending.IsCarried r.ending
  statuses =
      subst (λ e. ending.HasRisen e r.faults_before r.faults_after × ending.IsCarried e) (sym run.ending) (tt, tt)

  not_calm : NoneRose r.faults_before r.faults_after → ⊥
  not_calm calm =
      let same : r.faults_after (File (Grain 0 account_1)) ≡ r.faults_before (File (Grain 0 account_1)) = (calm (File (Grain 0 account_1))).0 in
      let one : r.faults_after (File (Grain 0 account_1)) ≡ r.faults_before (File (Grain 0 account_1)) + 1 = run.rose in
      omega arith

  ended : HasEnded account_program r course
  ended = record {
    given = run.given;
    risen = statuses.0;
    carried = statuses.1;
    read =
        whole_read account_program r course run.left refl run.good few
        (λ none. absurd (let all : length (lines r) ≡ 2 = run.two in let zero : length (lines r) ≡ 0 = none in omega (arith, all, zero)))
        (λ all. subst (λ (e : ending.Ending). AllowedBy e r.old.input r course.allowed) (sym run.ending) all);
    answered = λ is n low high. answered n low (let two : length (lines r) ≡ 2 = run.two in let most : n ≤ length (lines r) = high in omega (arith, two, most));
    complete = λ calm. absurd (not_calm calm);
    alone = λ single one none e there. absurd (let two : r.manner.width ≡ 2 = run.pair.1 in let width : r.manner.width ≡ 1 = one in omega arith);
    syncs = λ calm is. absurd (not_calm calm);
    most = (let n = run.syncs in let few : most_syncs_of (seen_at_entry r) core ≡ opening_syncs (seen_at_entry r) + 1 = two_most (seen_at_entry r) in omega (arith, n, few));
  }

  pub kept : Keeps account_program r course
  kept = record {
    headline = record { ordered = ordered; replies = replies; crashes = crashes; sound = λ folder. sound_all; holds = replied };
    traced = of_events;
    settled = written;
    explained = explained;
    exit = exit;
    ended = ended;
  }

  -- and over a sound folder it shows what has to be shown, where some image was there at the return of the opening's sync
  pub shown : IsSoundFolder r.old → (some : Image) → IsImage opened.disk some → Shows account_program r course
  shown sound_folder some possible = shows account_program r course kept refl sound_folder some possible journal refl backs (λ m there image left. (known m there image left).0)
