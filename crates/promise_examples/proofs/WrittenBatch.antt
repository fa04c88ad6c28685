-- The run of two deposits in one batch that is written out shows what a run has to show, and so keeps its promise.
use Rattle.promise_examples.proofs.WholeInputs.{whole_read}
use Rattle.promise_examples.proofs.AccountLogs.{account_logged}
use Rattle.std.proofs.Common.{◌≡◌, ◌⊎◌, inl, inr, ℕ, zero, suc, ◌+◌, ◌≤◌, List, [], ◌∷◌, ◌++◌, map, take, slice_index, pos, refl, sym, ◌∙◌, ap, subst, arith, lit<}
use Rattle.std.specs.Prelude.{FitsSigned}
use Rattle.std.specs.Int.{w64}
use Rattle.std.specs.Fmt.{digits}
use Rattle.std.specs.List.{AllByRecursion}
use Rattle.std.proofs.lemmas.Bool.{cases_eq}
use Rattle.std.proofs.lemmas.Int.{fits_signed_from_abs}
use Rattle.serde_json.proofs.OnLiterals.{serde_json_on_literals}
use Rattle.base_types.specs.declared.calls.Value.TheVariants.{Int}
use Rattle.base_types.specs.declared.entries.Entry.{Entry}
use Rattle.base_types.specs.declared.entries.Settled.TheVariants as settled_as
use Rattle.base_types.specs.declared.stores.Version.{Version}
use Rattle.core_model.specs.CoreState.{UnitNo, Member}
use Rattle.field_codec.specs.declared.formats.Format.TheVariants.{Two}
use Rattle.field_codec.specs.declared.units.Numbers.TheVariants.{Logged}
use Rattle.commit_log.specs.Bodies.{IsRecordIn}
use Rattle.gate_block.specs.Blocks.{block_of}
use Rattle.gate_block.specs.Log.{LogsUpTo}
use Rattle.grain_log.specs.Places.{IsVersionAt}
use Rattle.host_trait.specs.declared.channels.FileId.TheVariants.{Manager, Grain}
use Rattle.host_trait.specs.Disk.{Overwrote, settled}
use Rattle.host_trait.specs.World.{Disk, Image, IsImage, Moment, moment_of}
use Rattle.host_trait.proofs.Crashes.{settled_only}
use Rattle.silo_spec.specs.Silos.{manager, program_file, IsSilo, HasProgram}
use Rattle.promise_spec.specs.Programs.{shape_in}
use Rattle.promise_spec.specs.Entries.{Log}
use Rattle.promise_spec.specs.Records.{Commit}
use Rattle.promise_spec.specs.Blocks.{Records, body_of}
use Rattle.promise_spec.specs.Logs.{IsFormat, IsLog}
use Rattle.promise_spec.specs.Outputs.{IsProper, Grew, reply_lines}
use Rattle.promise_spec.specs.Causes.{RoseBy, most_syncs_of}
use Rattle.promise_spec.specs.Courses.{moments, core_run, core_end, seen_at_entry}
use Rattle.promise_spec.specs.Crashes.{Acknowledges, LeavesAlone}
use Rattle.promise_spec.specs.Batches.{EndsABatch}
use Rattle.promise_spec.specs.Explanation.{AreSettled}
use Rattle.promise_spec.specs.Exits.{IsNowhere}
use Rattle.promise_spec.specs.Replies.{HasNoRecord}
use Rattle.promise_spec.specs.Journals.{Settlement, Backs, commits_of}
use Rattle.promise_spec.specs.Promise.{Keeps, Promises}
use Rattle.promise_spec.proofs.WholeFolders.{whole_folder}
use Rattle.promise_spec.proofs.Lists.{head_of, tail_of, none_is}
use Rattle.promise_spec.proofs.OneLog.{one_log}
use Rattle.promise_laws.specs.Obligations.{SaysIn, Opens, Journals, ExplainsEvents, LeavesAtExit, EndsRightly, Shows}
use Rattle.promise_laws.proofs.ShownRuns.{shown}
use Rattle.promise_laws.proofs.ShownPromise.{promised}
use Rattle.field_codec.specs.Examples.{first_version}
use Rattle.promise_examples.specs.Examples.{account_log, account_program, account_1, program_bytes, unit_no, first_commit, next_commit, first_entry, manager_of, account_text}
use Rattle.promise_examples.specs.DepositRuns.{HasNone, LeavesOthers, IsBetween}
use Rattle.promise_examples.specs.HostCalls.{IsHosted}
use Rattle.promise_examples.specs.WrittenRun.{new_manager, disk_of, new_disk, pending_block, pending_gate, reply_text, opened}
use Rattle.promise_examples.specs.WrittenDoubt.{pair_before}
use Rattle.promise_examples.specs.WrittenVote.{reading_manner}
use Rattle.promise_examples.specs.WrittenBatch.{both_commits, second_entry, both_entries, both_versions, both_block, second_text, versions_pending, both_disk, batching, batch_after, batch_course, batched_steps, batched}
use Rattle.promise_examples.proofs.FirstDeposit.{five, logged_batch}
use Rattle.promise_examples.proofs.FirstFamily.{only, either_of}
use Rattle.promise_examples.proofs.NewSilo.{ends_there, gate_is_silo, shut_has_none, gate_only, has_none, new_images, seen_possible, new_folder, has_program}
use Rattle.promise_examples.proofs.SealingDisks.{sealed_front, gate_front, alone_of, apart_of, between_of, at_new, at_block, at_staged}
use Rattle.promise_examples.proofs.HostSteps.{pulled, ended, wrote_grain, wrote_log, synced_grain, synced_log, emitted}
use Rattle.promise_examples.proofs.MomentParts.{at_each, exit_there, all_less}
use Rattle.promise_examples.proofs.WholeBatches.{no_batch}
use Rattle.promise_examples.proofs.BatchRules.{batch_loads, batch_unit_rule, batch_turn_rule, settled_is, emitted_is, begun_is, records_are, both_end, no_doubt, no_votes, no_seals, voted_on, four_most, four_syncs}
use Rattle.promise_examples.proofs.WrittenDoubt.{asks, sound_at_entry}

-- ---- the bytes

pub block_spelled : block_of (body_of Two (Records 1 both_commits)) ≡ both_block
block_spelled = refl

four : FitsSigned w64 (pos 4)
four = fits_signed_from_abs w64 (pos 4) (lit< tt)

nine : FitsSigned w64 (pos 9)
nine = fits_signed_from_abs w64 (pos 9) (lit< tt)

abbrev last_version : Version
last_version = record { unit = unit_no 2; state = Int (pos 9) ∷ [] }

-- the file has both versions
first_there : IsVersionAt Two 1 (record { offset = 0; len = 19 }) both_versions first_version
first_there = record { version_is = logged_batch.kept.0.whole.0.version.version_is; here = refl }

last_there : IsVersionAt Two 1 (record { offset = 19; len = 19 }) both_versions last_version
last_there = record { version_is = record { fits = record { unit = lit< tt; state = (omega arith, (nine, tt)) }; count = refl; len = refl }; here = refl }

last_fits : IsRecordIn Two Logged (shape_in account_program) (next_commit 4 9).logged
last_fits = record {
  units = record { unit = refl; parent = tt };
  fits = record {
    unit = lit< tt;
    origin = lit< tt;
    call = record { kind = lit< tt; key = lit< tt; method = lit< tt; args = (omega arith, (four, tt)) };
    answers = (omega arith, tt);
    result = nine;
    writes = (omega arith, ((record { kind = lit< tt; key = lit< tt; offset = lit< tt; len = lit< tt }, tt), (refl, tt)));
  };
  call = (omega arith, refl);
  writes = (omega arith, tt);
}

-- the block is whole, and its gate is the last byte's
both_blocks : LogsUpTo (map (body_of Two) (Records 1 both_commits ∷ [])) 160 (manager_of both_block 1)
both_blocks = record { blocks = record { small = (lit< tt, tt); at = refl; within = omega arith; blocks = refl }; closed = λ e. cc e }

-- ---- the images

-- the image's log is both records
abbrev HasBoth : Image → Type 0
HasBoth image = IsLog 0 image (account_log both_commits)

-- it has both or none
abbrev MayHaveBoth : Image → Type 0
MayHaveBoth image = HasNone image ⊎ HasBoth image

module _ (image : Image) where
  has_both : image (Manager 1) ≡ [] → image manager ≡ manager_of both_block 1 → image (Grain 0 account_1) ≡ both_versions → HasProgram account_text (image program_file) → HasBoth image
  has_both alone is grain_is file = account_logged image both_commits alone (subst (λ (f : List ℕ). IsSilo (IsFormat Two) f) (sym is) (gate_is_silo both_block 1)) file (record {
    kind = ap (λ (f : List ℕ). slice_index f 13) is;
    zero = ap (λ (f : List ℕ). slice_index f 14) is;
    batches = both_commits ∷ [];
    gate = 160;
    blocks = subst (λ (f : List ℕ). LogsUpTo (map (body_of Two) (Records 1 both_commits ∷ [])) 160 f) (sym is) both_blocks;
    may = lit< tt;
    sizes = (omega arith, tt);
    are = refl;
    kept = (
      record {
        fits = logged_batch.kept.0.fits;
        whole = (
          record {
            near = lit< tt;
            fields = refl;
            version = subst (λ (f : List ℕ). IsVersionAt Two 1 (record { offset = 0; len = 19 }) f first_version) (sym grain_is) first_there;
          },
          tt,
        );
      },
      (
        record {
          fits = last_fits;
          whole = (
            record {
              near = lit< tt;
              fields = refl;
              version = subst (λ (f : List ℕ). IsVersionAt Two 1 (record { offset = 19; len = 19 }) f last_version) (sym grain_is) last_there;
            },
            tt,
          );
        },
        tt,
      ),
    );
  })

  -- while the gate is written
  gate_images : IsImage (both_disk (pending_gate both_block)) image → MayHaveBoth image
  gate_images left =
      let gate = slice_index (image manager) 15 in
      let is : image manager ≡ manager_of both_block gate = gate_only both_block (image manager) (left manager) in
      elim (cases_eq gate 1) [
        | inl open_gate ↦ inr (has_both (settled_only [] (image (Manager 1)) (left (Manager 1))) (is ∙ ap (manager_of both_block) open_gate) (settled_only both_versions (image (Grain 0 account_1)) (left (Grain 0 account_1))) (has_program image (settled_only program_bytes (image program_file) (left program_file))))
        | inr shut ↦ inl (has_none image (settled_only program_bytes (image program_file) (left program_file)) (settled_only [] (image (Manager 1)) (left (Manager 1))) (manager_of both_block gate) (gate_is_silo both_block gate) refl refl (shut_has_none both_block gate shut) is)
      ]

  -- and once it's synced
  both_images : IsImage (both_disk (settled (manager_of both_block 1))) image → HasBoth image
  both_images left = has_both (settled_only [] (image (Manager 1)) (left (Manager 1))) (settled_only (manager_of both_block 1) (image manager) (left manager)) (settled_only both_versions (image (Grain 0 account_1)) (left (Grain 0 account_1))) (has_program image (settled_only program_bytes (image program_file) (left program_file)))

-- ---- the moments

-- before the first reply each image has both or none, and then both
abbrev IsOnWay : Moment → Type 0
IsOnWay m = IsBetween batched [] MayHaveBoth m ⊎ IsBetween batched reply_text HasBoth m

quiet : (m : Moment) → IsBetween batched [] HasNone m → IsOnWay m
quiet m is = inl (record { output = is.output; images = λ image left. inl (is.images image left); alone = is.alone; apart = is.apart })

on_way : AllByRecursion IsOnWay batching
on_way = (
  quiet (record { output = []; disk = disk_of (settled new_manager) versions_pending }) (at_new batched refl [] versions_pending),
  (
    quiet (record { output = []; disk = both_disk (settled new_manager) }) (at_new batched refl [] (settled both_versions)),
    (
      quiet (record { output = []; disk = both_disk (pending_block both_block) }) (at_block batched refl [] both_block (settled both_versions)),
      (
        quiet (record { output = []; disk = both_disk (settled (manager_of both_block 0)) }) (at_staged batched refl [] both_block (settled both_versions)),
        (
          inl (between_of batched refl [] MayHaveBoth (pending_gate both_block) (settled both_versions) (gate_front both_block) gate_images),
          (
            inl (between_of batched refl [] MayHaveBoth (settled (manager_of both_block 1)) (settled both_versions) (sealed_front both_block 1) (λ image left. inr (both_images image left))),
            (inr (between_of batched refl reply_text HasBoth (settled (manager_of both_block 1)) (settled both_versions) (sealed_front both_block 1) both_images), tt),
          ),
        ),
      ),
    ),
  ),
)

-- each image of each moment has both or none
abbrev AllMayHave : Moment → Type 0
AllMayHave m = (image : Image) → IsImage m.disk image → MayHaveBoth image

way_has : (m : Moment) → IsOnWay m → AllMayHave m
way_has m (inl is) image left = is.images image left
way_has m (inr is) image left = inr (is.images image left)

may_have : (m : Moment) → Member m (moments batched batch_course) → AllMayHave m
may_have =
    at_each AllMayHave opened batching (moment_of batch_after) (λ image left. inl (new_images image left)) (all_less IsOnWay AllMayHave batching way_has on_way)
    (λ image left. inr (both_images image left))

-- at each moment other files and the header are as they were
way_alone : (m : Moment) → IsOnWay m → LeavesAlone 0 batched m
way_alone m (inl is) = is.alone
way_alone m (inr is) = is.alone

way_apart : (m : Moment) → IsOnWay m → LeavesOthers batched m
way_apart m (inl is) = is.apart
way_apart m (inr is) = is.apart

apart : (m : Moment) → Member m (moments batched batch_course) → LeavesOthers batched m
apart =
    at_each (LeavesOthers batched) opened batching (moment_of batch_after) (at_new batched refl [] (settled [])).apart (all_less IsOnWay (LeavesOthers batched) batching way_apart on_way)
    (apart_of batched refl (reply_text ++ second_text) (settled (manager_of both_block 1)) (settled both_versions))

alone : (m : Moment) → Member m (moments batched batch_course) → LeavesAlone 0 batched m
alone =
    at_each (LeavesAlone 0 batched) opened batching (moment_of batch_after) (at_new batched refl [] (settled [])).alone (all_less IsOnWay (LeavesAlone 0 batched) batching way_alone on_way)
    (alone_of batched refl (reply_text ++ second_text) (settled (manager_of both_block 1)) (settled both_versions) (sealed_front both_block 1))

whole_batches : (image : Image) (log : Log) → MayHaveBoth image → IsLog 0 image log → EndsABatch (core_end account_program batch_course) (account_log []) log
whole_batches image log (inl none) is = subst (EndsABatch (core_end account_program batch_course) (account_log [])) (one_log Two Two 0 0 image (account_log []) log none.0 is) (no_batch (core_end account_program batch_course) (account_log []))
whole_batches image log (inr has) is = subst (EndsABatch (core_end account_program batch_course) (account_log [])) (one_log Two Two 0 0 image (account_log both_commits) log has is) both_end

-- ---- the journal

abbrev first_settled : Settlement
first_settled = record { commits = first_commit ∷ []; entries = first_entry ∷ [] }

abbrev second_settled : Settlement
second_settled = record { commits = next_commit 4 9 ∷ []; entries = second_entry ∷ [] }

abbrev journal : List Settlement
journal = first_settled ∷ second_settled ∷ []

-- the first reply doesn't acknowledge the second record
not_second : (e : Entry) → Member e (first_entry ∷ []) → Acknowledges e (next_commit 4 9) → ⊥
not_second e here is = only (λ (d : Entry). Acknowledges d (next_commit 4 9) → ⊥) first_entry e never here is where
  never : Acknowledges first_entry (next_commit 4 9) → ⊥
  never (has, inl of) = let numbers : 2 ≡ 1 = ap (λ (u : UnitNo). u.0) of.unit in omega (arith, numbers)
  never (has, inr child) = absurd (cc child.1.1)

by_first : (e : Entry) (l : Commit) → Member e (first_entry ∷ []) → Member l both_commits → Acknowledges e l → Member l (first_commit ∷ [])
by_first e l here (inl same) is = inl same
by_first e l here (inr (inl same)) is = absurd (not_second e here (subst (λ (x : Commit). Acknowledges e x) same is))
by_first e l here (inr (inr none)) is = absurd none

no_seam : (s : Settlement) (front back : List Settlement) → [] ≡ front ++ (s ∷ back) → ⊥
no_seam s [] back e = none_is s back (sym e)
no_seam s (x ∷ front) back e = none_is x (front ++ (s ∷ back)) (sym e)

-- each reply's record stands beside it, or before it
backs : Backs journal both_commits
backs e l s [] back split here added is =
    let same : first_settled ≡ s = head_of first_settled s (second_settled ∷ []) back split in
    let first : Member e (first_entry ∷ []) = subst (λ (t : Settlement). Member e t.entries) (sym same) here in
    subst (λ (t : Settlement). Member l (commits_of (t ∷ []))) same (by_first e l first added is)
backs e l s (x ∷ []) back split here added is =
    let same : first_settled ≡ x = head_of first_settled x (second_settled ∷ []) (s ∷ back) split in
    let next : second_settled ≡ s = head_of second_settled s [] back (tail_of first_settled x (second_settled ∷ []) (s ∷ back) split) in
    let both : Member l (commits_of (first_settled ∷ second_settled ∷ [])) = added in
    subst (λ (t : Settlement). Member l (commits_of (x ∷ t ∷ []))) next (subst (λ (t : Settlement). Member l (commits_of (t ∷ second_settled ∷ []))) same both)
backs e l s (x ∷ y ∷ front) back split here added is =
    absurd (no_seam s front back (tail_of second_settled y [] (front ++ (s ∷ back)) (tail_of first_settled x (second_settled ∷ []) (y ∷ (front ++ (s ∷ back))) split)))

first_proper : IsProper (shape_in account_program) first_entry
first_proper = record { line = (omega arith, lit< tt); unit = (omega arith, lit< tt); what = five }

second_proper : IsProper (shape_in account_program) second_entry
second_proper = record { line = (omega arith, lit< tt); unit = (omega arith, lit< tt); what = nine }

first_line : reply_text ≡ reply_lines (shape_in account_program) (first_entry ∷ []) ++ []
unfolding serde_json_on_literals digits
first_line = refl

both_lines : reply_text ++ second_text ≡ reply_lines (shape_in account_program) both_entries ++ []
unfolding serde_json_on_literals digits
both_lines = refl

whole : Grew (shape_in account_program) [] (reply_text ++ second_text) both_entries []
whole = record { output = both_lines; unended = tt; proper = (first_proper, (second_proper, tt)) }

abbrev Says : Moment → Type 0
Says m = SaysIn account_program batched batch_course journal m

unsaid : (m : Moment) → m.output ≡ [] → AllMayHave m → Says m
unsaid m said has image left = elim (has image left) [
  | inl none ↦ (
    record { said = []; unsaid = []; later = journal; rest = []; split = refl; log = none.0; output = record { output = said; unended = tt; proper = tt } },
    (both_entries, refl),
  )
  | inr both ↦ (
    record { said = []; unsaid = journal; later = []; rest = []; split = refl; log = both; output = record { output = said; unended = tt; proper = tt } },
    (both_entries, refl),
  )
]

way_says : (m : Moment) → IsOnWay m → Says m
way_says m (inl is) = unsaid m is.output is.images
way_says m (inr is) = λ image left. (
  record {
    said = first_settled ∷ [];
    unsaid = second_settled ∷ [];
    later = [];
    rest = [];
    split = refl;
    log = is.images image left;
    output = record { output = is.output ∙ first_line; unended = tt; proper = (first_proper, tt) };
  },
  (second_entry ∷ [], refl),
)

exit_says : Says (moment_of batch_after)
exit_says image left = (
  record { said = journal; unsaid = []; later = []; rest = []; split = refl; log = both_images image left; output = whole },
  ([], refl),
)

says : (m : Moment) → Member m (moments batched batch_course) → Says m
says = at_each Says opened batching (moment_of batch_after) (unsaid opened refl (λ image left. inl (new_images image left))) (all_less IsOnWay Says batching way_says on_way) exit_says

-- ---- what the run shows

opens : Opens batched batch_course
opens = record {
  folder = whole_folder batched.old sound_at_entry;
  read = (new_images new_folder (seen_possible new_manager [])).0;
  opened = λ image left. (new_images image left).0;
  some = new_folder;
  possible = seen_possible new_manager [];
  past = refl;
  quiet = λ m there. only (λ (n : Moment). n.output ≡ []) opened m refl there;
  before = λ image is. only (λ (n : Moment). IsImage n.disk image → IsImage new_disk image) opened is.moment (λ left. left) is.member is.left;
}

seen_at_exit : Image
seen_at_exit file = (both_disk (settled (manager_of both_block 1)) file).seen

exit_possible : IsImage (both_disk (settled (manager_of both_block 1))) seen_at_exit
unfolding seen_at_exit
exit_possible = seen_possible (manager_of both_block 1) both_versions

journals : Journals account_program batched batch_course
journals = record {
  journal = journal;
  commits = refl;
  backs = backs;
  kept = says;
  batches = λ image log is log_is. whole_batches image log (may_have is.moment is.member image is.left) log_is;
  last = seen_at_exit;
  left = record { moment = moment_of batch_after; member = exit_there opened batching (moment_of batch_after); left = exit_possible };
  longest = both_images seen_at_exit exit_possible;
  alone = alone;
}

explains : ExplainsEvents account_program batched batch_course
explains = record {
  records = inl records_are;
  units = batch_unit_rule batched.asked asks;
  turns = λ single. batch_turn_rule;
  loads = batch_loads;
  faults = record {
    votes = λ g. subst (λ n. RoseBy n 0 0) (sym (no_votes g)) (omega arith);
    seals = subst (λ n. RoseBy n 0 0) (sym no_seals) (omega arith);
  };
  doubted = λ file is. absurd (cc is);
  ended = λ doubt. absurd (no_doubt doubt);
  unvoted = λ g m none there. apart m there g (λ same. voted_on g same none);
}

told : AreSettled account_program batched batch_course
told = record {
  entries = ([], settled_is);
  all = λ done. sym settled_is;
  told = omega (arith, emitted_is);
  cut = inl refl;
}

leaves : LeavesAtExit account_program batched batch_course
leaves = record {
  logs = λ image left. record { log = account_log both_commits; is = both_images image left; which = inl refl };
  nowhere = λ e there.
      either_of (λ (d : Entry). d.what ≡ settled_as.InDoubt → IsNowhere 0 batched d.unit → HasNoRecord batch_course d.unit) first_entry second_entry e (λ is. absurd (cc is)) (λ is. absurd (cc is)) there;
  block = λ doubt. absurd (no_doubt doubt);
  behind = λ none image left. ends_there (map (body_of Two) (Records 1 both_commits ∷ [])) 160 (image manager) (manager_of both_block 1) new_manager (settled_only (manager_of both_block 1) (image manager) (left manager)) both_blocks refl (omega arith);
}

answered : (n : ℕ) → 1 ≤ n → n ≤ 2 → (e : Entry) × Member e both_entries × (e.line ≡ n)
answered zero low high = absurd (omega arith)
answered (suc zero) low high = (first_entry, inl refl, refl)
answered (suc (suc zero)) low high = (second_entry, inr (inl refl), refl)
answered (suc (suc (suc n))) low high = absurd (omega arith)

-- both lines have begun
few_begun : (core_end account_program batch_course).units.lines ≤ 2
few_begun = (let two : (core_end account_program batch_course).units.lines ≡ 2 = begun_is in omega (arith, two))

ends : EndsRightly account_program batched batch_course
ends = record {
  given = refl;
  risen = tt;
  carried = tt;
  read = whole_read account_program batched batch_course refl refl refl few_begun (λ none. absurd (let zero : 2 ≡ 0 = none in omega (arith, zero))) (λ all. all);
  answered = λ is. answered;
  syncs = λ calm is. ap (λ (n : ℕ). batched.old.syncs + n) (sym (four_syncs (seen_at_entry batched)));
  most = (let few : most_syncs_of (seen_at_entry batched) (core_run account_program batch_course) ≡ 4 = four_most (seen_at_entry batched) in omega (arith, few));
}

pub batched_shows : Shows account_program batched batch_course
batched_shows = record {
  in_force = refl;
  opens = opens;
  explains = explains;
  settled = told;
  output = whole;
  whole = λ other. refl;
  journals = journals;
  leaves = leaves;
  ends = ends;
}

-- so it keeps the promise
pub batched_keeps : Keeps account_program batched batch_course
batched_keeps = shown account_program batched batch_course batched_shows

pub batched_promises : Promises reading_manner batched
batched_promises = promised account_program batched batch_course batched_shows reading_manner refl refl

-- ---- the host's calls

versions_wrote : Overwrote 0 both_versions (settled []) versions_pending
versions_wrote = record { pends = record { base = refl; ranges = refl; longest = refl }; seen = refl }

block_wrote : Overwrote 16 both_block (settled new_manager) (pending_block both_block)
block_wrote = record { pends = record { base = refl; ranges = refl; longest = refl }; seen = refl }

gate_wrote : Overwrote 15 (1 ∷ []) (settled (manager_of both_block 0)) (pending_gate both_block)
gate_wrote = record { pends = record { base = refl; ranges = refl; longest = refl }; seen = refl }

-- so many of the moments
abbrev past : ℕ → List Moment
past many = opened ∷ take many batching

abbrev sealed : Disk
sealed = both_disk (settled (manager_of both_block 1))

pub is_hosted : IsHosted batched batched_steps
is_hosted = (
  synced_log [] (settled new_manager) (settled []) 0 [] pair_before.input,
  (
    pulled [] new_disk 1 (past 0) (λ channel. 0) pair_before.input (λ none. cc none),
    (
      ended [] new_disk 1 (past 0) (λ channel. 0) pair_before.input,
      (
        wrote_grain [] (settled new_manager) (settled []) 1 (past 0) versions_pending 0 both_versions (omega arith) versions_wrote,
        (
          synced_grain [] (settled new_manager) versions_pending 1 (past 1),
          (
            wrote_log [] (settled new_manager) (settled both_versions) 2 (past 2) (pending_block both_block) 16 both_block (omega arith) block_wrote,
            (
              synced_log [] (pending_block both_block) (settled both_versions) 2 (past 3) [],
              (
                wrote_log [] (settled (manager_of both_block 0)) (settled both_versions) 3 (past 4) (pending_gate both_block) 15 (1 ∷ []) (omega arith) gate_wrote,
                (
                  synced_log [] (pending_gate both_block) (settled both_versions) 3 (past 5) [],
                  (emitted [] reply_text sealed 4 (past 6) (λ channel. 0) refl, (emitted reply_text second_text sealed 4 (past 7) (λ channel. 0) refl, refl)),
                ),
              ),
            ),
          ),
        ),
      ),
    ),
  ),
)
