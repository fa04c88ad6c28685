-- The run that is written out, of a doubt whose gate's write never began, shows what has to be shown, and keeps the promise.
use Rattle.promise_examples.proofs.WholeInputs.{whole_read}
use Rattle.promise_examples.proofs.AccountLogs.{account_begins}
use Rattle.std.proofs.Common.{◌≡◌, ◌≢◌, inl, ℕ, ◌≤◌, List, [], ◌∷◌, ◌++◌, length, take, drop, slice_index, refl, sym, ◌∙◌, ap, subst, arith}
use Rattle.std.specs.Fmt.{digits}
use Rattle.std.specs.List.{AllByRecursion}
use Rattle.serde_json.proofs.OnLiterals.{serde_json_on_literals}
use Rattle.host_trait.specs.declared.channels.Channel.TheVariants.{File}
use Rattle.host_trait.specs.declared.channels.FileId.{FileId}
use Rattle.host_trait.specs.declared.channels.FileId.TheVariants.{Grain}
use Rattle.host_trait.specs.Disk.{settled}
use Rattle.host_trait.specs.World.{Image, IsImage, Moment, moment_of}
use Rattle.host_trait.proofs.Crashes.{settled_only}
use Rattle.core_model.specs.SerialOrder.{chosen}
use Rattle.core_model.specs.CoreState.{GrainId, Member, put, put_grain}
use Rattle.gate_block.specs.Log.{HasBlocks}
use Rattle.silo_spec.specs.Silos.{manager, program_file, IsSilo}
use Rattle.promise_spec.specs.Programs.{shape_in}
use Rattle.promise_spec.specs.Entries.{Log}
use Rattle.promise_spec.specs.Records.{AreRecordsOf}
use Rattle.field_codec.specs.declared.formats.Format.TheVariants.{Two}
use Rattle.promise_spec.specs.Logs.{IsFormat, IsLog, StandsUpTo}
use Rattle.promise_spec.specs.Outputs.{Grew, reply_lines}
use Rattle.promise_spec.specs.Causes.{RoseBy, NoneRose, most_syncs_of}
use Rattle.promise_spec.specs.Endings.{DiskFault}
use Rattle.promise_spec.specs.Courses.{moments, core_run, core_end, seen_at_entry}
use Rattle.promise_spec.specs.Crashes.{LeavesAlone}
use Rattle.promise_spec.specs.Batches.{EndsABatch}
use Rattle.promise_spec.specs.Explanation.{AreAdded, AreSettled}
use Rattle.promise_spec.specs.Exits.{HasBlock, DifferAt, BlockInDoubt}
use Rattle.promise_spec.specs.Journals.{Settlement, Backs}
use Rattle.promise_spec.specs.Promise.{Keeps, Promises}
use Rattle.promise_spec.proofs.WholeFolders.{whole_folder}
use Rattle.promise_spec.proofs.OneLog.{one_log}
use Rattle.promise_laws.specs.Obligations.{SaysIn, Opens, Journals, ExplainsEvents, LeavesAtExit, EndsRightly, Shows}
use Rattle.promise_laws.proofs.ShownRuns.{shown}
use Rattle.promise_laws.proofs.ShownPromise.{promised}
use Rattle.promise_examples.specs.Examples.{account_log, account_program, first_commit, grain_bytes, block_bytes, manager_bytes, locked_entry, doubt_entry, conflict_entries, program_bytes}
use Rattle.promise_examples.specs.DepositRuns.{HasNone, LeavesOthers, IsBetween}
use Rattle.promise_examples.specs.HostCalls.{IsHosted}
use Rattle.promise_examples.specs.WrittenRun.{new_manager, new_disk, version_pending, block_pending, staged_disk, opened}
use Rattle.promise_examples.specs.WrittenDoubt.{pair_manner, locked_text, doubt_text, pair_before, one_fault}
use Rattle.promise_examples.specs.WrittenUnbegun.{gate_failing, unbegun_after, unbegun, unbegun_course, unbegun_steps}
use Rattle.promise_examples.proofs.NewSilo.{gate_is_silo, new_images, seen_possible, new_folder, has_program}
use Rattle.promise_examples.proofs.SealingDisks.{at_new, at_block, at_staged}
use Rattle.promise_examples.proofs.HostSteps.{pulled, ended, wrote_grain, wrote_log, unbegun_log, synced_grain, synced_log, emitted}
use Rattle.promise_examples.proofs.MomentParts.{at_each, exit_there, all_less}
use Rattle.promise_examples.proofs.WholeBatches.{no_batch}
use Rattle.promise_examples.proofs.FirstFamily.{only}
use Rattle.promise_examples.proofs.DepositRules.{two_loads, two_unit_rule, two_turn_rule, two_settled}
use Rattle.promise_examples.proofs.DoubtRun.{locked, doubted, no_votes, voted_on, four_most, one_seal, has_doubt, locked_proper, doubt_proper}
use Rattle.promise_examples.proofs.WrittenRun.{version_wrote, block_wrote}
use Rattle.promise_examples.proofs.WrittenDoubt.{asks, sound_at_entry, manager_fails}

-- ---- the moments: no image ever has the deposit

-- a moment behind the second line's reply: each image has an empty log
abbrev HasNoneAt : Moment → Type 0
HasNoneAt m = IsBetween unbegun locked_text HasNone m

-- so it is at each of them
on_way : AllByRecursion HasNoneAt gate_failing
on_way = (
  at_new unbegun refl locked_text (settled []),
  (
    at_new unbegun refl locked_text version_pending,
    (
      at_new unbegun refl locked_text (settled grain_bytes),
      (
        at_block unbegun refl locked_text block_bytes (settled grain_bytes),
        (at_staged unbegun refl locked_text block_bytes (settled grain_bytes), (at_staged unbegun refl locked_text block_bytes (settled grain_bytes), tt)),
      ),
    ),
  ),
)

-- and at the exit
at_exit : IsBetween unbegun (locked_text ++ doubt_text) HasNone (moment_of unbegun_after)
at_exit = at_staged unbegun refl (locked_text ++ doubt_text) block_bytes (settled grain_bytes)

-- each image of the moment has an empty log
abbrev AllHaveNone : Moment → Type 0
AllHaveNone m = (image : Image) → IsImage m.disk image → HasNone image

-- so it is at each moment that counts
none_has : (m : Moment) → Member m (moments unbegun unbegun_course) → AllHaveNone m
none_has = at_each AllHaveNone opened gate_failing (moment_of unbegun_after) (λ image left. new_images image left) (all_less HasNoneAt AllHaveNone gate_failing (λ m is. is.images) on_way) at_exit.images

-- so each log is empty
pub no_records : (m : Moment) (image : Image) → Member m (moments unbegun unbegun_course) → IsImage m.disk image → IsLog 0 image (account_log [])
no_records m image there left = (none_has m there image left).0

-- other files and the header are as they were
apart : (m : Moment) → Member m (moments unbegun unbegun_course) → LeavesOthers unbegun m
apart =
    at_each (LeavesOthers unbegun) opened gate_failing (moment_of unbegun_after) (at_new unbegun refl [] (settled [])).apart
    (all_less HasNoneAt (LeavesOthers unbegun) gate_failing (λ m is. is.apart) on_way) at_exit.apart

alone : (m : Moment) → Member m (moments unbegun unbegun_course) → LeavesAlone 0 unbegun m
alone =
    at_each (LeavesAlone 0 unbegun) opened gate_failing (moment_of unbegun_after) (at_new unbegun refl [] (settled [])).alone
    (all_less HasNoneAt (LeavesAlone 0 unbegun) gate_failing (λ m is. is.alone) on_way) at_exit.alone

-- an empty log ends where a batch does
whole_batches : (image : Image) (log : Log) → HasNone image → IsLog 0 image log → EndsABatch (core_end account_program unbegun_course) (account_log []) log
whole_batches image log none is =
    subst (EndsABatch (core_end account_program unbegun_course) (account_log [])) (one_log Two Two 0 0 image (account_log []) log none.0 is) (no_batch (core_end account_program unbegun_course) (account_log []))

-- ---- the journal: both entries, and no record

-- what was settled, in order
abbrev journal : List Settlement
journal = locked ∷ doubted ∷ []

-- no record has to be backed
backs : Backs journal []
backs e l s front back split here added is = absurd added

-- what each image of the moment keeps of it
abbrev Says : Moment → Type 0
Says m = SaysIn account_program unbegun unbegun_course journal m

-- the reply to the second line
first_line : locked_text ≡ reply_lines (shape_in account_program) (locked_entry ∷ []) ++ []
unfolding serde_json_on_literals digits
first_line = refl

-- and to both
both_lines : locked_text ++ doubt_text ≡ reply_lines (shape_in account_program) conflict_entries ++ []
unfolding serde_json_on_literals digits
both_lines = refl

-- the output at the exit
whole : Grew (shape_in account_program) [] (locked_text ++ doubt_text) conflict_entries []
whole = record { output = both_lines; unended = tt; proper = (locked_proper, (doubt_proper, tt)) }

-- at the return of the opening's sync nothing is said
opened_says : Says opened
opened_says image left = (
  record { said = []; unsaid = []; later = journal; rest = []; split = refl; log = (new_images image left).0; output = record { output = refl; unended = tt; proper = tt } },
  (conflict_entries, refl),
)

-- then the second line's entry is
way_says : (m : Moment) → HasNoneAt m → Says m
way_says m is image left = (
  record {
    said = locked ∷ [];
    unsaid = [];
    later = doubted ∷ [];
    rest = [];
    split = refl;
    log = (is.images image left).0;
    output = record { output = is.output ∙ first_line; unended = tt; proper = (locked_proper, tt) };
  },
  (doubt_entry ∷ [], refl),
)

-- and at the exit both
exit_says : Says (moment_of unbegun_after)
exit_says image left = (
  record { said = journal; unsaid = []; later = []; rest = []; split = refl; log = (at_exit.images image left).0; output = whole },
  ([], refl),
)

-- so it is at each moment that counts
says : (m : Moment) → Member m (moments unbegun unbegun_course) → Says m
says = at_each Says opened gate_failing (moment_of unbegun_after) opened_says (all_less HasNoneAt Says gate_failing way_says on_way) exit_says

-- ---- what the run shows

-- what the opening read
opens : Opens unbegun unbegun_course
opens = record {
  folder = whole_folder unbegun.old sound_at_entry;
  read = (new_images new_folder (seen_possible new_manager [])).0;
  opened = λ image left. (new_images image left).0;
  some = new_folder;
  possible = seen_possible new_manager [];
  past = refl;
  quiet = λ m there. only (λ (n : Moment). n.output ≡ []) opened m refl there;
  before = λ image is. only (λ (n : Moment). IsImage n.disk image → IsImage new_disk image) opened is.moment (λ left. left) is.member is.left;
}

-- the files as they read at the exit
seen_at_exit : Image
seen_at_exit file = (staged_disk file).seen

-- which a crash may leave
exit_possible : IsImage staged_disk seen_at_exit
unfolding seen_at_exit
exit_possible = seen_possible (manager_bytes 0) grain_bytes

-- the journal that was kept
journals : Journals account_program unbegun unbegun_course
journals = record {
  journal = journal;
  commits = refl;
  backs = backs;
  kept = says;
  batches = λ image log is log_is. whole_batches image log (none_has is.moment is.member image is.left) log_is;
  last = seen_at_exit;
  left = record { moment = moment_of unbegun_after; member = exit_there opened gate_failing (moment_of unbegun_after); left = exit_possible };
  longest = (at_exit.images seen_at_exit exit_possible).0;
  alone = alone;
}

-- no record was added
records : AreAdded (core_end account_program unbegun_course) []
unfolding put put_grain
records = inl tt

-- a grain's file isn't the manager file
other_file : (g : GrainId) → File (Grain 0 g) ≢ File manager
other_file g same = let files : Grain 0 g ≡ manager = cc same in absurd (cc files)

-- the file that failed is the manager file
file_is : (file : FileId) → unbegun.ending ≡ DiskFault file → file ≡ manager
file_is file is = let e : DiskFault manager ≡ DiskFault file = is in cc e

-- why each line ended so
explains : ExplainsEvents account_program unbegun unbegun_course
explains = record {
  records = records;
  units = two_unit_rule unbegun.asked asks;
  turns = λ single. two_turn_rule;
  loads = two_loads;
  faults = record {
    votes = λ g. subst (λ n. RoseBy n 0 0) (sym (no_votes g)) (omega arith);
    seals = subst (λ n. RoseBy n 0 1) (sym one_seal) (omega arith);
  };
  doubted = λ file is. inl (file_is file is, has_doubt);
  ended = λ doubt. tt;
  unvoted = λ g m none there. apart m there g (λ same. voted_on g same none);
}

-- the core was told of no more entries than were written
few_emitted : (core_end account_program unbegun_course).manager.emitted ≤ 2
unfolding put put_grain
few_emitted = omega arith

-- both entries were written
written : AreSettled account_program unbegun unbegun_course
written = record { entries = ([], two_settled); all = λ done. sym two_settled; told = few_emitted; cut = inl refl }

-- the block stands behind the gate, which is closed in every image
chosen_is : AreRecordsOf (chosen (core_end account_program unbegun_course)) (first_commit ∷ [])
unfolding put put_grain
chosen_is = (record { unit = refl; origin = refl; call = refl; answers = refl; result = refl; writes = refl }, tt)

module _ (image : Image) (left : IsImage staged_disk image) where
  -- the manager file of each image has the block behind a closed gate
  staged_is : image manager ≡ manager_bytes 0
  staged_is = settled_only (manager_bytes 0) (image manager) (left manager)

  -- the empty log stands up to its gate
  front : StandsUpTo Two 0 image (account_log []) [] 15 0
  front = account_begins image (subst (IsSilo (IsFormat Two)) (sym staged_is) (gate_is_silo block_bytes 0)) (ap (λ (f : List ℕ). slice_index f 13) staged_is) (ap (λ (f : List ℕ). slice_index f 14) staged_is) (has_program image (settled_only program_bytes (image program_file) (left program_file)))
      (subst (λ (f : List ℕ). HasBlocks [] 15 f) (sym staged_is) (record { small = tt; at = refl; within = omega arith; blocks = refl }))

  -- it is the batch's
  block : HasBlock 0 15 1 (first_commit ∷ []) image
  block = ap (λ (f : List ℕ). take 81 (drop 16 f)) staged_is

-- the images have one manager file
one_file : (one other : Image) → IsImage staged_disk one → IsImage staged_disk other → DifferAt 15 (one manager) (other manager)
one_file one other is_one is_other =
    let same : one manager ≡ other manager = staged_is one is_one ∙ sym (staged_is other is_other) in
    record { long = ap (λ (f : List ℕ). length f) same; same = λ i elsewhere. ap (λ (f : List ℕ). slice_index f i) same }

-- the block of the batch in doubt
doubtful_block : BlockInDoubt 0 unbegun unbegun_course (core_end account_program unbegun_course)
doubtful_block = record {
  gate = 15;
  reached = 0;
  session = 1;
  follows = omega arith;
  batch = first_commit ∷ [];
  before = account_log [];
  bodies = [];
  records = chosen_is;
  log = inl refl;
  front = front;
  block = block;
  differ = one_file;
}

-- the logs at the exit
leaves : LeavesAtExit account_program unbegun unbegun_course
leaves = record {
  logs = λ image left. record { log = account_log []; is = (at_exit.images image left).0; which = inl refl };
  nowhere = λ e there what none l added. absurd added;
  block = λ doubt. doubtful_block;
  behind = λ none. absurd (omega (arith, none, one_seal));
}

-- the manager file's count rose
not_calm : NoneRose unbegun.faults_before unbegun.faults_after → ⊥
not_calm calm = let same : 1 ≡ 0 = (calm (File manager)).0 in absurd (omega (arith, same))

-- both lines have begun
few_begun : (core_end account_program unbegun_course).units.lines ≤ 2
unfolding put put_grain
few_begun = omega arith

-- how it ended
ends : EndsRightly account_program unbegun unbegun_course
ends = record {
  given = refl;
  risen = manager_fails.rose;
  carried = tt;
  read = whole_read account_program unbegun unbegun_course refl refl refl few_begun (λ none. absurd (let zero : 2 ≡ 0 = none in omega (arith, zero))) (λ all. inl all);
  answered = λ is. absurd is;
  syncs = λ calm is. absurd (not_calm calm);
  most = (let few : most_syncs_of (seen_at_entry unbegun) (core_run account_program unbegun_course) ≡ 4 = four_most (seen_at_entry unbegun) in omega (arith, few));
}

-- all that has to be shown
pub unbegun_shows : Shows account_program unbegun unbegun_course
unbegun_shows = record {
  in_force = refl;
  opens = opens;
  explains = explains;
  settled = written;
  output = whole;
  whole = λ other. refl;
  journals = journals;
  leaves = leaves;
  ends = ends;
}

-- so it keeps the promise
pub unbegun_keeps : Keeps account_program unbegun unbegun_course
unbegun_keeps = shown account_program unbegun unbegun_course unbegun_shows

-- in the manner of its words
pub unbegun_promises : Promises pair_manner unbegun
unbegun_promises = promised account_program unbegun unbegun_course unbegun_shows pair_manner refl refl

-- ---- the host's calls

-- so many of the moments
abbrev past : ℕ → List Moment
past many = opened ∷ take many gate_failing

-- each call does as a host does
pub is_hosted : IsHosted unbegun unbegun_steps
is_hosted = (
  synced_log [] (settled new_manager) (settled []) 0 [] pair_before.input,
  (
    pulled [] new_disk 1 (past 0) (λ channel. 0) pair_before.input (λ none. cc none),
    (
      ended [] new_disk 1 (past 0) (λ channel. 0) pair_before.input,
      (
        emitted [] locked_text new_disk 1 (past 0) (λ channel. 0) refl,
        (
          wrote_grain locked_text (settled new_manager) (settled []) 1 (past 1) version_pending 0 grain_bytes (omega arith) version_wrote,
          (
            synced_grain locked_text (settled new_manager) version_pending 1 (past 2),
            (
              wrote_log locked_text (settled new_manager) (settled grain_bytes) 2 (past 3) block_pending 16 block_bytes (omega arith) block_wrote,
              (
                synced_log locked_text block_pending (settled grain_bytes) 2 (past 4) [],
                (
                  unbegun_log locked_text (settled (manager_bytes 0)) (settled grain_bytes) 3 (past 5) 15 1 one_fault (omega arith) manager_fails,
                  (emitted locked_text doubt_text staged_disk 3 (past 6) one_fault refl, refl),
                ),
              ),
            ),
          ),
        ),
      ),
    ),
  ),
)
