-- The run that is written out, of two deposits of which one is left in doubt, meets all that is asked of such a run.
use Rattle.host_trait.proofs.Crashes.{settled_only}
use Rattle.silo_spec.specs.OpenedDisks.{opening_syncs}
use Rattle.field_codec.specs.declared.formats.Format.TheVariants.{Two}
use Rattle.promise_spec.specs.Logs.{IsFormat, StandsUpTo}
use Rattle.promise_examples.proofs.AccountLogs.{account_begins}
use Rattle.std.proofs.Common.{◌≡◌, ◌≢◌, ◌⊎◌, inl, inr, ℕ, zero, suc, ◌+◌, ◌<◌, ◌≤◌, List, [], ◌∷◌, ◌++◌, length, take, drop, slice_index, refl, sym, ◌∙◌, ap, subst, arith}
use Rattle.std.specs.List.{AllByRecursion}
use Rattle.std.specs.Fmt.{digits}
use Rattle.serde_json.proofs.OnLiterals.{serde_json_on_literals}
use Rattle.host_trait.specs.declared.channels.Channel.{Channel}
use Rattle.host_trait.specs.declared.channels.Channel.TheVariants.{Input, Output, File}
use Rattle.host_trait.specs.declared.channels.FileId.{FileId}
use Rattle.host_trait.specs.declared.channels.FileId.TheVariants.{Manager, Program as ProgramFile, Grain}
use Rattle.host_trait.specs.Disk.{MayLeave, settled}
use Rattle.host_trait.specs.Faults.{FailedOn}
use Rattle.host_trait.specs.World.{Image, IsImage, Moment}
use Rattle.cell_model.specs.Units.{same_grain}
use Rattle.gate_block.specs.Log.{HasBlocks}
use Rattle.silo_spec.specs.Silos.{manager, program_file, IsSilo}
use Rattle.promise_spec.specs.Programs.{shape_in}
use Rattle.promise_spec.specs.Outputs.{reply_lines}
use Rattle.promise_spec.specs.Courses.{lines, seen_at_entry}
use Rattle.promise_spec.specs.Exits.{HasBlock, DifferAt}
use Rattle.promise_spec.specs.Promise.{IsSoundFolder, Keeps, Promises}
use Rattle.promise_laws.specs.Obligations.{Shows}
use Rattle.promise_laws.proofs.ShownPromise.{promised}
use Rattle.promise_examples.specs.Examples.{account_program, account_1, program_bytes, first_commit, grain_bytes, block_bytes, manager_bytes, locked_entry, conflict_entries, AskDeposits, account_log}
use Rattle.promise_examples.specs.DepositRuns.{HasNone, HasDeposit, MayHaveDeposit, IsBetween}
use Rattle.promise_examples.specs.DoubtRuns.{IsDoubtRun, doubt_course, first_told}
use Rattle.promise_examples.specs.HostCalls.{IsHosted}
use Rattle.promise_examples.specs.WrittenRun.{new_manager, new_disk, version_pending, block_pending, gate_pending, sealing_disk, request_line, opened}
use Rattle.promise_examples.specs.WrittenDoubt.{pair_manner, second_line, locked_text, doubt_text, told, doubting, pair_before, one_fault, doubted, doubted_steps}
use Rattle.promise_examples.proofs.NewSilo.{gate_is_silo, has_deposit, other_bytes, gate_only, new_images, sealing_images, settled_stays, grain_stays, seen_possible, new_folder, sound_world, new_shows, line_asks, has_program}
use Rattle.promise_examples.proofs.SealingDisks.{at_new, at_block, at_staged, at_sealing}
use Rattle.promise_examples.proofs.HostSteps.{pulled, ended, wrote_grain, wrote_log, synced_grain, synced_log, unsynced_log, emitted}
use Rattle.promise_examples.proofs.WrittenRun.{version_wrote, block_wrote, gate_wrote}
use Rattle.promise_examples.proofs.DoubtRun.{kept, shown}

-- ---- the lines

pub asks : AskDeposits (lines doubted)
unfolding serde_json_on_literals
asks = record {
  first = record { index = 0; text = request_line; number = refl; there = refl; reads = line_asks request_line 5 refl refl refl };
  second = record { index = 1; text = second_line; number = refl; there = refl; reads = line_asks second_line 4 refl refl refl };
}

locked_line : locked_text ≡ reply_lines (shape_in account_program) (locked_entry ∷ [])
unfolding serde_json_on_literals digits
locked_line = refl

both_lines : locked_text ++ doubt_text ≡ reply_lines (shape_in account_program) conflict_entries
unfolding serde_json_on_literals digits
both_lines = refl

-- ---- the images at the exit

module _ (image : Image) (left : IsImage sealing_disk image) where
  gate : ℕ
  gate = slice_index (image manager) 15

  file_is : image manager ≡ manager_bytes gate
  unfolding gate
  file_is = gate_only block_bytes (image manager) (left manager)

  front : StandsUpTo Two 0 image (account_log []) [] 15 0
  front = account_begins image (subst (IsSilo (IsFormat Two)) (sym file_is) (gate_is_silo block_bytes gate)) (ap (λ (f : List ℕ). slice_index f 13) file_is) (ap (λ (f : List ℕ). slice_index f 14) file_is) (has_program image (settled_only program_bytes (image program_file) (left program_file)))
      (subst (λ (f : List ℕ). HasBlocks [] 15 f) (sym file_is) (record { small = tt; at = refl; within = omega arith; blocks = refl }))

  block : HasBlock 0 15 1 (first_commit ∷ []) image
  block = ap (λ (f : List ℕ). take 81 (drop 16 f)) file_is

differ : (one other : Image) → IsImage sealing_disk one → IsImage sealing_disk other → DifferAt 15 (one manager) (other manager)
differ one other is_one is_other =
    let a : one manager ≡ manager_bytes (gate one is_one) = file_is one is_one in
    let b : other manager ≡ manager_bytes (gate other is_other) = file_is other is_other in
    record {
      long = ap (λ (f : List ℕ). length f) a ∙ sym (ap (λ (f : List ℕ). length f) b);
      same = λ i elsewhere. ap (λ (f : List ℕ). slice_index f i) a ∙ other_bytes block_bytes (gate one is_one) (gate other is_other) i elsewhere ∙ sym (ap (λ (f : List ℕ). slice_index f i) b);
    }

-- the gate may be open
gate_stays : MayLeave gate_pending (manager_bytes 1)
gate_stays = record { no_shorter = omega arith; no_longer = omega arith; same = λ i low untouched. other_bytes block_bytes 1 0 i (not_there i untouched.0) } where
  not_there : (i : ℕ) → (i < 15) ⊎ (15 + 1 ≤ i) → i ≢ 15
  not_there i (inl before) same = omega (arith, same)
  not_there i (inr behind) same = omega (arith, same)

seen_at_exit : Image
seen_at_exit file = (sealing_disk file).seen

exit_possible : (file : FileId) → MayLeave (sealing_disk file) (seen_at_exit file)
unfolding seen_at_exit
exit_possible (ProgramFile zero) = settled_stays program_bytes
exit_possible (ProgramFile (suc slot)) = settled_stays []
exit_possible (Manager zero) = gate_stays
exit_possible (Manager (suc slot)) = settled_stays []
exit_possible (Grain zero g) = grain_stays grain_bytes (same_grain g account_1)
exit_possible (Grain (suc slot) g) = settled_stays []

exit_has : HasDeposit seen_at_exit
unfolding seen_at_exit
exit_has = has_deposit seen_at_exit refl refl refl refl

-- ---- the run

other_counts : (channel : Channel) → channel ≢ File manager → one_fault channel ≡ 0
other_counts Input other = refl
other_counts Output other = refl
other_counts (File (Manager zero)) other = absurd (other refl)
other_counts (File (Manager (suc slot))) other = refl
other_counts (File (ProgramFile slot)) other = refl
other_counts (File (Grain slot grain)) other = refl

-- the output between is the second line's reply
all_output : (Has : Image → Type 0) (moments : List Moment) → AllByRecursion (IsBetween doubted locked_text Has) moments → AllByRecursion (IsBetween doubted (first_told doubted) Has) moments
all_output Has moments all = subst (λ (l : List ℕ). AllByRecursion (IsBetween doubted l Has) moments) locked_line all

pub is_doubt_run : IsDoubtRun doubted opened told doubting
is_doubt_run = record {
  ending = refl;
  pair = (refl, refl, refl);
  windowed = refl;
  good = refl;
  two = refl;
  given = refl;
  asks = asks;
  left = refl;
  read = (new_images new_folder (seen_possible new_manager [])).0;
  past = refl;
  quiet = refl;
  output = both_lines;
  entry = λ image left. (left, new_images image left);
  none = all_output HasNone told (
    at_new doubted refl locked_text (settled []),
    (at_new doubted refl locked_text version_pending, (at_new doubted refl locked_text (settled grain_bytes), (at_block doubted refl locked_text block_bytes (settled grain_bytes), (at_staged doubted refl locked_text block_bytes (settled grain_bytes), tt)))),
  );
  either = all_output MayHaveDeposit doubting (at_sealing doubted refl locked_text, (at_sealing doubted refl locked_text, tt));
  exit = sealing_images;
  front = front;
  block = block;
  differ = differ;
  alone = ((at_new doubted refl [] (settled [])).alone, (at_sealing doubted refl (locked_text ++ doubt_text)).alone);
  apart = ((at_new doubted refl [] (settled [])).apart, (at_sealing doubted refl (locked_text ++ doubt_text)).apart);
  syncs = (let own : opening_syncs (seen_at_entry doubted) ≡ 1 = refl in omega (arith, own));
  some = seen_at_exit;
  possible = exit_possible;
  there = exit_has;
  rose = refl;
  others = other_counts;
}

pub sound_at_entry : IsSoundFolder pair_before
sound_at_entry = sound_world pair_before (λ image left. left) new_shows

pub doubted_keeps : Keeps account_program doubted (doubt_course opened told doubting doubted)
doubted_keeps = kept doubted opened told doubting is_doubt_run

-- it shows what has to be shown
pub doubted_shows : Shows account_program doubted (doubt_course opened told doubting doubted)
doubted_shows = shown doubted opened told doubting is_doubt_run sound_at_entry new_folder (seen_possible new_manager [])

pub doubted_promises : Promises pair_manner doubted
doubted_promises = promised account_program doubted (doubt_course opened told doubting doubted) doubted_shows pair_manner refl refl

-- ---- the host's calls

-- so many of the moments
abbrev past : ℕ → List Moment
past many = opened ∷ take many (told ++ doubting)

pub manager_fails : FailedOn (File manager) (λ channel. 0) one_fault
manager_fails = record { counts = record { others = other_counts; later = omega arith }; rose = omega arith }

pub is_hosted : IsHosted doubted doubted_steps
is_hosted = (
  synced_log [] (settled new_manager) (settled []) 0 [] pair_before.input,
  (
    pulled [] new_disk 1 (past 0) (λ channel. 0) pair_before.input (λ none. cc none),
    (
      ended [] new_disk 1 (past 0) (λ channel. 0) pair_before.input,
      (
        emitted [] locked_text new_disk 1 (past 0) (λ channel. 0) refl,
        (
          wrote_grain locked_text (settled new_manager) (settled []) 1 (past 1) version_pending 0 grain_bytes (omega arith) version_wrote,
          (
            synced_grain locked_text (settled new_manager) version_pending 1 (past 2),
            (
              wrote_log locked_text (settled new_manager) (settled grain_bytes) 2 (past 3) block_pending 16 block_bytes (omega arith) block_wrote,
              (
                synced_log locked_text block_pending (settled grain_bytes) 2 (past 4) [],
                (
                  wrote_log locked_text (settled (manager_bytes 0)) (settled grain_bytes) 3 (past 5) gate_pending 15 (1 ∷ []) (omega arith) gate_wrote,
                  (unsynced_log locked_text gate_pending (settled grain_bytes) 3 (past 6) one_fault manager_fails, (emitted locked_text doubt_text sealing_disk 4 (past 7) one_fault refl, refl)),
                ),
              ),
            ),
          ),
        ),
      ),
    ),
  ),
)
