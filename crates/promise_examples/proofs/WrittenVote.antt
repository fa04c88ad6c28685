-- The run that is written out, of a deposit whose version can't be written, meets all that is asked of such a run.
use Rattle.std.proofs.Common.{◌≡◌, ◌≢◌, inl, ℕ, zero, suc, ◌+◌, drop, Bool, true, false, if◌then◌else◌, List, [], ◌∷◌, ◌++◌, refl, ap, subst, arith}
use Rattle.std.specs.List.{AllByRecursion}
use Rattle.std.specs.Fmt.{digits}
use Rattle.serde_json.proofs.OnLiterals.{serde_json_on_literals}
use Rattle.base_types.specs.declared.calls.GrainId.{GrainId}
use Rattle.host_trait.specs.declared.channels.Channel.{Channel}
use Rattle.host_trait.specs.declared.channels.Channel.TheVariants.{Input, Output, File}
use Rattle.host_trait.specs.declared.channels.FileId.{FileId}
use Rattle.host_trait.specs.declared.channels.FileId.TheVariants.{Manager, Program as ProgramFile, Grain}
use Rattle.host_trait.specs.Disk.{MayLeave, Wrote, settled}
use Rattle.host_trait.proofs.Crashes.{settled_only}
use Rattle.gate_block.specs.Log.{gate_of}
use Rattle.silo_spec.specs.Silos.{manager}
use Rattle.host_trait.specs.Faults.{FailedOn}
use Rattle.host_trait.specs.World.{Image}
use Rattle.cell_model.specs.Units.{same_grain}
use Rattle.silo_spec.specs.OpenedDisks.{opening_syncs}
use Rattle.promise_spec.specs.Programs.{shape_in}
use Rattle.promise_spec.specs.Outputs.{reply_lines}
use Rattle.promise_spec.specs.Courses.{lines, seen_at_entry}
use Rattle.promise_spec.specs.Promise.{IsSoundFolder, Keeps, Promises}
use Rattle.promise_laws.specs.Obligations.{Shows}
use Rattle.promise_laws.proofs.ShownPromise.{promised}
use Rattle.promise_examples.specs.Examples.{account_program, account_1, program_bytes, voted_entry, vote_entries, AskBoth}
use Rattle.promise_examples.specs.DepositRuns.{HasNone, IsBetween}
use Rattle.promise_examples.specs.VoteRuns.{IsVoteRun, vote_course}
use Rattle.promise_examples.specs.HostCalls.{IsHosted}
use Rattle.promise_examples.specs.WrittenRun.{new_manager, new_disk, request_line, opened}
use Rattle.promise_examples.specs.WrittenVote.{reading_manner, read_line, voted_text, dependent_text, version_cut, cut_disk, failing, vote_told, reading_before, grain_fault, voted, voted_steps}
use Rattle.promise_examples.proofs.NewSilo.{empty_images, new_images, settled_stays, seen_possible, new_folder, sound_world, new_shows, line_asks, read_asks}
use Rattle.promise_examples.proofs.SealingDisks.{at_new}
use Rattle.promise_examples.proofs.HostSteps.{account_same, pulled, ended, cut_grain, synced_log, emitted}
use Rattle.promise_examples.proofs.VoteRun.{kept, shown}

asks : AskBoth (lines voted)
unfolding serde_json_on_literals
asks = record {
  first = record { index = 0; text = request_line; number = refl; there = refl; reads = line_asks request_line 5 refl refl refl };
  second = record { index = 1; text = read_line; number = refl; there = refl; reads = read_asks read_line refl refl };
}

first_line : voted_text ≡ reply_lines (shape_in account_program) (voted_entry ∷ [])
unfolding serde_json_on_literals digits
first_line = refl

both_lines : voted_text ++ dependent_text ≡ reply_lines (shape_in account_program) vote_entries
unfolding serde_json_on_literals digits
both_lines = refl

-- ---- the counts

abbrev fault_if : Bool → ℕ
fault_if b = if b then 1 else 0

by_name : (g : GrainId) (b : Bool) → same_grain account_1 g ≡ b → File (Grain 0 g) ≢ File (Grain 0 account_1) → fault_if b ≡ 0
by_name g true same other = absurd (other (ap (λ (h : GrainId). File (Grain 0 h)) (account_same g same)))
by_name g false same other = refl

other_counts : (channel : Channel) → channel ≢ File (Grain 0 account_1) → grain_fault channel ≡ 0
other_counts Input other = refl
other_counts Output other = refl
other_counts (File (Manager slot)) other = refl
other_counts (File (ProgramFile slot)) other = refl
other_counts (File (Grain zero g)) other = by_name g (same_grain account_1 g) refl other
other_counts (File (Grain (suc slot) g)) other = refl

-- ---- the run

-- what a read gives may be left
cut_stays : (b : Bool) → MayLeave (if b then version_cut else settled []) (if b then version_cut else settled []).seen
cut_stays true = record { no_shorter = omega arith; no_longer = omega arith; same = λ i low untouched. absurd (omega arith) }
cut_stays false = settled_stays []

seen_at_exit : Image
seen_at_exit file = (cut_disk file).seen

exit_possible : (file : FileId) → MayLeave (cut_disk file) (seen_at_exit file)
unfolding seen_at_exit
exit_possible (ProgramFile zero) = settled_stays program_bytes
exit_possible (ProgramFile (suc slot)) = settled_stays []
exit_possible (Manager zero) = settled_stays new_manager
exit_possible (Manager (suc slot)) = settled_stays []
exit_possible (Grain zero g) = cut_stays (same_grain g account_1)
exit_possible (Grain (suc slot) g) = settled_stays []

pub is_vote_run : IsVoteRun voted opened failing vote_told
is_vote_run = record {
  ending = refl;
  pair = (refl, refl, refl);
  windowed = refl;
  good = refl;
  two = refl;
  given = refl;
  asks = asks;
  left = refl;
  read = (new_images new_folder (seen_possible new_manager [])).0;
  past = refl;
  quiet = refl;
  output = both_lines;
  entry = λ image left. (left, new_images image left);
  unsaid = (at_new voted refl [] version_cut, tt);
  first = subst (λ (l : List ℕ). AllByRecursion (IsBetween voted l HasNone) vote_told) first_line (at_new voted refl voted_text version_cut, tt);
  exit = λ image left. empty_images image version_cut left;
  behind = λ image left. ap (λ (f : List ℕ). drop (gate_of (image manager) + 1) f) (settled_only new_manager (image manager) (left manager));
  alone = ((at_new voted refl [] (settled [])).alone, (at_new voted refl (voted_text ++ dependent_text) version_cut).alone);
  apart = ((at_new voted refl [] (settled [])).apart, (at_new voted refl (voted_text ++ dependent_text) version_cut).apart);
  syncs = (let own : opening_syncs (seen_at_entry voted) ≡ 1 = refl in omega (arith, own));
  some = seen_at_exit;
  possible = exit_possible;
  rose = refl;
  others = other_counts;
}

pub sound_at_entry : IsSoundFolder reading_before
sound_at_entry = sound_world reading_before (λ image left. left) new_shows

pub voted_keeps : Keeps account_program voted (vote_course opened failing vote_told voted)
voted_keeps = kept voted opened failing vote_told is_vote_run

-- it shows what has to be shown
pub voted_shows : Shows account_program voted (vote_course opened failing vote_told voted)
voted_shows = shown voted opened failing vote_told is_vote_run sound_at_entry new_folder (seen_possible new_manager [])

pub voted_promises : Promises reading_manner voted
voted_promises = promised account_program voted (vote_course opened failing vote_told voted) voted_shows reading_manner refl refl

-- ---- the host's calls

-- the version is cut after seven bytes, and its range is pending
version_torn : Wrote 0 19 (settled []) version_cut
version_torn = record {
  pends = inl (record { base = refl; ranges = refl; longest = refl });
  seen = record { before = refl; after = refl; no_shorter = omega arith; no_longer = omega arith };
}

pub grain_fails : FailedOn (File (Grain 0 account_1)) (λ channel. 0) grain_fault
grain_fails = record { counts = record { others = other_counts; later = omega arith }; rose = omega arith }

pub is_hosted : IsHosted voted voted_steps
is_hosted = (
  synced_log [] (settled new_manager) (settled []) 0 [] reading_before.input,
  (
    pulled [] new_disk 1 (opened ∷ []) (λ channel. 0) reading_before.input (λ none. cc none),
    (
      ended [] new_disk 1 (opened ∷ []) (λ channel. 0) reading_before.input,
      (
        cut_grain [] (settled new_manager) (settled []) 1 (opened ∷ []) version_cut 0 19 grain_fault (omega arith) version_torn grain_fails,
        (
          emitted [] voted_text cut_disk 1 (opened ∷ failing) grain_fault refl,
          (emitted voted_text dependent_text cut_disk 1 (opened ∷ (failing ++ vote_told)) grain_fault refl, refl),
        ),
      ),
    ),
  ),
)
