-- The run of one deposit that is written out meets all that is asked of such a run.
use Rattle.std.proofs.Common.{◌≡◌, ℕ, List, [], ◌∷◌, ◌++◌, map, take, refl, sym, ap, arith}
use Rattle.serde_json.proofs.OnLiterals.{serde_json_on_literals}
use Rattle.host_trait.specs.Disk.{Overwrote, settled}
use Rattle.host_trait.specs.World.{Moment}
use Rattle.host_trait.proofs.Crashes.{settled_only}
use Rattle.silo_spec.specs.Silos.{manager}
use Rattle.field_codec.specs.declared.formats.Format.TheVariants.{Two}
use Rattle.promise_spec.specs.Blocks.{Records, body_of}
use Rattle.promise_spec.specs.Logs.{}
use Rattle.promise_spec.specs.Programs.{shape_in}
use Rattle.promise_spec.specs.Words.{plain_manner}
use Rattle.promise_spec.specs.Lines.{IsLineCall}
use Rattle.promise_spec.specs.Outputs.{reply_lines}
use Rattle.promise_spec.specs.Courses.{lines}
use Rattle.promise_spec.specs.Promise.{IsSoundFolder, Keeps, Promises}
use Rattle.promise_laws.specs.Obligations.{Shows}
use Rattle.promise_laws.proofs.ShownPromise.{promised}
use Rattle.promise_examples.specs.Examples.{accounts, account_program, deposit_call, first_commit, first_entry, grain_bytes, block_bytes, manager_bytes}
use Rattle.promise_examples.specs.DepositRuns.{IsDepositRun, deposit_course}
use Rattle.promise_examples.specs.HostCalls.{IsHosted}
use Rattle.promise_examples.specs.WrittenRun.{new_manager, new_disk, version_pending, block_pending, gate_pending, version_disk, voted_disk, block_disk, staged_disk, sealed_disk, request_line, reply_text, moment, opened, sealing, world_before, written_run, written_steps}
use Rattle.promise_examples.proofs.FirstDeposit.{reply, ends_last}
use Rattle.promise_examples.proofs.NewSilo.{new_images, ends_there, sealed_images, seen_possible, new_folder, sound_world, new_shows, line_asks}
use Rattle.promise_examples.proofs.SealingDisks.{at_new, at_block, at_staged, at_sealing, at_sealed, if_none, if_has}
use Rattle.promise_examples.proofs.HostSteps.{pulled, ended, wrote_grain, wrote_log, synced_grain, synced_log, emitted}
use Rattle.promise_examples.proofs.DepositRun.{kept, shown}

pub asks : IsLineCall accounts (lines written_run) 1 deposit_call
unfolding serde_json_on_literals
asks = record { index = 0; text = request_line; number = refl; there = refl; reads = line_asks request_line 5 refl refl refl }

replies_are : reply_text ≡ reply_lines (shape_in account_program) (first_entry ∷ [])
replies_are = ap (λ (l : List ℕ). l ++ []) (sym reply)

pub is_deposit_run : IsDepositRun written_run opened sealing
is_deposit_run = record {
  ending = refl;
  single = (refl, refl, refl);
  windowed = refl;
  good = refl;
  one = refl;
  given = refl;
  asks = asks;
  left = refl;
  read = (new_images new_folder (seen_possible new_manager [])).0;
  past = refl;
  quiet = refl;
  syncs = refl;
  output = replies_are;
  entry = λ image left. (left, new_images image left);
  sealed = (
    if_none written_run [] (moment [] version_disk) (at_new written_run refl [] version_pending),
    (
      if_none written_run [] (moment [] voted_disk) (at_new written_run refl [] (settled grain_bytes)),
      (
        if_none written_run [] (moment [] block_disk) (at_block written_run refl [] block_bytes (settled grain_bytes)),
        (if_none written_run [] (moment [] staged_disk) (at_staged written_run refl [] block_bytes (settled grain_bytes)), (at_sealing written_run refl [], (if_has written_run [] (moment [] sealed_disk) (at_sealed written_run refl []), tt))),
      ),
    ),
  );
  logged = sealed_images;
  behind = λ image left. ends_there (map (body_of Two) (Records 1 (first_commit ∷ []) ∷ [])) 96 (image manager) (manager_bytes 1) new_manager (settled_only (manager_bytes 1) (image manager) (left manager)) ends_last refl (omega arith);
  alone = ((at_new written_run refl [] (settled [])).alone, (at_sealed written_run refl reply_text).alone);
  apart = ((at_new written_run refl [] (settled [])).apart, (at_sealed written_run refl reply_text).apart);
  some = λ file. (sealed_disk file).seen;
  possible = seen_possible (manager_bytes 1) grain_bytes;
  faults = λ channel. refl;
}

pub sound_at_entry : IsSoundFolder world_before
sound_at_entry = sound_world world_before (λ image left. left) new_shows

pub written_keeps : Keeps account_program written_run (deposit_course opened sealing written_run)
written_keeps = kept written_run opened sealing is_deposit_run

-- it shows what has to be shown
pub written_shows : Shows account_program written_run (deposit_course opened sealing written_run)
written_shows = shown written_run opened sealing is_deposit_run sound_at_entry new_folder (seen_possible new_manager [])

pub written_promises : Promises plain_manner written_run
written_promises = promised account_program written_run (deposit_course opened sealing written_run) written_shows plain_manner refl refl

-- ---- the host's calls

pub version_wrote : Overwrote 0 grain_bytes (settled []) version_pending
version_wrote = record { pends = record { base = refl; ranges = refl; longest = refl }; seen = refl }

pub block_wrote : Overwrote 16 block_bytes (settled new_manager) block_pending
block_wrote = record { pends = record { base = refl; ranges = refl; longest = refl }; seen = refl }

pub gate_wrote : Overwrote 15 (1 ∷ []) (settled (manager_bytes 0)) gate_pending
gate_wrote = record { pends = record { base = refl; ranges = refl; longest = refl }; seen = refl }

-- so many of the moments
abbrev past : ℕ → List Moment
past many = opened ∷ take many sealing

pub is_hosted : IsHosted written_run written_steps
is_hosted = (
  synced_log [] (settled new_manager) (settled []) 0 [] world_before.input,
  (
    pulled [] new_disk 1 (past 0) (λ channel. 0) world_before.input (λ none. cc none),
    (
      ended [] new_disk 1 (past 0) (λ channel. 0) world_before.input,
      (
        wrote_grain [] (settled new_manager) (settled []) 1 (past 0) version_pending 0 grain_bytes (omega arith) version_wrote,
        (
          synced_grain [] (settled new_manager) version_pending 1 (past 1),
          (
            wrote_log [] (settled new_manager) (settled grain_bytes) 2 (past 2) block_pending 16 block_bytes (omega arith) block_wrote,
            (
              synced_log [] block_pending (settled grain_bytes) 2 (past 3) [],
              (
                wrote_log [] (settled (manager_bytes 0)) (settled grain_bytes) 3 (past 4) gate_pending 15 (1 ∷ []) (omega arith) gate_wrote,
                (synced_log [] gate_pending (settled grain_bytes) 3 (past 5) [], (emitted [] reply_text sealed_disk 4 (past 6) (λ channel. 0) refl, refl)),
              ),
            ),
          ),
        ),
      ),
    ),
  ),
)
