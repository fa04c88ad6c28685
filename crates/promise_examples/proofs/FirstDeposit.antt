-- The bytes of a silo in which one deposit of 5 was logged, and serial lists of deposits.
use Rattle.std.proofs.Common.{◌≡◌, ℕ, List, [], ◌∷◌, length, map, take, pos, None, refl, ap, ◌∙◌, arith, lit<}
use Rattle.std.specs.Prelude.{codes, FitsSigned}
use Rattle.std.specs.Int.{w64}
use Rattle.std.specs.Fmt.{digits}
use Rattle.std.proofs.lemmas.Int.{fits_signed_from_abs}
use Rattle.serde_json.proofs.OnLiterals.{serde_json_on_literals}
use Rattle.base_types.specs.declared.calls.Value.TheVariants.{Int}
use Rattle.field_codec.specs.declared.formats.Format.TheVariants.{Two}
use Rattle.field_codec.specs.Spelling.{spelling_of_version}
use Rattle.request_wire.specs.Reply.{reply_line}
use Rattle.script_meaning.specs.Play.{unit, play_over}
use Rattle.promise_spec.specs.Programs.{shape_in}
use Rattle.promise_spec.specs.SerialExecution.{IsSerial}
use Rattle.promise_spec.specs.Blocks.{Records, body_of}
use Rattle.promise_spec.specs.Logs.{IsLog}
use Rattle.base_types.specs.declared.calls.Value.{Value}
use Rattle.gate_block.specs.Log.{gate_of, LogsUpTo}
use Rattle.gate_block.proofs.Logs as blocks
use Rattle.gate_block.specs.Blocks.{block_of, found_at, shut}
use Rattle.promise_spec.specs.Reports.{show_text, history_text, audit_text}
use Rattle.field_codec.specs.Examples.{first_version}
use Rattle.promise_examples.specs.Examples.{account_log, accounts, account_program, account_1, deposit, first_commit, next_commit, grain_bytes, block_bytes, manager_bytes, folder, torn_folder, first_entry}
use Rattle.promise_examples.proofs.AccountLogs.{account_logged}
use Rattle.promise_spec.proofs.Batched.{IsBatched}
use Rattle.promise_spec.specs.Entries.{new_silo, Log, standing_of}
use Rattle.promise_spec.specs.Versions.{IsKept}

pub version_spelled : spelling_of_version first_version ≡ grain_bytes
version_spelled = refl

pub block_spelled : block_of (body_of Two (Records 1 (first_commit ∷ []))) ≡ block_bytes
block_spelled = refl

pub manager_size : length (manager_bytes 1) ≡ 97
manager_size = refl

pub five : FitsSigned w64 (pos 5)
five = fits_signed_from_abs w64 (pos 5) (lit< tt)

-- the image's log is that one record
pub logged_batch : IsBatched Two 1 0 (shape_in account_program) (folder 1 grain_bytes) (first_commit ∷ [])
logged_batch = record {
  kind = refl;
  zero = refl;
  batches = (first_commit ∷ []) ∷ [];
  gate = 96;
  blocks = record { blocks = record { small = (omega arith, tt); at = refl; within = omega arith; blocks = refl }; closed = λ e. cc e };
  may = lit< tt;
  sizes = (omega arith, tt);
  are = refl;
  kept = (
    record {
      fits = record {
        units = record { unit = refl; parent = tt };
        fits = record {
          unit = lit< tt;
          origin = lit< tt;
          call = record { kind = lit< tt; key = lit< tt; method = lit< tt; args = (omega arith, (five, tt)) };
          answers = (omega arith, tt);
          result = five;
          writes = (omega arith, ((record { kind = lit< tt; key = lit< tt; offset = lit< tt; len = lit< tt }, tt), (refl, tt)));
        };
        call = (omega arith, refl);
        writes = (omega arith, tt);
      };
      whole = (
        record { near = lit< tt; fields = refl; version = record { version_is = record { fits = record { unit = lit< tt; state = (omega arith, (five, tt)) }; count = refl; len = refl }; here = refl } },
        tt,
      );
    },
    tt,
  );
}

pub logged : IsLog 0 (folder 1 grain_bytes) (account_log (first_commit ∷ []))
logged = account_logged (folder 1 grain_bytes) (first_commit ∷ []) refl (record { long = omega arith; gate = refl; named = refl }) refl logged_batch

-- it ends at the file's last byte
pub ends_last : LogsUpTo (map (body_of Two) (Records 1 (first_commit ∷ []) ∷ [])) 96 (manager_bytes 1)
ends_last = record { blocks = record { small = (omega arith, tt); at = refl; within = omega arith; blocks = refl }; closed = λ e. cc e }

-- where the block's gate is closed, the log is empty
closed_batch : IsBatched Two 1 0 (shape_in account_program) (folder 0 grain_bytes) []
closed_batch = record {
  kind = refl;
  zero = refl;
  batches = [];
  gate = 15;
  blocks = record { blocks = record { small = tt; at = refl; within = omega arith; blocks = refl }; closed = λ e. cc e };
  may = lit< tt;
  sizes = tt;
  are = refl;
  kept = tt;
}

pub closed_gate : IsLog 0 (folder 0 grain_bytes) (account_log [])
closed_gate = account_logged (folder 0 grain_bytes) [] refl (record { long = omega arith; gate = refl; named = refl }) refl closed_batch

-- the deposit stands in the store
pub stands : (standing_of (account_log (first_commit ∷ []))).states account_1 ≡ Int (pos 5) ∷ []
stands = refl

-- its reply
pub reply : reply_line (shape_in account_program) first_entry ≡ codes "{\"n\":1,\"reply\":5,\"unit\":1}\n"
unfolding serde_json_on_literals digits
reply = refl

-- two deposits are serial
pub two_serial : IsSerial accounts (new_silo account_program).states (first_commit ∷ next_commit 4 9 ∷ [])
unfolding unit play_over
two_serial = (record { result = refl; asked = refl; writes = refl }, (record { result = refl; asked = refl; writes = refl }, tt))

-- and not where the second doesn't see the first
pub not_serial : IsSerial accounts (new_silo account_program).states (first_commit ∷ next_commit 4 4 ∷ []) → ⊥
unfolding unit play_over
not_serial s = cc s.1.0.result

-- where the block is cut the folder has no log
pub torn : (log : Log) → IsLog 0 (torn_folder 80) log → ⊥
torn log is =
    let whole : found_at (gate_of (take 80 (manager_bytes 1))) (take 80 (manager_bytes 1)) ≡ shut = (blocks.logged is.is.bodies is.is.gate (take 80 (manager_bytes 1)) (record { blocks = is.is.stands.stand; closed = is.is.closed })).2 in
    absurd (cc whole)

-- where the grain's file is cut within the version, the record isn't kept, whatever its states
pub cut : (states : List (List Value)) → IsKept Two 0 (shape_in account_program) (folder 1 (take 10 grain_bytes)) (record { logged = deposit; states = states }) → ⊥
cut [] kept = kept.whole
cut (state ∷ states) kept =
    let v = kept.whole.0.version in
    let size : 10 ≡ 19 = ap (λ (l : List ℕ). length l) v.here ∙ v.version_is.len in
    omega (arith, size)

pub shown : show_text (account_1 ∷ []) (account_log (first_commit ∷ [])) ≡ codes "{\"fields\":{\"balance\":5},\"grain\":\"account/1\"}\n{\"count\":1}\n"
unfolding serde_json_on_literals digits
shown = refl

pub told : history_text (1 ∷ []) (account_log (first_commit ∷ [])) ≡ codes "{\"args\":[5],\"call\":\"account/1.deposit\",\"n\":1,\"reply\":5,\"session\":1,\"unit\":1}\n"
unfolding serde_json_on_literals digits
told = refl

pub audited : audit_text (account_log (first_commit ∷ [])) None ≡ codes "{\"count\":1,\"first_bad\":null}\n"
unfolding serde_json_on_literals digits
audited = refl
