-- The bytes of a silo in which a transfer between two accounts was logged.
use Rattle.std.proofs.Common.{◌≡◌, ℕ, List, [], ◌∷◌, map, pos, None, refl, sym, ◌∙◌, ap, arith, lit<}
use Rattle.std.specs.Prelude.{FitsSigned}
use Rattle.std.specs.Int.{w64}
use Rattle.std.proofs.lemmas.Int.{fits_signed_from_abs}
use Rattle.base_types.specs.declared.calls.GrainId.{GrainId}
use Rattle.base_types.specs.declared.calls.Value.{Value}
use Rattle.base_types.specs.declared.calls.Value.TheVariants.{Int}
use Rattle.field_codec.specs.Spelling.{spelling_of_version}
use Rattle.script_meaning.specs.Play.{unit, play_over}
use Rattle.script_meaning.specs.WorkedExamples.{bank, at, int}
use Rattle.gate_block.specs.Log.{LogsUpTo}
use Rattle.log_reading.specs.Blocks.{header_damage}
use Rattle.promise_spec.proofs.Slots.{only_live}
use Rattle.promise_examples.proofs.AccountLogs.{no_bytes}
use Rattle.silo_spec.specs.Silos.{manager}
use Rattle.silo_spec.specs.Slots.{IsLive}
use Rattle.promise_spec.specs.Programs.{shape_in}
use Rattle.field_codec.specs.declared.formats.Format.TheVariants.{Two}
use Rattle.silo_spec.proofs.Magics.{silo_of_format}
use Rattle.promise_spec.specs.Logs.{IsMagic}
use Rattle.promise_spec.specs.Records.{written}
use Rattle.promise_spec.specs.SerialExecution.{IsSerial}
use Rattle.promise_spec.specs.Blocks.{Records, body_of, AreKept}
use Rattle.promise_examples.specs.Transfers.{bank_program, paid_in, moved, balance, version_of_source, version_of_target, transfer_body, bank_manager, bank_folder, bank_log}
use Rattle.promise_spec.specs.Entries.{new_silo, standing_of}
use Rattle.promise_spec.specs.Versions.{IsKept}

pub source_spelled : spelling_of_version (balance 2 70) ≡ version_of_source
source_spelled = refl

pub target_spelled : spelling_of_version (balance 2 30) ≡ version_of_target
target_spelled = refl

pub body_spelled : body_of Two (Records 1 (moved 70 30 ∷ [])) ≡ transfer_body
body_spelled = refl

hundred : FitsSigned w64 (pos 100)
hundred = fits_signed_from_abs w64 (pos 100) (lit< tt)

seventy : FitsSigned w64 (pos 70)
seventy = fits_signed_from_abs w64 (pos 70) (lit< tt)

thirty : FitsSigned w64 (pos 30)
thirty = fits_signed_from_abs w64 (pos 30) (lit< tt)

one : FitsSigned w64 (pos 1)
one = fits_signed_from_abs w64 (pos 1) (lit< tt)

two : FitsSigned w64 (pos 2)
two = fits_signed_from_abs w64 (pos 2) (lit< tt)

-- the deposit is kept
deposit_kept : IsKept Two 0 (shape_in bank_program) bank_folder paid_in
deposit_kept = record {
  fits = record {
    units = record { unit = refl; parent = tt };
    fits = record {
      unit = lit< tt;
      origin = lit< tt;
      call = record { kind = lit< tt; key = lit< tt; method = lit< tt; args = (omega arith, (hundred, tt)) };
      answers = (omega arith, tt);
      result = hundred;
      writes = (omega arith, ((record { kind = lit< tt; key = lit< tt; offset = lit< tt; len = lit< tt }, tt), (refl, tt)));
    };
    call = (omega arith, refl);
    writes = (omega arith, tt);
  };
  whole = (
    record { near = lit< tt; fields = refl; version = record { version_is = record { fits = record { unit = lit< tt; state = (omega arith, (hundred, tt)) }; count = refl; len = refl }; here = refl } },
    tt,
  );
}

-- and so is the transfer, with both versions at their places
transfer_kept : IsKept Two 0 (shape_in bank_program) bank_folder (moved 70 30)
transfer_kept = record {
  fits = record {
    units = record { unit = refl; parent = tt };
    fits = record {
      unit = lit< tt;
      origin = lit< tt;
      call = record { kind = lit< tt; key = lit< tt; method = lit< tt; args = (omega arith, (one, (two, (thirty, tt)))) };
      answers = (omega arith, tt);
      result = thirty;
      writes = (omega arith, ((record { kind = lit< tt; key = lit< tt; offset = lit< tt; len = lit< tt }, (record { kind = lit< tt; key = lit< tt; offset = lit< tt; len = lit< tt }, tt)), (refl, (refl, tt))));
    };
    call = (omega arith, refl);
    writes = (omega arith, (omega arith, tt));
  };
  whole = (
    record { near = lit< tt; fields = refl; version = record { version_is = record { fits = record { unit = lit< tt; state = (omega arith, (seventy, tt)) }; count = refl; len = refl }; here = refl } },
    (
      record { near = lit< tt; fields = refl; version = record { version_is = record { fits = record { unit = lit< tt; state = (omega arith, (thirty, tt)) }; count = refl; len = refl }; here = refl } },
      tt,
    ),
  );
}

-- the folder's manager file is a silo's, with the blocks of both records, of which each is kept
pub live : IsLive IsMagic 0 bank_folder
live = only_live 0 bank_folder (omega arith) (silo_of_format Two bank_manager (record { long = omega arith; gate = refl; named = refl })) (no_bytes [] refl)

pub header : header_damage (bank_folder manager) ≡ None
header = refl

pub stand : LogsUpTo (map (body_of Two) (Records 1 (paid_in ∷ []) ∷ Records 1 (moved 70 30 ∷ []) ∷ [])) 213 (bank_folder manager)
stand = record { blocks = record { small = (lit< tt, (lit< tt, tt)); at = refl; within = omega arith; blocks = refl }; closed = λ e. cc e }

pub kept : AreKept Two 0 bank_folder bank_program (bank_log (paid_in ∷ moved 70 30 ∷ [])).entries
kept = (deposit_kept, (transfer_kept, tt))

-- it stands for both new balances
pub source_stands : (standing_of (bank_log (paid_in ∷ moved 70 30 ∷ []))).states (at 0 1) ≡ int 70 ∷ []
source_stands = refl

pub target_stands : (standing_of (bank_log (paid_in ∷ moved 70 30 ∷ []))).states (at 0 2) ≡ int 30 ∷ []
target_stands = refl

-- it is serial
pub serial : IsSerial bank (new_silo bank_program).states (paid_in ∷ moved 70 30 ∷ [])
unfolding unit play_over
serial = (record { result = refl; asked = refl; writes = refl }, (record { result = refl; asked = refl; writes = refl }, tt))

abbrev amount : List Value → ℕ
amount (Int (pos n) ∷ values) = n
amount _ = 0

abbrev second_amount : List (GrainId × List Value) → ℕ
second_amount (first ∷ second ∷ found) = amount second.1
second_amount _ = 0

-- and not where the transfer leaves account 2 another balance, or stands first
pub not_serial : IsSerial bank (new_silo bank_program).states (paid_in ∷ moved 70 31 ∷ []) → ⊥
not_serial s =
    let same : written (moved 70 30) ≡ written (moved 70 31) = sym serial.1.0.writes ∙ s.1.0.writes in
    let left : 30 ≡ 31 = ap second_amount same in
    omega (arith, left)

pub not_first : IsSerial bank (new_silo bank_program).states (moved 70 30 ∷ paid_in ∷ []) → ⊥
unfolding unit play_over
not_first s = cc s.0.result
