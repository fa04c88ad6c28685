-- Batches of records in a silo of accounts are its log.
use Rattle.std.proofs.Common.{◌≡◌, ℕ, List, [], length, slice_index, refl, ap, arith}
use Rattle.field_codec.specs.declared.formats.Format.TheVariants.{Two}
use Rattle.gate_block.specs.Log.{HasBlocks}
use Rattle.host_trait.specs.World.{Image}
use Rattle.host_trait.specs.declared.channels.FileId.TheVariants.{Manager}
use Rattle.silo_spec.specs.Silos.{manager, program_file, IsSilo, HasProgram}
use Rattle.silo_spec.proofs.Magics.{silo_of_format}
use Rattle.promise_spec.specs.Programs.{shape_in}
use Rattle.promise_spec.specs.Records.{Commit}
use Rattle.promise_spec.specs.Blocks.{Fresh}
use Rattle.promise_spec.specs.Logs.{IsFormat, IsMagic, IsLog, StandsUpTo}
use Rattle.promise_spec.proofs.Slots.{only_live}
use Rattle.promise_spec.proofs.Batched.{IsBatched, logged_in}
use Rattle.promise_examples.specs.Examples.{account_text, account_program, account_log}
use Rattle.promise_examples.proofs.AccountText.{account_is_checked}

-- a file of no bytes is no silo's
pub no_bytes : (file : List ℕ) → file ≡ [] → IsSilo IsMagic file → ⊥
no_bytes file none silo = omega (arith, silo.long, ap length none)

-- where no block stands, the empty log stands up to the first gate
pub account_begins : (image : Image) → IsSilo (IsFormat Two) (image manager) → slice_index (image manager) 13 ≡ 0 → slice_index (image manager) 14 ≡ 0 → HasProgram account_text (image program_file) → HasBlocks [] 15 (image manager) → StandsUpTo Two 0 image (account_log []) [] 15 0
account_begins image silo kind zero text none = record {
  silo = silo;
  program = account_program;
  checked = account_is_checked;
  text = text;
  begins = Fresh;
  kind = kind;
  zero = zero;
  base = refl;
  whole = tt;
  blocks = [];
  fit = tt;
  never_fall = refl;
  spelled = refl;
  stand = none;
  entries = refl;
  kept = tt;
}

-- and all blocks up to a closed gate are the log, where slot 1 has no manager file
pub account_logged : (image : Image) (commits : List Commit) → image (Manager 1) ≡ [] → IsSilo (IsFormat Two) (image manager) → HasProgram account_text (image program_file) → IsBatched Two 1 0 (shape_in account_program) image commits → IsLog 0 image (account_log commits)
account_logged image commits alone silo text b = record {
  is_live = only_live 0 image (omega arith) (silo_of_format Two (image manager) silo) (no_bytes (image (Manager 1)) alone);
  is = logged_in Two 1 0 image account_program commits silo account_is_checked text b;
}
