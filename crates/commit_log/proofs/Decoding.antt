-- Answers that hold for each value.
use Rattle.std.proofs.Common.{◌≡◌, Result, Ok, Err, IfOk, refl}
use Rattle.field_codec.specs.declared.faults.CodecFault.{CodecFault}

-- what holds of each value that was answered holds of the answer
pub if_ok : {A : Type 0} (P : A → Type 0) (result : Result A CodecFault) → ((a : A) → result ≡ Ok a → P a) → IfOk result P
if_ok P (Ok a) each = each a refl
if_ok P (Err fault) each = tt
