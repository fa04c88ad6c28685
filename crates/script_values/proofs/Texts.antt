-- The texts of faults are short.
use Rattle.std.proofs.Common.{◌≡◌, refl}
use Rattle.std.specs.Prelude.{Some}
use Rattle.base_types.specs.Texts.{short_text}
use Rattle.script_values.specs.declared.reasons.Reason.{Reason}
use Rattle.script_values.specs.declared.reasons.Reason.TheVariants.{Overflow, Divide, Kind, Key, Length, Budget, Depth, Units, Grains, NoTransaction, NotAllowed, Aborted, Unknown}
use Rattle.script_values.specs.Reasons.{reason_text}

-- a fault's text has at most 4,096 bytes
pub reason_is_short : (reason : Reason) → short_text (reason_text reason) ≡ Some (reason_text reason)
reason_is_short Overflow = refl
reason_is_short Divide = refl
reason_is_short Kind = refl
reason_is_short Key = refl
reason_is_short Length = refl
reason_is_short Budget = refl
reason_is_short Depth = refl
reason_is_short Units = refl
reason_is_short Grains = refl
reason_is_short NoTransaction = refl
reason_is_short NotAllowed = refl
reason_is_short Aborted = refl
reason_is_short Unknown = refl
