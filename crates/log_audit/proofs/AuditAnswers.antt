-- What an audit found, in the words of the promise.
use Rattle.std.proofs.Common.{Option, Some, None, ap}
use Rattle.base_types.specs.declared.calls.UnitNo.{UnitNo}
use Rattle.promise_spec.specs.Entries.{Log}
use Rattle.promise_spec.specs.Commands.{IsFirstBad}
use Rattle.log_audit.specs.declared.replay.Bad.{Bad}
use Rattle.log_audit.specs.Replays.{IsFirstFailure}
use Rattle.log_audit.specs.AuditAnswers.{bad_unit}

-- the first record that fails is the first bad one of the log
pub first_is : (log : Log) (found : Option Bad) → IsFirstFailure log.base log.entries found → IsFirstBad log (bad_unit found)
first_is log None serial = serial
first_is log (Some bad) f = (f.front, f.here, f.back, f.are, ap (λ (u : UnitNo). u.0) f.fails.unit, f.serial, f.fails.fails)
