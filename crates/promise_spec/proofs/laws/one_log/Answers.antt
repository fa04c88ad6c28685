use Rattle.promise_spec.proofs.OneLog.{one_log, one_in, image_format}
use Rattle.promise_spec.proofs.Chains.{begins_above}
use Rattle.promise_spec.proofs.laws.one_log.Goals as goal

pub returns-clause-image : goal.returns-clause-image
returns-clause-image c = one_log

pub returns-clause-slot : goal.returns-clause-slot
returns-clause-slot c = one_in

pub returns-clause-begins : goal.returns-clause-begins
returns-clause-begins c = begins_above

pub returns-clause-format : goal.returns-clause-format
returns-clause-format c = image_format
