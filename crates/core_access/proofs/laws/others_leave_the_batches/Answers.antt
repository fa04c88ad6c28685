use Rattle.core_access.proofs.SettlerEvents.{others-leave}
use Rattle.core_access.proofs.laws.others_leave_the_batches.Goals as goal

pub returns : goal.returns
returns c = λ r e other. others-leave r e other
