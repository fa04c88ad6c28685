use Rattle.worker_rules.proofs.Numbers.{begins-once}
use Rattle.worker_rules.proofs.promises.numbers_are_given_once.Goals as goal

pub returns : goal.returns
returns c = λ first log e f u true_history i j p q. begins-once log first e f u true_history i j p q
