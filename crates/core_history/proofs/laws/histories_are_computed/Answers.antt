use Rattle.core_history.proofs.Examples.{read}
use Rattle.core_history.proofs.laws.histories_are_computed.Goals as goal

pub returns : goal.returns
returns c = read
