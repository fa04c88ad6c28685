use Rattle.std.proofs.Common.{None}
use Rattle.core_parts.proofs.Keys.{puts_handed}
use Rattle.core_parts.proofs.handed_states.HandedStates.take.Goals as goal

pub returns-clause-gone : goal.returns-clause-gone
returns-clause-gone c = puts_handed c.args.self.now (record { states = c.remove.new.self }) c.args.unit c.args.grain None c.remove.ensures.updates
