use Rattle.std.proofs.Common.{Some}
use Rattle.core_parts.proofs.Keys.{puts_handed}
use Rattle.core_parts.proofs.handed_states.HandedStates.keep.Goals as goal

pub returns-clause-ok : goal.returns-clause-ok
returns-clause-ok c = puts_handed c.args.self.now (record { states = c.insert.new.self }) c.args.unit c.args.grain (Some c.args.state) c.in_ok-insert.ensures.updates
