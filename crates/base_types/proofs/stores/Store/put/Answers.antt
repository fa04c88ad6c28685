use Rattle.base_types.proofs.Grains.{puts_state}
use Rattle.base_types.proofs.stores.Store.put.Goals as goal

pub returns-clause-ok : goal.returns-clause-ok
returns-clause-ok c = puts_state c.args.self.now (record { states = c.insert.new.self }) c.args.grain c.args.state c.in_ok-insert.ensures.updates
