use Rattle.base_types.proofs.Grains.{puts_end}
use Rattle.base_types.proofs.stores.Ends.put.Goals as goal

pub returns-clause-ok : goal.returns-clause-ok
returns-clause-ok c = puts_end c.args.self.now (record { ends = c.put.new.self }) c.args.grain c.args.end c.in_ok-put.ensures.ok
