use Rattle.history_core.specs.Cores.{run_of}
use Rattle.silo_workers.proofs.PassReturns.{cell-tells}
use Rattle.silo_workers.proofs.reach.ReachAccess.put.Goals as goal

pub returns-clause-put : goal.returns-clause-put
returns-clause-put g c = cell-tells run_of c.args.self.now.pass.me.0 c.put.new.pass.me.0 c.args.event c.put.result c.put.ensures.call
