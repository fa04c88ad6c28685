use Rattle.std.proofs.Common.{◌≡◌}
use Rattle.core_model.specs.declared.events.CoreEvent.TheVariants.{Halt}
use Rattle.shared_settling.proofs.Stops.{tried-stop}
use Rattle.shared_settling.proofs.shared_loop.stop.Goals as goal

pub returns-clause-stops : goal.returns-clause-stops
returns-clause-stops g c = (tried-stop (λ e. e.1 ≡ Halt) g.A.Access.may_come (g.A.Access.sight c.args.access.now) (g.A.Access.sight c.put.new.self) c.put.result c.put.ensures.put c.put.ensures.refused c.put.ensures.unspared).0

pub returns-clause-stopped : goal.returns-clause-stopped
returns-clause-stopped g c = (tried-stop (λ e. e.1 ≡ Halt) g.A.Access.may_come (g.A.Access.sight c.args.access.now) (g.A.Access.sight c.put.new.self) c.put.result c.put.ensures.put c.put.ensures.refused c.put.ensures.unspared).1
