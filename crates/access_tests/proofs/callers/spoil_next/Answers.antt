use Rattle.access_tests.proofs.Calls.{looked-back}
use Rattle.access_tests.proofs.callers.spoil_next.Goals as goal

pub returns-in-Err-clause-unput : goal.returns-in-Err-clause-unput
returns-in-Err-clause-unput g c = looked-back g.A.Access.may_come (g.A.Access.sight c.args.access.now) (g.A.Access.sight c.see.new.self) (g.A.Access.sight c.put.new.self) c.see.ensures.looked c.in-Err.ensures.refused.1
