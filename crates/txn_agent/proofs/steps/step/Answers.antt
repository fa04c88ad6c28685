use Rattle.std.proofs.Common.{refl, subst}
use Rattle.script_tree.specs.Programs.{program_tree}
use Rattle.txn_agent.specs.CoreLink.{KnowsDoing}
use Rattle.txn_agent.specs.AgentStep.{children_of}
use Rattle.txn_agent.proofs.ComposedSteps.{looks_self, stopped_happened}
use Rattle.txn_agent.proofs.WholeSteps.{stepped_ok}
use Rattle.txn_agent.proofs.steps.step.Goals as goal

pub returns-in-Stopped : goal.returns-in-Stopped
returns-in-Stopped g c = record {
  stepped = stepped_ok (record { fit = c.requires.fit; aside = refl })
      (stopped_happened _ (program_tree c.args.checked.now) _ _ _ (children_of c.args.doing) (looks_self _ _) (subst (KnowsDoing (program_tree c.args.checked.now) (g.A.Access.sight c.args.access.now) c.args.carried) c.in-Stopped.is c.requires.doing))
      (subst (KnowsDoing (program_tree c.args.checked.now) (g.A.Access.sight c.args.access.now) c.args.carried) c.in-Stopped.is c.requires.doing);
}
