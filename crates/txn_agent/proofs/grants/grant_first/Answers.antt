use Rattle.std.proofs.Common.{subst, sym, ◌∙◌}
use Rattle.script_tree.specs.Programs.{program_tree}
use Rattle.script_machine.specs.declared.machine.Input.TheVariants.{Grain}
use Rattle.txn_agent.specs.declared.work.Work.{Work}
use Rattle.txn_agent.specs.MachineState.{HasResumed}
use Rattle.txn_agent.proofs.AgentCalls.{grant_acts, grant_happened, grant_moves, grant_stays}
use Rattle.txn_agent.proofs.ResumedScripts.{first_known}
use Rattle.txn_agent.proofs.WholeSteps.{stepped_failed, stepped_ok}
use Rattle.txn_agent.proofs.UnhopedReplies.{not-granted, was-granted}
use Rattle.txn_agent.proofs.grants.grant_first.Goals as goal

pub returns-in_err-locked-in-Some : goal.returns-in_err-locked-in-Some
returns-in_err-locked-in-Some g c = record {
  stepped = stepped_failed _ c.from_residual-in_err-locked-in-Some.result c.from_residual-in_err-locked-in-Some.ensures.1 c.put_grant.ensures.kept
      (grant_acts _ _ _ _ _ _ c.requires.counts _ _ _ c.requires.paused c.in_ok-granted.ensures.said.1);
}

pub returns-in_err-work-in-Some : goal.returns-in_err-work-in-Some
returns-in_err-work-in-Some g c = record {
  stepped = stepped_failed _ c.from_residual-in_err-work-in-Some.result c.from_residual-in_err-work-in-Some.ensures.1 c.put_grant.ensures.kept
      (grant_acts _ _ _ _ _ _ c.requires.counts _ _ _ c.requires.paused c.in_ok-granted.ensures.said.1);
}

pub returns-in_ok-work-in-Some : goal.returns-in_ok-work-in-Some
returns-in_ok-work-in-Some g c = record {
  stepped = stepped_ok c.put_grant.ensures.kept
      (grant_happened _ _ _ _ _ _ c.requires.counts _ _ _ c.requires.paused c.in_ok-granted.ensures.said.1 c.in-Some.state c.in-Some.source (was-granted _ _ _ (sym c.in_ok-granted.ensures.said.2 ∙ c.in-Some.is)) c.args.work.kids)
      (let on = subst (λ (w : Work). HasResumed (program_tree c.args.checked.now) w c.in_ok-work-in-Some.work (Grain c.in-Some.state) c.in_ok-work-in-Some.pause) c.in_ok-locked-in-Some.ensures c.in_ok-work-in-Some.ensures in
      first_known _ _ _ _ _ _ _ _ _ _ _ _ _ c.requires.counts c.requires.paused c.in_ok-granted.ensures.said.1 (was-granted _ _ _ (sym c.in_ok-granted.ensures.said.2 ∙ c.in-Some.is)) c.requires.first on.call on.held on.sources on.kids on.machine);
}

pub returns-in-None : goal.returns-in-None
returns-in-None g c = record {
  stepped = stepped_ok c.put_grant.ensures.kept
      (grant_moves _ _ _ _ _ _ c.requires.counts _ _ _ c.requires.paused c.in_ok-granted.ensures.said.1 (not-granted _ (sym c.in_ok-granted.ensures.said.2 ∙ c.in-None.is)) c.requires.free c.args.work.kids)
      (grant_stays _ _ _ _ _ _ c.requires.counts _ _ _ c.requires.paused c.in_ok-granted.ensures.said.1 (not-granted _ (sym c.in_ok-granted.ensures.said.2 ∙ c.in-None.is)));
}
