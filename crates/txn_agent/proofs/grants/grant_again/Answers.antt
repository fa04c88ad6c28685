use Rattle.std.proofs.Common.{sym, ◌∙◌}
use Rattle.txn_agent.proofs.AgentCalls.{grant_acts, grant_happened, grant_moves, grant_stays}
use Rattle.txn_agent.proofs.ResumedScripts.{again_known}
use Rattle.txn_agent.proofs.WholeSteps.{stepped_failed, stepped_ok}
use Rattle.txn_agent.proofs.UnhopedReplies.{not-granted, was-granted}
use Rattle.txn_agent.proofs.grants.grant_again.Goals as goal

pub returns-in_err-work-in-Some : goal.returns-in_err-work-in-Some
returns-in_err-work-in-Some g c = record {
  stepped = stepped_failed _ c.from_residual-in_err-work-in-Some.result c.from_residual-in_err-work-in-Some.ensures.1 c.put_grant.ensures.kept
      (grant_acts _ _ _ _ _ _ c.requires.counts _ _ _ c.requires.paused c.in_ok-granted.ensures.said.1);
}

pub returns-in_ok-work-in-Some : goal.returns-in_ok-work-in-Some
returns-in_ok-work-in-Some g c = record {
  stepped = stepped_ok c.put_grant.ensures.kept
      (grant_happened _ _ _ _ _ _ c.requires.counts _ _ _ c.requires.paused c.in_ok-granted.ensures.said.1 c.in-Some._state c.in-Some.source (was-granted _ _ _ (sym c.in_ok-granted.ensures.said.2 ∙ c.in-Some.is)) c.args.work.kids)
      (let on = c.in_ok-work-in-Some.ensures in
      again_known _ _ _ _ _ _ _ _ _ _ _ _ _ c.requires.counts c.requires.paused c.in_ok-granted.ensures.said.1 (was-granted _ _ _ (sym c.in_ok-granted.ensures.said.2 ∙ c.in-Some.is)) c.requires.again on.call on.held on.sources on.kids on.machine);
}

pub returns-in-None : goal.returns-in-None
returns-in-None g c = record {
  stepped = stepped_ok c.put_grant.ensures.kept
      (grant_moves _ _ _ _ _ _ c.requires.counts _ _ _ c.requires.paused c.in_ok-granted.ensures.said.1 (not-granted _ (sym c.in_ok-granted.ensures.said.2 ∙ c.in-None.is)) c.requires.free c.args.work.kids)
      (grant_stays _ _ _ _ _ _ c.requires.counts _ _ _ c.requires.paused c.in_ok-granted.ensures.said.1 (not-granted _ (sym c.in_ok-granted.ensures.said.2 ∙ c.in-None.is)));
}
