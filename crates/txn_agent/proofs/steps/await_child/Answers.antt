use Rattle.std.proofs.Common.{◌∙◌, sym}
use Rattle.txn_agent.proofs.AgentCalls.{waiting-looks}
use Rattle.txn_agent.proofs.ComposedSteps.{looks_counted, waits_for_child}
use Rattle.txn_agent.proofs.ResumedScripts.{heard_known, known_none}
use Rattle.txn_agent.proofs.WholeSteps.{stepped_ok, stepped_on}
use Rattle.txn_agent.proofs.steps.await_child.Goals as goal

pub returns-in-Undecided : goal.returns-in-Undecided
returns-in-Undecided g c = record {
  stepped = stepped_ok c.known_of.ensures.kept
      (waits_for_child _ _ _ _ _ _ _ c.args.work.kids c.known_of.ensures.looked
      (known_none _ (sym c.in-Undecided.is ∙ c.in_ok-known_of.ensures.answer))
      (waiting-looks _ _ _ _ c.requires.counts _ _ _ c.known_of.ensures.looked c.requires.waits))
      (waiting-looks _ _ _ _ c.requires.counts _ _ _ c.known_of.ensures.looked c.requires.waits);
}

pub do_asked-requires-clause-counts : goal.do_asked-requires-clause-counts
do_asked-requires-clause-counts g c = looks_counted _ _ _ c.known_of.ensures.looked c.requires.counts

pub do_asked-requires-clause-paused : goal.do_asked-requires-clause-paused
do_asked-requires-clause-paused g c = let on = c.in_ok-work-in-Decided.ensures in
    heard_known _ _ _ _ _ _ _ _ _ _ c.requires.counts c.requires.waits c.known_of.ensures.looked (sym c.in-Decided.is ∙ c.in_ok-known_of.ensures.answer) on.call on.held on.sources on.kids on.machine

pub returns-in_ok-work-in-Decided : goal.returns-in_ok-work-in-Decided
returns-in_ok-work-in-Decided g c = record {
  stepped = stepped_on c.in_ok-work-in-Decided.work.kids c.args.work.kids c.args.access.now c.known_of.new.access c.do_asked.new.access c.do_asked.result
      c.in_ok-work-in-Decided.ensures.kids c.known_of.ensures.kept c.known_of.ensures.looked c.do_asked.ensures.stepped;
}
