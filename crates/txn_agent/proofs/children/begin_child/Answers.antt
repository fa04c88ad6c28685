use Rattle.std.proofs.Common.{arith, ◌+◌, refl, sym, ◌∙◌}
use Rattle.script_tree.specs.Programs.{program_tree}
use Rattle.txn_agent.proofs.AgentCalls.{begin_happened, begin_known, begin_moves, begin_stays, few_kids}
use Rattle.txn_agent.proofs.WholeSteps.{stepped_ok}
use Rattle.txn_agent.proofs.UnhopedReplies.{not-began, was-began}
use Rattle.txn_agent.proofs.children.begin_child.Goals as goal

pub returns-in-Some : goal.returns-in-Some
returns-in-Some g c = record {
  stepped = stepped_ok c.put_begin.ensures.kept
      (begin_happened _ _ _ _ _ _ c.requires.counts _ _ _ c.requires.paused c.in_ok-begun_as.ensures.said.1 c.in-Some.child c.in_ok-asked.asked (was-began _ _ (sym c.in_ok-begun_as.ensures.said.2 ∙ c.in-Some.is)) c.in_ok-asked.ensures)
      (begin_known _ _ _ _ _ _ c.requires.counts _ _ _ c.requires.paused c.in_ok-begun_as.ensures.said.1
      (record { call = c.args.work.call; machine = c.args.work.machine; held = c.args.work.held; sources = c.args.work.sources; kids = c.args.work.kids + 1 })
      c.in-Some.child (was-began _ _ (sym c.in_ok-begun_as.ensures.said.2 ∙ c.in-Some.is)) refl refl refl refl refl);
}

pub returns-in-None : goal.returns-in-None
returns-in-None g c = record {
  stepped = stepped_ok c.put_begin.ensures.kept
      (begin_moves _ _ _ _ _ _ c.requires.counts _ _ _ c.requires.paused c.in_ok-begun_as.ensures.said.1 (not-began _ (sym c.in_ok-begun_as.ensures.said.2 ∙ c.in-None.is)))
      (begin_stays _ _ _ _ _ _ c.requires.counts _ _ _ c.requires.paused c.in_ok-begun_as.ensures.said.1 (not-began _ (sym c.in_ok-begun_as.ensures.said.2 ∙ c.in-None.is)) c.in_ok-asked.asked c.in_ok-asked.ensures);
}

pub overflow_add-begun : goal.overflow_add-begun
overflow_add-begun g c = (let n = few_kids (program_tree c.args.checked.now) (g.A.Access.sight c.args.access.now) c.args.carried c.args.work c.args.call c.args.depth c.requires.paused in omega (arith, n))
