use Rattle.std.proofs.Common.{◌∙◌, List, subst, sym}
use Rattle.script_tree.specs.Programs.{program_tree}
use Rattle.core_model.specs.CoreState.{GrainId}
use Rattle.txn_agent.specs.declared.work.Doing.TheVariants.{Frees}
use Rattle.txn_agent.specs.CoreLink.{KnowsDoing}
use Rattle.txn_agent.proofs.AgentCalls.{refuse_done, refuse_moves, refuse_over, refuse_stays}
use Rattle.txn_agent.proofs.WholeSteps.{stepped_ok}
use Rattle.txn_agent.proofs.UnhopedReplies.{was-done}
use Rattle.txn_agent.proofs.locks.refuse.Goals as goal

pub returns-then-done : goal.returns-then-done
returns-then-done g c = record {
  stepped = stepped_ok c.put_refuse.ensures.kept
      (refuse_done _ _ _ _ _ _ c.requires.counts _ _ _ c.requires.paused c.in_ok-done.ensures.said.1 (was-done _ (sym c.if-done.true ∙ c.in_ok-done.ensures.said.2)) c.args.work.kids)
      (subst (λ (h : List GrainId). KnowsDoing (program_tree c.args.checked.now) (g.A.Access.sight c.put_refuse.new.access) c.args.carried (Frees h)) (sym c.into_held.ensures)
      (refuse_over _ _ _ _ _ _ c.requires.counts _ _ _ c.requires.paused c.in_ok-done.ensures.said.1 (was-done _ (sym c.if-done.true ∙ c.in_ok-done.ensures.said.2))));
}

pub returns : goal.returns
returns g c = record {
  stepped = stepped_ok c.put_refuse.ensures.kept
      (refuse_moves _ _ _ _ _ _ c.requires.counts _ _ _ c.requires.paused c.in_ok-done.ensures.said.1 (sym c.in_ok-done.ensures.said.2 ∙ c.if-done.false) c.requires.barred c.args.work.kids)
      (refuse_stays _ _ _ _ _ _ c.requires.counts _ _ _ c.requires.paused c.in_ok-done.ensures.said.1 (sym c.in_ok-done.ensures.said.2 ∙ c.if-done.false));
}
