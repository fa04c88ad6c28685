use Rattle.std.proofs.Common.{◌∙◌, ap, refl, sym}
use Rattle.std.specs.Prelude.{length}
use Rattle.script_tree.specs.Programs.{program_tree}
use Rattle.txn_agent.proofs.AgentCalls.{over_done, over_frees, over_moves, over_stopped}
use Rattle.txn_agent.proofs.WholeSteps.{stepped_ok}
use Rattle.txn_agent.proofs.UnhopedReplies.{was-done}
use Rattle.txn_agent.proofs.ends.finish.Goals as goal

pub into_effect-requires-clause-sources : goal.into_effect-requires-clause-sources
into_effect-requires-clause-sources g c = c.requires.paused.at_work.sources ∙ ap length (sym c.requires.paused.at_work.follows.reads)

pub returns-then-done : goal.returns-then-done
returns-then-done g c =
    let made = c.in_ok-effect.ensures.effect (program_tree c.args.checked.now) c.requires.paused.trail c.requires.paused.at_work.follows in
    let was = was-done _ (sym c.if-done.true ∙ c.in_ok-done.ensures.said.2) in
    record {
      stepped = stepped_ok c.put_end.ensures.kept
          (over_done _ _ _ _ _ _ c.requires.counts _ _ _ c.requires.paused made c.args.carried.plain c.in_ok-done.ensures.said.1 was c.args.work.kids)
          (over_frees _ _ _ _ _ _ c.requires.counts _ _ _ c.requires.paused made c.args.carried.plain c.in_ok-done.ensures.said.1 was c.in_ok-effect.held c.in_ok-effect.ensures.held);
    }

pub returns : goal.returns
returns g c =
    let made = c.in_ok-effect.ensures.effect (program_tree c.args.checked.now) c.requires.paused.trail c.requires.paused.at_work.follows in
    let not = sym c.in_ok-done.ensures.said.2 ∙ c.if-done.false in
    record {
      stepped = stepped_ok c.put_end.ensures.kept
          (over_moves _ _ _ _ _ _ c.requires.counts _ _ _ c.requires.paused made c.args.carried.plain refl c.in_ok-done.ensures.said.1 not c.args.work.kids)
          (over_stopped _ _ _ _ _ _ c.requires.counts _ _ _ c.requires.paused made c.args.carried.plain refl c.in_ok-done.ensures.said.1 not);
    }
