use Rattle.std.proofs.Common.{◌∙◌, ap, refl, subst, sym}
use Rattle.std.specs.Prelude.{List}
use Rattle.core_model.specs.CoreState.{GrainId}
use Rattle.core_model.specs.Tests.{first_grain}
use Rattle.script_tree.specs.Programs.{program_tree}
use Rattle.txn_agent.specs.declared.work.Doing.TheVariants.{Frees}
use Rattle.txn_agent.specs.CoreLink.{KnowsDoing}
use Rattle.txn_agent.proofs.ResumedScripts.{ended_happened, release_done, release_moves, release_over, release_stays}
use Rattle.txn_agent.proofs.WholeSteps.{stepped_ok}
use Rattle.txn_agent.proofs.UnhopedReplies.{was-done}
use Rattle.txn_agent.proofs.ends.release.Goals as goal

pub returns-then-done : goal.returns-then-done
returns-then-done g c = record {
  stepped = stepped_ok c.put_release.ensures.kept
      (release_done _ (program_tree c.args.checked.now) _ _ _ _ _ _ c.requires.counts c.requires.over (c.in-Some.ensures ∙ ap first_grain c.as_slice.ensures) c.in_ok-done.ensures.said.1 (was-done _ (sym c.if-done.true ∙ c.in_ok-done.ensures.said.2)) 0)
      (subst (λ (l : List GrainId). KnowsDoing (program_tree c.args.checked.now) (g.A.Access.sight c.put_release.new.access) c.args.carried (Frees l)) (sym c.leave-held.ensures) (release_over _ (program_tree c.args.checked.now) _ _ _ _ _ _ c.requires.counts c.requires.over (c.in-Some.ensures ∙ ap first_grain c.as_slice.ensures) c.in_ok-done.ensures.said.1 (was-done _ (sym c.if-done.true ∙ c.in_ok-done.ensures.said.2))));
}

pub returns : goal.returns
returns g c = record {
  stepped = stepped_ok c.put_release.ensures.kept
      (release_moves _ (program_tree c.args.checked.now) _ _ _ _ _ _ c.requires.counts c.requires.over (c.in-Some.ensures ∙ ap first_grain c.as_slice.ensures) c.in_ok-done.ensures.said.1 (sym c.in_ok-done.ensures.said.2 ∙ c.if-done.false) 0)
      (release_stays _ (program_tree c.args.checked.now) _ _ _ _ _ _ c.requires.counts c.requires.over (c.in-Some.ensures ∙ ap first_grain c.as_slice.ensures) c.in_ok-done.ensures.said.1 (sym c.in_ok-done.ensures.said.2 ∙ c.if-done.false));
}

pub returns-in_default : goal.returns-in_default
returns-in_default g c = record {
  stepped = stepped_ok (record { fit = c.requires.fit; aside = refl })
      (ended_happened _ (program_tree c.args.checked.now) _ _ _ 0 _ (c.lowest.ensures ∙ ap first_grain c.as_slice.ensures) c.in_default.not-Some c.requires.over)
      (c.requires.over);
}
