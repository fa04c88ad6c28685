use Rattle.std.proofs.Common.{sym, subst}
use Rattle.script_tree.specs.Programs.{program_tree}
use Rattle.agent_tests.specs.declared.bench.Bench.{Bench}
use Rattle.agent_tests.specs.BenchState.{IsCarrying}
use Rattle.agent_tests.proofs.bench.Bench.run.Goals.{then-branch+then-by_turns, then-branch+else-by_turns, else-branch+then-place-gt0, else-branch+else-place-gt0+in_ok-settle_one+else-not-branch}
use Rattle.agent_tests.proofs.bench.Bench.run.Goals as goal

pub loop-preserved : goal.loop-preserved
loop-preserved c = elim c.if-branch.branch [
  | then-branch+then-by_turns w ↦ subst (IsCarrying (program_tree c.args.checked.now)) (sym w.self-is) c.in_ok-move_at.ensures
  | then-branch+else-by_turns w ↦ subst (IsCarrying (program_tree c.args.checked.now)) (sym w.self-is) c.in_ok-move_at.ensures
  | else-branch+then-place-gt0 w ↦ subst (IsCarrying (program_tree c.args.checked.now)) (sym w.self-is) c.in_ok-move_at.ensures
  | else-branch+else-place-gt0+in_ok-settle_one+else-not-branch w ↦ subst (IsCarrying (program_tree c.args.checked.now)) (sym w.self-is) w.in_ok-settle_one.ensures
]
