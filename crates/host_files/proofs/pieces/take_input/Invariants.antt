use Rattle.std.proofs.Common.{◌≡◌, length, IsTrue}
use Rattle.host_files.proofs.RepeatedCalls.{TookTurns}
use Rattle.host_files.proofs.pieces.take_input.Given as goal

abbrev pub invariant-loop-turn : goal.invariant-loop-turn
invariant-loop-turn g l = record {
  same : length l.into ≡ length l.fn.into;
  told : IsTrue g.S.SystemCalls.tells → g.S.SystemCalls.state l.system ≡ g.S.SystemCalls.state l.fn.system;
  answered : IsTrue g.S.SystemCalls.tells → TookTurns l.turn 0 (g.S.SystemCalls.answered l.fn.system) (g.S.SystemCalls.answered l.system);
}
