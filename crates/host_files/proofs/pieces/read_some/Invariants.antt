use Rattle.std.proofs.Common.{◌≡◌, ◌≤◌, length, IsTrue}
use Rattle.host_files.proofs.Parts.{ReadSome}
use Rattle.host_files.proofs.RepeatedCalls.{TookTurns}
use Rattle.host_files.proofs.pieces.read_some.Given as goal

abbrev pub invariant-loop-turn : goal.invariant-loop-turn
invariant-loop-turn g l = record {
  bound : l.count ≤ length l.into;
  same : length l.into ≡ length l.fn.into;
  told : IsTrue g.S.SystemCalls.tells → g.S.SystemCalls.state l.system ≡ g.S.SystemCalls.state l.fn.system;
  some : IsTrue g.S.SystemCalls.tells
      → ReadSome l.count l.at ((g.S.SystemCalls.state l.fn.system).world.disk (g.S.File.Handle.file l.opened)).seen l.fn.into l.into;
  answered : IsTrue g.S.SystemCalls.tells → TookTurns l.turn l.count (g.S.SystemCalls.answered l.fn.system) (g.S.SystemCalls.answered l.system);
}
