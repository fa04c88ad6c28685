use Rattle.std.proofs.Common.{◌<◌, ◌≤◌, length, IsTrue}
use Rattle.host_files.proofs.Parts.{WroteSome}
use Rattle.host_files.proofs.RepeatedCalls.{TookTurns}
use Rattle.host_files.proofs.pieces.write_whole.Given as goal

abbrev pub invariant-loop-turn : goal.invariant-loop-turn
invariant-loop-turn g l = record {
  bound : l.done ≤ length l.bytes;
  goes : 0 < l.done → l.done < length l.bytes;
  some : IsTrue g.S.SystemCalls.tells
      → WroteSome l.done (g.S.File.Handle.file l.opened) l.at l.bytes (g.S.SystemCalls.state l.fn.system) (g.S.SystemCalls.state l.system);
  answered : IsTrue g.S.SystemCalls.tells → TookTurns l.turn l.done (g.S.SystemCalls.answered l.fn.system) (g.S.SystemCalls.answered l.system);
}
