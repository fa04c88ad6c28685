use Rattle.std.proofs.Common.{◌≡◌, IsTrue}
use Rattle.host_files.proofs.RepeatedCalls.{StoodIn}
use Rattle.host_files.proofs.claim.Claim.take.Given as goal

abbrev pub invariant-loop-turn : goal.invariant-loop-turn
invariant-loop-turn g l = record {
  same : l.self.folder ≡ l.fn.self.folder;
  missing : l.self.is_missing ≡ l.fn.self.is_missing;
  told : IsTrue g.S.SystemCalls.tells → g.S.SystemCalls.state l.system ≡ g.S.SystemCalls.state l.fn.system;
  answered : IsTrue g.S.SystemCalls.tells → StoodIn l.turn (g.S.SystemCalls.answered l.fn.system) (g.S.SystemCalls.answered l.system);
}
