use Rattle.std.proofs.Common.{◌-◌, ◌≤◌, IsTrue}
use Rattle.host_trait.specs.Files.{MayAsk, StaysReady}
use Rattle.host_trait.specs.Faults.{NoneFailed}
use Rattle.host_trait.specs.Runs.{RunsOnFile}
use Rattle.checkpoint.specs.Steps.{MayBeAny}
use Rattle.checkpoint.specs.CopiedFiles.{BeginsAs}
use Rattle.checkpoint.proofs.copied_files.copy_front.Given as goal

abbrev pub invariant-loop-at : goal.invariant-loop-at
invariant-loop-at g l = record {
  low : l.at ≤ l.end;
  from : MayAsk (g.H.Host.is_ready l.host) l.from;
  to : MayAsk (g.H.Host.is_ready l.host) l.to;
  run : IsTrue g.H.Host.tells → RunsOnFile l.to MayBeAny 0 (g.H.Host.world l.fn.host) (g.H.Host.world l.host);
  begins : IsTrue g.H.Host.tells → BeginsAs l.at ((g.H.Host.world l.fn.host).disk l.from).seen ((g.H.Host.world l.host).disk l.to).seen;
  calm : NoneFailed (g.H.Host.faults l.fn.host) (g.H.Host.faults l.host);
  ready : StaysReady (g.H.Host.is_ready l.fn.host) (g.H.Host.is_ready l.host);
}

abbrev pub decreases-loop-at : goal.decreases-loop-at
decreases-loop-at g l = l.end - l.at
