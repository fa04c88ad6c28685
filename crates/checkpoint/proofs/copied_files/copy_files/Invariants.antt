use Rattle.std.proofs.Common.{◌-◌, IsTrue, drop}
use Rattle.host_trait.specs.Files.{StaysReady}
use Rattle.host_trait.specs.Faults.{NoneFailed}
use Rattle.checkpoint.specs.Steps.{OnlyCopies}
use Rattle.checkpoint.proofs.CopiedFiles.{AreFilesCopied}
use Rattle.checkpoint.proofs.copied_files.copy_files.Given as goal

abbrev pub invariant-loop-grain : goal.invariant-loop-grain
invariant-loop-grain g l = record {
  only : IsTrue g.H.Host.tells → OnlyCopies (1 - l.live) (g.H.Host.world l.fn.host) (g.H.Host.world l.host);
  copied : IsTrue g.H.Host.tells → AreFilesCopied l.live l.ends (g.H.Host.world l.fn.host).disk (g.H.Host.world l.host).disk l.grains (drop l.grain-index l.grains);
  calm : NoneFailed (g.H.Host.faults l.fn.host) (g.H.Host.faults l.host);
  ready : StaysReady (g.H.Host.is_ready l.fn.host) (g.H.Host.is_ready l.host);
}
