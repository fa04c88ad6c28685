use Rattle.std.proofs.Common.{◌-◌, IsTrue, drop}
use Rattle.host_trait.specs.Files.{StaysReady}
use Rattle.host_trait.specs.Faults.{NoneFailed}
use Rattle.log_reading.specs.Steps.{seen_in}
use Rattle.program_file.specs.ProgramsInTurn.{programs_in}
use Rattle.checkpoint.specs.Steps.{OnlyCopies}
use Rattle.checkpoint.proofs.Copying.{AreCopied}
use Rattle.checkpoint.proofs.copies.copy_versions.Given as goal

abbrev pub invariant-loop-named : goal.invariant-loop-named
invariant-loop-named g l = record {
  only : IsTrue g.H.Host.tells → OnlyCopies (1 - l.live) (g.H.Host.world l.fn.host) (g.H.Host.world l.host);
  copied : IsTrue g.H.Host.tells → AreCopied l.live (programs_in l.programs) (seen_in (g.H.Host.world l.fn.host).disk) (g.H.Host.world l.host).disk l.fn.latest l.latest (drop l.named-index l.latest);
  calm : NoneFailed (g.H.Host.faults l.fn.host) (g.H.Host.faults l.host);
  ready : StaysReady (g.H.Host.is_ready l.fn.host) (g.H.Host.is_ready l.host);
}
