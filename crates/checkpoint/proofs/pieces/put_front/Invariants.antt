use Rattle.std.proofs.Common.{◌^◌, ◌<◌, ◌≤◌, IsTrue, length}
use Rattle.host_trait.specs.Files.{StaysReady}
use Rattle.host_trait.specs.Faults.{NoneFailed}
use Rattle.host_trait.specs.Runs.{RunsOnFile}
use Rattle.host_trait.specs.declared.channels.FileId.TheVariants.{Manager}
use Rattle.checkpoint.specs.Steps.{KeepsGate}
use Rattle.checkpoint.specs.Pieces.{HasFront}
use Rattle.checkpoint.proofs.pieces.put_front.Given as goal

abbrev pub invariant-loop-rest : goal.invariant-loop-rest
invariant-loop-rest g l = record {
  low : 1 ≤ l.end;
  high : l.end < 2 ^ 63;
  run : IsTrue g.H.Host.tells → RunsOnFile (Manager l.slot) KeepsGate 0 (g.H.Host.world l.fn.host) (g.H.Host.world l.host);
  written : HasFront g.H.Host.tells l.slot l.at l.head l.copies l.rest l.end (g.H.Host.world l.fn.host) (g.H.Host.world l.host);
  within : IsTrue g.H.Host.tells → l.end ≤ length ((g.H.Host.world l.host).disk (Manager l.slot)).seen;
  calm : NoneFailed (g.H.Host.faults l.fn.host) (g.H.Host.faults l.host);
  ready : StaysReady (g.H.Host.is_ready l.fn.host) (g.H.Host.is_ready l.host);
}

abbrev pub decreases-loop-rest : goal.decreases-loop-rest
decreases-loop-rest g l = length l.rest
