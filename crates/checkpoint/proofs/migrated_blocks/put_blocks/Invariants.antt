use Rattle.std.proofs.Common.{◌-◌, ◌^◌, ◌<◌, ◌≤◌, IsTrue, length}
use Rattle.host_trait.specs.Files.{StaysReady}
use Rattle.host_trait.specs.Faults.{NoneFailed}
use Rattle.host_trait.specs.Runs.{RunsOnFile}
use Rattle.host_trait.specs.declared.channels.FileId.TheVariants.{Manager}
use Rattle.checkpoint.specs.Steps.{KeepsGate}
use Rattle.checkpoint.proofs.MigratedBlocks.{AreMigrated}
use Rattle.checkpoint.proofs.migrated_blocks.put_blocks.Given as goal

abbrev pub invariant-loop-body : goal.invariant-loop-body
invariant-loop-body g l = record {
  gate : l.gate_at < 2 ^ 63;
  low : 1 ≤ l.end;
  high : l.end < 2 ^ 63;
  run : IsTrue g.H.Host.tells → RunsOnFile (Manager (1 - l.live)) KeepsGate 0 (g.H.Host.world l.fn.host) (g.H.Host.world l.host);
  migrated : IsTrue g.H.Host.tells → AreMigrated l.begins l.is_piece l.live l.at l.gate_at l.end (g.H.Host.world l.fn.host) (g.H.Host.world l.host);
  within : IsTrue g.H.Host.tells → l.end ≤ length ((g.H.Host.world l.host).disk (Manager (1 - l.live))).seen;
  calm : NoneFailed (g.H.Host.faults l.fn.host) (g.H.Host.faults l.host);
  ready : StaysReady (g.H.Host.is_ready l.fn.host) (g.H.Host.is_ready l.host);
}

abbrev pub decreases-loop-body : goal.decreases-loop-body
decreases-loop-body g l = 2 ^ 63 - l.gate_at
