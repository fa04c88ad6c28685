use Rattle.std.proofs.Common.{◌≡◌, ◌-◌, ◌^◌, ◌<◌, IsTrue}
use Rattle.host_trait.specs.Files.{StaysReady}
use Rattle.host_trait.specs.Runs.{OnlyAsked}
use Rattle.host_trait.specs.Faults.{NoneFailed}
use Rattle.host_trait.specs.declared.channels.FileId.TheVariants.{Manager}
use Rattle.program_file.specs.Programs.{Program, shape_in}
use Rattle.log_reading.specs.Steps.{BeginsSaved}
use Rattle.log_reading.proofs.CheckpointLoop.{last_of, FollowsPieces}
use Rattle.log_reading.proofs.bases.read_checkpoint.Given as goal

abbrev pub invariant-loop-saved : goal.invariant-loop-saved
invariant-loop-saved g l = record {
  bound : l.gate_at < 2 ^ 63;
  last : l.last ≡ last_of l.saved;
  pieces : IsTrue g.H.Host.tells → (p : Program) → shape_in p ≡ l.shape → BeginsSaved ((g.H.Host.world l.initial.host).disk (Manager l.slot)).seen → FollowsPieces l.format p ((g.H.Host.world l.initial.host).disk (Manager l.slot)).seen l.first l.saved l.gate_at;
  asked : IsTrue g.H.Host.tells → OnlyAsked (g.H.Host.world l.initial.host) (g.H.Host.world l.host);
  calm : NoneFailed (g.H.Host.faults l.initial.host) (g.H.Host.faults l.host);
  ready : StaysReady (g.H.Host.is_ready l.initial.host) (g.H.Host.is_ready l.host);
}

abbrev pub decreases-loop-saved : goal.decreases-loop-saved
decreases-loop-saved g l = 2 ^ 63 - l.gate_at
