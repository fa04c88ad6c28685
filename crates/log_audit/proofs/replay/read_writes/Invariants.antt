use Rattle.std.proofs.Common.{◌≡◌, ◌++◌, IsTrue, drop}
use Rattle.host_trait.specs.Files.{StaysReady}
use Rattle.host_trait.specs.Runs.{OnlyAsked}
use Rattle.host_trait.specs.Faults.{NoneFailed}
use Rattle.log_reading.specs.Steps.{seen_in}
use Rattle.script_tree.specs.Programs.{ProgramTree}
use Rattle.script_check.specs.Shapes.{type_shapes}
use Rattle.log_audit.specs.CarriedStores.{AreOfProgram}
use Rattle.log_audit.proofs.Versions.{states_at}
use Rattle.log_audit.proofs.replay.read_writes.Given as goal

abbrev pub invariant-loop-one : goal.invariant-loop-one
invariant-loop-one g l = record {
  writes : IsTrue g.H.Host.tells → l.kept.items ++ states_at l.slot l.shape (seen_in (g.H.Host.world l.fn.host).disk) l.entry.unit (drop l.one-index l.writes) ≡ states_at l.slot l.shape (seen_in (g.H.Host.world l.fn.host).disk) l.entry.unit l.entry.writes;
  fits : (types : ProgramTree) → l.shape ≡ record { types = type_shapes types } → AreOfProgram types l.kept.items;
  asked : IsTrue g.H.Host.tells → OnlyAsked (g.H.Host.world l.fn.host) (g.H.Host.world l.host);
  calm : NoneFailed (g.H.Host.faults l.fn.host) (g.H.Host.faults l.host);
  ready : StaysReady (g.H.Host.is_ready l.fn.host) (g.H.Host.is_ready l.host);
}
