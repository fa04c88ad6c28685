use Rattle.std.proofs.Common.{◌≡◌, ◌++◌, ◌≤◌, ◌-◌, IsTrue, vec_len}
use Rattle.host_trait.specs.Faults.{NoneFailed}
use Rattle.host_trait.specs.Files.{StaysReady}
use Rattle.silo_opening.proofs.InputPieces.{IsStill}
use Rattle.silo_opening.proofs.input.read_input.Given as goal

abbrev pub invariant-loop-input : goal.invariant-loop-input
invariant-loop-input g l = record {
  got : IsTrue g.H.Host.tells → (g.H.Host.world l.initial.host).input ≡ l.input.items ++ (g.H.Host.world l.host).input;
  within : vec_len l.input ≤ 262144;
  calm : NoneFailed (g.H.Host.faults l.initial.host) (g.H.Host.faults l.host);
  output : IsTrue g.H.Host.tells → (g.H.Host.world l.host).output ≡ (g.H.Host.world l.initial.host).output;
  disk : IsTrue g.H.Host.tells → (g.H.Host.world l.host).disk ≡ (g.H.Host.world l.initial.host).disk;
  syncs : IsTrue g.H.Host.tells → (g.H.Host.world l.host).syncs ≡ (g.H.Host.world l.initial.host).syncs;
  moments : IsTrue g.H.Host.tells → IsStill (g.H.Host.world l.initial.host) (g.H.Host.world l.host);
  ready : StaysReady (g.H.Host.is_ready l.initial.host) (g.H.Host.is_ready l.host);
}

abbrev pub decreases-loop-input : goal.decreases-loop-input
decreases-loop-input g l = 262144 - vec_len l.input
