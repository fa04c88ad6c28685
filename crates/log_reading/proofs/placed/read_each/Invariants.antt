use Rattle.std.proofs.Common.{◌≡◌, IsTrue, map, drop}
use Rattle.base_types.specs.declared.calls.GrainId.{GrainId}
use Rattle.base_types.specs.Stores.{state_in}
use Rattle.host_trait.specs.Files.{StaysReady}
use Rattle.host_trait.specs.Runs.{OnlyAsked}
use Rattle.host_trait.specs.Faults.{NoneFailed}
use Rattle.script_tree.specs.Programs.{program_tree}
use Rattle.log_reading.specs.Steps.{seen_in}
use Rattle.log_reading.specs.PlacedVersions.{states_reread}
use Rattle.log_reading.proofs.placed.read_each.Given as goal

abbrev pub invariant-loop-grain : goal.invariant-loop-grain
invariant-loop-grain g l = record {
  stand : IsTrue g.H.Host.tells → (other : GrainId) → states_reread l.slot l.format (map program_tree l.programs) (seen_in (g.H.Host.world l.fn.host).disk) l.places (state_in l.store other) (drop l.grain-index l.grains) other ≡ states_reread l.slot l.format (map program_tree l.programs) (seen_in (g.H.Host.world l.fn.host).disk) l.places (state_in l.fn.store other) l.grains other;
  asked : IsTrue g.H.Host.tells → OnlyAsked (g.H.Host.world l.fn.host) (g.H.Host.world l.host);
  calm : NoneFailed (g.H.Host.faults l.fn.host) (g.H.Host.faults l.host);
  ready : StaysReady (g.H.Host.is_ready l.fn.host) (g.H.Host.is_ready l.host);
}
