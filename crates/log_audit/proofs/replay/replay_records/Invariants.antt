use Rattle.std.proofs.Common.{◌≡◌, IsTrue, drop}
use Rattle.host_trait.specs.Files.{StaysReady}
use Rattle.host_trait.specs.Runs.{OnlyAsked}
use Rattle.host_trait.specs.Faults.{NoneFailed}
use Rattle.log_reading.specs.Steps.{seen_in}
use Rattle.log_audit.specs.InForce.{types_in_force}
use Rattle.log_audit.specs.CarriedStores.{StoreFits}
use Rattle.promise_spec.specs.Entries.{Standing}
use Rattle.log_audit.specs.Replays.{IsStoreOf}
use Rattle.log_audit.proofs.Replays.{HasReplayed}
use Rattle.log_audit.proofs.replay.replay_records.Given as goal

abbrev pub invariant-loop-entry : goal.invariant-loop-entry
invariant-loop-entry g l = record {
  replays : IsTrue g.H.Host.tells → (before : Standing) → before.program.types ≡ types_in_force l.now → IsStoreOf l.fn.store before → HasReplayed l.slot l.now.shape (seen_in (g.H.Host.world l.fn.host).disk) before l.records (drop l.entry-index l.records) l.store;
  fits : StoreFits (types_in_force l.now) l.fn.store → StoreFits (types_in_force l.now) l.store;
  asked : IsTrue g.H.Host.tells → OnlyAsked (g.H.Host.world l.fn.host) (g.H.Host.world l.host);
  calm : NoneFailed (g.H.Host.faults l.fn.host) (g.H.Host.faults l.host);
  ready : StaysReady (g.H.Host.is_ready l.fn.host) (g.H.Host.is_ready l.host);
}
