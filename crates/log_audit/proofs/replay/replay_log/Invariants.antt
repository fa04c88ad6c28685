use Rattle.std.proofs.Common.{◌≡◌, ◌-◌, ◌^◌, ◌<◌, IsTrue}
use Rattle.host_trait.specs.Files.{StaysReady}
use Rattle.host_trait.specs.Runs.{OnlyAsked}
use Rattle.host_trait.specs.Faults.{NoneFailed}
use Rattle.host_trait.specs.declared.channels.FileId.TheVariants.{Manager}
use Rattle.log_reading.specs.Steps.{seen_in}
use Rattle.promise_spec.specs.Programs.{Program}
use Rattle.log_audit.specs.InForce.{types_in_force, HasShape}
use Rattle.log_audit.specs.CarriedStores.{StoreFits}
use Rattle.log_audit.proofs.Replays.{HasAudited}
use Rattle.log_audit.proofs.replay.replay_log.Given as goal

abbrev pub invariant-loop-store : goal.invariant-loop-store
invariant-loop-store g l = record {
  bound : l.gate_at < 2 ^ 63;
  shaped : HasShape l.now;
  fits : StoreFits (types_in_force l.now) l.store;
  audited : IsTrue g.H.Host.tells → (p : Program) → p.types ≡ types_in_force l.fn.now → HasAudited p l.slot (seen_in (g.H.Host.world l.fn.host).disk) ((g.H.Host.world l.fn.host).disk (Manager l.slot)).seen l.last l.gate_at (types_in_force l.now) l.store;
  asked : IsTrue g.H.Host.tells → OnlyAsked (g.H.Host.world l.fn.host) (g.H.Host.world l.host);
  calm : NoneFailed (g.H.Host.faults l.fn.host) (g.H.Host.faults l.host);
  ready : StaysReady (g.H.Host.is_ready l.fn.host) (g.H.Host.is_ready l.host);
}

abbrev pub decreases-loop-store : goal.decreases-loop-store
decreases-loop-store g l = 2 ^ 63 - l.gate_at
