use Rattle.std.proofs.Common.{◌≡◌, ◌-◌, ◌^◌, ◌<◌, IsTrue}
use Rattle.host_trait.specs.Files.{StaysReady}
use Rattle.host_trait.specs.Faults.{NoneFailed}
use Rattle.host_trait.specs.declared.channels.FileId.TheVariants.{Manager}
use Rattle.promise_spec.specs.Programs.{Program}
use Rattle.log_audit.specs.InForce.{types_in_force, HasShape}
use Rattle.log_audit.proofs.SaidLines.{HasCopied}
use Rattle.log_audit.proofs.records.write_log.Given as goal

abbrev pub invariant-loop-session : goal.invariant-loop-session
invariant-loop-session g l = record {
  bound : l.gate_at < 2 ^ 63;
  shaped : HasShape l.now;
  puts : IsTrue g.H.Host.tells → (p : Program) → p.types ≡ types_in_force l.fn.now → HasCopied p ((g.H.Host.world l.fn.host).disk (Manager l.slot)).seen l.last l.gate_at (types_in_force l.now) (g.H.Host.world l.fn.host) (g.H.Host.world l.host);
  calm : NoneFailed (g.H.Host.faults l.fn.host) (g.H.Host.faults l.host);
  ready : StaysReady (g.H.Host.is_ready l.fn.host) (g.H.Host.is_ready l.host);
}

abbrev pub decreases-loop-session : goal.decreases-loop-session
decreases-loop-session g l = 2 ^ 63 - l.gate_at
