use Rattle.std.proofs.Common.{inl, refl, sym, subst}
use Rattle.host_trait.specs.declared.channels.FileId.TheVariants.{Manager}
use Rattle.promise_spec.specs.Endings.{HasFailedAs}
use Rattle.log_audit.specs.declared.faults.ReportFault.{ReportFault}
use Rattle.log_audit.specs.Endings.{fault_ending, MayEnd}
use Rattle.log_audit.specs.InForce.{types_in_force}
use Rattle.log_audit.proofs.RereadFaults.{folder_failed, folder_ends}
use Rattle.log_audit.proofs.ReadEntries.{same_types}
use Rattle.log_audit.proofs.states.log_grains.Goals as goal

pub returns-in-Ok-clause-found : goal.returns-in-Ok-clause-found
returns-in-Ok-clause-found g c told p first log read =
    c.in-Ok.ensures.found told p (same_types _ p.types (types_in_force c.in_ok-first.first) first c.in_ok-first.ensures.same) log read

pub returns-in-Ok-clause-ended : goal.returns-in-Ok-clause-ended
returns-in-Ok-clause-ended g c told p first log read = inl refl

pub returns-clause-ended : goal.returns-clause-ended
returns-clause-ended g c told p first log read =
    let typed = same_types _ p.types (types_in_force c.in_ok-first.first) first c.in_ok-first.ensures.same in
    let file = ((g.H.Host.world c.args.host.now).disk (Manager c.args.slot)).seen in
    subst (λ (e : ReportFault). MayEnd (fault_ending e)) (sym c.unread.ensures) (folder_ends p file c.args.slot log read c.in-Err.fault (c.in-Err.ensures.unread told p typed log read))

pub returns-clause-calls : goal.returns-clause-calls
returns-clause-calls g c = record {
  exact = subst (λ (e : ReportFault). HasFailedAs (fault_ending e) (g.H.Host.faults c.args.host.now) (g.H.Host.faults c.read_grains.new.host)) (sym c.unread.ensures) (folder_failed _ _ c.in-Err.fault c.in-Err.ensures.calls.fault);
  ready = c.read_grains.ensures.calls.ready;
}
