use Rattle.std.proofs.Common.{sym, subst}
use Rattle.host_trait.specs.declared.channels.FileId.TheVariants.{Manager}
use Rattle.promise_spec.specs.Endings.{HasFailedAs}
use Rattle.log_audit.specs.declared.faults.ReportFault.{ReportFault}
use Rattle.log_audit.specs.Endings.{fault_ending}
use Rattle.log_audit.specs.InForce.{types_in_force}
use Rattle.log_audit.specs.RereadFaults.{IsBlockFault}
use Rattle.log_audit.proofs.ReadEntries.{shape_types}
use Rattle.log_audit.proofs.RereadFaults.{folder_failed, block_fault}
use Rattle.log_audit.proofs.records.next_said.Goals as goal

pub next_entry-requires-clause-shape : goal.next_entry-requires-clause-shape
next_entry-requires-clause-shape g c = shape_types c.args.now.now c.requires.shape

pub returns-in-Err-clause-unread : goal.returns-in-Err-clause-unread
returns-in-Err-clause-unread g c told =
    let types = types_in_force c.args.now.now in
    let file = ((g.H.Host.world c.args.host.now).disk (Manager c.args.slot)).seen in
    subst (λ (e : ReportFault). IsBlockFault types c.args.session c.args.gate_at file e) (sym c.unread.ensures)
    (block_fault types file c.args.session c.args.gate_at c.in-Err.fault (λ at place is. c.in-Err.ensures.damaged at place is told))

pub returns-in-Err-clause-calls : goal.returns-in-Err-clause-calls
returns-in-Err-clause-calls g c = record {
  exact = subst (λ (e : ReportFault). HasFailedAs (fault_ending e) (g.H.Host.faults c.args.host.now) (g.H.Host.faults c.next_entry.new.host)) (sym c.unread.ensures) (folder_failed _ _ c.in-Err.fault c.in-Err.ensures.calls.fault);
  ready = c.next_entry.ensures.calls.ready;
}
