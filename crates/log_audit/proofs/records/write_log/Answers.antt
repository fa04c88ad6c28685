use Rattle.std.proofs.Common.{rules, ◌≡◌, ◌+◌, ◌^◌, ◌<◌, ◌≤◌, length, false, Some, None, Ok, [], refl, sym, subst}
use Rattle.std.proofs.lemmas.Result.{err_from_is_err_and}
use Rattle.host_trait.specs.World.{Disk}
use Rattle.host_trait.proofs.Counts.{none_then}
use Rattle.field_codec.specs.declared.formats.Format.TheVariants.{Two}
use Rattle.host_trait.specs.declared.channels.FileId.TheVariants.{Manager}
use Rattle.log_reading.specs.Entries.{entry_said}
use Rattle.log_reading.specs.Blocks.{entries_said}
use Rattle.log_reading.specs.Steps.{log_base_of, next_in}
use Rattle.script_tree.specs.Programs.{ProgramTree}
use Rattle.log_audit.specs.InForce.{types_in_force}
use Rattle.log_audit.specs.RereadFaults.{IsBlockFault}
use Rattle.log_audit.specs.declared.faults.ReportFault.{ReportFault}
use Rattle.log_audit.specs.Endings.{fault_ending, MayEnd}
use Rattle.promise_spec.specs.Endings.{HasFailedAs}
use Rattle.log_audit.proofs.TextParts.{asked_puts, part_front}
use Rattle.log_audit.proofs.GrainLists.{log_fault}
use Rattle.log_audit.proofs.ReadEntries.{shape_same}
use Rattle.log_audit.proofs.RereadFaults.{folder_ends, folder_failed}
use Rattle.log_audit.proofs.SaidLines.{HasCopied, copied_none, copied_more, copied_cut, copied_all, copied_stopped, block_ends}
use Rattle.log_audit.proofs.ShownReports.{failed_then}
use Rattle.log_audit.proofs.records.write_log.Goals as goal

pub loop-session-init : goal.loop-session-init
loop-session-init g c = record {
  bound = c.in-Ok.ensures.bound.gate;
  shaped = c.requires.shape;
  puts = λ told p typed. copied_none p ((g.H.Host.world c.args.host.now).disk (Manager c.args.slot)).seen (log_base_of c.in-Ok.base) c.in-Ok.base.session c.in-Ok.base.gate_at (types_in_force c.args.now.now) (g.H.Host.world c.args.host.now) (g.H.Host.world c.read_base.new.host)
      typed (c.in-Ok.ensures.begins told p (shape_same p c.args.now.now c.requires.shape typed)) (c.read_base.ensures.asked told);
  calm = c.in-Ok.ensures.calls.calm;
  ready = c.read_base.ensures.calls.ready;
}

pub returns-in-Err-clause-puts : goal.returns-in-Err-clause-puts
returns-in-Err-clause-puts g c told p typed log is = part_front _ _ [] _ _ (asked_puts _ _ (c.read_base.ensures.asked told)) refl

pub returns-in-Err-clause-ended : goal.returns-in-Err-clause-ended
returns-in-Err-clause-ended g c told p typed log is =
    let file = ((g.H.Host.world c.args.host.now).disk (Manager c.args.slot)).seen in
    subst (λ (e : ReportFault). MayEnd (fault_ending e)) (sym c.unread.ensures) (folder_ends p file c.args.slot log is c.in-Err.fault
    (log_fault p file c.args.slot c.in-Err.fault (λ at place fault. c.in-Err.ensures.damaged at place fault told p (shape_same p c.args.now.now c.requires.shape typed)) (λ at fault. c.in-Err.ensures.failed at fault)))

pub returns-in-Err-clause-calls : goal.returns-in-Err-clause-calls
returns-in-Err-clause-calls g c = record {
  exact = subst (λ (e : ReportFault). HasFailedAs (fault_ending e) (g.H.Host.faults c.args.host.now) (g.H.Host.faults c.read_base.new.host)) (sym c.unread.ensures) (folder_failed _ _ c.in-Err.fault c.in-Err.ensures.calls.fault);
  ready = c.read_base.ensures.calls.ready;
}

pub returns-in_err-session-clause-puts : goal.returns-in_err-session-clause-puts
returns-in_err-session-clause-puts g c =
    let r = err_from_is_err_and c.from_residual.result c.from_residual.ensures.1 in
    rw r.1 λ told p typed log is. copied_stopped p _ _ _ _ _ _ _ (c.loop-session.invariant.puts told p typed) (c.next_said.ensures.asked told) log is

pub returns-in_err-session-clause-ended : goal.returns-in_err-session-clause-ended
returns-in_err-session-clause-ended g c =
    let r = err_from_is_err_and c.from_residual.result c.from_residual.ensures.1 in
    let inv = c.loop-session.invariant in
    let last = c.loop-session.last in
    let gate = c.loop-session.gate_at in
    let types = types_in_force c.loop-session.now in
    let file = ((g.H.Host.world c.args.host.now).disk (Manager c.args.slot)).seen in
    rw (r.1, r.2) λ told p typed log is.
    let h = inv.puts told p typed in
    let here = subst (λ (d : Disk). IsBlockFault types last gate (d (Manager c.args.slot)).seen c.in_err-session.field-0.0) h.puts.disk (c.in_err-session.ensures.unread told) in
    block_ends p file last gate types _ _ h c.in_err-session.field-0.0 here log is

pub returns-in_err-session-clause-calls : goal.returns-in_err-session-clause-calls
returns-in_err-session-clause-calls g c =
    let r = err_from_is_err_and c.from_residual.result c.from_residual.ensures.1 in
    rw (r.1, r.2) record {
      exact = failed_then _ _ _ _ c.loop-session.invariant.calm c.in_err-session.ensures.calls.exact;
      ready = λ at was. c.next_said.ensures.calls.ready at (c.loop-session.invariant.ready at was);
    }

pub returns-in_err-write_said-clause-puts : goal.returns-in_err-write_said-clause-puts
returns-in_err-write_said-clause-puts g c =
    let r = err_from_is_err_and c.from_residual-in_err-write_said.result c.from_residual-in_err-write_said.ensures.1 in
    let inv = c.loop-session.invariant in
    let last = c.loop-session.last in
    let gate = c.loop-session.gate_at in
    let types = types_in_force c.loop-session.now in
    let session = c.in-Some.session in
    let entry = entry_said c.in-Some.said in
    let behind = c.in-Some.behind in
    rw r.1 λ told p typed log is.
    let h = inv.puts told p typed in
    let here : next_in Two types last gate ((g.H.Host.world c.loop-session.host).disk (Manager c.args.slot)).seen ≡ Ok (Some (session, entry, behind)) = search rules in
    let there = subst (λ (d : Disk). next_in Two types last gate (d (Manager c.args.slot)).seen ≡ Ok (Some (session, entry, behind))) h.puts.disk here in
    copied_cut p _ last gate types _ _ _ _ h (c.next_said.ensures.asked told) session entry behind there false (c.in_err-write_said.ensures.puts told) log is

pub returns-in_err-write_said-clause-calls : goal.returns-in_err-write_said-clause-calls
returns-in_err-write_said-clause-calls g c =
    let r = err_from_is_err_and c.from_residual-in_err-write_said.result c.from_residual-in_err-write_said.ensures.1 in
    rw (r.1, r.2) record {
      exact = failed_then _ _ _ _ (none_then _ _ _ c.loop-session.invariant.calm c.in_ok-session.ensures.calls.exact) c.in_err-write_said.ensures.calls.exact;
      ready = λ at was. c.write_said.ensures.calls.ready at (c.next_said.ensures.calls.ready at (c.loop-session.invariant.ready at was));
    }

pub loop-session-preserved : goal.loop-session-preserved
loop-session-preserved g c =
    let inv = c.loop-session.invariant in
    let last = c.loop-session.last in
    let gate = c.loop-session.gate_at in
    let types = types_in_force c.loop-session.now in
    let session = c.in-Some.session in
    let entry = entry_said c.in-Some.said in
    let behind = c.in-Some.behind in
    let far : (gate + 5 + length (entries_said entry) ≤ behind) × (behind < 2 ^ 63) = search rules in
    record {
      bound = far.1;
      shaped = c.in_ok-write_said.ensures.shaped;
      puts = λ told p typed.
          let h = inv.puts told p typed in
          let here : next_in Two types last gate ((g.H.Host.world c.loop-session.host).disk (Manager c.args.slot)).seen ≡ Ok (Some (session, entry, behind)) = search rules in
          let there = subst (λ (d : Disk). next_in Two types last gate (d (Manager c.args.slot)).seen ≡ Ok (Some (session, entry, behind))) h.puts.disk here in
          subst (λ (t : ProgramTree). HasCopied p ((g.H.Host.world c.args.host.now).disk (Manager c.args.slot)).seen session behind t (g.H.Host.world c.args.host.now) (g.H.Host.world c.write_said.new.host)) (sym c.in_ok-write_said.ensures.behind) (copied_more p _ last gate types _ _ _ _ h (c.next_said.ensures.asked told) session entry behind there (c.in_ok-write_said.ensures.puts told));
      calm = none_then _ _ _ (none_then _ _ _ inv.calm c.in_ok-session.ensures.calls.exact) c.in_ok-write_said.ensures.calls.exact;
      ready = λ at was. c.write_said.ensures.calls.ready at (c.next_said.ensures.calls.ready at (inv.ready at was));
    }

pub returns-clause-puts : goal.returns-clause-puts
returns-clause-puts g c told p typed log is =
    let inv = c.loop-session.invariant in
    let h = inv.puts told p typed in
    let last = c.loop-session.last in
    let gate = c.loop-session.gate_at in
    let types = types_in_force c.loop-session.now in
    let here : next_in Two types last gate ((g.H.Host.world c.loop-session.host).disk (Manager c.args.slot)).seen ≡ Ok None = search rules in
    let there = subst (λ (d : Disk). next_in Two types last gate (d (Manager c.args.slot)).seen ≡ Ok None) h.puts.disk here in
    copied_all p _ last gate types _ _ _ h (c.next_said.ensures.asked told) log is there
