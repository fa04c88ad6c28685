use Rattle.std.proofs.Common.{inl, inr, ℕ, Err, sym, subst}
use Rattle.std.specs.Prelude.{is_ok}
use Rattle.field_codec.specs.declared.formats.Format.TheVariants.{Two}
use Rattle.log_reading.specs.Steps.{seen_in}
use Rattle.promise_spec.specs.Endings.{Ending, HasFailedAs}
use Rattle.promise_spec.specs.Reports.{line_of, audit_text}
use Rattle.promise_spec.proofs.Openings.{reads_is_live}
use Rattle.log_audit.specs.Lines.{audit_data}
use Rattle.log_audit.specs.ReportOutput.{PutsPart}
use Rattle.log_audit.specs.AuditAnswers.{bad_unit}
use Rattle.log_audit.proofs.AuditAnswers.{first_is}
use Rattle.log_audit.proofs.ShownReports.{failed_then, open_failed, never_bad_use, not_opened, is_audited}
use Rattle.log_audit.proofs.audits.print_audit.Goals as goal

pub returns-in-Ok-clause-audits : goal.returns-in-Ok-clause-audits
returns-in-Ok-clause-audits g c told manner asked =
    let old = g.H.Host.world c.args.host.now in
    let mid = g.H.Host.world c.audit.new.host in
    let new = g.H.Host.world c.write_audit.new.host in
    let report = c.in-Ok.report in
    let a = c.in-Ok.ensures.audited told in
    let unit = bad_unit report.first_bad in
    let part : PutsPart (audit_text a.log unit) (is_ok c.write_audit.result) mid new =
    subst (λ (n : ℕ). PutsPart (line_of (audit_data n unit)) (is_ok c.write_audit.result) mid new) a.count (c.write_audit.ensures.puts told) in
    let live = reads_is_live Two (seen_in old.disk) a.live a.log a.reads in
    inr (is_audited a.live old mid (c.in-Ok.ensures.settled told a.live live) (c.in-Ok.ensures.only told) unit a.log manner asked new (g.H.Host.faults c.args.host.now) (g.H.Host.faults c.write_audit.new.host) c.write_audit.result
    a.reads part c.write_audit.ensures.ended (failed_then _ _ _ _ c.in-Ok.ensures.calls.calm c.write_audit.ensures.calls.exact) (first_is a.log report.first_bad a.first))

pub returns-in-Ok-clause-calls : goal.returns-in-Ok-clause-calls
returns-in-Ok-clause-calls g c = record {
  exact = failed_then _ _ _ _ c.in-Ok.ensures.calls.calm c.write_audit.ensures.calls.exact;
  ready = λ file was. c.write_audit.ensures.calls.ready file (c.audit.ensures.calls.ready file was);
}

pub returns-in-Ok-clause-good : goal.returns-in-Ok-clause-good
returns-in-Ok-clause-good g c = never_bad_use c.write_audit.result

pub returns-in-Err-clause-audits : goal.returns-in-Err-clause-audits
returns-in-Err-clause-audits g c told manner asked =
    inl (not_opened {A = Unit {0}} manner asked (g.H.Host.world c.args.host.now) (g.H.Host.world c.audit.new.host) (g.H.Host.faults c.args.host.now) (g.H.Host.faults c.audit.new.host) (Err c.unopened.result) c.in-Err.fault c.unopened.ensures
    (c.in-Err.ensures.only told) (c.in-Err.ensures.refused told) c.in-Err.ensures.calls.fault)

pub returns-in-Err-clause-calls : goal.returns-in-Err-clause-calls
returns-in-Err-clause-calls g c = record {
  exact = subst (λ (e : Ending). HasFailedAs e (g.H.Host.faults c.args.host.now) (g.H.Host.faults c.audit.new.host)) (sym c.unopened.ensures) (open_failed _ _ c.in-Err.fault c.in-Err.ensures.calls.fault);
  ready = c.audit.ensures.calls.ready;
}

pub returns-in-Err-clause-good : goal.returns-in-Err-clause-good
returns-in-Err-clause-good g c = never_bad_use {A = Unit {0}} (Err c.unopened.result)
