use Rattle.std.proofs.Common.{◌≡◌, ℕ, List, Ok, inl, inr, Err, sym, ◌∙◌, ap, subst}
use Rattle.host_trait.specs.World.{Image}
use Rattle.host_trait.specs.declared.channels.FileId.TheVariants.{Manager, Program as ProgramFile}
use Rattle.field_codec.specs.declared.formats.Format.TheVariants.{Two}
use Rattle.log_reading.specs.Sessions.{sessions_read}
use Rattle.log_reading.specs.Steps.{seen_in}
use Rattle.silo_opening.specs.OpenedSilo.{IsOpenedFrom}
use Rattle.silo_opening.proofs.OpeningCalls.{opens_same}
use Rattle.promise_spec.specs.Openings.{program_in_file, opened_as}
use Rattle.promise_spec.specs.Endings.{Ending, HasFailedAs}
use Rattle.log_audit.proofs.ShownReports.{failed_then, open_failed, never_bad_use, not_opened, is_history}
use Rattle.log_audit.proofs.records.history.Goals as goal

pub write_history-requires-clause-programs : goal.write_history-requires-clause-programs
write_history-requires-clause-programs g c = c.in-Ok.ensures.bounds.programs

pub returns-in-Ok-clause-reports : goal.returns-in-Ok-clause-reports
returns-in-Ok-clause-reports g c told manner asked =
    let old = g.H.Host.world c.args.host.now in
    let mid = g.H.Host.world c.open_silo.new.host in
    let opened = c.in-Ok.opened in
    let run = c.in-Ok.ensures.only told in
    let same : seen_in mid.disk ≡ seen_in old.disk = opens_same _ old mid run in
    let o : IsOpenedFrom (seen_in mid.disk) opened = subst (λ (image : Image). IsOpenedFrom image opened) (sym same) (c.in-Ok.ensures.opened told).opened in
    let sessions : Image → List ℕ = λ image. sessions_read Two o.first (image (Manager opened.slot)) in
    let first : program_in_file (seen_in old.disk (ProgramFile opened.slot)) ≡ Ok o.first = ap (λ (image : Image). program_in_file (image (ProgramFile opened.slot))) (sym same) ∙ o.first_is in
    inr (is_history opened.slot old mid (c.in-Ok.ensures.opened told).settled run (sessions (seen_in mid.disk)) o.log manner asked (g.H.Host.world c.write_history.new.host) (g.H.Host.faults c.args.host.now) (g.H.Host.faults c.write_history.new.host) c.write_history.result
    (ap (λ (image : Image). opened_as image) (sym same) ∙ o.reads) (c.write_history.ensures.puts told o) (c.write_history.ensures.ended told o)
    (failed_then _ _ _ _ c.in-Ok.ensures.calls.calm c.write_history.ensures.calls.exact) o.first first (ap sessions same))

pub returns-in-Ok-clause-calls : goal.returns-in-Ok-clause-calls
returns-in-Ok-clause-calls g c = record {
  exact = failed_then _ _ _ _ c.in-Ok.ensures.calls.calm c.write_history.ensures.calls.exact;
  ready = λ file was. c.write_history.ensures.calls.ready file (c.open_silo.ensures.calls.ready file was);
}

pub returns-in-Ok-clause-good : goal.returns-in-Ok-clause-good
returns-in-Ok-clause-good g c = never_bad_use c.write_history.result

pub returns-in-Err-clause-reports : goal.returns-in-Err-clause-reports
returns-in-Err-clause-reports g c told manner asked =
    inl (not_opened {A = Unit {0}} manner asked (g.H.Host.world c.args.host.now) (g.H.Host.world c.open_silo.new.host) (g.H.Host.faults c.args.host.now) (g.H.Host.faults c.open_silo.new.host) (Err c.unopened.result) c.in-Err.fault c.unopened.ensures
    (c.in-Err.ensures.only told) (c.in-Err.ensures.refused told) c.in-Err.ensures.calls.fault)

pub returns-in-Err-clause-calls : goal.returns-in-Err-clause-calls
returns-in-Err-clause-calls g c = record {
  exact = subst (λ (e : Ending). HasFailedAs e (g.H.Host.faults c.args.host.now) (g.H.Host.faults c.open_silo.new.host)) (sym c.unopened.ensures) (open_failed _ _ c.in-Err.fault c.in-Err.ensures.calls.fault);
  ready = c.open_silo.ensures.calls.ready;
}

pub returns-in-Err-clause-good : goal.returns-in-Err-clause-good
returns-in-Err-clause-good g c = never_bad_use {A = Unit {0}} (Err c.unopened.result)
