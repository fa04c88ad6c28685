use Rattle.std.proofs.Common.{◌≡◌, inl, inr, Err, sym, ◌∙◌, ap, subst}
use Rattle.host_trait.specs.World.{Image}
use Rattle.log_reading.specs.Steps.{seen_in}
use Rattle.silo_opening.specs.OpenedSilo.{IsOpenedFrom}
use Rattle.silo_opening.proofs.OpeningCalls.{opens_same}
use Rattle.promise_spec.specs.Openings.{opened_as}
use Rattle.promise_spec.specs.Endings.{Ending, HasFailedAs}
use Rattle.log_audit.proofs.ShownReports.{failed_then, open_failed, never_bad_use, not_opened, is_shown}
use Rattle.log_audit.proofs.states.show.Goals as goal

pub write_show-requires-clause-programs : goal.write_show-requires-clause-programs
write_show-requires-clause-programs g c = c.in-Ok.ensures.bounds.programs

pub returns-in-Ok-clause-reports : goal.returns-in-Ok-clause-reports
returns-in-Ok-clause-reports g c told manner asked =
    let old = g.H.Host.world c.args.host.now in
    let mid = g.H.Host.world c.open_silo.new.host in
    let opened = c.in-Ok.opened in
    let run = c.in-Ok.ensures.only told in
    let same : seen_in mid.disk ≡ seen_in old.disk = opens_same _ old mid run in
    let o : IsOpenedFrom (seen_in mid.disk) opened = subst (λ (image : Image). IsOpenedFrom image opened) (sym same) (c.in-Ok.ensures.opened told).opened in
    let shown = c.write_show.ensures.puts told o in
    inr (is_shown opened.slot old mid (c.in-Ok.ensures.opened told).settled run shown.0 o.log manner asked (g.H.Host.world c.write_show.new.host) (g.H.Host.faults c.args.host.now) (g.H.Host.faults c.write_show.new.host) c.write_show.result
    (ap (λ (image : Image). opened_as image) (sym same) ∙ o.reads) shown.1 shown.2 (c.write_show.ensures.ended told o)
    (failed_then _ _ _ _ c.in-Ok.ensures.calls.calm c.write_show.ensures.calls.exact))

pub returns-in-Ok-clause-calls : goal.returns-in-Ok-clause-calls
returns-in-Ok-clause-calls g c = record {
  exact = failed_then _ _ _ _ c.in-Ok.ensures.calls.calm c.write_show.ensures.calls.exact;
  ready = λ file was. c.write_show.ensures.calls.ready file (c.open_silo.ensures.calls.ready file was);
}

pub returns-in-Ok-clause-good : goal.returns-in-Ok-clause-good
returns-in-Ok-clause-good g c = never_bad_use c.write_show.result

pub returns-in-Err-clause-reports : goal.returns-in-Err-clause-reports
returns-in-Err-clause-reports g c told manner asked =
    inl (not_opened {A = Unit {0}} manner asked (g.H.Host.world c.args.host.now) (g.H.Host.world c.open_silo.new.host) (g.H.Host.faults c.args.host.now) (g.H.Host.faults c.open_silo.new.host) (Err c.unopened.result) c.in-Err.fault c.unopened.ensures
    (c.in-Err.ensures.only told) (c.in-Err.ensures.refused told) c.in-Err.ensures.calls.fault)

pub returns-in-Err-clause-calls : goal.returns-in-Err-clause-calls
returns-in-Err-clause-calls g c = record {
  exact = subst (λ (e : Ending). HasFailedAs e (g.H.Host.faults c.args.host.now) (g.H.Host.faults c.open_silo.new.host)) (sym c.unopened.ensures) (open_failed _ _ c.in-Err.fault c.in-Err.ensures.calls.fault);
  ready = c.open_silo.ensures.calls.ready;
}

pub returns-in-Err-clause-good : goal.returns-in-Err-clause-good
returns-in-Err-clause-good g c = never_bad_use {A = Unit {0}} (Err c.unopened.result)
