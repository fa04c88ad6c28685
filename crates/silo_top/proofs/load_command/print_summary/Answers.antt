use Rattle.std.proofs.Common.{rules, ◌≡◌, ◌∙◌, refl, ap, length}
use Rattle.std.specs.Prelude.{is_err, is_ok}
use Rattle.std.proofs.lemmas.Int.{to_z-of_z}
use mir.Val.{SFits}
use mir.Syntax.{w128}
use Rattle.core_model.specs.LegalRuns.{ends}
use Rattle.history_core.specs.Cores.{run_of}
use Rattle.promise_spec.specs.Endings as ending
use Rattle.bank_load.specs.Summaries.{summary_line, total_kept}
use Rattle.silo_top.proofs.LoadSummary.{nothing_said, emitted_so}
use Rattle.silo_top.proofs.load_command.print_summary.Goals as goal

pub returns-in-Err-clause-says : goal.returns-in-Err-clause-says
returns-in-Err-clause-says g c = λ told. nothing_said (summary_line (ends (run_of c.args.core.now)).manager.settled c.args.requests (total_kept (ends (run_of c.args.core.now)) 64)) (g.H.Host.world c.args.host.now)

pub returns-in-Ok-emit-clause-says : goal.returns-in-Ok-emit-clause-says
returns-in-Ok-emit-clause-says g c = λ told.
    let w = ends (run_of c.args.core.now) in
    let fits : SFits w128 c.total_balance-total.result = search rules in
    let bytes : c.as_slice.result.now ≡ summary_line w.manager.settled c.args.requests (total_kept w 64) =
    c.as_slice.ensures ∙ c.in-Ok.ensures ∙ ap (summary_line w.manager.settled c.args.requests) (to_z-of_z w128 c.total_balance-total.result fits ∙ c.total_balance-total.ensures) in
    emitted_so (summary_line w.manager.settled c.args.requests (total_kept w 64)) c.as_slice.result.now ending.Done (length c.as_slice.result.now) (g.H.Host.world c.args.host.now) (g.H.Host.world c.emit.new.self) bytes (c.in-Ok-emit.ensures.ok told) (λ q. refl) (λ q. cc q)

pub returns-in-Ok-emit-clause-calls : goal.returns-in-Ok-emit-clause-calls
returns-in-Ok-emit-clause-calls g c = record { exact = c.emit.ensures.faults.calm (ap is_ok c.in-Ok-emit.is); ready = c.emit.ensures.ready }

pub returns-clause-says : goal.returns-clause-says
returns-clause-says g c = λ told.
    let w = ends (run_of c.args.core.now) in
    let fits : SFits w128 c.total_balance-total.result = search rules in
    let bytes : c.as_slice.result.now ≡ summary_line w.manager.settled c.args.requests (total_kept w 64) =
    c.as_slice.ensures ∙ c.in-Ok.ensures ∙ ap (summary_line w.manager.settled c.args.requests) (to_z-of_z w128 c.total_balance-total.result fits ∙ c.total_balance-total.ensures) in
    let part = c.emit.ensures.part told in
    emitted_so (summary_line w.manager.settled c.args.requests (total_kept w 64)) c.as_slice.result.now ending.WriteFault part.0 (g.H.Host.world c.args.host.now) (g.H.Host.world c.emit.new.self) bytes part.1 (λ q. absurd (let t : ⊥ = cc q in t)) (λ q. cc q)

pub returns-then-not-keeps_last-clause-says : goal.returns-then-not-keeps_last-clause-says
returns-then-not-keeps_last-clause-says g c = λ told. nothing_said (summary_line (ends (run_of c.args.core.now)).manager.settled c.args.requests (total_kept (ends (run_of c.args.core.now)) 64)) (g.H.Host.world c.args.host.now)

pub returns-clause-calls : goal.returns-clause-calls
returns-clause-calls g c = record { exact = c.emit.ensures.faults.cause (ap is_err c.in-Err-emit.is); ready = c.emit.ensures.ready }
