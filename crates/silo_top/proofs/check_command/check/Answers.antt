use Rattle.std.proofs.Common.{◌≡◌, ◌∙◌, [], ap}
use Rattle.std.specs.Prelude.{is_ok, is_err}
use Rattle.two_silos.specs.GeneratedEvents.{checked}
use Rattle.two_silos.specs.Summaries.{summary_of, line_of}
use Rattle.promise_spec.specs.Words.{plain_manner}
use Rattle.silo_top.proofs.CheckCalls.{starved_checks, printed_checks, cut_checks}
use Rattle.silo_top.proofs.check_command.check.Goals as goal

pub returns-in-Err-clause-checks : goal.returns-in-Err-clause-checks
returns-in-Err-clause-checks g c = λ told. starved_checks c.args.starts c.args.seed plain_manner [] (g.H.Host.world c.args.host.now) (g.H.Host.faults c.args.host.now)

pub returns-in-Err-line-clause-checks : goal.returns-in-Err-line-clause-checks
returns-in-Err-line-clause-checks g c = λ told. starved_checks c.args.starts c.args.seed plain_manner [] (g.H.Host.world c.args.host.now) (g.H.Host.faults c.args.host.now)

pub returns-in-Ok-emit-clause-checks : goal.returns-in-Ok-emit-clause-checks
returns-in-Ok-emit-clause-checks g c = λ told.
    let bytes : c.as_bytes.result.now ≡ line_of (summary_of c.args.starts (checked c.args.starts c.args.seed)) = c.as_bytes.ensures.value ∙ c.in-Ok-line.ensures ∙ ap line_of c.in-Ok.ensures.summary in
    printed_checks c.args.starts c.args.seed plain_manner [] c.as_bytes.result.now (g.H.Host.world c.args.host.now) (g.H.Host.world c.emit.new.self) (g.H.Host.faults c.args.host.now) (g.H.Host.faults c.emit.new.self) bytes
    (c.in-Ok-emit.ensures.ok told) (c.emit.ensures.faults.calm (ap is_ok c.in-Ok-emit.is))

pub returns-clause-checks : goal.returns-clause-checks
returns-clause-checks g c = λ told.
    let bytes : c.as_bytes.result.now ≡ line_of (summary_of c.args.starts (checked c.args.starts c.args.seed)) = c.as_bytes.ensures.value ∙ c.in-Ok-line.ensures ∙ ap line_of c.in-Ok.ensures.summary in
    let part = c.emit.ensures.part told in
    cut_checks c.args.starts c.args.seed plain_manner [] c.as_bytes.result.now part.0 (g.H.Host.world c.args.host.now) (g.H.Host.world c.emit.new.self) (g.H.Host.faults c.args.host.now) (g.H.Host.faults c.emit.new.self) bytes
    part.1 (c.emit.ensures.faults.cause (ap is_err c.in-Err-emit.is))

pub returns-in-Ok-emit-clause-calls : goal.returns-in-Ok-emit-clause-calls
returns-in-Ok-emit-clause-calls g c = record { exact = c.emit.ensures.faults.calm (ap is_ok c.in-Ok-emit.is); ready = c.emit.ensures.ready }

pub returns-clause-calls : goal.returns-clause-calls
returns-clause-calls g c = record { exact = c.emit.ensures.faults.cause (ap is_err c.in-Err-emit.is); ready = c.emit.ensures.ready }
