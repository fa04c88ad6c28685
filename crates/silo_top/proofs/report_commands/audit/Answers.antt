use Rattle.std.proofs.Common.{[], sym, subst}
use Rattle.promise_spec.specs.Words.{plain_manner}
use Rattle.promise_spec.specs.Commands.{Audits}
use Rattle.promise_spec.specs.Endings.{Ending}
use Rattle.silo_opening.specs.CommandCalls.{HasCalledAs}
use Rattle.silo_top.proofs.ReportCalls.{reported}
use Rattle.silo_top.proofs.report_commands.audit.Goals as goal

pub returns-clause-audits : goal.returns-clause-audits
returns-clause-audits g c = λ told. reported Audits plain_manner [] (g.H.Host.world c.args.host.now) (g.H.Host.world c.print_audit.new.host) (g.H.Host.faults c.args.host.now) (g.H.Host.faults c.print_audit.new.host) c.print_audit.result c.report_status.result c.report_status.ensures (c.print_audit.ensures.audits told plain_manner [])

pub returns-clause-calls : goal.returns-clause-calls
returns-clause-calls g c = subst (λ (e : Ending). HasCalledAs e g.H.Host.is_ready g.H.Host.faults c.args.host.now c.print_audit.new.host) (sym c.report_status.ensures) c.print_audit.ensures.calls
