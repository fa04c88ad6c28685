use Rattle.std.proofs.Common.{[], sym, subst}
use Rattle.promise_spec.specs.Words.{plain_manner}
use Rattle.promise_spec.specs.Commands.{ShowsStates}
use Rattle.promise_spec.specs.Endings.{Ending}
use Rattle.silo_opening.specs.CommandCalls.{HasCalledAs}
use Rattle.silo_top.proofs.ReportCalls.{reported}
use Rattle.silo_top.proofs.report_commands.show.Goals as goal

pub returns-clause-reports : goal.returns-clause-reports
returns-clause-reports g c = λ told. reported ShowsStates plain_manner [] (g.H.Host.world c.args.host.now) (g.H.Host.world c.show.new.host) (g.H.Host.faults c.args.host.now) (g.H.Host.faults c.show.new.host) c.show.result c.report_status.result c.report_status.ensures (c.show.ensures.reports told plain_manner [])

pub returns-clause-calls : goal.returns-clause-calls
returns-clause-calls g c = subst (λ (e : Ending). HasCalledAs e g.H.Host.is_ready g.H.Host.faults c.args.host.now c.show.new.host) (sym c.report_status.ensures) c.show.ensures.calls
