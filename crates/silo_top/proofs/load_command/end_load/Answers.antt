use Rattle.std.proofs.Common.{Result, sym, subst}
use Rattle.history_core.specs.declared.whole_core.Core.{Core}
use Rattle.run_books.specs.declared.faults.RunFault.{RunFault}
use Rattle.silo_top.specs.Continuation.{LoadCounts, LoadSays}
use Rattle.silo_top.proofs.load_command.end_load.Goals as goal

pub returns-in-Ok-clause-counts : goal.returns-in-Ok-clause-counts
returns-in-Ok-clause-counts g c = subst (λ (e : Result Core RunFault). LoadCounts c.args.slot e c.print_summary-status.result (g.H.Host.faults c.args.host.now) (g.H.Host.faults c.print_summary-status.new.host)) (sym c.in-Ok.is) (c.print_summary-status.ensures.calls.exact, c.print_summary-status.ensures.may)

pub returns-in-Ok-clause-says : goal.returns-in-Ok-clause-says
returns-in-Ok-clause-says g c = λ told. subst (λ (e : Result Core RunFault). LoadSays e c.args.requests c.print_summary-status.result (g.H.Host.world c.args.host.now) (g.H.Host.world c.print_summary-status.new.host)) (sym c.in-Ok.is) (c.print_summary-status.ensures.says told)
