use Rattle.std.proofs.Common.{ap}
use Rattle.script_tree.specs.Programs.{program_tree}
use Rattle.history_core.specs.Cores.{run_of}
use Rattle.silo_top.proofs.CarriedLines.{with_core, workers_all, workers_faulted}
use Rattle.silo_top.proofs.line_execution.carry_by_workers.Goals as goal

pub returns-in-Err-clause-carried : goal.returns-in-Err-clause-carried
returns-in-Err-clause-carried g c = λ used.
    workers_faulted g.H.Host.tells (program_tree c.args.checked.now) (g.L.Lines.lines c.args.lines) (run_of c.args.core) c.args.settler.now c.run_with_workers-back.new.settler (g.H.Host.faults c.args.host.now) (g.H.Host.faults c.run_with_workers-back.new.host) (g.H.Host.world c.args.host.now) (g.H.Host.world c.run_with_workers-back.new.host)
    used c.run_with_workers-back.result.0 c.run_with_workers-back.result.1 c.run_with_workers-back.ensures.record_kept c.run_with_workers-back.ensures.beside
    (λ none. let l = c.run_with_workers-back.ensures.lost none in (l.0, l.1, ap g.H.Host.faults l.2, ap g.H.Host.world l.2)) c.in-Err.fault c.in-Err.is

pub returns-clause-carried : goal.returns-clause-carried
returns-clause-carried g c = λ used.
    workers_all g.H.Host.tells (program_tree c.args.checked.now) (g.L.Lines.lines c.args.lines) (run_of c.args.core) c.args.settler.now c.run_with_workers-back.new.settler (g.H.Host.faults c.args.host.now) (g.H.Host.faults c.run_with_workers-back.new.host) (g.H.Host.world c.args.host.now) (g.H.Host.world c.run_with_workers-back.new.host)
    used c.run_with_workers-back.result.0 c.in-Some.core c.in-Some.is c.run_with_workers-back.result.1 c.run_with_workers-back.ensures.record_kept c.run_with_workers-back.ensures.beside
    _ (ap (with_core c.in-Some.core) c.in-Ok.is)
