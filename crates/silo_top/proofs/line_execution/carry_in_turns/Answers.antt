use Rattle.std.proofs.Common.{ap}
use Rattle.script_tree.specs.Programs.{program_tree}
use Rattle.history_core.specs.Cores.{run_of}
use Rattle.silo_top.proofs.CarriedLines.{with_core, turns_all}
use Rattle.silo_top.proofs.line_execution.carry_in_turns.Goals as goal

pub returns-in-Ok-clause-carried : goal.returns-in-Ok-clause-carried
returns-in-Ok-clause-carried g c =
    turns_all g.H.Host.tells (program_tree c.args.checked.now) (g.L.Lines.lines c.args.lines) (run_of c.args.core) c.args.settler.now c.run_turns.new.settler (g.H.Host.faults c.args.host.now) (g.H.Host.faults c.run_turns.new.host) (g.H.Host.world c.args.host.now) (g.H.Host.world c.run_turns.new.host)
    c.run_turns.new.core c.run_turns.result c.args.width c.args.picks.now c.args.used.now c.run_turns.new.used c.run_turns.ensures.carries.kept c.run_turns.ensures.used c.run_turns.ensures.carries.beside _ (ap (with_core c.run_turns.new.core) c.in-Ok.is)

pub returns-in-Err-clause-carried : goal.returns-in-Err-clause-carried
returns-in-Err-clause-carried g c =
    turns_all g.H.Host.tells (program_tree c.args.checked.now) (g.L.Lines.lines c.args.lines) (run_of c.args.core) c.args.settler.now c.run_turns.new.settler (g.H.Host.faults c.args.host.now) (g.H.Host.faults c.run_turns.new.host) (g.H.Host.world c.args.host.now) (g.H.Host.world c.run_turns.new.host)
    c.run_turns.new.core c.run_turns.result c.args.width c.args.picks.now c.args.used.now c.run_turns.new.used c.run_turns.ensures.carries.kept c.run_turns.ensures.used c.run_turns.ensures.carries.beside _ (ap (with_core c.run_turns.new.core) c.in-Err.is)
