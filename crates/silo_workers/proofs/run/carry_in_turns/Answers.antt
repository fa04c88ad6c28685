use Rattle.std.proofs.Common.{List, ℕ, subst}
use Rattle.history_core.specs.Cores.{run_of}
use Rattle.interleaver.specs.Turns.{TurnsCarry}
use Rattle.run_books.specs.Stages.{stage_of}
use Rattle.script_tree.specs.Programs.{program_tree}
use Rattle.silo_workers.proofs.run.carry_in_turns.Goals as goal

pub returns-clause-carries : goal.returns-clause-carries
returns-clause-carries g c =
    subst (λ (turns : List ℕ). TurnsCarry {T = Unit {0}} g.H.Host.tells (program_tree c.args.checked.now) (g.L.Lines.lines c.args.lines.now) 1 turns 0
    (stage_of g.H.Host.world g.H.Host.faults (run_of c.args.core.now) c.args.settler.now c.args.host.now)
    (stage_of g.H.Host.world g.H.Host.faults (run_of c.run_turns-2.new.core) c.run_turns-2.new.settler c.run_turns-2.new.host) c.run_turns-2.result) c.new.ensures c.run_turns-2.ensures.carries
