use Rattle.std.proofs.Common.{List, subst}
use Rattle.history_core.specs.Cores.{run_of}
use Rattle.request_wire.specs.declared.requests.Line.{Line}
use Rattle.script_tree.specs.Programs.{program_tree}
use Rattle.silo_top.specs.CallAnswers.{turns_manner}
use Rattle.silo_top.specs.LineExecution.{CarriedLines}
use Rattle.silo_top.proofs.load_command.load_in_turns.Goals as goal
use Rattle.run_books.specs.Stages.{side_of, stage_of}

pub returns-in-Err-clause-loads : goal.returns-in-Err-clause-loads
returns-in-Err-clause-loads g c = λ told. c.in-Err.ensures.loads told (turns_manner c.args.width c.args.picks.now)

pub returns-clause-loads : goal.returns-clause-loads
returns-clause-loads g c = λ told. c.in-Ok.ensures.keeps told (turns_manner c.args.width c.args.picks.now) c.carry_in_turns-ended.new.settler (g.H.Host.faults c.carry_in_turns-ended.new.host) (g.H.Host.world c.carry_in_turns-ended.new.host) c.carry_in_turns-ended.result c.len-requests.result c.end_load.result (g.H.Host.faults c.end_load.new.host) (g.H.Host.world c.end_load.new.host)
    (record {
      wide = c.requires.wide;
      used = c.carry_in_turns-ended.new.used;
      carried = subst (λ (ls : List Line). CarriedLines g.H.Host.tells (turns_manner c.args.width c.args.picks.now) (program_tree c.in-Ok.begun.started.checked) ls 0 c.carry_in_turns-ended.new.used (stage_of g.H.Host.world g.H.Host.faults (run_of c.in-Ok.begun.started.core) c.in-Ok.begun.started.settler c.begin_load.new.host) (side_of g.H.Host.world g.H.Host.faults c.carry_in_turns-ended.new.settler c.carry_in_turns-ended.new.host) c.carry_in_turns-ended.result)
          c.new-placed.ensures c.carry_in_turns-ended.ensures.carried;
    })
    (λ file. g.met.H.Host.seen_may_stay c.carry_in_turns-ended.new.host file told) c.end_load.ensures.counts (c.end_load.ensures.says told) c.len-requests.ensures

pub returns-clause-answers : goal.returns-clause-answers
returns-clause-answers g c = c.in-Ok.ensures.answers_on (turns_manner c.args.width c.args.picks.now) c.carry_in_turns-ended.new.settler (g.H.Host.faults c.carry_in_turns-ended.new.host) (g.H.Host.world c.carry_in_turns-ended.new.host) c.carry_in_turns-ended.result c.end_load.result (g.H.Host.faults c.end_load.new.host)
    (record {
      wide = c.requires.wide;
      used = c.carry_in_turns-ended.new.used;
      carried = subst (λ (ls : List Line). CarriedLines g.H.Host.tells (turns_manner c.args.width c.args.picks.now) (program_tree c.in-Ok.begun.started.checked) ls 0 c.carry_in_turns-ended.new.used (stage_of g.H.Host.world g.H.Host.faults (run_of c.in-Ok.begun.started.core) c.in-Ok.begun.started.settler c.begin_load.new.host) (side_of g.H.Host.world g.H.Host.faults c.carry_in_turns-ended.new.settler c.carry_in_turns-ended.new.host) c.carry_in_turns-ended.result)
          c.new-placed.ensures c.carry_in_turns-ended.ensures.carried;
    })
    c.end_load.ensures.counts

pub returns-clause-ready : goal.returns-clause-ready
returns-clause-ready g c = λ file was. c.end_load.ensures.ready file (c.carry_in_turns-ended.ensures.safe.ready file (c.begin_load.ensures.ready file was))
