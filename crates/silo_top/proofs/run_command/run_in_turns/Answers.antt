use Rattle.silo_top.specs.CallAnswers.{turns_manner}
use Rattle.silo_top.proofs.run_command.run_in_turns.Goals as goal

pub returns-in-Ok-clause-promises : goal.returns-in-Ok-clause-promises
returns-in-Ok-clause-promises g c = λ told.
    (c.windows_in_turns.ensures.ends (g.H.Host.faults c.args.host.now) (g.H.Host.world c.args.host.now) (c.in-Ok.ensures.begins (turns_manner c.args.width c.args.picks.now) c.requires.wide)).promises told

pub returns-in-Ok-clause-answers : goal.returns-in-Ok-clause-answers
returns-in-Ok-clause-answers g c =
    (c.windows_in_turns.ensures.ends (g.H.Host.faults c.args.host.now) (g.H.Host.world c.args.host.now) (c.in-Ok.ensures.begins (turns_manner c.args.width c.args.picks.now) c.requires.wide)).answers

pub returns-in-Err-clause-promises : goal.returns-in-Err-clause-promises
returns-in-Err-clause-promises g c = λ told. c.in-Err.ensures.promises told (turns_manner c.args.width c.args.picks.now)

pub returns-in-Ok-clause-ready : goal.returns-in-Ok-clause-ready
returns-in-Ok-clause-ready g c = λ file was. c.windows_in_turns.ensures.ready file (c.begin_run.ensures.ready file was)
