use Rattle.promise_examples.proofs.WrongRuns.{behind_the_log}
use Rattle.promise_examples.proofs.wrong_runs.nothing_stands_behind_the_log.Goals as goal

pub returns-clause-run : goal.returns-clause-run
returns-clause-run c p r course image keeps = behind_the_log p r course image keeps.exit

pub returns-clause-load : goal.returns-clause-load
returns-clause-load c p r course image n seed keeps = behind_the_log p r course image keeps.exit
