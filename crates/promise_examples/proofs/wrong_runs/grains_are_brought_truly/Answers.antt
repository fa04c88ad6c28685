use Rattle.promise_examples.proofs.WrongRuns.{loaded_otherwise, loaded_torn, loaded_stale, loaded_early, wished_otherwise, wished_early, loaded_unwanted}
use Rattle.promise_examples.proofs.wrong_runs.grains_are_brought_truly.Goals as goal

pub returns-clause-opening : goal.returns-clause-opening
returns-clause-opening c = loaded_otherwise

pub returns-clause-torn : goal.returns-clause-torn
returns-clause-torn c = loaded_torn

pub returns-clause-stale : goal.returns-clause-stale
returns-clause-stale c = loaded_stale

pub returns-clause-early : goal.returns-clause-early
returns-clause-early c = loaded_early

pub returns-clause-wish : goal.returns-clause-wish
returns-clause-wish c = wished_otherwise

pub returns-clause-turn : goal.returns-clause-turn
returns-clause-turn c = wished_early

pub returns-clause-unwanted : goal.returns-clause-unwanted
returns-clause-unwanted c = loaded_unwanted
