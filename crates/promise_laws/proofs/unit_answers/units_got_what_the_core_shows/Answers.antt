use Rattle.promise_laws.proofs.ToldRuns.{traced-ends}
use Rattle.promise_laws.proofs.unit_answers.units_got_what_the_core_shows.Goals as goal

pub returns : goal.returns
returns c = traced-ends
