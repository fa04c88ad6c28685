use Rattle.promise_examples.proofs.WrittenRun.{written_shows}
use Rattle.promise_examples.proofs.WrittenDoubt.{doubted_shows}
use Rattle.promise_examples.proofs.WrittenVote.{voted_shows}
use Rattle.promise_examples.proofs.examples.a_run_shows_enough.Goals as goal

pub returns-clause-deposit : goal.returns-clause-deposit
returns-clause-deposit c = written_shows

pub returns-clause-doubt : goal.returns-clause-doubt
returns-clause-doubt c = doubted_shows

pub returns-clause-vote : goal.returns-clause-vote
returns-clause-vote c = voted_shows
