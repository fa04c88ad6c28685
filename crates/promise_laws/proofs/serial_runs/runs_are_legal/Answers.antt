use Rattle.promise_laws.proofs.LegalRuns.{is_play-true, is_play-is, ends_alike, rule-plays, legal}
use Rattle.promise_laws.proofs.serial_runs.runs_are_legal.Goals as goal

pub returns-clause-tests : goal.returns-clause-tests
returns-clause-tests c = λ types e. (is_play-true types e, is_play-is types e)

pub returns-clause-ends_alike : goal.returns-clause-ends_alike
returns-clause-ends_alike c = ends_alike

pub returns-clause-plays : goal.returns-clause-plays
returns-clause-plays c = rule-plays

pub returns-clause-legal : goal.returns-clause-legal
returns-clause-legal c = legal
