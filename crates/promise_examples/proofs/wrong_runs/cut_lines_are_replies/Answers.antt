use Rattle.promise_examples.proofs.WrongRuns.{cut_elsewhere}
use Rattle.promise_examples.proofs.wrong_runs.cut_lines_are_replies.Goals as goal

pub returns : goal.returns
returns c = cut_elsewhere
