use Rattle.promise_examples.proofs.WrongRuns.{early_reply}
use Rattle.promise_examples.proofs.wrong_runs.replies_come_after_records.Goals as goal

pub returns : goal.returns
returns c = early_reply
