use Rattle.promise_examples.proofs.WrongRuns.{another_block}
use Rattle.promise_examples.proofs.wrong_runs.the_block_in_doubt_is_the_batchs.Goals as goal

pub returns : goal.returns
returns c = another_block
