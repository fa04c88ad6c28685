use Rattle.promise_spec.proofs.WrittenFiles.{written_is_log, written_stands, generation_is}
use Rattle.promise_spec.proofs.checkpoints.written_checkpoints_are_logs.Goals as goal

pub returns-clause-log : goal.returns-clause-log
returns-clause-log c = written_is_log

pub returns-clause-generation : goal.returns-clause-generation
returns-clause-generation c = generation_is

pub returns-clause-blocks : goal.returns-clause-blocks
returns-clause-blocks c = written_stands
