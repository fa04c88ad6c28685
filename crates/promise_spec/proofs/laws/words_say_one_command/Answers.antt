use Rattle.promise_spec.proofs.Words.{one_command}
use Rattle.promise_spec.proofs.laws.words_say_one_command.Goals as goal

pub returns : goal.returns
returns c = one_command
