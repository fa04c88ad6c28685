use Rattle.promise_examples.proofs.FirstDeposit.{torn, cut}
use Rattle.promise_examples.proofs.examples.torn_folders_have_no_log.Goals as goal

pub returns-clause-block : goal.returns-clause-block
returns-clause-block c = torn

pub returns-clause-version : goal.returns-clause-version
returns-clause-version c = cut
