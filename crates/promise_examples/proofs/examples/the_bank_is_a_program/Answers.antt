use Rattle.bank_load.proofs.BankText.{bank_is_checked, bank_is_named}
use Rattle.promise_examples.proofs.examples.the_bank_is_a_program.Goals as goal

pub returns-clause-checked : goal.returns-clause-checked
returns-clause-checked c = bank_is_checked

pub returns-clause-named : goal.returns-clause-named
returns-clause-named c = bank_is_named
