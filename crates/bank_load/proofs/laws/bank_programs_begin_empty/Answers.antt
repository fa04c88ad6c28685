use Rattle.bank_load.proofs.BankText.{bank_is_empty}
use Rattle.bank_load.proofs.laws.bank_programs_begin_empty.Goals as goal

pub returns : goal.returns
returns c = bank_is_empty
