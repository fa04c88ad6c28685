use Rattle.bank_load.proofs.LoadTexts.{load_read}
use Rattle.bank_load.proofs.laws.load_texts_read_as_their_calls.Goals as goal

pub returns : goal.returns
returns c = load_read
