use Rattle.promise_spec.proofs.EntryLines.{output_same}
use Rattle.promise_spec.proofs.laws.one_output.Goals as goal

pub returns : goal.returns
returns c shape before now ds es r s plain = output_same shape plain before now ds es r s
