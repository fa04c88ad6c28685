use Rattle.promise_spec.proofs.EntryLines.{entry_same}
use Rattle.promise_spec.proofs.laws.one_entry.Goals as goal

pub returns : goal.returns
returns c shape d e plain = entry_same shape plain d e
