use Rattle.promise_spec.proofs.PlainNames.{plain_names}
use Rattle.promise_spec.proofs.laws.checked_programs_have_plain_names.Goals as goal

pub returns : goal.returns
returns c = plain_names
