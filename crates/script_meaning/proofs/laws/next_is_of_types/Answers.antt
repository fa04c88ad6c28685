use Rattle.script_meaning.proofs.AskedTypes.{next_is_of_types_lem}
use Rattle.script_meaning.proofs.laws.next_is_of_types.Goals as goal

pub returns : goal.returns
returns c = next_is_of_types_lem
