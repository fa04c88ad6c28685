use Rattle.script_check.proofs.CarriedFields.{kept, added}
use Rattle.script_check.proofs.laws.fields_keep_their_values.Goals as goal

pub returns-clause-kept : goal.returns-clause-kept
returns-clause-kept c = kept

pub returns-clause-added : goal.returns-clause-added
returns-clause-added c = added
