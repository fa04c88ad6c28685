use Rattle.upgraded_logs.proofs.Fields.{fields}
use Rattle.upgraded_logs.proofs.Standings.{programs, last}
use Rattle.upgraded_logs.proofs.laws.states_have_their_fields.Goals as goal

pub returns-clause-fields : goal.returns-clause-fields
returns-clause-fields c = fields

pub returns-clause-programs : goal.returns-clause-programs
returns-clause-programs c = programs

pub returns-clause-last : goal.returns-clause-last
returns-clause-last c = last
