use Rattle.script_check.proofs.ComparedNames.{accepts, refuses, same, further, on, along, parts, types}
use Rattle.script_check.proofs.laws.programs_go_on.Goals as goal

pub returns-clause-accepts : goal.returns-clause-accepts
returns-clause-accepts c = accepts

pub returns-clause-refuses : goal.returns-clause-refuses
returns-clause-refuses c = refuses

pub returns-clause-same : goal.returns-clause-same
returns-clause-same c = same

pub returns-clause-further : goal.returns-clause-further
returns-clause-further c = further

pub returns-clause-on : goal.returns-clause-on
returns-clause-on c = on

pub returns-clause-along : goal.returns-clause-along
returns-clause-along c = along

pub returns-clause-parts : goal.returns-clause-parts
returns-clause-parts c = parts

pub returns-clause-types : goal.returns-clause-types
returns-clause-types c = types
