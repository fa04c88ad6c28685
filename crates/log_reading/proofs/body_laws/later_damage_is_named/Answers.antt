use Rattle.log_reading.proofs.Upgrading.{name_next, bytes_behind}
use Rattle.log_reading.proofs.body_laws.later_damage_is_named.Goals as goal

pub returns-clause-name : goal.returns-clause-name
returns-clause-name c = name_next

pub returns-clause-behind : goal.returns-clause-behind
returns-clause-behind c = bytes_behind
