use Rattle.log_reading.proofs.Upgrading.{session_first, text_first}
use Rattle.log_reading.proofs.body_laws.first_damage_is_named.Goals as goal

pub returns-clause-session : goal.returns-clause-session
returns-clause-session c = session_first

pub returns-clause-text : goal.returns-clause-text
returns-clause-text c = text_first
