use Rattle.turn_rules.proofs.AgentLinks.{due-release}
use Rattle.turn_rules.proofs.links.freed_locks_are_due.Goals as goal

pub returns : goal.returns
returns c = due-release
