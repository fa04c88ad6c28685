use Rattle.turn_rules.proofs.AgentLinks.{due-lock, due-raise, due-refusal, due-raise-refusal, due-child, due-finish, due-end}
use Rattle.turn_rules.proofs.links.what_is_asked_for_is_due.Goals as goal

pub returns-clause-lock : goal.returns-clause-lock
returns-clause-lock c = λ s r u trail g mode asked. (due-lock s r u trail asked.given g mode asked.asks, due-refusal s r u trail asked.given g mode asked.asks)

pub returns-clause-raise : goal.returns-clause-raise
returns-clause-raise c = λ s r u trail g asked. (due-raise s r u trail asked.given g asked.asks, due-raise-refusal s r u trail asked.given g asked.asks)

pub returns-clause-child : goal.returns-clause-child
returns-clause-child c = λ s r u trail index depth call asked. due-child s r u trail asked.given index depth call asked.asks

pub returns-clause-end : goal.returns-clause-end
returns-clause-end c = λ s r u trail e asked play. (due-finish s r u trail asked.given e asked.asks play, due-end s r u trail asked.given e asked.asks play)
