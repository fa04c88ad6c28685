use Rattle.turn_rules.proofs.AgentLinks.{given-others, awaiting-others, freeing-others, heard}
use Rattle.turn_rules.proofs.links.links_stay.Goals as goal
use Rattle.core_laws.proofs.LoadlessKept.{loadless-ends}

pub returns-clause-given : goal.returns-clause-given
returns-clause-given c = λ r e u trail above other given. given-others r u trail e (loadless-ends r above) other given

pub returns-clause-awaiting : goal.returns-clause-awaiting
returns-clause-awaiting c = λ r e u child call depth trail above other awaits. awaiting-others r u child call depth trail e (loadless-ends r above) other awaits

pub returns-clause-freeing : goal.returns-clause-freeing
returns-clause-freeing c = λ r e u held above other frees. freeing-others r u held e (loadless-ends r above) other frees

pub returns-clause-heard : goal.returns-clause-heard
returns-clause-heard c = heard
