use Rattle.turn_rules.proofs.Frame.{got-stays}
use Rattle.turn_rules.proofs.AgentLinks.{outcomes-stay}
use Rattle.turn_rules.proofs.OthersEvents.{given-on, still-on, wants-on}
use Rattle.turn_rules.proofs.frames.others_leave_a_unit.Goals as goal
use Rattle.core_laws.proofs.LoadlessKept.{loadless-ends}

pub returns-clause-still : goal.returns-clause-still
returns-clause-still c = λ r e u above other begun. still-on r e u above other begun

pub returns-clause-got : goal.returns-clause-got
returns-clause-got c = λ r e u other. got-stays r u e other

pub returns-clause-known : goal.returns-clause-known
returns-clause-known c = λ r e u o above known. outcomes-stay r e (loadless-ends r above) u o known

pub returns-clause-given : goal.returns-clause-given
returns-clause-given c = λ r e u trail above other given. given-on r e u above other trail given

pub returns-clause-wants : goal.returns-clause-wants
returns-clause-wants c = λ types r e u x above other begun wants. wants-on r e u above other types x begun wants
