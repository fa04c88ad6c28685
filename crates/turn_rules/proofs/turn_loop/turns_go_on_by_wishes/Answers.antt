use Rattle.turn_rules.proofs.Turns.{pass-loads, pass-looks, pass-wishes}
use Rattle.turn_rules.proofs.turn_loop.turns_go_on_by_wishes.Goals as goal

pub returns-clause-looks : goal.returns-clause-looks
returns-clause-looks c = pass-looks

pub returns-clause-wishes : goal.returns-clause-wishes
returns-clause-wishes c = pass-wishes

pub returns-clause-loads : goal.returns-clause-loads
returns-clause-loads c = pass-loads
