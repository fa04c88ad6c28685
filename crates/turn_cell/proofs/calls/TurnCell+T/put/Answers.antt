use Rattle.std.proofs.Common.{rules}
use Rattle.turn_cell.proofs.CellRule.{adds}
use Rattle.turn_cell.proofs.calls.TurnCell+T.put.Goals as goal

pub returns-in-Ok-clause-call : goal.returns-in-Ok-clause-call
returns-in-Ok-clause-call g c =
    let law = g.T.TurnObject in
    adds law.state law.after law.reply c.args.pass.now.me.0 c.take_turn-word.new.pass.me.0 c.publish.new.pass.me.0 c.args.event c.of-asked.result.value c.in-Ok.reply c.of.result.value
    c.take_turn-word.ensures.seen (search rules) (search rules) (search rules) (λ i. (c.publish.ensures.back i).0)
