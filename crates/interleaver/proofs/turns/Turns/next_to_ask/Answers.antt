use Rattle.std.proofs.Common.{arith}
use Rattle.interleaver.proofs.SkippedUnits.{all-below}
use Rattle.interleaver.proofs.turns.Turns.next_to_ask.Goals as goal

-- they stand before the end of those that are below the number, and before the one that moved
pub returns-clause-sure : goal.returns-clause-sure
returns-clause-sure c = λ i low high.
    let end = c.moved_between.ensures.within in (
      all-below c.args.self.now.agents.list.items c.requires.older c.sure_end-end.result c.args.self.now.sure c.sure_end-end.ensures.within (c.sure_end-end.ensures.last (omega (arith, low, high, end))) i (omega (arith, high, end)),
      c.moved_between.ensures.others i low high,
    )
