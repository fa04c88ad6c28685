use Rattle.std.proofs.Common.{◌-◌, ◌≤◌, length}
use Rattle.interleaver.proofs.turns.Turns.sure_end.Given as goal

abbrev pub invariant-loop-end : goal.invariant-loop-end
invariant-loop-end l = record {
  low : l.from ≤ l.end;
  high : l.end ≤ length l.self.agents.list.items;
}

abbrev pub decreases-loop-end : goal.decreases-loop-end
decreases-loop-end l = l.end - l.from
