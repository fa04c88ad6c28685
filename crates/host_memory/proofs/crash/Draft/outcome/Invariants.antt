use Rattle.host_memory.specs.Bytes.{KeepsBytes}
use Rattle.host_memory.proofs.crash.Draft.outcome.Given as goal

abbrev pub invariant-loop-i : goal.invariant-loop-i
invariant-loop-i l = KeepsBytes l.self.base.items l.self.ranges.items l.bytes.items l.i
