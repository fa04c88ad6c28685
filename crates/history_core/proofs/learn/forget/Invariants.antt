use Rattle.std.proofs.Common.{◌≡◌, ◌≤◌, length}
use Rattle.core_parts.specs.Pairs.{other_pairs}
use Rattle.history_core.proofs.learn.forget.Given as goal

abbrev pub decreases-loop-unit : goal.decreases-loop-unit
decreases-loop-unit l = length l.learn.pairs

abbrev pub invariant-loop-unit : goal.invariant-loop-unit
invariant-loop-unit l = record {
  others : other_pairs l.learn.pairs l.unit l.grain ≡ other_pairs l.initial.learn.pairs l.unit l.grain;
  spare : l.initial.learn.spare ≤ l.learn.spare;
}
