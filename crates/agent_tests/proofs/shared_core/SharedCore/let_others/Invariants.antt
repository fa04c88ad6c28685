use Rattle.std.proofs.Common.{◌≡◌}
use Rattle.turn_cell.specs.Passes.{IsPassOf}
use Rattle.agent_tests.proofs.shared_core.SharedCore.let_others.Given as goal

-- what the other does leaves the worker's pass
abbrev pub invariant-loop-planned : goal.invariant-loop-planned
invariant-loop-planned g l = record {
  cell : l.self.cell ≡ l.initial.self.cell;
  pass : l.self.pass ≡ l.initial.self.pass;
  other : IsPassOf l.self.cell.now l.self.other;
}
