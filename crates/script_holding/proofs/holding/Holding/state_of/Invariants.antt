use Rattle.std.proofs.Common.{◌≡◌, drop}
use Rattle.script_holding.specs.Holding.{state_at}
use Rattle.script_holding.proofs.holding.Holding.state_of.Given as goal

abbrev pub invariant-loop-one : goal.invariant-loop-one
invariant-loop-one l = state_at l.grain (drop l.one-index l.self.held) ≡ state_at l.grain l.self.held
