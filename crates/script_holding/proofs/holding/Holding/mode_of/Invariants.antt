use Rattle.std.proofs.Common.{◌≡◌, drop}
use Rattle.script_holding.specs.Holding.{mode_at}
use Rattle.script_holding.proofs.holding.Holding.mode_of.Given as goal

abbrev pub invariant-loop-one : goal.invariant-loop-one
invariant-loop-one l = mode_at l.grain (drop l.one-index l.self.held) ≡ mode_at l.grain l.self.held
