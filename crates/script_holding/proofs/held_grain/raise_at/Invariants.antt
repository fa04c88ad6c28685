use Rattle.std.proofs.Common.{◌≡◌, drop, take, ◌++◌}
use Rattle.script_holding.specs.Holding.{change, raised}
use Rattle.script_holding.proofs.held_grain.raise_at.Given as goal

abbrev pub invariant-loop-i : goal.invariant-loop-i
invariant-loop-i l = (l.held.items ≡ l.fn.held.items) × (take l.i l.held.items ++ change l.grain raised (drop l.i l.held.items) ≡ change l.grain raised l.fn.held.items)
