use Rattle.std.proofs.Common.{◌≡◌, drop, take, ◌++◌}
use Rattle.base_types.specs.declared.calls.Value.{Value}
use Rattle.script_holding.specs.Holding.{change, with_field}
use Rattle.script_holding.proofs.held_grain.set_at.Given as goal

abbrev pub invariant-loop-i : goal.invariant-loop-i
invariant-loop-i l = (l.held.items ≡ l.fn.held.items) × ((v : Value) → take l.i l.held.items ++ change l.grain (with_field l.field v) (drop l.i l.held.items) ≡ change l.grain (with_field l.field v) l.fn.held.items)
