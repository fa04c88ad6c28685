use Rattle.std.proofs.Common.{◌≡◌, ◌++◌, List, take, drop}
use Rattle.base_types.specs.declared.calls.Value.{Value}
use Rattle.script_meaning.specs.Play.{insert}
use Rattle.script_player.proofs.units.place_of.Given as goal

abbrev pub invariant-loop-i : goal.invariant-loop-i
invariant-loop-i l = (state : List Value) → take l.i l.list ++ insert (l.grain, state) (drop l.i l.list) ≡ insert (l.grain, state) l.list
