use Rattle.std.proofs.Common.{◌≡◌, map, take, length}
use Rattle.script_check.proofs.shapes.params_of.Given as goal

abbrev pub invariant-loop-method : goal.invariant-loop-method
invariant-loop-method l = l.params ≡ map (λ m. length m.params.list.items) (take l.method-index l.methods)
