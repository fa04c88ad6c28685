use Rattle.std.proofs.Common.{◌≡◌, map, take}
use Rattle.script_tree.specs.Programs.{type_tree}
use Rattle.script_check.specs.Shapes.{type_shape}
use Rattle.script_check.proofs.shapes.push_shapes.Given as goal

abbrev pub invariant-loop-of_type : goal.invariant-loop-of_type
invariant-loop-of_type l = l.shapes ≡ map (λ t. type_shape (type_tree t)) (take l.of_type-index l.types)
