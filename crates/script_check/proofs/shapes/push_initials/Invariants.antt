use Rattle.std.proofs.Common.{◌≡◌, map, take}
use Rattle.script_check.specs.Shapes.{value_of}
use Rattle.script_check.proofs.shapes.push_initials.Given as goal

abbrev pub invariant-loop-field : goal.invariant-loop-field
invariant-loop-field l = l.state ≡ map (λ f. value_of f.initial) (take l.field-index l.fields)
