use Rattle.script_check.specs.Shapes.{value_of}
use Rattle.script_check.proofs.TypeShapes.{front_fits}
use Rattle.script_check.proofs.shapes.push_initials.Goals as goal

pub push-requires : goal.push-requires
push-requires c = front_fits (λ f. value_of f.initial) c.loop-field.state c.args.fields.now c.loop-field.field-index 64 c.loop-field.invariant c.loop-field-test.true c.requires.few
