use Rattle.std.proofs.Common.{◌≡◌, map, take}
use Rattle.script_check.specs.Carrying.{kept_value}
use Rattle.script_check.proofs.carrying.carry_values.Given as goal

abbrev pub invariant-loop-field : goal.invariant-loop-field
invariant-loop-field l = l.state ≡ map (kept_value l.olds l.values) (take l.field-index l.news)
