use Rattle.std.proofs.Common.{◌≡◌, drop}
use Rattle.script_values.specs.Expressions.{field_from}
use Rattle.script_values.proofs.scopes.field_number.Given as goal

abbrev pub invariant-loop-i : goal.invariant-loop-i
invariant-loop-i l = field_from l.i l.name (drop l.i l.fields) ≡ field_from 0 l.name l.fields
