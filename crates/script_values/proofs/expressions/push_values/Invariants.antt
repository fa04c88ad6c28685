use Rattle.std.proofs.Common.{◌≡◌, map, drop}
use Rattle.script_tree.specs.Exprs.{expr_tree}
use Rattle.script_values.specs.Expressions.{values_in}
use Rattle.script_values.specs.Scopes.{surroundings}
use Rattle.script_values.proofs.Lists.{behind}
use Rattle.script_values.proofs.expressions.push_values.Given as goal

abbrev pub invariant-loop-expression : goal.invariant-loop-expression
invariant-loop-expression l = behind l.values (values_in (surroundings l.scope) (map expr_tree (drop l.expression-index l.expressions))) ≡ values_in (surroundings l.scope) (map expr_tree l.expressions)
