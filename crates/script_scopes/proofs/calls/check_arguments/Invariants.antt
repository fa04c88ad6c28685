use Rattle.std.proofs.Common.{◌≡◌, map, drop}
use Rattle.script_tree.specs.Exprs.{expr_tree}
use Rattle.script_scopes.specs.Expressions.{arguments_fault}
use Rattle.script_scopes.specs.Settings.{setting_of}
use Rattle.script_scopes.proofs.calls.check_arguments.Given as goal

abbrev pub invariant-loop-arg : goal.invariant-loop-arg
invariant-loop-arg l = arguments_fault (setting_of l.setting) (map (λ n. n.now) l.names.items) (map expr_tree (drop l.arg-index l.args)) ≡ arguments_fault (setting_of l.setting) (map (λ n. n.now) l.names.items) (map expr_tree l.args)
