use Rattle.std.proofs.Common.{map, drop}
use Rattle.script_tree.specs.Stmts.{stmt_trees}
use Rattle.script_scopes.specs.Settings.{setting_of}
use Rattle.script_scopes.proofs.Blocks.{HasChecked}
use Rattle.script_scopes.proofs.statements.+statement.Given as goal

abbrev pub invariant-check_block-loop-statement : goal.invariant-check_block-loop-statement
invariant-check_block-loop-statement l =
    HasChecked (setting_of l.setting) (map (λ n. n.now) l.names.items) (map (λ n. n.now) l.fn.names.items) (stmt_trees (drop l.statement-index l.body)) (stmt_trees l.body)
