use Rattle.std.proofs.Common.{◌≡◌, ◌+◌, ◌-◌, ◌*◌}
use Rattle.script_tree.specs.Exprs.{expr_tree}
use Rattle.script_expressions.specs.Expressions.{tiers, operand_chain, operand}
use Rattle.script_expressions.proofs.cursor.Cursor.+expression.Given as goal

abbrev pub decreases-expression : goal.decreases-expression
decreases-expression l = 10 * l.depth + 7

abbrev pub decreases-operand : goal.decreases-operand
decreases-operand l = 10 * l.depth

abbrev pub decreases-tier : goal.decreases-tier
decreases-tier l = 10 * l.depth + (l.tier + 1)

abbrev pub invariant-tier-loop-turn : goal.invariant-tier-loop-turn
invariant-tier-loop-turn l =
    record {
      kept : l.self.stop ≡ l.fn.self.stop;
      so_far : operand_chain (tiers (operand l.fn.self.stop l.depth) (l.tier - 1)) l.tier (33 - l.turn) (expr_tree l.left) l.spare l.self.tokens.now ≡ tiers (operand l.fn.self.stop l.depth) l.tier l.room l.fn.self.tokens.now;
    }

abbrev pub decreases-enclosed : goal.decreases-enclosed
decreases-enclosed l = 10 * l.depth + 8
