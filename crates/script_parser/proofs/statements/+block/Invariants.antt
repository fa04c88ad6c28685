use Rattle.std.proofs.Common.{◌≡◌, ◌+◌, ◌-◌, ◌*◌, length}
use Rattle.script_tree.specs.Stmts.{stmt_trees}
use Rattle.script_expressions.proofs.ItemLists.{with_front}
use Rattle.script_parser.specs.Statements.{statements, statement_over, block}
use Rattle.script_parser.proofs.statements.+block.Given as goal

abbrev pub decreases-read_block : goal.decreases-read_block
decreases-read_block l = 5 * l.depth

abbrev pub decreases-other_block : goal.decreases-other_block
decreases-other_block l = 5 * l.depth + 1

abbrev pub decreases-choice : goal.decreases-choice
decreases-choice l = 5 * l.depth + 2

abbrev pub decreases-repetition : goal.decreases-repetition
decreases-repetition l = 5 * l.depth + 1

abbrev pub decreases-attempt : goal.decreases-attempt
decreases-attempt l = 5 * l.depth + 2

abbrev pub decreases-attempt_blocks : goal.decreases-attempt_blocks
decreases-attempt_blocks l = 5 * l.depth + 1

abbrev pub decreases-statement : goal.decreases-statement
decreases-statement l = 5 * l.depth + 3

abbrev pub decreases-read_statements : goal.decreases-read_statements
decreases-read_statements l = 5 * l.depth + 4

abbrev pub invariant-read_statements-loop-turn : goal.invariant-read_statements-loop-turn
invariant-read_statements-loop-turn l =
    let stop = l.fn.cursor.stop in
    let one = statement_over stop l.depth (block stop l.depth) in
    record {
      kept : l.cursor.stop ≡ stop;
      so_far : with_front (stmt_trees l.found.list.items) (statements stop one (length l.fn.cursor.tokens.now - l.turn) l.cursor.tokens.now) ≡ statements stop one (length l.fn.cursor.tokens.now) l.fn.cursor.tokens.now;
    }
