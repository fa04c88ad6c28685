use Rattle.std.proofs.Common.{◌≡◌, ◌-◌, length}
use Rattle.std.specs.Prelude.{map}
use Rattle.script_tree.specs.Exprs.{expr_tree}
use Rattle.script_expressions.specs.Expressions.{expression}
use Rattle.script_expressions.specs.Calls.{listed}
use Rattle.script_expressions.proofs.ItemLists.{with_front}
use Rattle.script_expressions.proofs.cursor.Cursor.expressions.Given as goal

abbrev pub invariant-loop-turn : goal.invariant-loop-turn
invariant-loop-turn l =
    let stop = l.fn.self.stop in
    record {
      kept : l.self.stop ≡ stop;
      so_far : with_front (map expr_tree l.found.list.items) (listed stop (expression stop l.depth) (length l.fn.self.tokens.now - l.turn) l.self.tokens.now) ≡ listed stop (expression stop l.depth) (length l.fn.self.tokens.now) l.fn.self.tokens.now;
    }
