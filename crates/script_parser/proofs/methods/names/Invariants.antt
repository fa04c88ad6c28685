use Rattle.std.proofs.Common.{◌≡◌, ◌-◌, length}
use Rattle.script_expressions.specs.Tokens.{name_at}
use Rattle.script_expressions.specs.Calls.{listed}
use Rattle.script_expressions.proofs.ItemLists.{with_front}
use Rattle.script_parser.proofs.methods.names.Given as goal

abbrev pub invariant-loop-turn : goal.invariant-loop-turn
invariant-loop-turn l =
    let stop = l.fn.cursor.stop in
    record {
      kept : l.cursor.stop ≡ stop;
      so_far : with_front l.found.list.items (listed stop (name_at stop) (length l.fn.cursor.tokens.now - l.turn) l.cursor.tokens.now) ≡ listed stop (name_at stop) (length l.fn.cursor.tokens.now) l.fn.cursor.tokens.now;
    }
