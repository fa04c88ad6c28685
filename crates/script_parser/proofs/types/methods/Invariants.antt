use Rattle.std.proofs.Common.{◌≡◌, ◌-◌, length}
use Rattle.std.specs.Prelude.{map}
use Rattle.script_tree.specs.Programs.{method_tree}
use Rattle.script_lexer.specs.declared.tokens.Word.TheVariants as word
use Rattle.script_expressions.proofs.ItemLists.{with_front}
use Rattle.script_parser.specs.Methods.{method_at}
use Rattle.script_parser.specs.Types.{repeated}
use Rattle.script_parser.proofs.types.methods.Given as goal

abbrev pub invariant-loop-turn : goal.invariant-loop-turn
invariant-loop-turn l =
    let stop = l.fn.cursor.stop in
    record {
      kept : l.cursor.stop ≡ stop;
      so_far : with_front (map method_tree l.found.list.items) (repeated word.Method (method_at stop l.depth) (length l.fn.cursor.tokens.now - l.turn) l.cursor.tokens.now) ≡ repeated word.Method (method_at stop l.depth) (length l.fn.cursor.tokens.now) l.fn.cursor.tokens.now;
    }
