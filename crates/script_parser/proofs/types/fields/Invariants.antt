use Rattle.std.proofs.Common.{◌≡◌, ◌-◌, length}
use Rattle.script_lexer.specs.declared.tokens.Word.TheVariants as word
use Rattle.script_expressions.proofs.ItemLists.{with_front}
use Rattle.script_parser.specs.Types.{field_at, repeated}
use Rattle.script_parser.proofs.types.fields.Given as goal

abbrev pub invariant-loop-turn : goal.invariant-loop-turn
invariant-loop-turn l =
    let stop = l.fn.cursor.stop in
    record {
      kept : l.cursor.stop ≡ stop;
      so_far : with_front (l.found.list.items) (repeated word.Field (field_at stop) (length l.fn.cursor.tokens.now - l.turn) l.cursor.tokens.now) ≡ repeated word.Field (field_at stop) (length l.fn.cursor.tokens.now) l.fn.cursor.tokens.now;
    }
