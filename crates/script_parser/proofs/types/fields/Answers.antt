use Rattle.std.proofs.Common.{◌≡◌, ◌-◌, ◌+◌, length, subst, ◌∙◌, arith, Ok}
use Rattle.script_tree.specs.declared.programs.FieldDecl.{FieldDecl}
use Rattle.script_lexer.specs.declared.faults.ParseFault.{ParseFault}
use Rattle.script_lexer.specs.declared.tokens.Word.TheVariants as word
use Rattle.script_parser.specs.Types.{field_at}
use Rattle.script_parser.proofs.PartLists.{repeated_goes}
use Rattle.script_parser.proofs.types.fields.Goals as goal

pub loop-turn-preserved : goal.loop-turn-preserved
loop-turn-preserved c =
    let stop = c.args.cursor.now.stop in
    let all = length c.args.cursor.now.tokens.now in
    let kept = c.if-not-takes_word.ensures.stop ∙ c.loop-turn.invariant.kept in
    let one = subst (λ (s : ParseFault). field_at s c.takes_word.new.self.tokens.now ≡ Ok (c.in_ok-one.one, c.field.new.cursor.tokens.now)) kept c.in_ok-one.ensures.read in
    record {
      kept = c.in_ok-one.ensures.stop ∙ kept;
      so_far = rw c.in_ok-push.ensures.pushed (repeated_goes FieldDecl word.Field (field_at stop) (all - c.loop-turn.turn) (all - (c.loop-turn.turn + 1)) c.loop-turn.found.list.items c.loop-turn.cursor.tokens.now c.takes_word.new.self.tokens.now c.field.new.cursor.tokens.now c.in_ok-one.one _ (omega arith) c.if-not-takes_word.ensures.taken one c.loop-turn.invariant.so_far);
    }
