use Rattle.std.proofs.Common.{◌≡◌, ◌++◌, ◌∷◌, [], ◌-◌, ◌+◌, length, subst, ◌∙◌, arith, Ok}
use Rattle.std.specs.Prelude.{map}
use Rattle.std.proofs.lemmas.List.{map_push}
use Rattle.script_tree.specs.Programs.{TypeTree, type_tree}
use Rattle.script_lexer.specs.declared.faults.ParseFault.{ParseFault}
use Rattle.script_lexer.specs.declared.tokens.Word.TheVariants as word
use Rattle.script_parser.specs.Types.{type_at}
use Rattle.script_parser.proofs.PartLists.{repeated_goes}
use Rattle.script_parser.proofs.types.types.Goals as goal

pub loop-turn-preserved : goal.loop-turn-preserved
loop-turn-preserved c =
    let stop = c.args.cursor.now.stop in
    let all = length c.args.cursor.now.tokens.now in
    let kept = c.if-not-takes_word.ensures.stop ∙ c.loop-turn.invariant.kept in
    let one = subst (λ (s : ParseFault). type_at s c.args.depth c.takes_word.new.self.tokens.now ≡ Ok (type_tree c.in_ok-one.one, c.read_type.new.cursor.tokens.now)) kept c.in_ok-one.ensures.read in
    let found : map type_tree c.push.new.self.list.items ≡ map type_tree c.loop-turn.found.list.items ++ type_tree c.in_ok-one.one ∷ [] = rw c.in_ok-push.ensures.pushed (map_push type_tree c.loop-turn.found.list.items c.in_ok-one.one) in
    record {
      kept = c.in_ok-one.ensures.stop ∙ kept;
      so_far = rw found (repeated_goes TypeTree word.Type (type_at stop c.args.depth) (all - c.loop-turn.turn) (all - (c.loop-turn.turn + 1)) (map type_tree c.loop-turn.found.list.items) c.loop-turn.cursor.tokens.now c.takes_word.new.self.tokens.now c.read_type.new.cursor.tokens.now (type_tree c.in_ok-one.one) _ (omega arith) c.if-not-takes_word.ensures.taken one c.loop-turn.invariant.so_far);
    }
