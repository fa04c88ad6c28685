use Rattle.std.proofs.Common.{◌≡◌, ◌++◌, ◌∷◌, [], ◌-◌, ◌+◌, length, subst, ◌∙◌, arith, Ok}
use Rattle.std.specs.Prelude.{map}
use Rattle.std.proofs.lemmas.List.{map_push}
use Rattle.script_tree.specs.Programs.{MethodTree, method_tree}
use Rattle.script_lexer.specs.declared.faults.ParseFault.{ParseFault}
use Rattle.script_lexer.specs.declared.tokens.Word.TheVariants as word
use Rattle.script_parser.specs.Methods.{method_at}
use Rattle.script_parser.proofs.PartLists.{repeated_goes}
use Rattle.script_parser.proofs.types.methods.Goals as goal

pub loop-turn-preserved : goal.loop-turn-preserved
loop-turn-preserved c =
    let stop = c.args.cursor.now.stop in
    let all = length c.args.cursor.now.tokens.now in
    let kept = c.if-not-takes_word.ensures.stop ∙ c.loop-turn.invariant.kept in
    let one = subst (λ (s : ParseFault). method_at s c.args.depth c.takes_word.new.self.tokens.now ≡ Ok (method_tree c.in_ok-one.one, c.read_method.new.cursor.tokens.now)) kept c.in_ok-one.ensures.read in
    let found : map method_tree c.push.new.self.list.items ≡ map method_tree c.loop-turn.found.list.items ++ method_tree c.in_ok-one.one ∷ [] = rw c.in_ok-push.ensures.pushed (map_push method_tree c.loop-turn.found.list.items c.in_ok-one.one) in
    record {
      kept = c.in_ok-one.ensures.stop ∙ kept;
      so_far = rw found (repeated_goes MethodTree word.Method (method_at stop c.args.depth) (all - c.loop-turn.turn) (all - (c.loop-turn.turn + 1)) (map method_tree c.loop-turn.found.list.items) c.loop-turn.cursor.tokens.now c.takes_word.new.self.tokens.now c.read_method.new.cursor.tokens.now (method_tree c.in_ok-one.one) _ (omega arith) c.if-not-takes_word.ensures.taken one c.loop-turn.invariant.so_far);
    }
