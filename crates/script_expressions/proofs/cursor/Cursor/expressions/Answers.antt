use Rattle.std.proofs.Common.{◌≡◌, ◌++◌, ◌∷◌, [], ◌-◌, ◌+◌, length, subst, ◌∙◌, arith, List, Ok}
use Rattle.std.specs.Prelude.{map}
use Rattle.std.proofs.lemmas.List.{map_push}
use Rattle.script_tree.specs.Exprs.{ExprTree, expr_tree}
use Rattle.script_lexer.specs.declared.faults.ParseFault.{ParseFault}
use Rattle.script_lexer.specs.declared.tokens.Spanned.{Spanned}
use Rattle.script_lexer.specs.declared.tokens.Symbol.TheVariants as symbol
use Rattle.script_expressions.specs.Tokens.{expected}
use Rattle.script_expressions.specs.Expressions.{expression}
use Rattle.script_expressions.proofs.ItemLists.{listed_goes, listed_closes}
use Rattle.script_expressions.proofs.cursor.Cursor.expressions.Goals as goal

pub returns-then-takes-clause-read : goal.returns-then-takes-clause-read
returns-then-takes-clause-read c =
    let stop = c.args.self.now.stop in
    let one = subst (λ (s : ParseFault). expression s c.args.depth c.loop-turn.self.tokens.now ≡ Ok (expr_tree c.in_ok-one.one, c.expression.new.self.tokens.now)) c.loop-turn.invariant.kept c.in_ok-one.ensures.read in
    let found : map expr_tree c.push.new.self.list.items ≡ map expr_tree c.loop-turn.found.list.items ++ expr_tree c.in_ok-one.one ∷ [] = rw c.in_ok-push.ensures.pushed (map_push expr_tree c.loop-turn.found.list.items c.in_ok-one.one) in
    rw found (listed_closes ExprTree stop (expression stop c.args.depth) (length c.args.self.now.tokens.now - c.loop-turn.turn) (length c.args.self.now.tokens.now - (c.loop-turn.turn + 1)) (map expr_tree c.loop-turn.found.list.items) c.loop-turn.self.tokens.now c.expression.new.self.tokens.now c.takes.new.self.tokens.now (expr_tree c.in_ok-one.one) _ (omega arith) one c.if-takes.ensures.taken c.loop-turn.invariant.so_far)

pub loop-turn-preserved : goal.loop-turn-preserved
loop-turn-preserved c =
    let stop = c.args.self.now.stop in
    let kept = c.if-takes.ensures.stop ∙ c.in_ok-one.ensures.stop ∙ c.loop-turn.invariant.kept in
    let one = subst (λ (s : ParseFault). expression s c.args.depth c.loop-turn.self.tokens.now ≡ Ok (expr_tree c.in_ok-one.one, c.expression.new.self.tokens.now)) c.loop-turn.invariant.kept c.in_ok-one.ensures.read in
    let comma = subst (λ (s : ParseFault). expected s symbol.Comma c.takes.new.self.tokens.now ≡ Ok (c.in_ok-expect.field-0, c.expect.new.self.tokens.now)) kept c.in_ok-expect.ensures.read in
    let here = subst (λ (l : List Spanned). expected stop symbol.Comma l ≡ Ok (c.in_ok-expect.field-0, c.expect.new.self.tokens.now)) c.if-takes.ensures.taken.1 comma in
    let found : map expr_tree c.push.new.self.list.items ≡ map expr_tree c.loop-turn.found.list.items ++ expr_tree c.in_ok-one.one ∷ [] = rw c.in_ok-push.ensures.pushed (map_push expr_tree c.loop-turn.found.list.items c.in_ok-one.one) in
    record {
      kept = c.in_ok-expect.ensures.stop ∙ kept;
      so_far = rw found (listed_goes ExprTree stop (expression stop c.args.depth) (length c.args.self.now.tokens.now - c.loop-turn.turn) (length c.args.self.now.tokens.now - (c.loop-turn.turn + 1)) (map expr_tree c.loop-turn.found.list.items) c.loop-turn.self.tokens.now c.expression.new.self.tokens.now c.expect.new.self.tokens.now (expr_tree c.in_ok-one.one) c.in_ok-expect.field-0 _ (omega arith) one c.if-takes.ensures.taken.0 here c.loop-turn.invariant.so_far);
    }
