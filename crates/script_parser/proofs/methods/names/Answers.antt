use Rattle.std.proofs.Common.{◌≡◌, ◌-◌, ◌+◌, List, length, subst, ◌∙◌, arith, Ok}
use Rattle.script_tree.specs.declared.expressions.Name.{Name}
use Rattle.script_lexer.specs.declared.faults.ParseFault.{ParseFault}
use Rattle.script_lexer.specs.declared.tokens.Spanned.{Spanned}
use Rattle.script_lexer.specs.declared.tokens.Symbol.TheVariants as symbol
use Rattle.script_expressions.specs.Tokens.{name_at, expected}
use Rattle.script_expressions.proofs.ItemLists.{listed_goes}
use Rattle.script_parser.proofs.methods.names.Goals as goal

pub loop-turn-preserved : goal.loop-turn-preserved
loop-turn-preserved c =
    let stop = c.args.cursor.now.stop in
    let all = length c.args.cursor.now.tokens.now in
    let kept = c.if-takes.ensures.stop ∙ c.in_ok-one.ensures.stop ∙ c.loop-turn.invariant.kept in
    let one = subst (λ (s : ParseFault). name_at s c.loop-turn.cursor.tokens.now ≡ Ok (c.in_ok-one.one, c.name.new.self.tokens.now)) c.loop-turn.invariant.kept c.in_ok-one.ensures.read in
    let comma = subst (λ (s : ParseFault). expected s symbol.Comma c.takes.new.self.tokens.now ≡ Ok (c.in_ok-expect.field-0, c.expect.new.self.tokens.now)) kept c.in_ok-expect.ensures.read in
    let here = subst (λ (l : List Spanned). expected stop symbol.Comma l ≡ Ok (c.in_ok-expect.field-0, c.expect.new.self.tokens.now)) c.if-takes.ensures.taken.1 comma in
    record {
      kept = c.in_ok-expect.ensures.stop ∙ kept;
      so_far = rw c.in_ok-push.ensures.pushed (listed_goes Name stop (name_at stop) (all - c.loop-turn.turn) (all - (c.loop-turn.turn + 1)) c.loop-turn.found.list.items c.loop-turn.cursor.tokens.now c.name.new.self.tokens.now c.expect.new.self.tokens.now c.in_ok-one.one c.in_ok-expect.field-0 _ (omega arith) one c.if-takes.ensures.taken.0 here c.loop-turn.invariant.so_far);
    }
