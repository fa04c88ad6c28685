use Rattle.std.proofs.Common.{◌+◌, ◌<◌, List, length, sym, subst, ◌∙◌}
use Rattle.script_lexer.specs.declared.tokens.Spanned.{Spanned}
use Rattle.script_lexer.specs.declared.lexemes.Lexeme.{Lexeme}
use Rattle.script_lexer.specs.Lexemes.{length_behind}
use Rattle.script_lexer.proofs.Turns.{Reaches, past_gap, past_token, ends_bad, ends}
use Rattle.script_lexer.proofs.lexer.tokens_from.Goals as goal

pub loop-at-preserved-in-Gap : goal.loop-at-preserved-in-Gap
loop-at-preserved-in-Gap c =
    let within : c.loop-at.at + c.in-Gap.more < length c.args.text.now = subst (λ (l : Lexeme). c.loop-at.at + length_behind l < length c.args.text.now) c.in-Gap.is c.in_ok-more.ensures.within in
    past_gap c.args.stop c.args.text.now c.loop-at.at c.in-Gap.more c.loop-at.tokens.items within (sym c.in_ok-more.ensures.value ∙ c.in-Gap.is) c.loop-at.invariant

pub loop-at-preserved : goal.loop-at-preserved
loop-at-preserved c =
    let within : c.loop-at.at + c.in-Whole.more < length c.args.text.now = subst (λ (l : Lexeme). c.loop-at.at + length_behind l < length c.args.text.now) c.in-Whole.is c.in_ok-more.ensures.within in
    subst (λ (l : List Spanned). Reaches c.args.stop c.args.text.now l (c.loop-at.at + (c.in-Whole.more + 1))) (sym c.in_ok-push-in-Whole.ensures.items)
    (past_token c.args.stop c.args.text.now c.loop-at.at c.in-Whole.more c.loop-at.tokens.items c.in-Whole.token within (sym c.in_ok-more.ensures.value ∙ c.in-Whole.is) c.loop-at.invariant)

pub returns-in-Bad : goal.returns-in-Bad
returns-in-Bad c = ends_bad c.args.stop c.args.text.now c.loop-at.at c.loop-at.tokens.items c.loop-at-test.true (sym c.in_ok-more.ensures.value ∙ c.in-Bad.is) c.loop-at.invariant

pub returns : goal.returns
returns c = ends c.args.stop c.args.text.now c.loop-at.at c.loop-at.tokens.items c.loop-at-test.false c.loop-at.invariant
