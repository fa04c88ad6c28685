use Rattle.script_lexer.proofs.Laws.{if_spelled, if_only}
use Rattle.script_lexer.proofs.lexer.tokens_of.Goals as goal

pub returns-clause-spelled : goal.returns-clause-spelled
returns-clause-spelled c = if_spelled c.args.text.now c.lexed_text.result c.lexed_text.ensures

pub returns-clause-only : goal.returns-clause-only
returns-clause-only c = λ tokens stop is. if_only c.args.text.now tokens stop is c.lexed_text.result c.lexed_text.ensures
