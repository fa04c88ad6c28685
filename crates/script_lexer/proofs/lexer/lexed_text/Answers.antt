use Rattle.script_lexer.proofs.Utf8.{lexed_text}
use Rattle.script_lexer.proofs.lexer.lexed_text.Goals as goal

pub returns-in-Ok : goal.returns-in-Ok
returns-in-Ok c = let same = c.in-Ok.ensures.cases.0 in rw (lexed_text c.args.text.now c.in-Ok.ensures.cases.1) (rw same at c.tokens_from.ensures)
