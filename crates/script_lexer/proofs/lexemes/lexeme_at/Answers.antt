use Rattle.script_lexer.proofs.LexemeEnds.{result_within}
use Rattle.script_lexer.proofs.lexemes.lexeme_at.Goals as goal

pub returns-clause-within : goal.returns-clause-within
returns-clause-within c = result_within c.any_lexeme_at.result c.args.text.now c.args.at c.requires c.any_lexeme_at.ensures
