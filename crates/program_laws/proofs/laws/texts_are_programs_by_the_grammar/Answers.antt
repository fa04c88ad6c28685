use Rattle.program_laws.proofs.GrammarPrograms.{by_grammar, by_both}
use Rattle.script_check.proofs.WholePrograms.{program_iff}
use Rattle.program_laws.proofs.laws.texts_are_programs_by_the_grammar.Goals as goal

pub returns-clause-grammar : goal.returns-clause-grammar
returns-clause-grammar c = by_grammar

pub returns-clause-checks : goal.returns-clause-checks
returns-clause-checks c = program_iff

pub returns-clause-both : goal.returns-clause-both
returns-clause-both c = by_both
