use Rattle.program_laws.proofs.LanguageFaults.{explained, first}
use Rattle.program_laws.proofs.laws.faults_are_the_languages.Goals as goal

pub returns-clause-grammar : goal.returns-clause-grammar
returns-clause-grammar c = explained

pub returns-clause-checks : goal.returns-clause-checks
returns-clause-checks c = first
