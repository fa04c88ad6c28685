use Rattle.run_books.proofs.ShownRecord.{ends-by, ends-carried}
use Rattle.run_books.proofs.laws.runs_end_so.Goals as goal

pub returns-clause-by_turns : goal.returns-clause-by_turns
returns-clause-by_turns g c = λ tells o b s result ending e q. ends-by tells o b s result ending e q

pub returns-clause-carried : goal.returns-clause-carried
returns-clause-carried g c = λ o s ending all none. ends-carried o s ending all none
