use Rattle.core_history.proofs.LegalRuns.{knows-ends}
use Rattle.core_history.proofs.laws.causes_are_in_the_history.Goals as goal

pub returns-clause-entries : goal.returns-clause-entries
returns-clause-entries c = λ plays r l x m. (knows-ends plays r l).causes x m

pub returns-clause-units : goal.returns-clause-units
returns-clause-units c = λ plays r l u v. (knows-ends plays r l).aborts u v
