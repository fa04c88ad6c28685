use Rattle.core_history.proofs.LegalRuns.{decided-ends, gone-ends}
use Rattle.core_history.proofs.laws.versions_are_taken_off.Goals as goal

pub returns-clause-decided : goal.returns-clause-decided
returns-clause-decided c = λ plays r l u. decided-ends plays r l u

pub returns-clause-gone : goal.returns-clause-gone
returns-clause-gone c = λ plays r l u x p m. gone-ends plays r l u x p m
