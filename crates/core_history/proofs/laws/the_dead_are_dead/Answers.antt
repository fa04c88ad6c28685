use Rattle.core_history.proofs.LegalRuns.{dead-ends, committed-ends}
use Rattle.core_history.proofs.laws.the_dead_are_dead.Goals as goal

pub returns : goal.returns
returns c = record {
  dead = λ plays r l u. dead-ends plays r l u;
  committed = λ plays r l u. committed-ends plays r l u;
}
