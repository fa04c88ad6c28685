use Rattle.core_laws.proofs.Plans.{plan-taken, plan-ends}
use Rattle.core_laws.proofs.laws.plans_are_kept.Goals as goal

pub returns : goal.returns
returns c = record {
  taken = λ w a b q. plan-taken w a b q;
  stays = λ plays r l b q d. plan-ends plays r l b q d;
}
