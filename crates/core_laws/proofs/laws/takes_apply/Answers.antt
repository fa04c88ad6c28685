use Rattle.core_laws.proofs.LockAnswers.{take-applies, take-opens}
use Rattle.core_laws.proofs.laws.takes_apply.Goals as goal

pub returns : goal.returns
returns c = record {
  applies = λ w. take-applies w;
  opens = λ w a. take-opens w a;
}
