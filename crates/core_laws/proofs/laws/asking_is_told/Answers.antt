use Rattle.core_laws.proofs.LockAnswers.{ask-ends, asked-locks, grant-applies}
use Rattle.core_laws.proofs.laws.asking_is_told.Goals as goal

pub returns : goal.returns
returns c = record {
  asked = λ plays r l u g mode. ask-ends plays r l u g mode;
  locks = λ w u g mode. asked-locks w u g mode;
  granted = λ w u g mode. grant-applies w u g mode;
}
