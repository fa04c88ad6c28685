use Rattle.promise_laws.proofs.AbortCauses.{explained_aborts}
use Rattle.promise_laws.proofs.causes.explained_aborts_have_causes.Goals as goal

pub returns : goal.returns
returns c = explained_aborts
