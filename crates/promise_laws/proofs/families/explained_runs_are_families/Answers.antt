use Rattle.promise_laws.proofs.OneFamily.{explained_family}
use Rattle.promise_laws.proofs.families.explained_runs_are_families.Goals as goal

pub returns : goal.returns
returns c = explained_family
