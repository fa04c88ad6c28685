use Rattle.promise_spec.proofs.Chains.{chains}
use Rattle.promise_spec.proofs.laws.chains_compare.Goals as goal

pub returns : goal.returns
returns c = chains
