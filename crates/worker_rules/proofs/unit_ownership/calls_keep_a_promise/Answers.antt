use Rattle.worker_rules.proofs.CallPromises.{looks-promise, tells-promise, settles-promise}
use Rattle.worker_rules.proofs.unit_ownership.calls_keep_a_promise.Goals as goal

pub returns-clause-counts : goal.returns-clause-counts
returns-clause-counts c = λ b s p. p.some

pub returns-clause-looks : goal.returns-clause-looks
returns-clause-looks c = λ b may s t l p. looks-promise b may s t l p

pub returns-clause-tells : goal.returns-clause-tells
returns-clause-tells c = λ b may s t e r l began due p. tells-promise b may s t e r l began due p

pub returns-clause-settles : goal.returns-clause-settles
returns-clause-settles c = λ b may s t e r l q p. settles-promise b may s t e r l q p
