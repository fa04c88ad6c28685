use Rattle.core_access.proofs.OneHolder.{own-run, own-history, own-tells, own-counts, own-alone}
use Rattle.core_access.proofs.laws.a_core_alone_is_seen_whole.Goals as goal

pub returns-clause-run : goal.returns-clause-run
returns-clause-run c = λ r. own-run r

pub returns-clause-legal : goal.returns-clause-legal
returns-clause-legal c = λ r. own-history r

pub returns-clause-tells : goal.returns-clause-tells
returns-clause-tells c = λ r e. own-tells r e

pub returns-clause-counts : goal.returns-clause-counts
returns-clause-counts c = λ r. own-counts r

pub returns-clause-alone : goal.returns-clause-alone
returns-clause-alone c = λ harmless r. own-alone harmless r
