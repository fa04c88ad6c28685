use Rattle.interleaver.proofs.WindowSequence.{turns-more, window-begins, window-ends}
use Rattle.interleaver.proofs.laws.windows_follow.Goals as goal

pub returns-clause-ends : goal.returns-clause-ends
returns-clause-ends c = λ tells o b used s kept all rest picks. window-ends tells o b s kept used all rest picks

pub returns-clause-begins : goal.returns-clause-begins
returns-clause-begins c = λ tells o b used s types more stands seam most types_are kinds wide. window-begins tells o b used s types more stands seam most types_are kinds wide

pub returns-clause-record_kept : goal.returns-clause-record_kept
returns-clause-record_kept c = λ tells o b s more kept seam. turns-more tells o b s kept more seam
