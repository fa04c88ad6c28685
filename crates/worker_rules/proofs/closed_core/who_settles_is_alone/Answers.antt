use Rattle.worker_rules.proofs.Closes.{settles-alone, settles-before, works-since, last-since}
use Rattle.worker_rules.proofs.closed_core.who_settles_is_alone.Goals as goal

pub returns-clause-whole : goal.returns-clause-whole
returns-clause-whole c = λ first last h. settles-alone first last h

pub returns-clause-before : goal.returns-clause-before
returns-clause-before c = λ first last h. settles-before first last h

pub returns-clause-since : goal.returns-clause-since
returns-clause-since c = λ first last h. works-since first last h

pub returns-clause-last : goal.returns-clause-last
returns-clause-last c = λ first last h. last-since first last h
