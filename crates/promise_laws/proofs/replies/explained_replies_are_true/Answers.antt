use Rattle.promise_laws.proofs.TrueReplies.{replies_within, replies_once, replies_ordered, replies_true}
use Rattle.promise_laws.proofs.replies.explained_replies_are_true.Goals as goal

pub returns-clause-within : goal.returns-clause-within
returns-clause-within c = replies_within

pub returns-clause-once : goal.returns-clause-once
returns-clause-once c = replies_once

pub returns-clause-ordered : goal.returns-clause-ordered
returns-clause-ordered c = replies_ordered

pub returns-clause-true_each : goal.returns-clause-true_each
returns-clause-true_each c = replies_true
