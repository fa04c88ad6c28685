use Rattle.core_laws.proofs.Replies.{reply-tells, no-change}
use Rattle.core_laws.proofs.laws.replies_tell.Goals as goal

pub returns : goal.returns
returns c = record {
  told = λ w e. reply-tells w e;
  unchanged = λ w e a. no-change w e a;
}
