use Rattle.core_model.specs.LegalRuns.{ends}
use Rattle.settler_rules.proofs.NextVote.{unvoted, other-grain}
use Rattle.settler_rules.proofs.votes.next_vote_is_new.Goals as goal

pub returns : goal.returns
returns c = record {
  unvoted = λ r number g is. unvoted (ends r) number g is;
  other = λ r number g k kept is stands. other-grain (ends r) number g k kept is stands;
}
