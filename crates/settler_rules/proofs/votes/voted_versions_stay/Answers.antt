use Rattle.std.proofs.Common.{true}
use Rattle.settler_rules.proofs.StandingVotes.{stands-later, left-later}
use Rattle.settler_rules.proofs.NextVote.{vote-made, shown-any}
use Rattle.settler_rules.proofs.votes.voted_versions_stay.Goals as goal

pub returns : goal.returns
returns c = record {
  made = λ r number g kept a. vote-made r number g kept a;
  votes = λ r more number g kept s. stands-later number g kept r more s;
  shown = λ r above g x m. shown-any r above g x m;
  left = λ r more above u g state s. left-later u g state r more above s;
  stays = λ r more above number u g state s. record { vote = stands-later number g true r more s.vote; left = left-later u g state r more above s.left };
}
