use Rattle.settler_rules.proofs.Commits.{doubt-chosen, doubt-stays}
use Rattle.settler_rules.proofs.committed_units.doubts_keep_the_chosen.Goals as goal

pub returns : goal.returns
returns c = record {
  doubted = λ r above n a. doubt-chosen r above n a;
  stays = λ r more d q. doubt-stays r more d q;
}
