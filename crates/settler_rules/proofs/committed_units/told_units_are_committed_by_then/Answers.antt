use Rattle.settler_rules.proofs.ToldOf.{told-by-then}
use Rattle.settler_rules.proofs.committed_units.told_units_are_committed_by_then.Goals as goal

pub returns : goal.returns
returns c = λ r more above x m h u of committed. told-by-then r more above x m h u of committed
