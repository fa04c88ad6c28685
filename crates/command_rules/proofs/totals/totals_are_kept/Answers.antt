use Rattle.command_rules.proofs.Balances.{totals_kept}
use Rattle.command_rules.proofs.totals.totals_are_kept.Goals as goal

pub returns : goal.returns
returns c = totals_kept
