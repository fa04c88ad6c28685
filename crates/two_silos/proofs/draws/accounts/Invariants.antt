use Rattle.std.proofs.Common.{◌≡◌, ◌+◌, ◌-◌, ◌*◌, ◌++◌}
use Rattle.two_silos.specs.GeneratedEvents.{accounts}
use Rattle.two_silos.proofs.draws.accounts.Given as goal

abbrev pub invariant-loop-at : goal.invariant-loop-at
invariant-loop-at l = l.made.items ++ accounts (l.first + 2 * l.at) (32 - l.at) ≡ accounts l.first 32
