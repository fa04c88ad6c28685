use Rattle.std.proofs.Common.{◌≡◌, take}
use Rattle.two_silos.proofs.openings.copied.Given as goal

abbrev pub invariant-loop-balance : goal.invariant-loop-balance
invariant-loop-balance l = l.made.items ≡ take l.balance-index l.balances
