use Rattle.std.proofs.Common.{◌≡◌, ◌+◌, length}
use Rattle.host_files.proofs.windows.make_all.Given as goal

abbrev pub invariant-loop-number : goal.invariant-loop-number
invariant-loop-number l = length l.all.items ≡ l.number + 1
