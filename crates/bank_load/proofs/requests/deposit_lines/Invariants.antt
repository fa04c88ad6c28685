use Rattle.std.proofs.Common.{◌≡◌, ◌≤◌, ◌-◌, ◌++◌}
use Rattle.promise_spec.specs.Loads.{deposits_from}
use Rattle.bank_load.specs.Requests.{numbered_from}
use Rattle.bank_load.proofs.requests.deposit_lines.Given as goal

abbrev pub invariant-loop-key : goal.invariant-loop-key
invariant-loop-key l = record {
  within : l.key ≤ 64;
  all : l.lines ++ numbered_from l.key (deposits_from l.key (64 - l.key)) ≡ numbered_from 0 (deposits_from 0 64);
}
