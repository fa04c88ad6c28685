use Rattle.std.proofs.Common.{◌≡◌, ◌≤◌, ◌+◌, ◌-◌, ◌++◌}
use Rattle.promise_spec.specs.Loads.{transfers_after}
use Rattle.bank_load.specs.Requests.{numbered_from}
use Rattle.bank_load.proofs.requests.push_transfers.Given as goal

abbrev pub invariant-loop-done : goal.invariant-loop-done
invariant-loop-done l = record {
  within : l.done ≤ l.transfers;
  all : l.lines ++ numbered_from (64 + l.done) (transfers_after l.x (l.transfers - l.done)) ≡ l.initial.lines ++ numbered_from 64 (transfers_after l.seed l.transfers);
}
