use Rattle.std.proofs.Common.{◌≡◌, ◌++◌, map, drop}
use Rattle.commit_log.specs.declared.records.Written.{Written}
use Rattle.commit_log.specs.declared.records.Named.{Named}
use Rattle.log_reading.proofs.entries.add_named.Given as goal

abbrev pub invariant-loop-written : goal.invariant-loop-written
invariant-loop-written l =
    let f : Written → Named = (λ w. record { unit = l.unit; program = l.program; written = w }) in
    l.named ++ map f (drop l.written-index l.writes) ≡ l.fn.named ++ map f l.writes
