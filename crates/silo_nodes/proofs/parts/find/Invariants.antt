use Rattle.std.proofs.Common.{◌≡◌, drop}
use Rattle.silo_nodes.specs.Coordinators.{find}
use Rattle.silo_nodes.proofs.parts.find.Given as goal

abbrev pub invariant-loop-one : goal.invariant-loop-one
invariant-loop-one l = find l.txn (drop l.one-index l.pending) ≡ find l.txn l.pending
