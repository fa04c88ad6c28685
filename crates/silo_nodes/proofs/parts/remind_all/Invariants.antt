use Rattle.std.proofs.Common.{◌≡◌, ◌++◌, drop}
use Rattle.silo_nodes.specs.Coordinators.{reminders}
use Rattle.silo_nodes.proofs.parts.remind_all.Given as goal

abbrev pub invariant-loop-one : goal.invariant-loop-one
invariant-loop-one l = l.sent.items ++ reminders (drop l.one-index l.pending) ≡ l.fn.sent.items ++ reminders l.pending
