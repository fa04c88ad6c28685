use Rattle.std.proofs.Common.{◌≡◌, ◌++◌, map, take, drop}
use Rattle.std.specs.List.{list_any}
use Rattle.host_memory.specs.Plans.{is_due, counted}
use Rattle.host_memory.proofs.plan.count_down.Given as goal

abbrev pub invariant-loop-i : goal.invariant-loop-i
invariant-loop-i l =
    (l.due ≡ list_any (is_due l.what l.channel) (take l.i l.initial.faults.items)) × (l.faults.items ≡ map (counted l.what l.channel) (take l.i l.initial.faults.items) ++ drop l.i l.initial.faults.items)
