use Rattle.std.proofs.Common.{◌≡◌}
use Rattle.script_meaning.specs.Calls.{bound}
use Rattle.script_meaning.proofs.targets.bind_each.Given as goal

abbrev pub invariant-loop-value : goal.invariant-loop-value
invariant-loop-value l = l.locals.items ≡ bound l.params.list.items l.yielded
