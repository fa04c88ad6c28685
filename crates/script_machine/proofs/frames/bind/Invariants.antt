use Rattle.std.proofs.Common.{◌≡◌, ◌++◌, drop}
use Rattle.script_meaning.specs.Calls.{bound}
use Rattle.script_machine.proofs.frames.bind.Given as goal

abbrev pub invariant-loop-i : goal.invariant-loop-i
invariant-loop-i l = l.locals.items ++ bound (drop l.i l.params) (drop l.i l.args) ≡ bound l.params l.args
