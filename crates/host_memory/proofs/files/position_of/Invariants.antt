use Rattle.std.proofs.Common.{◌≡◌, None, take}
use Rattle.host_memory.specs.Table.{stored_in}
use Rattle.host_memory.proofs.files.position_of.Given as goal

abbrev pub invariant-loop-i : goal.invariant-loop-i
invariant-loop-i l = stored_in (take l.i l.files) l.file ≡ None
