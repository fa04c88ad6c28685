use Rattle.std.proofs.Common.{sym}
use Rattle.script_tree.specs.Programs.{program_tree}
use Rattle.script_check.proofs.WholePrograms.{program_iff}
use Rattle.script_check.proofs.checked_program.Checked.program.Goals as goal

pub returns-clause-checked : goal.returns-clause-checked
returns-clause-checked c = rw (sym c.self.view_is) ((program_iff (program_tree c.self.inside.program)).0 c.self.invariant)
