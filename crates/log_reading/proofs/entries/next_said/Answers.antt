use Rattle.std.proofs.Common.{IfOk, IfSome, List, map, ap, subst, ◌∙◌}
use Rattle.script_tree.specs.declared.programs.Program.{Program as TreeProgram}
use Rattle.script_tree.specs.Programs.{ProgramTree, program_tree}
use Rattle.script_check.specs.Comparison.{last_program}
use Rattle.log_reading.specs.Steps.{IsFoundIn}
use Rattle.log_reading.proofs.entries.next_said.Goals as goal

pub returns-clause-fit : goal.returns-clause-fit
returns-clause-fit g c =
    subst (λ (t : ProgramTree). IfOk c.next_entry.result (λ found. IfSome found (IsFoundIn c.args.format t c.args.session)))
    (c.in_force-program.ensures ∙ ap (λ (l : List TreeProgram). last_program (program_tree c.args.first.now) (map program_tree l)) c.as_slice.ensures) c.next_entry.ensures.fit
