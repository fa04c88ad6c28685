use Rattle.std.proofs.Common.{sym, subst, Option}
use Rattle.std.specs.Prelude.{IfSome}
use Rattle.script_tree.specs.declared.programs.Program.{Program}
use Rattle.script_tree.specs.declared.programs.TypeDecl.{TypeDecl}
use Rattle.script_tree.specs.Programs.{type_tree, program_tree}
use Rattle.script_check.specs.AcceptedPrograms.{IsAcceptedProgram}
use Rattle.script_machine.specs.Callees.{IsFew}
use Rattle.script_machine.proofs.PartCounts.{few_at}
use Rattle.script_machine.proofs.callees.type_at.Goals as goal

pub returns-clause-few : goal.returns-clause-few
returns-clause-few c =
    let program = subst (λ (p : Program). IsAcceptedProgram (program_tree p)) (sym c.program.ensures.same) c.program.ensures.checked in
    subst (λ (found : Option TypeDecl). IfSome found (λ of_type. IsFew (type_tree of_type))) (sym c.get.ensures) (few_at c.program.result.now.types.list.items c.from.result program)
