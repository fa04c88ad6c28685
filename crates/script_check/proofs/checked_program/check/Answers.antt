use Rattle.std.proofs.Common.{sym, ap, ◌∙◌, List, map}
use Rattle.std.proofs.lemmas.Result.{err_from_is_err_and}
use Rattle.script_tree.specs.declared.programs.TypeDecl.{TypeDecl}
use Rattle.script_tree.specs.Programs.{type_tree, program_tree}
use Rattle.script_check.specs.Programs.{program_fault}
use Rattle.script_scopes.proofs.Founds.{fails_is}
use Rattle.script_check.proofs.WholePrograms.{program_iff, refuses}
use Rattle.script_check.proofs.Firsts.{names_first}
use Rattle.script_check.proofs.MentionedNames.{names_least}
use Rattle.script_check.proofs.checked_program.check.Goals as goal

pub returns-in_err-check_types-clause-refused : goal.returns-in_err-check_types-clause-refused
returns-in_err-check_types-clause-refused c =
    let p = err_from_is_err_and c.from_residual.result c.from_residual.ensures.1 in
    let e = c.in_err-check_types.field-0.0 in
    rw (p.1, p.2) (refuses e (program_tree c.args.program) (fails_is e _ _ (ap (λ (l : List TypeDecl). program_fault (map type_tree l)) c.as_slice.ensures) c.in_err-check_types.ensures))

pub returns-clause-accepted : goal.returns-clause-accepted
returns-clause-accepted c = (program_iff (program_tree c.args.program)).0 (ap (λ (l : List TypeDecl). program_fault (map type_tree l)) (sym c.as_slice.ensures) ∙ c.in_ok-check_types.ensures)

pub returns-in_err-check_types-clause-first : goal.returns-in_err-check_types-clause-first
returns-in_err-check_types-clause-first c =
    let p = err_from_is_err_and c.from_residual.result c.from_residual.ensures.1 in
    let e = c.in_err-check_types.field-0.0 in
    rw (p.1, p.2) (names_first e (program_tree c.args.program) (fails_is e _ _ (ap (λ (l : List TypeDecl). program_fault (map type_tree l)) c.as_slice.ensures) c.in_err-check_types.ensures))

pub returns-in_err-check_types-clause-least : goal.returns-in_err-check_types-clause-least
returns-in_err-check_types-clause-least c =
    let p = err_from_is_err_and c.from_residual.result c.from_residual.ensures.1 in
    let e = c.in_err-check_types.field-0.0 in
    rw (p.1, p.2) (names_least e (program_tree c.args.program) (fails_is e _ _ (ap (λ (l : List TypeDecl). program_fault (map type_tree l)) c.as_slice.ensures) c.in_err-check_types.ensures))
