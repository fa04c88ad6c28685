-- A checked program, and the lines of an input, may be shared by threads.
use denote.Param.Send.{IsSync, sendable, view_sync}
use denote.Param.SendFields.{declared_sync}
use Rattle.std.proofs.Crossing.{crosses}
use Rattle.script_tree.proofs.expressions.Expr.TheLaws.TheKnot.{crosses as expr_crosses}
use Rattle.script_tree.proofs.statements.Stmt.TheLaws.TheKnot.{crosses as stmt_crosses}
use Rattle.script_tree.specs.contracts.programs.FieldDecl as field
use Rattle.script_tree.specs.contracts.programs.Method as method
use Rattle.script_tree.specs.contracts.programs.Program as program
use Rattle.script_tree.specs.contracts.programs.TypeDecl as type_decl
use Rattle.script_tree.specs.contracts.statements.Stmt as stmt
use Rattle.script_check.specs.contracts.checked_program.Checked as checked
use Rattle.script_check.specs.contracts.checked_program.Checked.TheInside as inside
use Rattle.run_lines.specs.contracts.input.InputLines as input

stmt_sync : IsSync stmt.the_row
stmt_sync = search (sendable, crosses, expr_crosses, stmt_crosses) depth 60 fits 90000

method_sync : IsSync method.the_row
method_sync = search (sendable, crosses, stmt_sync) depth 60 fits 90000

field_sync : IsSync field.the_row
field_sync = search (sendable, crosses) depth 60 fits 90000

type_sync : IsSync type_decl.the_row
type_sync = search (sendable, crosses, method_sync, field_sync) depth 60 fits 90000

program_sync : IsSync program.the_row
program_sync = search (sendable, crosses, type_sync) depth 60 fits 90000

pub checked_sync : IsSync checked.the_row
checked_sync = view_sync _ _ _ _ _ (declared_sync inside.the_type (program_sync, tt))

pub lines_sync : (ℓ : _) → IsSync (input.the_row ℓ)
lines_sync ℓ = declared_sync (input.the_type ℓ) (search (sendable, checked_sync), (search sendable, (search sendable, (search sendable, (search sendable, tt)))))
