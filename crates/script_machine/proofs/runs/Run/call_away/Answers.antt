use Rattle.std.proofs.Common.{◌∙◌, sym, subst, rules}
use Rattle.script_tree.specs.Exprs.{call_tree}
use Rattle.script_tree.specs.Stmts.{stmt_tree}
use Rattle.script_tree.specs.Programs.{program_tree}
use Rattle.script_meaning.specs.Requests.{Requests}
use Rattle.script_machine.specs.Runs.{GoesTo, back_here, calls_here, caught_here}
use Rattle.script_machine.proofs.FramePlaces.{does_call_here}
use Rattle.script_machine.proofs.runs.Run.call_away.Goals as goal

pub returns-clause-tree : goal.returns-clause-tree
returns-clause-tree c =
    does_call_here (program_tree c.args.checked.now) c.args.self.now (stmt_tree c.args.stmt.now) (call_tree c.args.call.now) c.requires.here c.requires.call ∙ c.in_ok-call.ensures.tree

pub returns-in_err-call-clause-tree : goal.returns-in_err-call-clause-tree
returns-in_err-call-clause-tree c =
    let run = c.args.self.now in
    let types = program_tree c.args.checked.now in
    let called = calls_here types run (call_tree c.args.call.now) (back_here types run) (caught_here types run) in
    let left : GoesTo called types c.call.new.self c.from_residual.result = search rules in
    subst (λ (left : Requests). GoesTo left types c.call.new.self c.from_residual.result)
    (sym (does_call_here types run (stmt_tree c.args.stmt.now) (call_tree c.args.call.now) c.requires.here c.requires.call)) left
