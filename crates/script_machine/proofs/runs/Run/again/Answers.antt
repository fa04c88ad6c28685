use Rattle.std.proofs.Common.{◌≡◌, ap, sym, ◌∙◌, subst, true, false, rules}
use Rattle.std.specs.Prelude.{nat_lt}
use Rattle.script_tree.specs.declared.statements.Stmt.{Stmt}
use Rattle.script_tree.specs.Exprs.{expr_tree}
use Rattle.script_tree.specs.Stmts.{stmt_tree}
use Rattle.script_tree.specs.Programs.{program_tree}
use Rattle.script_values.specs.Faults.{budget}
use Rattle.script_meaning.specs.Requests.{Requests, stop}
use Rattle.script_machine.specs.Runs.{GoesTo, back_of, next_here}
use Rattle.script_machine.proofs.Steps.{loop_test, none_taken, while_test, turn_again, turn_stops}
use Rattle.script_machine.proofs.Stops.{left_at}
use Rattle.script_machine.proofs.runs.Run.again.Goals as goal

pub returns-else-not-take_step-clause-tree : goal.returns-else-not-take_step-clause-tree
returns-else-not-take_step-clause-tree c =
    let run = c.args.self.now in
    let types = program_tree c.args.checked.now in
    let test = ap (λ (s : Stmt). loop_test (stmt_tree s)) c.in-While.is ∙ while_test c.in-While.test c.in-While.body in
    let there : true ≡ nat_lt 0 run.has.left = search rules in
    let once = turn_again types run.top.post (back_of types run) (stmt_tree c.args.stmt.now) (expr_tree c.in-While.test) test (next_here types run) run.top.locals.items run.has c.take_step.new.self there c.take_step.ensures.taken in
    subst (λ (left : Requests). GoesTo left types c.turn.new.self c.turn.result) (sym once) c.turn.ensures.tree

pub returns-then-not-take_step-clause-tree : goal.returns-then-not-take_step-clause-tree
returns-then-not-take_step-clause-tree c =
    let run = c.args.self.now in
    let types = program_tree c.args.checked.now in
    let test = ap (λ (s : Stmt). loop_test (stmt_tree s)) c.in-While.is ∙ while_test c.in-While.test c.in-While.body in
    let none : false ≡ nat_lt 0 run.has.left = search rules in
    left_at _ _ c.stop_at.ensures _ (record run { has = c.take_step.new.self })
    (turn_stops types run.top.post (back_of types run) (stmt_tree c.args.stmt.now) (expr_tree c.in-While.test) test (next_here types run) run.top.locals.items run.has none
    ∙ ap (stop budget) (none_taken run.has c.take_step.new.self none c.take_step.ensures.taken))
