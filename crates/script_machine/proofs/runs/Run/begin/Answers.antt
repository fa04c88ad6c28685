use Rattle.std.proofs.Common.{◌≡◌, ap, ◌∙◌, false, rules}
use Rattle.std.specs.Prelude.{nat_lt}
use Rattle.script_tree.specs.Stmts.{BlockTree}
use Rattle.script_tree.specs.Programs.{program_tree}
use Rattle.script_values.specs.Faults.{budget}
use Rattle.script_meaning.specs.Requests.{stop}
use Rattle.script_meaning.specs.Statements.{runs}
use Rattle.script_machine.specs.Frames.{after, runner_of, site_of}
use Rattle.script_machine.specs.Runs.{back_of}
use Rattle.script_machine.proofs.Steps.{no_step, none_taken}
use Rattle.script_machine.proofs.Stops.{left_at}
use Rattle.script_machine.proofs.runs.Run.begin.Goals as goal

pub returns-then-not-take_step-clause-tree : goal.returns-then-not-take_step-clause-tree
returns-then-not-take_step-clause-tree c =
    let run = c.args.self.now in
    let types = program_tree c.args.checked.now in
    let post = run.top.post in
    let back = back_of types run in
    let none : false ≡ nat_lt 0 run.has.left = search rules in
    left_at _ _ c.stop_at.ensures _ (record run { has = c.take_step.new.self })
    (ap (λ (block : BlockTree). runs types (runner_of types post) (site_of types post) back block (after types post back run.top.path.items) run.top.locals.items run.has) c.requires.here.here
    ∙ no_step _ run.top.locals.items run.has none
    ∙ ap (stop budget) (none_taken run.has c.take_step.new.self none c.take_step.ensures.taken))
