use Rattle.std.proofs.Common.{ap, sym, ◌∙◌, List}
use Rattle.script_tree.specs.Stmts.{stmt_tree}
use Rattle.script_tree.specs.Programs.{program_tree}
use Rattle.script_meaning.specs.Statements.{Next}
use Rattle.script_machine.specs.declared.frames.OpenBlock.{OpenBlock}
use Rattle.script_machine.specs.Blocks.{first_in}
use Rattle.script_machine.specs.Frames.{from_at}
use Rattle.script_machine.specs.Runs.{back_of}
use Rattle.script_machine.proofs.FramePlaces.{goes_into}
use Rattle.script_machine.proofs.runs.Run.go_into.Goals as goal

pub returns-clause-tree : goal.returns-clause-tree
returns-clause-tree c =
    let run = c.args.self.now in
    let types = program_tree c.args.checked.now in
    let back = back_of types run in
    let one : OpenBlock = record { at = run.top.at; part = c.args.part } in
    let here = ap first_in c.requires.here.here in
    sym (ap (λ (path : List OpenBlock). from_at types run.top.post back path 0 run.top.locals.items run.has) c.in_ok-push.ensures.items
    ∙ ap (λ (k : Next). k run.top.locals.items run.has) (goes_into types run.top.post back run.top.path.items one (stmt_tree c.args.stmt.now) here))
