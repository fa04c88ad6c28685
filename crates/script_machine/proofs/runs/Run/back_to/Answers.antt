use Rattle.std.proofs.Common.{◌≡◌, ap, rules}
use Rattle.script_tree.specs.Stmts.{NoMore}
use Rattle.script_tree.specs.Programs.{program_tree}
use Rattle.script_meaning.specs.Statements.{Next}
use Rattle.script_machine.specs.Blocks.{from}
use Rattle.script_machine.specs.Frames.{block_of}
use Rattle.script_machine.specs.Runs.{back_of}
use Rattle.script_machine.proofs.FramePlaces.{outer_past}
use Rattle.script_machine.proofs.runs.Run.back_to.Goals as goal

pub returns-in-None-clause-tree : goal.returns-in-None-clause-tree
returns-in-None-clause-tree c =
    let run = c.args.self.now in
    let types = program_tree c.args.checked.now in
    let past : from c.args.opened.at (block_of types run.top) ≡ NoMore = search rules in
    ap (λ (k : Next). k run.top.locals.items run.has) (outer_past types run.top.post (back_of types run) run.top.path.items c.args.opened.at past)
