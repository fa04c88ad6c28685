use Rattle.std.proofs.Common.{◌≡◌, rules}
use Rattle.script_tree.specs.Stmts.{NoMore}
use Rattle.script_tree.specs.Programs.{program_tree}
use Rattle.script_machine.specs.Blocks.{from}
use Rattle.script_machine.specs.Frames.{block_of}
use Rattle.script_machine.proofs.FramePlaces.{receives_past}
use Rattle.script_machine.proofs.runs.Run.receive.Goals as goal

pub returns-in-None-clause-tree : goal.returns-in-None-clause-tree
returns-in-None-clause-tree c =
    let run = c.args.self.now in
    let types = program_tree c.args.checked.now in
    let past : from run.top.at (block_of types run.top) ≡ NoMore = search rules in
    receives_past types run past c.args.value
