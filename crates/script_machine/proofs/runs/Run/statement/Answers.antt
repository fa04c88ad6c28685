use Rattle.std.proofs.Common.{◌<◌, sym, subst, length, arith}
use Rattle.std.specs.Prelude.{◌^◌}
use Rattle.script_tree.specs.Programs.{program_tree}
use Rattle.script_machine.specs.Runs.{StandsWith}
use Rattle.script_machine.proofs.FramePlaces.{stands_where}
use Rattle.script_machine.proofs.runs.Run.statement.Goals as goal

pub returns : goal.returns
returns c =
    let run = c.args.self.now in
    let types = program_tree c.args.checked.now in
    let small : length c.args.block.now < 2 ^ 63 = omega arith in
    subst (StandsWith types run) (sym c.item.ensures) (stands_where types run c.args.block.now c.requires.block small)
