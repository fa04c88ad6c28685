use Rattle.std.proofs.Common.{sym}
use Rattle.script_tree.specs.Programs.{program_tree}
use Rattle.script_machine.proofs.Trails.{follows_nothing}
use Rattle.script_machine.proofs.machine.Machine.start.Goals as goal

pub returns-clause-follows : goal.returns-clause-follows
returns-clause-follows c =
    follows_nothing (program_tree c.args.checked.now) _ c.args.call c.args.depth (sym c.in_ok-start.ensures) c.new-2.ensures c.new.ensures
