use Rattle.std.proofs.Common.{ap, ◌∙◌}
use Rattle.std.specs.Prelude.{option_map}
use Rattle.script_tree.specs.Stmts.{stmt_tree}
use Rattle.script_machine.proofs.FramePlaces.{statement_map}
use Rattle.script_machine.proofs.frames.statement_in.Goals as goal

pub returns : goal.returns
returns c =
    ap (option_map stmt_tree) c.item.ensures ∙ statement_map c.args.block.now c.args.at
