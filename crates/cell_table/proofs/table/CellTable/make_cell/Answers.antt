use Rattle.std.proofs.Common.{◌∙◌, sym, ap}
use Rattle.cell_model.specs.Cells.{opened}
use Rattle.cell_table.proofs.Cells.{kept-made}
use Rattle.cell_table.proofs.table.CellTable.make_cell.Goals as goal

pub returns-clause-kept : goal.returns-clause-kept
returns-clause-kept c =
    kept-made c.args.self.now c.insert.new.self c.args.grain c.in_ok-cell.cell (sym c.if-contains_key.ensures) c.requires c.in_ok-insert.ensures.updates
    (c.in_ok-cell.ensures ∙ ap opened c.in_ok-state.ensures)
