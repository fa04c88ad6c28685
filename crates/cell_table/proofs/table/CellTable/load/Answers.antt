use Rattle.std.proofs.Common.{◌∙◌, ap, Some, None}
use Rattle.cell_model.specs.Cells.{Cell}
use Rattle.core_model.specs.CoreState.{put_grain}
use Rattle.cell_memory.specs.KeptCells.{CellsKept}
use Rattle.cell_table.specs.Table.{cells_kept}
use Rattle.cell_table.proofs.Cells.{absent-limited, kept-back, kept-gone, kept-put, none-is}
use Rattle.cell_table.proofs.table.CellTable.load.Goals as goal

pub returns-in-Ok-clause-loads : goal.returns-in-Ok-clause-loads
returns-in-Ok-clause-loads c =
    let t = c.args.self.now in
    c.touch.ensures.kept
    ∙ kept-put t c.insert.new.self c.args.grain c.in_ok-cell.cell c.in_ok-insert.ensures.updates
    ∙ ap (λ (k : Cell). put_grain (cells_kept t) c.args.grain (Some k)) c.in_ok-cell.ensures

pub returns-in-Err-clause-kept : goal.returns-in-Err-clause-kept
returns-in-Err-clause-kept c =
    let t = c.args.self.now in
    let g = c.args.grain in
    let limited = absent-limited t g c.requires in
    kept-gone c.touch.new.self c.remove.new.self g limited.0 (c.in-Err.ensures.unused ∙ limited.1) c.remove.ensures.updates
    ∙ ap (λ (k : CellsKept). put_grain k g None) (c.touch.ensures.kept ∙ kept-put t c.insert.new.self g c.in_ok-cell.cell c.in_ok-insert.ensures.updates)
    ∙ kept-back (cells_kept t) g c.in_ok-cell.cell.cell (none-is (cells_kept t g) c.requires)
