use Rattle.std.proofs.Common.{◌≡◌, ◌∙◌, true, sym, None}
use Rattle.std.proofs.lemmas.Bool.{cond-true}
use Rattle.core_model.specs.CoreState.{put_grain}
use Rattle.cell_table.specs.Table.{cells_kept, leaves_where}
use Rattle.cell_table.proofs.Cells.{kept-gone}
use Rattle.cell_table.proofs.LeavingGrains.{leaves-limited}
use Rattle.cell_table.proofs.table.CellTable.evict_unless.Goals as goal

pub returns-then-leaves-clause-evicts : goal.returns-then-leaves-clause-evicts
returns-then-leaves-clause-evicts c =
    let t = c.args.self.now in
    let g = c.args.grain in
    let leaves : leaves_where t.recent c.args.wanted g (cells_kept t g) ≡ true = sym c.leaves.ensures ∙ c.if-leaves.true in
    let limited = leaves-limited t.recent c.args.wanted g (cells_kept t g) leaves in
    kept-gone t c.remove.new.self g limited.0 limited.1 c.remove.ensures.updates
    ∙ sym (cond-true (leaves_where t.recent c.args.wanted g (cells_kept t g)) (put_grain (cells_kept t) g None) (cells_kept t) leaves)
