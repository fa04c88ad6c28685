use Rattle.std.proofs.Common.{subst, refl, IsSome}
use Rattle.cell_model.specs.Cells.{Cell, cell_released}
use Rattle.cell_table.proofs.Cells.{kept-changed}
use Rattle.cell_table.proofs.table.CellTable.release.Goals as goal

pub returns-in-Some-clause-releases : goal.returns-in-Some-clause-releases
returns-in-Some-clause-releases c =
    let wrote = (c.get_mut.follows.holds c.release.new.self).3 (subst IsSome c.in-Some.ensures.value refl) in
    kept-changed c.args.self.now (c.get_mut.follows.lender c.release.new.self) c.args.grain c.in-Some.cell.now c.release.new.self
    c.in-Some.ensures.value wrote (λ (x : Cell). cell_released x c.args.unit c.args.new) c.release.ensures
