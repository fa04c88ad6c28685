use Rattle.std.proofs.Common.{subst, refl, IsSome}
use Rattle.cell_model.specs.Cells.{Cell, cell_learned}
use Rattle.cell_table.proofs.Cells.{kept-changed}
use Rattle.cell_table.proofs.table.CellTable.learn.Goals as goal

pub returns-in-Some-clause-learns : goal.returns-in-Some-clause-learns
returns-in-Some-clause-learns c =
    let wrote = (c.get_mut.follows.holds c.learn.new.self).3 (subst IsSome c.in-Some.ensures.value refl) in
    kept-changed c.args.self.now (c.get_mut.follows.lender c.learn.new.self) c.args.grain c.in-Some.cell.now c.learn.new.self
    c.in-Some.ensures.value wrote (λ (x : Cell). cell_learned x c.args.unit c.args.committed) c.learn.ensures.learns
