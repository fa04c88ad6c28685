use Rattle.std.proofs.Common.{subst, refl, IsSome}
use Rattle.cell_model.specs.Cells.{Cell, cell_granted}
use Rattle.cell_table.proofs.Cells.{kept-changed}
use Rattle.cell_table.proofs.table.CellTable.lock.Goals as goal

pub returns-in-Some-clause-locks : goal.returns-in-Some-clause-locks
returns-in-Some-clause-locks c =
    let wrote = (c.get_mut.follows.holds c.lock.new.self).3 (subst IsSome c.in-Some.ensures.value refl) in
    kept-changed c.args.self.now (c.get_mut.follows.lender c.lock.new.self) c.args.grain c.in-Some.cell.now c.lock.new.self
    c.in-Some.ensures.value wrote (λ (x : Cell). cell_granted x c.args.unit c.args.mode) c.lock.ensures.locks
