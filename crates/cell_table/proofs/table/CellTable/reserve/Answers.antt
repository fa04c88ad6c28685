use Rattle.std.proofs.Common.{subst, refl, IsSome}
use Rattle.cell_table.proofs.Cells.{kept-roomier}
use Rattle.cell_table.proofs.table.CellTable.reserve.Goals as goal

pub returns-in-Some-clause-kept : goal.returns-in-Some-clause-kept
returns-in-Some-clause-kept c =
    let wrote = (c.get_mut.follows.holds c.reserve.new.self).3 (subst IsSome c.in-Some.ensures.value refl) in
    kept-roomier c.args.self.now (c.get_mut.follows.lender c.reserve.new.self) c.args.grain c.in-Some.cell.now c.reserve.new.self
    c.in-Some.ensures.value wrote c.reserve.ensures.same
