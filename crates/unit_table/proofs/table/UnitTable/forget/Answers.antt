use Rattle.unit_table.proofs.Tables.{same-twice}
use Rattle.unit_table.proofs.table.UnitTable.forget.Goals as goal

pub returns-clause-same : goal.returns-clause-same
returns-clause-same c = same-twice c.args.self.now c.forget_one.new.self c.forget_one-2.new.self c.forget_one.ensures.same c.forget_one-2.ensures.same
