use Rattle.unit_table.proofs.Tables.{same-twice, same-parent}
use Rattle.unit_table.proofs.table.UnitTable.reserve_begin.Goals as goal

pub returns-in_err-reserve_kid-clause-same : goal.returns-in_err-reserve_kid-clause-same
returns-in_err-reserve_kid-clause-same c =
    same-twice c.args.self.now c.forget.new.self c.reserve_kid.new.self c.forget.ensures.same c.reserve_kid.ensures.same

pub returns-in_err-reserve_entry-clause-same : goal.returns-in_err-reserve_entry-clause-same
returns-in_err-reserve_entry-clause-same c =
    same-twice c.args.self.now c.forget.new.self c.reserve_entry.new.self c.forget.ensures.same
    (same-twice c.forget.new.self c.reserve_kid.new.self c.reserve_entry.new.self c.reserve_kid.ensures.same c.reserve_entry.ensures.same)

pub returns-clause-same : goal.returns-clause-same
returns-clause-same c =
    same-twice c.args.self.now c.forget.new.self c.reserve_entry.new.self c.forget.ensures.same
    (same-twice c.forget.new.self c.reserve_kid.new.self c.reserve_entry.new.self c.reserve_kid.ensures.same c.reserve_entry.ensures.same)

pub reserve_kid-requires : goal.reserve_kid-requires
reserve_kid-requires c = same-parent c.args.self.now c.forget.new.self c.args.origin.now c.forget.ensures.same c.requires
