use Rattle.std.proofs.Common.{refl, sym, subst, OnOk, Option}
use Rattle.std.specs.VecDeque.{deque_with_item}
use Rattle.unit_table.specs.declared.entry.UnitEntry.{UnitEntry}
use Rattle.unit_table.specs.declared.table.UnitTable.{UnitTable}
use Rattle.unit_table.specs.Rooms.{KidRoomAt}
use Rattle.unit_table.proofs.Tables.{known-stays, entry-written, same-units}
use Rattle.unit_table.proofs.table.UnitTable.reserve_kid_of.Goals as goal
use Rattle.unit_table.proofs.table.UnitTable.reserve_kid_of.Goals.{After-reserve_kid}

-- the table at the end
abbrev left : After-reserve_kid → UnitTable
left c = record c.args.self.now { units = deque_with_item c.args.self.now.units c.place-at.result c.reserve_kid.new.self }

pub returns-clause-same : goal.returns-clause-same
returns-clause-same c =
    same-units c.args.self.now (left c.before)
    (known-stays c.args.self.now (left c.before) c.args.parent c.place-at.result c.index_mut-entry.result.now c.reserve_kid.new.self
    (record { base = refl; past = refl }) refl c.place-at.ensures.at c.place-at.ensures.within c.index_mut-entry.ensures.value c.reserve_kid.ensures.same)
    (record { next = refl; lines = refl; rest = record { base = refl; kinds = refl; halt = refl } })
    refl

pub returns-clause-room : goal.returns-clause-room
returns-clause-room c =
    subst (λ (o : Option UnitEntry). OnOk c.reserve_kid.result (KidRoomAt o))
    (sym (entry-written c.args.self.now (left c.before) c.args.parent c.place-at.result c.reserve_kid.new.self (record { base = refl; past = refl }) refl c.place-at.ensures.at c.place-at.ensures.within))
    c.reserve_kid.ensures.room
