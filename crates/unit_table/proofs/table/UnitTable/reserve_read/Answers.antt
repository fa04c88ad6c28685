use Rattle.std.proofs.Common.{refl, sym, subst, OnOk, Option}
use Rattle.std.specs.VecDeque.{deque_with_item}
use Rattle.unit_table.specs.declared.entry.UnitEntry.{UnitEntry}
use Rattle.unit_table.specs.declared.table.UnitTable.{UnitTable}
use Rattle.unit_table.specs.Rooms.{ReadRoomAt}
use Rattle.unit_table.proofs.Tables.{known-stays, entry-written, same-units}
use Rattle.unit_table.proofs.table.UnitTable.reserve_read.Goals as goal
use Rattle.unit_table.proofs.table.UnitTable.reserve_read.Goals.{After-reserve_read}

-- the table at the end
abbrev left : After-reserve_read → UnitTable
left c = record c.args.self.now { units = deque_with_item c.args.self.now.units c.place-at.result c.reserve_read.new.self }

pub returns-clause-same : goal.returns-clause-same
returns-clause-same c =
    same-units c.args.self.now (left c.before)
    (known-stays c.args.self.now (left c.before) c.args.unit c.place-at.result c.index_mut-entry.result.now c.reserve_read.new.self
    (record { base = refl; past = refl }) refl c.place-at.ensures.at c.place-at.ensures.within c.index_mut-entry.ensures.value c.reserve_read.ensures.same)
    (record { next = refl; lines = refl; rest = record { base = refl; kinds = refl; halt = refl } })
    refl

pub returns-clause-room : goal.returns-clause-room
returns-clause-room c =
    subst (λ (o : Option UnitEntry). OnOk c.reserve_read.result (ReadRoomAt o))
    (sym (entry-written c.args.self.now (left c.before) c.args.unit c.place-at.result c.reserve_read.new.self (record { base = refl; past = refl }) refl c.place-at.ensures.at c.place-at.ensures.within))
    c.reserve_read.ensures.room
