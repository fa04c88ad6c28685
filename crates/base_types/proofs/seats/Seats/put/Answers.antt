use Rattle.std.proofs.Common.{◌++◌, Some, List, subst}
use Rattle.base_types.specs.MapEntries.{SetsValue}
use Rattle.base_types.specs.Seats.{filled}
use Rattle.base_types.proofs.SeatEdits.{puts, keeps}
use Rattle.base_types.proofs.seats.Seats.put.Goals as goal

pub returns-clause-ok : goal.returns-clause-ok
returns-clause-ok g c =
    let rooms = c.self.inside.rooms.entries in
    subst (λ (l : List _). SetsValue g.K.Ord.cmp l (filled c.insert.new.self ++ rooms) c.args.key (Some c.args.value)) c.self.view_is
    (puts g.met.K.Ord.total c.self.inside.values c.insert.new.self rooms c.args.key c.args.value c.in_ok-insert.ensures.ok)

pub returns-clause-room : goal.returns-clause-room
returns-clause-room g c = keeps g.met.K.Ord.total c.args.self.now (filled c.insert.new.self ++ c.self.inside.rooms.entries) c.args.key (Some c.args.value) (returns-clause-ok g c)
