use Rattle.std.proofs.Common.{◌∙◌, ◌++◌, sym, ap, subst, List, None, is_some}
use Rattle.std.specs.BTreeMap.{is_at}
use Rattle.base_types.specs.MapEntries.{SetsValue}
use Rattle.base_types.specs.Seats.{filled, has_seat}
use Rattle.base_types.proofs.SeatEdits.{no_seat, no_value_there, seats, keeps, same_values}
use Rattle.base_types.proofs.seats.Seats.room.Goals as goal
use Rattle.base_types.proofs.seats.Seats.room.Goals.{Joined-branch-2}

-- the key that was missing has room alone
missing_is_set : (g : _) (c : Joined-branch-2 g) → SetsValue g.K.Ord.cmp c.args.self.now (filled c.self.inside.values ++ c.insert.new.self.entries) c.args.key None
missing_is_set g c =
    let values = c.self.inside.values in
    let rooms = c.self.inside.rooms.entries in
    let missing = no_value_there (is_at (g.K.Ord.cmp c.args.key)) values rooms (ap (λ (l : List _). has_seat g.K.Ord.cmp l c.args.key) c.self.view_is ∙ sym c.has_seat.ensures ∙ c.if-has_seat.false) in
    subst (λ (l : List _). SetsValue g.K.Ord.cmp l (filled values ++ c.insert.new.self.entries) c.args.key None) c.self.view_is
    (seats g.met.K.Ord.total values rooms c.insert.new.self.entries c.args.key None missing c.in_ok-insert.ensures.updates.0)

pub returns-clause-made : goal.returns-clause-made
returns-clause-made g c = ap is_some (missing_is_set g c).1

pub returns-clause-same : goal.returns-clause-same
returns-clause-same g c =
    same_values g.met.K.Ord.total c.args.self.now (filled c.self.inside.values ++ c.insert.new.self.entries) c.args.key
    (no_seat (is_at (g.K.Ord.cmp c.args.key)) c.args.self.now (sym c.has_seat.ensures ∙ c.if-has_seat.false)) (missing_is_set g c)

pub returns-clause-room : goal.returns-clause-room
returns-clause-room g c = keeps g.met.K.Ord.total c.args.self.now (filled c.self.inside.values ++ c.insert.new.self.entries) c.args.key None (missing_is_set g c)
