use Rattle.std.proofs.Common.{◌∙◌, sym, ap, List, is_some}
use Rattle.std.specs.BTreeMap.{is_at}
use Rattle.base_types.specs.Seats.{has_seat}
use Rattle.base_types.proofs.SeatEdits.{value_there, value_missing}
use Rattle.base_types.proofs.seats.Seats.has_seat.Goals as goal

pub returns-in-Some : goal.returns-in-Some
returns-in-Some g c =
    sym (ap is_some (value_there (is_at (g.K.Ord.cmp c.args.key)) c.self.inside.values c.self.inside.rooms.entries c.in-Some.field-0.now c.in-Some.ensures))
    ∙ ap (λ (l : List _). has_seat g.K.Ord.cmp l c.args.key) c.self.view_is

pub returns-in-None : goal.returns-in-None
returns-in-None g c =
    c.contains_key.ensures
    ∙ sym (ap is_some (value_missing (is_at (g.K.Ord.cmp c.args.key)) c.self.inside.values c.self.inside.rooms.entries (sym c.in-None.ensures)))
    ∙ ap (λ (l : List _). has_seat g.K.Ord.cmp l c.args.key) c.self.view_is
