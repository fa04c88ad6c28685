use Rattle.std.proofs.Common.{◌∙◌, sym, ap, List}
use Rattle.std.specs.Option.{option_flatten}
use Rattle.std.specs.BTreeMap.{is_at}
use Rattle.base_types.specs.Seats.{value_in}
use Rattle.base_types.proofs.SeatEdits.{value_there, value_missing}
use Rattle.base_types.proofs.seats.Seats.get.Goals as goal

pub returns-in-Some : goal.returns-in-Some
returns-in-Some g c =
    sym (ap option_flatten (value_there (is_at (g.K.Ord.cmp c.args.key)) c.self.inside.values c.self.inside.rooms.entries c.in-Some.value.now c.in-Some.ensures))
    ∙ ap (λ (l : List _). value_in g.K.Ord.cmp l c.args.key) c.self.view_is

pub returns-in-Some-get : goal.returns-in-Some-get
returns-in-Some-get g c =
    c.as_ref.ensures.value
    ∙ sym (ap option_flatten (value_missing (is_at (g.K.Ord.cmp c.args.key)) c.self.inside.values c.self.inside.rooms.entries (sym c.in-None.ensures) ∙ sym c.in-Some-get.ensures.value))
    ∙ ap (λ (l : List _). value_in g.K.Ord.cmp l c.args.key) c.self.view_is

pub returns-in-None-get : goal.returns-in-None-get
returns-in-None-get g c =
    sym (ap option_flatten (value_missing (is_at (g.K.Ord.cmp c.args.key)) c.self.inside.values c.self.inside.rooms.entries (sym c.in-None.ensures) ∙ sym c.in-None-get.ensures.value))
    ∙ ap (λ (l : List _). value_in g.K.Ord.cmp l c.args.key) c.self.view_is
