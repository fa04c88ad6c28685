use Rattle.std.proofs.Common.{◌∙◌, ◌++◌, sym, ap, subst, List}
use Rattle.std.specs.Ordering.{eq_by_cmp}
use Rattle.std.specs.Set.{is_member}
use Rattle.std.specs.Map.{keys_of}
use Rattle.std.specs.List.Sorted.{IsStrictlySortedBy}
use Rattle.std.proofs.lemmas.List.Filters.{dedup_is}
use Rattle.base_types.specs.Seats.{has_seat}
use Rattle.base_types.proofs.SeatKeys.{seat_is_key, keys_in_parts, listed_once, ordered_once}
use Rattle.base_types.proofs.seats.Seats.keys.Goals as goal

pub returns-clause-listed : goal.returns-clause-listed
returns-clause-listed g c key =
    let values = c.self.inside.values in
    let rooms = c.self.inside.rooms.entries in
    ap (λ (l : List _). is_member (eq_by_cmp g.K.Ord.cmp) l key) (dedup_is _ _ _ c.dedup.ensures.filtered)
    ∙ listed_once g.met.K.Ord.total g.K.PartialEq.eq g.met.K.Ord.matches_eq c.add_keys.new.keys.items c.sort.new.self.items c.in_ok-sort.ensures.permutation key
    ∙ ap (λ (l : List _). is_member (eq_by_cmp g.K.Ord.cmp) l key) (c.in_ok-add_keys.ensures ∙ ap (λ (l : List _). l ++ keys_of rooms) c.in_ok-keys.ensures ∙ sym (keys_in_parts values rooms))
    ∙ sym (seat_is_key g.K.Ord.cmp _ key)
    ∙ ap (λ (l : List _). has_seat g.K.Ord.cmp l key) c.self.view_is

pub returns-clause-ordered : goal.returns-clause-ordered
returns-clause-ordered g c = subst (IsStrictlySortedBy g.K.Ord.cmp) (sym (dedup_is _ _ _ c.dedup.ensures.filtered)) (ordered_once g.met.K.Ord.total g.K.PartialEq.eq g.met.K.Ord.matches_eq c.sort.new.self.items c.in_ok-sort.ensures.sorted)
