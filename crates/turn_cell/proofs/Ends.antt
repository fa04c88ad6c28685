-- The end of a cell: where all that was split off was joined back, the object is at home, and the history has no entries but those that the pass keeps.
use Rattle.std.proofs.Common.{◌≡◌, ⊎_elim, ℕ, List, map, Some, true, false, true≢false, sym, ap, ◌∙◌, subst, get_or}
use mathlib.Core.Option.{some, some-injective}
use lib.ListN.{get_elem?}
use Rattle.atomic_table.specs.Table.{State}
use Rattle.atomic_table.proofs.Lists.{at_map}
use Rattle.turn_cell.specs.declared.view.View.{View}
use Rattle.turn_cell.specs.declared.place.Place.{Place}
use Rattle.turn_cell.specs.Places.{object_in}
use Rattle.turn_cell.specs.History.{leaves, IsLegal}
use Rattle.turn_cell.specs.Hands.{IsWhole}
use Rattle.turn_cell.specs.Passes.{Closes}
use Rattle.turn_cell.specs.Rule.{hand_of, Shelved, IsOneHistory}
use Rattle.turn_cell.proofs.Names.{same_some}
use Rattle.turn_cell.proofs.LastSeat.{only_seat, only_entries}
use Rattle.turn_cell.proofs.CellRule.{parity}

module _ {T S E R : Type 0} (state : T → S) (after : S → E → S) (reply : S → E → R) (id : ℕ) (v : View T E R) (s : State (Place T E R) (View T E R)) (t : IsOneHistory state after reply s) (at : get_elem? s.views id ≡ some v)
    (live : v.hand.live ≡ true) (idle : v.holds ≡ false) (whole : IsWhole v.hand) where
  -- nobody has the turn, so the object is at home
  at_home : Shelved state after reply (leaves after reply (state t.first) t.log) s.homes
  at_home = ⊎_elim (λ even. (t.free even).1)
      (λ odd. let x = t.out odd in
      let f = t.each t.owner x.0 x.1 in
      let me : t.owner ≡ id = only_seat t.log (map hand_of s.views) id v.hand t.numbers (at_map hand_of s.views id v at) live whole t.owner x.0.hand (at_map hand_of s.views t.owner x.0 x.1) (f.holder x.2).3 in
      absurd (true≢false (sym x.2 ∙ (ap (λ (z : View T E R). z.holds) (some-injective x.0 v (sym x.1 ∙ (ap (get_elem? s.views) me ∙ at))) ∙ idle))))
      (parity (get_or s.words 0 0))

  module _ (ys : List (Place T E R)) (all : (k : ℕ) (y : Place T E R) → get_elem? s.homes k ≡ some (some y) → get_elem? ys k ≡ some y) (p : Place T E R) (there : get_elem? ys 0 ≡ some p) where
    place_is : p ≡ at_home.0
    unfolding at_home
    place_is = some-injective p at_home.0 (sym there ∙ all 0 at_home.0 at_home.2)

    -- there is an object in the slot that comes back
    pub has_object : (o : T) × (object_in p ≡ Some o)
    unfolding at_home
    has_object = (at_home.1, ap object_in place_is ∙ at_home.3)

    -- and it is what the whole history leaves
    pub closes : (o : T) → object_in p ≡ Some o → Closes state after reply v o
    unfolding at_home
    closes o is =
        let first : t.first ≡ v.first = sym ((t.each id v at).start live) in
        let D = t.numbers.each id v.hand (at_map hand_of s.views id v at) live in
        let same : o ≡ at_home.1 = same_some o at_home.1 (sym is ∙ (ap object_in place_is ∙ at_home.3)) in record {
          log = t.log;
          begins = (t.each id v at).seen;
          legal = subst (λ (z : T). IsLegal after reply (state z) t.log) first t.legal;
          object = ap state same ∙ (at_home.4 ∙ ap (λ (z : T). leaves after reply (state z) t.log) first);
          mine = D.calls;
          theirs = λ k x. (D.keeps k x).1;
          whose = only_entries t.log (map hand_of s.views) id v.hand t.numbers (at_map hand_of s.views id v at) live whole;
        }
