-- What a function that calls a cell by a pass, or lets many threads call it, says of the pass that it hands back.
use Rattle.std.specs.Prelude.{◌⊎◌, ◌≡◌, ℕ, List, map}
use Rattle.base_types.specs.Lists.{Member}
use Rattle.turn_cell.specs.declared.view.Entry.{Entry}
use Rattle.turn_cell.specs.declared.view.Kept.{Kept}
use Rattle.turn_cell.specs.declared.view.View.{View}
use Rattle.turn_cell.specs.History.{StartsWith}
use Rattle.turn_cell.specs.Hands.{number_of}

module _ {T E R : Type 0} where
  -- P holds of the entries of each number that the pass keeps
  abbrev pub KeepsOnly : (List (Entry E R) → Type 0) → View T E R → Type 0
  KeepsOnly P v = (k : Kept E R) → Member k v.hand.joined → P k.mine

  -- The pass made calls and asked, and was neither split nor joined. Where P held of its own entries, it still does
  pub record Continues (P : List (Entry E R) → Type 0) (v w : View T E R) : Type 0 where
    pub first : w.first ≡ v.first
    pub seen : StartsWith w.seen v.seen
    pub number : w.hand.number ≡ v.hand.number
    pub splits : w.hand.splits ≡ v.hand.splits
    pub split_off : w.hand.split_off ≡ v.hand.split_off
    pub joined : w.hand.joined ≡ v.hand.joined
    pub mine : P v.hand.mine → P w.hand.mine

  -- The pass was split too, and each pass that was split off since was joined back. Where P held of the entries that it keeps, it still does
  pub record Gathers (P : List (Entry E R) → Type 0) (v w : View T E R) : Type 0 where
    pub first : w.first ≡ v.first
    pub seen : StartsWith w.seen v.seen
    pub number : w.hand.number ≡ v.hand.number
    pub told : (n : List ℕ) → Member n w.hand.split_off → Member n v.hand.split_off ⊎ Member n (map number_of w.hand.joined)
    pub stay : (n : List ℕ) → Member n (map number_of v.hand.joined) → Member n (map number_of w.hand.joined)
    pub mine : P v.hand.mine → P w.hand.mine
    pub theirs : KeepsOnly P v → KeepsOnly P w
