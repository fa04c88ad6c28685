-- Passes, and what each call of a cell leaves in their views.
use Rattle.std.specs.Prelude.{◌⊎◌, ◌≡◌, List, [], ◌∷◌, ◌++◌, Bool, true, false}
use Rattle.atomic_table.specs.Seated.{TableId}
use Rattle.atomic_table.specs.declared.shared.Seat.{Seat}
use Rattle.base_types.specs.Lists.{Member}
use Rattle.turn_cell.specs.declared.view.Entry.{Entry}
use Rattle.turn_cell.specs.declared.view.Kept.{Kept}
use Rattle.turn_cell.specs.declared.view.Hand.{Hand}
use Rattle.turn_cell.specs.declared.view.View.{View}
use Rattle.turn_cell.specs.declared.place.Place.{Place}
use Rattle.turn_cell.specs.History.{entries_of, StartsWith, entry, leaves, IsLegal}
use Rattle.turn_cell.specs.Hands.{splitter_hand, split_off_hand, joined_hand, adding, Keeps}

module _ {T E R : Type 0} where
  -- what a pass knows
  abbrev pub pass_view : Seat (Place T E R) (View T E R) → View T E R
  pass_view p = p.me.0

  -- a pass of the cell, which a contract sees as its table, by which calls can be made
  abbrev pub IsPassOf : TableId → Seat (Place T E R) (View T E R) → Type 0
  IsPassOf cell p = (p.table_id ≡ cell) × (p.me.1 ≡ []) × (p.me.0.holds ≡ false) × (p.me.0.hand.live ≡ true)

  -- the same seat at the same table
  abbrev pub IsSameSeat : Seat (Place T E R) (View T E R) → Seat (Place T E R) (View T E R) → Type 0
  IsSameSeat p q = (q.table_id ≡ p.table_id) × (q.id ≡ p.id)

  -- a view with nothing that was told and not heard
  abbrev pub view : T → List (Entry E R) → Bool → Hand E R → View T E R
  view o seen holds hand = record { first = o; seen = seen; told = []; holds = holds; hand = hand }

  -- the view with the turn
  abbrev pub holding : View T E R → View T E R
  holding v = view v.first v.seen true v.hand

  -- the view without the turn
  abbrev pub idle : View T E R → View T E R
  idle v = view v.first v.seen false v.hand

  -- the view that has seen this much more
  abbrev pub later : View T E R → List (Entry E R) → View T E R
  later v rest = view v.first (v.seen ++ rest) false v.hand

  -- the view with one entry more, which is seen and is the pass's own
  abbrev pub grown : View T E R → E → R → View T E R
  grown v event said = view v.first (v.seen ++ entry v.hand.number event said ∷ []) false (adding v.hand (entry v.hand.number event said))

  -- the view of a pass after it was split
  abbrev pub splitter_view : View T E R → View T E R
  splitter_view v = view v.first v.seen v.holds (splitter_hand v.hand)

  -- the view of the pass that was split off
  abbrev pub split_off_view : View T E R → View T E R
  split_off_view v = view v.first v.seen false (split_off_hand v.hand)

  -- the view of the first pass of a join, which was told what the other had seen
  abbrev pub told_of : View T E R → View T E R → View T E R
  told_of v w = record { first = v.first; seen = v.seen; told = w.seen; holds = v.holds; hand = joined_hand v.hand w.hand }

-- the state at the opening of the pass's cell
abbrev pub opening : {T S E R : Type 0} → (T → S) → View T E R → S
opening state v = state v.first

module _ {T S E R : Type 0} (state : T → S) (after : S → E → S) (reply : S → E → R) where
  -- the state after all that the pass has seen
  abbrev pub state_seen : View T E R → S
  state_seen v = leaves after reply (opening state v) v.seen

  -- all that the pass has seen is a legal history from the opening on
  abbrev pub SeesLegal : View T E R → Type 0
  SeesLegal v = IsLegal after reply (opening state v) v.seen

  -- the pass may have seen more, in one legal history, and nothing else changed
  abbrev pub Sees : View T E R → View T E R → Type 0
  Sees v w = (rest : List (Entry E R)) × (w ≡ later v rest) × SeesLegal w

  -- one legal history begins with all that the pass had seen and ends with this event and its reply, which are one entry more of the pass's own
  abbrev pub Adds : View T E R → E → R → View T E R → Type 0
  Adds v event said w = (rest : List (Entry E R)) × (w ≡ grown (later v rest) event said) × SeesLegal w

  -- The pass u of v and w: it has seen what both had seen, keeps the number of w with w's entries, and is else as v
  pub record Joins (v w u : View T E R) : Type 0 where
    pub first : u.first ≡ v.first
    pub one : StartsWith u.seen v.seen
    pub other : StartsWith u.seen w.seen
    pub longer : (u.seen ≡ v.seen) ⊎ (u.seen ≡ w.seen)
    pub legal : SeesLegal u
    pub hand : u.hand ≡ joined_hand v.hand w.hand

  -- The object is what the whole history leaves, which has the entries of the pass and of those that were joined into it, and no others
  pub record Closes (v : View T E R) (closed : T) : Type 0 where
    pub log : List (Entry E R)
    pub begins : StartsWith log v.seen
    pub legal : IsLegal after reply (opening state v) log
    pub object : state closed ≡ leaves after reply (opening state v) log
    pub mine : entries_of v.hand.number log ≡ v.hand.mine
    pub theirs : (k : Kept E R) → Member k v.hand.joined → entries_of k.number log ≡ k.mine
    pub whose : (e : Entry E R) → Member e log → Keeps e.by v.hand
