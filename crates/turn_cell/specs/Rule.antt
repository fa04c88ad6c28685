-- The rule of a cell's table, and what each atomic step tells the pass that makes it.
-- The word is twice the number of events, and 1 more while the turn is held. The slot holds the object, or nothing while a pass has the turn.
use Rattle.std.specs.Prelude.{◌⊎◌, ◌≡◌, ◌≢◌, ℕ, ◌+◌, ◌*◌, ◌%◌, ◌≤◌, List, [], ◌∷◌, map, length, slice_index, true, Some}
use mathlib.Core.Option.{Option, some}
use lib.ListN.{get_elem?}
use Rattle.atomic_table.specs.Table.{State, Me, Step}
use Rattle.turn_cell.specs.declared.view.Entry.{Entry}
use Rattle.turn_cell.specs.declared.view.Hand.{Hand}
use Rattle.turn_cell.specs.declared.view.View.{View}
use Rattle.turn_cell.specs.declared.place.Place.{Place}
use Rattle.turn_cell.specs.declared.place.Place.TheVariants.{Out, Done}
use Rattle.turn_cell.specs.Places.{object_in}
use Rattle.turn_cell.specs.History.{StartsWith, leaves, IsLegal}
use Rattle.turn_cell.specs.Hands.{IsNumbered}
use Rattle.turn_cell.specs.Passes.{view, holding, idle, later, grown, state_seen, SeesLegal}

-- what a seat knows, and the slots that are out with it
abbrev pub Sat : Type 0 → Type 0 → Type 0 → Type 0
Sat T E R = Me (Place T E R) (View T E R)

module _ {T E R : Type 0} where
  -- the hand of a view
  abbrev pub hand_of : View T E R → Hand E R
  hand_of v = v.hand

  -- the seat has the turn at this word, and the object is with its thread
  abbrev pub HasTurn : ℕ → Sat T E R → Type 0
  HasTurn word m = (m.1 ≡ (0, Out) ∷ []) × (m.0.holds ≡ true) × (word ≡ 2 * length m.0.seen)

  -- a load: the word is not below twice the length of what was seen
  abbrev pub loads : Step (Place T E R) → Sat T E R → ℕ → Sat T E R → Type 0
  loads st m found n = (n ≡ m) × (2 * length m.0.seen ≤ found)

  -- the store that gives the turn back with nothing done
  abbrev pub releases : Step (Place T E R) → Sat T E R → ℕ → Sat T E R → Type 0
  releases st m stored n = n ≡ (idle m.0, [])

  -- the store that gives the turn back with the entry that lies beside the object
  abbrev pub publishes : Step (Place T E R) → Sat T E R → ℕ → Sat T E R → Type 0
  publishes st m stored n = (o : _) (e : _) (r : _) → m.1 ≡ (0, Done o e r) ∷ [] → n ≡ (grown m.0 e.value r.value, [])

module _ {T S E R : Type 0} (state : T → S) (after : S → E → S) (reply : S → E → R) where
  -- an object that means this is at home
  abbrev pub Shelved : S → List (Option (Place T E R)) → Type 0
  Shelved s homes = (p : Place T E R) × (o : T) × (get_elem? homes 0 ≡ some (some p)) × (object_in p ≡ Some o) × (state o ≡ s)

  -- What the rule says of the view at the seat j, where `owner` is the seat that has the turn
  pub record Fits (log : List (Entry E R)) (first : T) (word owner j : ℕ) (v : View T E R) : Type 0 where
    pub start : v.hand.live ≡ true → v.first ≡ first
    pub seen : StartsWith log v.seen
    pub told : StartsWith log v.told
    pub holder : v.holds ≡ true → (word % 2 ≡ 1) × (j ≡ owner) × (v.seen ≡ log) × (v.hand.live ≡ true)

  -- The rule: there is one legal history of which the word, the slot and all views tell
  pub record IsOneHistory (s : State (Place T E R) (View T E R)) : Type 0 where
    pub log : List (Entry E R)
    pub first : T
    pub owner : ℕ
    pub legal : IsLegal after reply (state first) log
    pub wide : length s.words ≡ 1
    -- while nobody has the turn, the object is at home as the history leaves it
    pub free : slice_index s.words 0 % 2 ≡ 0 → (slice_index s.words 0 ≡ 2 * length log) × Shelved (leaves after reply (state first) log) s.homes
    -- while the turn is held, one seat has it
    pub taken : slice_index s.words 0 % 2 ≡ 1 → slice_index s.words 0 ≡ 2 * length log + 1
    pub out : slice_index s.words 0 % 2 ≡ 1 → (v : View T E R) × (get_elem? s.views owner ≡ some v) × (v.holds ≡ true)
    pub each : (j : ℕ) (v : View T E R) → get_elem? s.views j ≡ some v → Fits log first (slice_index s.words 0) owner j v
    pub numbers : IsNumbered log (map hand_of s.views)

  -- the pass has the turn, and has seen the whole history
  abbrev pub Begins : View T E R → View T E R → Type 0
  Begins v w = (rest : List (Entry E R)) × (w ≡ holding (later v rest)) × SeesLegal state after reply w

  -- the seat took the turn at this word, and the object as the whole history leaves it
  abbrev pub Takes : Sat T E R → ℕ → Sat T E R → Type 0
  Takes m word n =
      (p : Place T E R) × (o : T) × Begins m.0 n.0 × (n.1 ≡ (0, p) ∷ m.1) × (object_in p ≡ Some o) × (state o ≡ state_seen state after reply n.0) × (word ≡ 2 * length n.0.seen)

  -- a compare_exchange: it takes the turn, or changes nothing
  abbrev pub tries : Step (Place T E R) → Sat T E R → ℕ → Sat T E R → Type 0
  tries st m found n = (found ≡ st.first → Takes m st.first n) × (found ≢ st.first → n ≡ m)

  -- a load after a join: of what the two passes had seen the longer stays, which begins with both
  abbrev pub hears : Step (Place T E R) → Sat T E R → ℕ → Sat T E R → Type 0
  hears st m found n =
      (seen : List (Entry E R)) × (n ≡ (view m.0.first seen m.0.holds m.0.hand, m.1))
      × StartsWith seen m.0.seen × StartsWith seen m.0.told × ((seen ≡ m.0.seen) ⊎ (seen ≡ m.0.told)) × IsLegal after reply (state m.0.first) seen
