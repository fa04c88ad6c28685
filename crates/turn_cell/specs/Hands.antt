-- What passes know of numbers and of their own entries.
-- The first pass has the number []. A pass that is split off has the number of the pass that it is split from, followed by how many that had split off before, so no two passes have one number.
use Rattle.std.specs.Prelude.{◌⊎◌, ◌≡◌, ◌≢◌, ℕ, ◌+◌, ◌≤◌, List, [], ◌∷◌, ◌++◌, map, true, false, Option, None, Some}
use mathlib.Core.Option.{some}
use lib.ListN.{get_elem?}
use Rattle.base_types.specs.Lists.{Member}
use Rattle.turn_cell.specs.declared.view.Entry.{Entry}
use Rattle.turn_cell.specs.declared.view.Kept.{Kept}
use Rattle.turn_cell.specs.declared.view.Hand.{Hand}
use Rattle.turn_cell.specs.History.{entries_of}

module _ {E R : Type 0} where
  -- the hand of the first pass
  abbrev pub first_hand : Hand E R
  first_hand = record { live = true; number = []; splits = 0; mine = []; split_off = []; joined = [] }

  -- the hand of a pass that was joined into another
  abbrev pub spent_hand : Hand E R
  spent_hand = record { live = false; number = []; splits = 0; mine = []; split_off = []; joined = [] }

  -- the number of the pass that is split off next
  abbrev pub next_number : Hand E R → List ℕ
  next_number h = h.number ++ h.splits ∷ []

  -- the hand of a pass after it was split
  abbrev pub splitter_hand : Hand E R → Hand E R
  splitter_hand h = record { live = h.live; number = h.number; splits = h.splits + 1; mine = h.mine; split_off = next_number h ∷ h.split_off; joined = h.joined }

  -- the hand of the pass that was split off
  abbrev pub split_off_hand : Hand E R → Hand E R
  split_off_hand h = record { live = h.live; number = next_number h; splits = 0; mine = []; split_off = []; joined = [] }

  -- what is kept of a pass
  abbrev pub kept : List ℕ → List (Entry E R) → Kept E R
  kept number mine = record { number = number; mine = mine }

  -- the number that is kept
  abbrev pub number_of : Kept E R → List ℕ
  number_of k = k.number

  -- the hand of h after i was joined into it: i's number is kept with i's entries, beside all that i kept
  abbrev pub joined_hand : Hand E R → Hand E R → Hand E R
  joined_hand h i = record { live = h.live; number = h.number; splits = h.splits; mine = h.mine; split_off = h.split_off ++ i.split_off; joined = h.joined ++ kept i.number i.mine ∷ i.joined }

  -- the hand with one entry more of its own
  abbrev pub adding : Hand E R → Entry E R → Hand E R
  adding h e = record { live = h.live; number = h.number; splits = h.splits; mine = h.mine ++ e ∷ []; split_off = h.split_off; joined = h.joined }

  -- the number is the hand's own, or of a pass that was joined into it
  abbrev pub Keeps : List ℕ → Hand E R → Type 0
  Keeps n h = (n ≡ h.number) ⊎ Member n (map number_of h.joined)

  -- the first pass, which knows of no pass that was split off and not joined back
  abbrev pub IsWhole : Hand E R → Type 0
  IsWhole h = (h.number ≡ []) × ((n : List ℕ) → Member n h.split_off → Member n (map number_of h.joined))

  -- the seat j has a hand that keeps the number
  abbrev pub KeptAt : List (Hand E R) → List ℕ → ℕ → Type 0
  KeptAt hands n j = (h : Hand E R) × (get_elem? hands j ≡ some h) × (h.live ≡ true) × Keeps n h

  -- the seat j has a hand that knows of the split which made the number
  abbrev pub ToldAt : List (Hand E R) → List ℕ → ℕ → Type 0
  ToldAt hands n j = (h : Hand E R) × (get_elem? hands j ≡ some h) × Member n h.split_off

  -- What the rule says of the hand at the seat j. `home` gives the seat that keeps a number, where a pass with that number was made
  pub record Deals (log : List (Entry E R)) (home : List ℕ → Option ℕ) (j : ℕ) (h : Hand E R) : Type 0 where
    -- its own number is kept here, and its entries are all of that number
    pub own : home h.number ≡ Some j
    pub calls : entries_of h.number log ≡ h.mine
    -- the numbers of passes that it will split off were not made yet, nor were theirs
    pub unmade : (i : ℕ) (rest : List ℕ) → h.splits ≤ i → home (h.number ++ i ∷ rest) ≡ None
    -- each number that was joined into it is kept here too, with all its entries
    pub keeps : (k : Kept E R) → Member k h.joined → (home k.number ≡ Some j) × (entries_of k.number log ≡ k.mine) × (k.number ≢ h.number)

  -- What the rule says of all hands: each number that was made is kept at one seat, with all its entries
  pub record IsNumbered (log : List (Entry E R)) (hands : List (Hand E R)) : Type 0 where
    pub home : List ℕ → Option ℕ
    pub each : (j : ℕ) (h : Hand E R) → get_elem? hands j ≡ some h → h.live ≡ true → Deals log home j h
    pub made : (n : List ℕ) (j : ℕ) → home n ≡ Some j → KeptAt hands n j
    -- who keeps the number that a pass was split from knows of the split
    pub parent : (p : List ℕ) (k j : ℕ) → home (p ++ k ∷ []) ≡ Some j → (i : ℕ) × (home p ≡ Some i) × ToldAt hands (p ++ k ∷ []) i
    -- a number that was not made has no entry
    pub none_yet : (n : List ℕ) → home n ≡ None → entries_of n log ≡ []
