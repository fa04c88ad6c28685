-- What the passes of a core that is shared give back, and what stays known of them as they are joined.
use Rattle.std.specs.Prelude.{◌⊎◌, ◌≡◌, ℕ, List, map}
use Rattle.base_types.specs.Lists.{Member}
use Rattle.core_model.specs.declared.events.CoreEvent.{CoreEvent}
use Rattle.core_model.specs.declared.events.CoreReply.{CoreReply}
use Rattle.core_model.specs.LegalRuns.{Run}
use Rattle.turn_cell.specs.declared.view.Kept.{Kept}
use Rattle.turn_cell.specs.declared.view.View.{View}
use Rattle.turn_cell.specs.History.{StartsWith}
use Rattle.turn_cell.specs.Hands.{number_of}
use Rattle.core_access.specs.Histories.{Told, run_after}
use Rattle.core_access.specs.Sights.{Sight}
use Rattle.core_access.specs.PassSights.{sight_of}

-- what one with this number knows of a core, who saw and put these entries
abbrev pub sight_by : Run → List ℕ → List Told → List Told → Sight
sight_by first number seen mine = record { first = first; number = number; seen = seen; mine = mine }

-- One with this number, who put these entries, knew this when it last looked; by now more may be seen.
pub record Knew (P : Sight → Type 0) (first : Run) (number : List ℕ) (seen mine : List Told) : Type 0 where
  pub shown : List Told
  pub begins : StartsWith seen shown
  pub holds : P (sight_by first number shown mine)

-- behind a first part of what was seen the run was so
abbrev pub WasShown : (Run → Type 0) → Run → List Told → Type 0
WasShown P first seen = (shown : List Told) × StartsWith seen shown × P (run_after first shown)

module _ {T : Type 0} (state : T → Run) where
  -- A pass made calls and asked, and was neither split nor joined; this is known of it.
  pub record Returns (P : Sight → Type 0) (v w : View T CoreEvent CoreReply) : Type 0 where
    pub first : state w.first ≡ state v.first
    pub seen : StartsWith w.seen v.seen
    pub number : w.hand.number ≡ v.hand.number
    pub split_off : w.hand.split_off ≡ v.hand.split_off
    pub joined : w.hand.joined ≡ v.hand.joined
    pub holds : P (sight_of state w)

  -- A pass was split too, and each that was split off since was joined back. The one was known of the pass itself, the other of
  -- each that was joined into it since.
  pub record GathersSights (Own Their : Sight → Type 0) (v w : View T CoreEvent CoreReply) : Type 0 where
    pub first : state w.first ≡ state v.first
    pub seen : StartsWith w.seen v.seen
    pub number : w.hand.number ≡ v.hand.number
    pub told : (n : List ℕ) → Member n w.hand.split_off → Member n v.hand.split_off ⊎ Member n (map number_of w.hand.joined)
    pub stay : (n : List ℕ) → Member n (map number_of v.hand.joined) → Member n (map number_of w.hand.joined)
    pub own : Knew Own (state v.first) v.hand.number w.seen w.hand.mine
    pub theirs : (k : Kept CoreEvent CoreReply) → Member k w.hand.joined → Member k v.hand.joined ⊎ Knew Their (state v.first) k.number w.seen k.mine
