-- Where the last version of each grain stands.
use Rattle.std.specs.Prelude.{◌≡◌, ◌≢◌, Bool, true, Option, Some}
use Rattle.base_types.specs.Seats.{value_in}
use Rattle.base_types.specs.Seats as seats
use Rattle.base_types.specs.declared.calls.GrainId.{GrainId}
use Rattle.base_types.specs.declared.places.Placed.{Placed}
use Rattle.base_types.specs.declared.places.Places.{Places}
use Rattle.base_types.specs.Stores.{grain_cmp}

-- where the last version of a grain stands, none where it has none
abbrev pub placed_in : Places → GrainId → Option Placed
placed_in places grain = value_in grain_cmp places.places grain

-- the grain has room for a place
abbrev pub has_seat : Places → GrainId → Bool
has_seat places grain = seats.has_seat grain_cmp places.places grain

-- this version is this grain's last now, and every other grain has what it had
pub record PutsPlaced (old new : Places) (grain : GrainId) (placed : Placed) : Type 0 where
  pub put : placed_in new grain ≡ Some placed
  pub others : (other : GrainId) → other ≢ grain → placed_in new other ≡ placed_in old other

-- no grain has lost its room
abbrev pub KeepsSeats : Places → Places → Type 0
KeepsSeats old new = (grain : GrainId) → has_seat old grain ≡ true → has_seat new grain ≡ true
