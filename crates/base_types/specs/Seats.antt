-- Keys with a value, and keys that have room for one.
use Rattle.std.specs.Prelude.{◌≡◌, Bool, true, List, map, Option, Some, is_some}
use Rattle.std.specs.Option.{option_flatten}
use Rattle.std.specs.declared.cmp.Ordering.{Ordering}
use Rattle.std.specs.BTreeMap.{is_at}
use Rattle.std.specs.Map.{lookup}

-- entries that have a value each
abbrev pub filled : {K V : Type 0} → List (K × V) → List (K × Option V)
filled entries = map (λ entry. (entry.0, Some entry.1)) entries

module _ {K V : Type 0} (cmp : K → K → Ordering) where
  -- the value of a key, none where it has none
  abbrev pub value_in : List (K × Option V) → K → Option V
  value_in seats key = option_flatten (lookup (is_at (cmp key)) seats)

  -- the key has a value, or room for one
  abbrev pub has_seat : List (K × Option V) → K → Bool
  has_seat seats key = is_some (lookup (is_at (cmp key)) seats)

  -- no key has lost its room
  abbrev pub KeepsSeats : List (K × Option V) → List (K × Option V) → Type 0
  KeepsSeats old new = (key : K) → has_seat old key ≡ true → has_seat new key ≡ true
