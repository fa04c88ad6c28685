-- The entries of a map, and places among those whose keys ascend.
use Rattle.std.specs.Prelude.{◌≡◌, ℕ, ◌<◌, ◌≤◌, List, length, cond, false, Some, HoldsAt}
use Rattle.std.specs.List.{AllWithin}
use Rattle.std.specs.declared.cmp.Ordering.{Ordering}
use Rattle.std.specs.declared.cmp.Ordering.TheVariants.{Less, Equal, Greater}
use Rattle.std.specs.BTreeMap.{is_at}
use Rattle.std.specs.Map.{lookup}

module _ {K V : Type 0} (cmp : K → K → Ordering) where
  -- new has the value at the key, and at each other key what old has: for any key, for the key, and for each other
  abbrev pub SetsValue : List (K × V) → List (K × V) → K → V → Type 0
  SetsValue old new key value = ((any : K) → lookup (is_at (cmp any)) new ≡ cond (is_at (cmp key) any) (Some value) (lookup (is_at (cmp any)) old)) × (lookup (is_at (cmp key)) new ≡ Some value)
      × ((other : K) → is_at (cmp key) other ≡ false → lookup (is_at (cmp other)) new ≡ lookup (is_at (cmp other)) old)

  -- the entry at this place has the key
  pub record IsPlaceOf (key : K) (entries : List (K × V)) (at : ℕ) : Type 0 where
    pub within : at < length entries
    pub equal : HoldsAt (λ entry. cmp entry.0 key ≡ Equal) entries at

  -- the keys before this place are less than the key, and those from it on are greater
  pub record IsGapFor (key : K) (entries : List (K × V)) (at : ℕ) : Type 0 where
    pub within : at ≤ length entries
    pub less : AllWithin (λ entry. cmp entry.0 key ≡ Less) entries 0 at
    pub greater : AllWithin (λ entry. cmp entry.0 key ≡ Greater) entries at (length entries)
