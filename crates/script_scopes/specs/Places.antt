-- Where a name stands among others.
use Rattle.std.specs.Prelude.{◌≡◌, ℕ, ◌+◌, if◌then◌else◌, bytes_eq, List, [], ◌∷◌, Option, Some, None}
use Rattle.std.specs.BTreeMap.{get_by_text}
use Rattle.script_scopes.specs.declared.places.NamePlaces.{NamePlaces}
use Rattle.script_scopes.specs.Names.{Scope}

-- the first place of a name, counted from here on
abbrev pub place_from : ℕ → List ℕ → Scope → Option ℕ
place_from i name [] = None
place_from i name (first ∷ rest) = if bytes_eq first name then Some i else place_from (i + 1) name rest

-- the first place of a name, from 0
abbrev pub name_place : List ℕ → Scope → Option ℕ
name_place name scope = place_from 0 name scope

-- the place that the code has for a name
abbrev pub place_in : NamePlaces → List ℕ → Option ℕ
place_in places name = get_by_text places.map name

-- the code has the first place of each of these names, and no other
abbrev pub HasPlaces : NamePlaces → Scope → Type 0
HasPlaces places scope = (name : List ℕ) → place_in places name ≡ name_place name scope
