-- Which program may follow another: its types begin with the old ones' names, in their order.
use Rattle.std.specs.Prelude.{◌≡◌, ◌≢◌, ◌⊎◌, ℕ, List, [], ◌∷◌, ◌++◌, map, bytes_eq, Option, Some, None, Result, Ok, Err, if◌then◌else◌}
use Rattle.base_types.specs.Lists.{IsPrefix}
use Rattle.script_tree.specs.declared.expressions.Name.{Name}
use Rattle.script_tree.specs.Programs.{ProgramTree}
use Rattle.script_check.specs.declared.comparison.UpgradeFault.{UpgradeFault}

-- the names of the types, in the order of the text
abbrev pub names_of_types : ProgramTree → List Name
names_of_types types = map (λ t. t.name) types

-- what the names are
abbrev pub name_texts : List Name → List (List ℕ)
name_texts names = map (λ n. n.text) names

-- the new program's types begin with the old ones' names, in their order
abbrev pub GoesOnFrom : ProgramTree → ProgramTree → Type 0
GoesOnFrom old new = IsPrefix (name_texts (names_of_types old)) (name_texts (names_of_types new))

-- each program goes on from the one before it
abbrev pub GoOnInTurn : ProgramTree → List ProgramTree → Type 0
GoOnInTurn first [] = Unit {0}
GoOnInTurn first (next ∷ later) = GoesOnFrom first next × GoOnInTurn next later

-- the last of the programs
abbrev pub last_program : ProgramTree → List ProgramTree → ProgramTree
last_program first [] = first
last_program first (next ∷ later) = last_program next later

-- where the new names don't begin with the old ones: the first that differs, or the text's end where some are missing
abbrev pub differs : List Name → ℕ → List Name → Option ℕ
differs [] end news = None
differs (old ∷ olds) end [] = Some end
differs (old ∷ olds) end (new ∷ news) = if bytes_eq old.text new.text then differs olds end news else Some new.at

-- where the new program's types don't begin with the old names, none where they do
abbrev pub compared : ProgramTree → ProgramTree → ℕ → Option ℕ
compared old new end = differs (names_of_types old) end (names_of_types new)

-- the place that an answer names, none where it is no refusal
abbrev pub refused_place : Result (Unit {0}) UpgradeFault → Option ℕ
refused_place (Ok done) = None
refused_place (Err fault) = Some fault.at

-- the place is that of a new name that isn't the old one, behind names that are the same
pub record IsOtherName (olds news : List Name) (at : ℕ) : Type 0 where
  pub same : List Name
  pub here : Name
  pub behind : List Name
  pub wanted : List ℕ
  pub more : List (List ℕ)
  pub new_are : news ≡ same ++ (here ∷ behind)
  pub old_are : name_texts olds ≡ name_texts same ++ (wanted ∷ more)
  pub other : wanted ≢ here.text
  pub place : at ≡ here.at

-- the place is the text's end, behind names that are the same, where one more is wanted
pub record LacksTypes (olds news : List Name) (end at : ℕ) : Type 0 where
  pub wanted : List ℕ
  pub more : List (List ℕ)
  pub old_are : name_texts olds ≡ name_texts news ++ (wanted ∷ more)
  pub place : at ≡ end

-- the first type's name that differs, or the text's end where types are missing
abbrev pub IsRefusedAt : ProgramTree → ProgramTree → ℕ → ℕ → Type 0
IsRefusedAt old new end at = IsOtherName (names_of_types old) (names_of_types new) at ⊎ LacksTypes (names_of_types old) (names_of_types new) end at
