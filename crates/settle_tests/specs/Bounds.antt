-- That a settler is within its bounds has one proof at most, so a bench may keep it.
use mathlib.Core.HLevel.{is_prop→PathP, ×_prop, ⊥_prop, Unit-prop}
use mathlib.Core.List.{is_set as List-set}
use native.Mathlib.Nat.{ℕ_set}
use Rattle.std.proofs.Common.{◌≡◌, ℕ, List, [], ◌∷◌, ◌++◌, sym, ◌∙◌}
use Rattle.std.proofs.lemmas.List.{append_cancel_left}
use Rattle.base_types.specs.Lists.{IsPrefix}
use Rattle.script_tree.specs.Programs.{ProgramTree}
use Rattle.script_check.specs.Comparison.{names_of_types, name_texts, GoOnInTurn}
use Rattle.program_file.specs.Succession.{AreInTurn}

names-set : IsSet (List (List ℕ))
names-set = List-set (List-set ℕ_set)

-- what is left of a list behind a first part is one list
prefix-prop : (front whole : List (List ℕ)) → IsProp (IsPrefix front whole)
prefix-prop front whole x y =
    let rest : x.0 ≡ y.0 = append_cancel_left front x.0 y.0 (sym x.1 ∙ y.1) in
    λ i. (rest i, is_prop→PathP (λ j. whole ≡ front ++ rest j) (λ j. names-set whole (front ++ rest j)) x.1 y.1 i)

go_on-prop : (first : ProgramTree) (later : List ProgramTree) → IsProp (GoOnInTurn first later)
go_on-prop first [] = Unit-prop
go_on-prop first (next ∷ later) = ×_prop (prefix-prop (name_texts (names_of_types first)) (name_texts (names_of_types next))) (go_on-prop next later)

pub in_turn-prop : (programs : List ProgramTree) → IsProp (AreInTurn programs)
in_turn-prop [] = ⊥_prop
in_turn-prop (first ∷ later) = go_on-prop first later
