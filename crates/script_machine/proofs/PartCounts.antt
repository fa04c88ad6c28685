-- How many types, methods and fields a program has.
use Rattle.std.proofs.Common.{◌≡◌, ℕ, ◌≤◌, List, map, length, Option, Some, None, refl, ap, ◌∙◌, subst}
use Rattle.std.specs.Prelude.{slice_get, option_map, IfSome}
use Rattle.std.proofs.lemmas.List.{length-map}
use Rattle.std.proofs.lemmas.List.Elements.{All-get_or}
use Rattle.std.proofs.lemmas.Option.{slice_get_within, get_or_from_slice_get, slice_get-map}
use Rattle.script_tree.specs.declared.programs.TypeDecl.{TypeDecl}
use Rattle.script_tree.specs.Programs.{TypeTree, ProgramTree, type_tree}
use Rattle.script_check.specs.AcceptedPrograms.{IsAcceptedProgram, IsAcceptedType}
use Rattle.script_machine.specs.Callees.{IsFew}

-- a type of a program
is_type : (types : ProgramTree) (i : ℕ) (of_type : TypeTree) → IsAcceptedProgram types → slice_get types i ≡ Some of_type → IsAcceptedType types of_type
is_type types i of_type program found =
    subst (IsAcceptedType types) (get_or_from_slice_get types i of_type of_type found) (All-get_or (IsAcceptedType types) types i of_type (slice_get_within types i of_type found) program.each)

-- the same for what is found
few_of : (types : List TypeDecl) (i : ℕ) → IsAcceptedProgram (map type_tree types) → (found : Option TypeDecl) → slice_get types i ≡ found → IfSome found (λ of_type. IsFew (type_tree of_type))
few_of types i program None e = tt
few_of types i program (Some of_type) e =
    let is : IsAcceptedType (map type_tree types) (type_tree of_type) = is_type (map type_tree types) i (type_tree of_type) program (slice_get-map type_tree types i ∙ ap (option_map type_tree) e) in
    record { fields = is.few_fields; methods = is.few_methods }

-- a type of a program has at most 64 fields and 64 methods
pub few_at : (types : List TypeDecl) (i : ℕ) → IsAcceptedProgram (map type_tree types) → IfSome (slice_get types i) (λ of_type. IsFew (type_tree of_type))
few_at types i program = few_of types i program (slice_get types i) refl

-- at most 64 types
pub few_types : (types : List TypeDecl) → IsAcceptedProgram (map type_tree types) → length types ≤ 64
few_types types program = subst (λ n. n ≤ 64) (length-map types type_tree) program.few
