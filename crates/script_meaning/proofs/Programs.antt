-- What holds of each type of a program, and where its methods are found.
use Rattle.std.proofs.Common.{◌≡◌, ℕ, zero, suc, List, [], ◌∷◌, map, Option, Some, None, subst, sym, ap, ◌∙◌}
use Rattle.std.specs.Prelude.{slice_get}
use Rattle.std.specs.Option.{option_map}
use Rattle.std.specs.List.{All}
use Rattle.std.proofs.lemmas.Option.{slice_get-map}
use Rattle.std.proofs.lemmas.List.Elements.{All-head, All-tail}
use Rattle.script_tree.specs.declared.programs.TypeDecl.{TypeDecl}
use Rattle.script_tree.specs.Programs.{ProgramTree, TypeTree, type_tree, method_tree}
use Rattle.script_check.specs.AcceptedPrograms.{IsAcceptedType, IsAcceptedProgram}
use Rattle.script_meaning.specs.Calls.{method_from, method_target, numbered, numbered_by}
use Rattle.script_meaning.specs.Targets.{type_at}

each_there : (all : ProgramTree) (types : List TypeDecl) (kind : ℕ) (of_type : TypeDecl) → All (IsAcceptedType all) (map type_tree types) →
    slice_get types kind ≡ Some of_type → IsAcceptedType all (type_tree of_type)
each_there all [] kind of_type each there = absurd (cc)
each_there all (first ∷ types) zero of_type each there =
    let is : first ≡ of_type = cc in
    let P : TypeDecl → Type 0 = λ t. IsAcceptedType all (type_tree t) in
    subst P is (All-head (IsAcceptedType all) (type_tree first) (map type_tree types) each)
each_there all (first ∷ types) (suc kind) of_type each there =
    each_there all types kind of_type (All-tail (IsAcceptedType all) (type_tree first) (map type_tree types) each) there

-- a type that is found in a program is one of its types
pub type_there : (types : List TypeDecl) (kind : ℕ) (of_type : TypeDecl) → IsAcceptedProgram (map type_tree types) →
    slice_get types kind ≡ Some of_type → IsAcceptedType (map type_tree types) (type_tree of_type)
type_there types kind of_type program there = each_there (map type_tree types) types kind of_type program.each there

-- the type of a number, and none
pub type_at_some : (types : List TypeDecl) (kind : ℕ) (of_type : TypeDecl) → slice_get types kind ≡ Some of_type → type_at types kind ≡ Some (type_tree of_type)
type_at_some types kind of_type there = slice_get-map type_tree types kind ∙ ap (option_map type_tree) there

pub type_at_none : (types : List TypeDecl) (kind : ℕ) → slice_get types kind ≡ None → type_at types kind ≡ None
type_at_none types kind none = slice_get-map type_tree types kind ∙ ap (option_map type_tree) none

-- a method that is found by its name is that of its number, and where there is none by that name there is none
pub method_named : (types : List TypeDecl) (kind : ℕ) (of_type : TypeDecl) (name : List ℕ) (number : ℕ) → slice_get types kind ≡ Some of_type →
    method_from 0 name (map method_tree of_type.methods.list.items) ≡ Some number → method_target (type_at types kind) name ≡ numbered (type_at types kind) number
method_named types kind of_type name number there is =
    let at = type_at_some types kind of_type there in
    ap (λ (o : Option TypeTree). method_target o name) at
    ∙ ap (numbered_by (type_tree of_type)) is
    ∙ ap (λ (o : Option TypeTree). numbered o number) (sym at)

pub method_unnamed : (types : List TypeDecl) (kind : ℕ) (of_type : TypeDecl) (name : List ℕ) → slice_get types kind ≡ Some of_type →
    method_from 0 name (map method_tree of_type.methods.list.items) ≡ None → method_target (type_at types kind) name ≡ None
method_unnamed types kind of_type name there none =
    ap (λ (o : Option TypeTree). method_target o name) (type_at_some types kind of_type there) ∙ ap (numbered_by (type_tree of_type)) none
