-- Types that have a shape.
use Rattle.std.proofs.Common.{◌≡◌, ◌<◌, ◌≤◌, ℕ, List, [], ◌∷◌, map, length, take, refl, ap, ◌∙◌, arith}
use Rattle.std.specs.List.{All}
use Rattle.std.proofs.lemmas.List.{length-map, length-take}
use Rattle.std.proofs.lemmas.List.Elements.{All-nil, All-cons, All-head, All-tail}
use Rattle.script_tree.specs.declared.programs.TypeDecl.{TypeDecl}
use Rattle.script_tree.specs.declared.programs.Method.{Method}
use Rattle.script_tree.specs.Programs.{ProgramTree, method_tree, type_tree}
use Rattle.script_check.specs.Programs.{field_names}
use Rattle.script_check.specs.AcceptedPrograms.{IsAcceptedMethod, IsAcceptedType, IsAcceptedProgram}
use Rattle.script_check.specs.Shapes.{IsSmall}

-- a list that is mapped twice
pub map_map : {A B C : Type 0} (g : B → C) (f : A → B) (xs : List A) → map g (map f xs) ≡ map (λ x. g (f x)) xs
map_map g f [] = refl
map_map g f (x ∷ xs) = ap (λ l. g (f x) ∷ l) (map_map g f xs)

-- the front of a list at an index within it is shorter than the list
pub front_fits : {A B : Type 0} (f : A → B) (items : List B) (xs : List A) (i limit : ℕ) → items ≡ map f (take i xs) → i < length xs → length xs ≤ limit → length items < limit
front_fits f items xs i limit is lt le =
    let n : length items ≡ length (take i xs) = ap length is ∙ length-map (take i xs) f in
    omega (arith, n, length-take i xs)

methods_small : (types : ProgramTree) (fields : List (List ℕ)) (ms : List Method) → All (IsAcceptedMethod types fields) (map method_tree ms) → All (λ m. length m.params.list.items ≤ 8) ms
methods_small types fields [] h = All-nil (λ m. length m.params.list.items ≤ 8)
methods_small types fields (m ∷ ms) h =
    All-cons (λ m. length m.params.list.items ≤ 8) m ms (All-head (IsAcceptedMethod types fields) (method_tree m) (map method_tree ms) h).few (methods_small types fields ms (All-tail (IsAcceptedMethod types fields) (method_tree m) (map method_tree ms) h))

types_small : (all : ProgramTree) (types : List TypeDecl) → All (IsAcceptedType all) (map type_tree types) → All IsSmall types
types_small all [] h = All-nil IsSmall
types_small all (t ∷ ts) h =
    let one = All-head (IsAcceptedType all) (type_tree t) (map type_tree ts) h in
    All-cons IsSmall t ts
    (record { fields = one.few_fields; params = methods_small all (field_names (type_tree t).fields) t.methods.list.items one.methods })
    (types_small all ts (All-tail (IsAcceptedType all) (type_tree t) (map type_tree ts) h))

-- the types of a program have a shape
pub program_small : (types : List TypeDecl) → IsAcceptedProgram (map type_tree types) → All IsSmall types
program_small types p = types_small (map type_tree types) types p.each
