-- The types and methods that a program names.
use Rattle.std.proofs.Common.{◌≡◌, ℕ, suc, ◌+◌, ◌<◌, ◌≤◌, Bool, true, false, List, length, drop, map, refl, sym, ap, ◌∙◌, subst, Option, Some, None, get_or, option_map, add-one, drop-cons}
use Rattle.std.specs.Prelude.{slice_get, bytes_eq, if◌then◌else◌}
use Rattle.std.proofs.lemmas.Option.{slice_get-map, slice_get_within, get_or_from_slice_get}
use Rattle.script_tree.specs.declared.programs.TypeDecl.{TypeDecl}
use Rattle.script_tree.specs.Programs.{TypeTree, type_tree, method_tree}
use Rattle.script_check.specs.AcceptedPrograms.{IsAcceptedProgram}
use Rattle.request_wire.specs.Names.{TypeNames, type_names, method_names, names_in, named}
use Rattle.request_wire.specs.Request.{method_of}

-- the type of this number
tree_at : (types : List TypeDecl) (kind : ℕ) → slice_get (map type_tree types) kind ≡ option_map type_tree (slice_get types kind)
tree_at types kind = slice_get-map type_tree types kind

-- what it names
names_at : (types : List TypeDecl) (kind : ℕ) → slice_get (names_in (map type_tree types)) kind ≡ option_map type_names (option_map type_tree (slice_get types kind))
names_at types kind = slice_get-map type_names (map type_tree types) kind ∙ ap (option_map type_names) (tree_at types kind)

-- a method of a type that is there
pub method_of-some : (types : List TypeDecl) (kind : ℕ) (t : TypeDecl) (name : List ℕ) → Some t ≡ slice_get types kind →
    method_of (names_in (map type_tree types)) kind name ≡ option_map (λ m. (m.0, m.1.1)) (named (λ m. m.0) 0 (map method_names (map method_tree t.methods.list.items)) name)
method_of-some types kind t name e = rw (names_at types kind, ← e) refl

-- and of one that isn't
pub method_of-none : (types : List TypeDecl) (kind : ℕ) (name : List ℕ) → None ≡ slice_get types kind → method_of (names_in (map type_tree types)) kind name ≡ None
method_of-none types kind name e = rw (names_at types kind, ← e) refl

-- a type of a program has few methods
pub few_methods : (types : List TypeDecl) (kind : ℕ) (t : TypeDecl) → IsAcceptedProgram (map type_tree types) → Some t ≡ slice_get types kind → length (map method_tree t.methods.list.items) ≤ 64
few_methods types kind t p e =
    let there : slice_get (map type_tree types) kind ≡ Some (type_tree t) = rw (tree_at types kind, ← e) refl in
    let is : get_or (map type_tree types) kind (type_tree t) ≡ type_tree t = get_or_from_slice_get (map type_tree types) kind (type_tree t) (type_tree t) there in
    let P : TypeTree → Type 0 = λ t. length t.methods ≤ 64 in
    subst P is (p.each kind (type_tree t) (slice_get_within (map type_tree types) kind (type_tree t) there)).few_methods

-- the types from an index on, by a name
abbrev pub types_from : List TypeDecl → ℕ → List ℕ → Option (ℕ × TypeNames)
types_from types k name = named (λ t. t.name) k (map type_names (map type_tree (drop k types))) name

types_from-step : (types : List TypeDecl) (k : ℕ) (t : TypeDecl) (name : List ℕ) → k < length types → t ≡ get_or types k t →
    types_from types k name ≡ (if bytes_eq name t.name.text then Some (k, type_names (type_tree t)) else types_from types (k + 1) name)
types_from-step types k t name h e =
    ap (λ l. named (λ t. t.name) k (map type_names (map type_tree l)) name) (drop-cons types k t h)
    ∙ ap (λ d. if bytes_eq name d.name.text then Some (k, type_names (type_tree d)) else named (λ t. t.name) (k + 1) (map type_names (map type_tree (drop (suc k) types))) name) (sym e)
    ∙ ap (λ n. if bytes_eq name t.name.text then Some (k, type_names (type_tree t)) else named (λ t. t.name) (k + 1) (map type_names (map type_tree (drop n types))) name) (sym (add-one k))

-- the name is that of the type at the index
pub types_from-hit : (types : List TypeDecl) (k : ℕ) (t : TypeDecl) (name text : List ℕ) (b : Bool) → k < length types → t ≡ get_or types k t → text ≡ t.name.text → b ≡ bytes_eq name text → b ≡ true → Some k ≡ option_map (λ t. t.0) (types_from types k name)
types_from-hit types k t name text b h e same test holds =
    let is : bytes_eq name t.name.text ≡ true = ap (bytes_eq name) (sym same) ∙ sym test ∙ holds in
    rw (types_from-step types k t name h e, is) refl

-- the name is another, and is looked for further on
pub types_from-miss : (types : List TypeDecl) (k : ℕ) (t : TypeDecl) (name text : List ℕ) (b : Bool) → k < length types → t ≡ get_or types k t → text ≡ t.name.text → b ≡ bytes_eq name text → b ≡ false → types_from types k name ≡ types_from types (k + 1) name
types_from-miss types k t name text b h e same test holds =
    let is : bytes_eq name t.name.text ≡ false = ap (bytes_eq name) (sym same) ∙ sym test ∙ holds in
    types_from-step types k t name h e ∙ rw is refl

pub ruleset named_methods = (method_of-some, method_of-none, few_methods)
