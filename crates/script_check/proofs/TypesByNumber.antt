-- The types of a program that the code holds, by their numbers.
use Rattle.std.proofs.Common.{◌≡◌, ◌<◌, ◌≤◌, ℕ, List, length, get_or, refl, sym, ap, subst, ◌∙◌, arith}
use Rattle.std.specs.Prelude.{option_map}
use Rattle.std.proofs.lemmas.List.{length-map}
use Rattle.std.proofs.lemmas.Option.{slice_get-map, slice_get_read}
use Rattle.script_tree.specs.declared.programs.TypeDecl.{TypeDecl}
use Rattle.script_tree.specs.declared.programs.Program.{Program}
use Rattle.script_tree.specs.Programs.{type_tree, program_tree}
use Rattle.script_check.specs.AcceptedPrograms.{IsAcceptedProgram}
use Rattle.script_check.proofs.TypeShapes.{program_small}
use Rattle.script_check.specs.Carrying.{type_fields, fields_of_kind}

-- a type that was read at a number of a program, whose types these are
pub record IsTypeAt (p : Program) (types : List TypeDecl) (kind : ℕ) (t : TypeDecl) : Type 0 where
  pub are : types ≡ p.types.list.items
  pub there : kind < length (program_tree p)
  pub is : t ≡ get_or types kind t

in_list : (p : Program) (types : List TypeDecl) (kind : ℕ) (t : TypeDecl) → IsTypeAt p types kind t → kind < length p.types.list.items
in_list p types kind t h = (let n = length-map p.types.list.items type_tree in let lt = h.there in omega (arith, n, lt))

-- its fields
pub fields_are : (p : Program) (types : List TypeDecl) (kind : ℕ) (t : TypeDecl) → IsTypeAt p types kind t → fields_of_kind (program_tree p) kind ≡ t.fields.list.items
fields_are p types kind t h =
    let is : t ≡ get_or p.types.list.items kind t = h.is ∙ ap (λ (l : List TypeDecl). get_or l kind t) h.are in
    ap type_fields (slice_get-map type_tree p.types.list.items kind ∙ ap (option_map type_tree) (slice_get_read p.types.list.items (length p.types.list.items) kind t refl (in_list p types kind t h) is))

-- it has few of them
pub few_fields : (p : Program) (types : List TypeDecl) (kind : ℕ) (t : TypeDecl) → IsAcceptedProgram (program_tree p) → IsTypeAt p types kind t → length t.fields.list.items ≤ 64
few_fields p types kind t ok h =
    let is : t ≡ get_or p.types.list.items kind t = h.is ∙ ap (λ (l : List TypeDecl). get_or l kind t) h.are in
    subst (λ (x : TypeDecl). length x.fields.list.items ≤ 64) (sym is) (program_small p.types.list.items ok kind t (in_list p types kind t h)).fields
