use Rattle.std.proofs.Common.{◌≡◌, ◌≤◌, sym, ap, subst, ◌∙◌, List, length}
use Rattle.base_types.specs.declared.calls.Value.{Value}
use Rattle.script_tree.specs.declared.programs.FieldDecl.{FieldDecl}
use Rattle.script_tree.specs.declared.programs.Program.{Program}
use Rattle.script_tree.specs.declared.programs.TypeDecl.{TypeDecl}
use Rattle.script_tree.specs.Programs.{program_tree}
use Rattle.script_check.specs.Carrying.{carried_fields, fields_of_kind}
use Rattle.script_check.proofs.ComparedNames.{types}
use Rattle.script_check.proofs.TypesByNumber.{IsTypeAt, fields_are, few_fields}
use Rattle.script_check.proofs.carrying.carry_state.Goals as goal

pub carry_values-requires-clause-few : goal.carry_values-requires-clause-few
carry_values-requires-clause-few c =
    let at : IsTypeAt c.args.new.now c.as_slice-2.result.now c.args.kind c.index-as_slice-kind-2.result = record {
      are = c.as_slice-2.ensures ∙ ap (λ (p : Program). p.types.list.items) c.program-2.ensures.same;
      there = types (program_tree c.args.old.now) (program_tree c.args.new.now) c.args.kind c.requires.follows c.requires.kind;
      is = c.index-as_slice-kind-2.is;
    } in
    subst (λ (l : List FieldDecl). length l ≤ 64) (sym (c.as_slice-4.ensures ∙ ap (λ (t : TypeDecl). t.fields.list.items) (sym c.index-as_slice-kind-2.is))) (few_fields c.args.new.now c.as_slice-2.result.now c.args.kind c.index-as_slice-kind-2.result c.program-2.ensures.checked at)

pub carry_values-requires-clause-values : goal.carry_values-requires-clause-values
carry_values-requires-clause-values c =
    let at : IsTypeAt c.args.old.now c.as_slice.result.now c.args.kind c.index-as_slice-kind.result = record {
      are = c.as_slice.ensures ∙ ap (λ (p : Program). p.types.list.items) c.program.ensures.same;
      there = c.requires.kind;
      is = c.index-as_slice-kind.is;
    } in
    ap (λ (l : List Value). length l) c.as_slice-5.ensures ∙ c.requires.state ∙ ap (λ (l : List FieldDecl). length l) (fields_are c.args.old.now c.as_slice.result.now c.args.kind c.index-as_slice-kind.result at ∙ sym (c.as_slice-3.ensures ∙ ap (λ (t : TypeDecl). t.fields.list.items) (sym c.index-as_slice-kind.is)))

pub returns : goal.returns
returns c =
    let old_at : IsTypeAt c.args.old.now c.as_slice.result.now c.args.kind c.index-as_slice-kind.result = record {
      are = c.as_slice.ensures ∙ ap (λ (p : Program). p.types.list.items) c.program.ensures.same;
      there = c.requires.kind;
      is = c.index-as_slice-kind.is;
    } in
    let new_at : IsTypeAt c.args.new.now c.as_slice-2.result.now c.args.kind c.index-as_slice-kind-2.result = record {
      are = c.as_slice-2.ensures ∙ ap (λ (p : Program). p.types.list.items) c.program-2.ensures.same;
      there = types (program_tree c.args.old.now) (program_tree c.args.new.now) c.args.kind c.requires.follows c.requires.kind;
      is = c.index-as_slice-kind-2.is;
    } in
    let olds : c.as_slice-3.result.now ≡ fields_of_kind (program_tree c.args.old.now) c.args.kind = c.as_slice-3.ensures ∙ ap (λ (t : TypeDecl). t.fields.list.items) (sym c.index-as_slice-kind.is) ∙ sym (fields_are c.args.old.now c.as_slice.result.now c.args.kind c.index-as_slice-kind.result old_at) in
    let news : c.as_slice-4.result.now ≡ fields_of_kind (program_tree c.args.new.now) c.args.kind = c.as_slice-4.ensures ∙ ap (λ (t : TypeDecl). t.fields.list.items) (sym c.index-as_slice-kind-2.is) ∙ sym (fields_are c.args.new.now c.as_slice-2.result.now c.args.kind c.index-as_slice-kind-2.result new_at) in
    let same : carried_fields c.as_slice-3.result.now c.as_slice-4.result.now c.as_slice-5.result.now ≡ carried_fields (fields_of_kind (program_tree c.args.old.now) c.args.kind) (fields_of_kind (program_tree c.args.new.now) c.args.kind) c.args.state.now =
    ap (λ (l : List FieldDecl). carried_fields l c.as_slice-4.result.now c.as_slice-5.result.now) olds
    ∙ ap (λ (l : List FieldDecl). carried_fields (fields_of_kind (program_tree c.args.old.now) c.args.kind) l c.as_slice-5.result.now) news
    ∙ ap (λ (l : List Value). carried_fields (fields_of_kind (program_tree c.args.old.now) c.args.kind) (fields_of_kind (program_tree c.args.new.now) c.args.kind) l) c.as_slice-5.ensures in
    c.in_ok-carry_values.ensures {u = tt} ∙ same
