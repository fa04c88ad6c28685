use Rattle.std.proofs.Common.{arith, ◌≡◌, ◌⊎◌, inl, inr, ℕ, ◌+◌, ◌-◌, ◌∷◌, ◌<◌, ◌≤◌, min, length, List, drop, sym, ap, ◌∙◌}
use Rattle.std.proofs.lemmas.Bool.{cases_lt}
use Rattle.base_types.specs.declared.calls.Value.{Value}
use Rattle.script_tree.specs.declared.programs.FieldDecl.{FieldDecl}
use Rattle.request_wire.specs.Reply.{value_data}
use Rattle.serde_json.specs.Data.{object, put}
use Rattle.serde_json.specs.View.{view, members_view}
use Rattle.serde_json.proofs.Views.{view-Object}
use Rattle.promise_spec.specs.Reports.{fields_data}
use Rattle.log_reading.proofs.RecordSums.{next_item}
use Rattle.log_audit.proofs.Items.{none_behind, field_more}
use Rattle.log_audit.proofs.parts.fields_json.Goals as goal

-- one of two is not above the lesser
lesser : (a b n : ℕ) → n ≡ min a b → (a ≤ n) ⊎ (b ≤ n)
lesser a b n is = elim (cases_lt a b) [ inl low ↦ inl (omega (arith, is, low)) | inr high ↦ inr (omega (arith, is, high)) ]

less_one : (n : ℕ) → 0 < n → n - 1 + 1 ≡ n
less_one n some = omega (arith, some)

pub loop-left-init : goal.loop-left-init
loop-left-init c =
    let fields = c.args.fields.now in
    let values = c.args.values.now in
    let n = c.min-left.result in
    let is : n ≡ min (length fields) (length values) = c.min-left.ensures in
    record {
      fields = omega (arith, is);
      values = omega (arith, is);
      map = ap members_view c.new-map.ensures.empty ∙ sym (none_behind n fields values (lesser (length fields) (length values) n is));
    }

pub loop-left-preserved : goal.loop-left-preserved
loop-left-preserved c =
    let inv = c.loop-left.invariant in
    let fields = c.args.fields.now in
    let values = c.args.values.now in
    let n = c.loop-left.left in
    let some : 0 < n = c.loop-left-test.true in
    let f : FieldDecl = c.index-fields-left.result in
    let v : Value = c.index-values-left.result in
    let back : n - 1 + 1 ≡ n = less_one n some in
    let nexts : drop (n - 1) fields ≡ f ∷ drop n fields = next_item (n - 1) fields f (omega (arith, inv.fields, some)) c.index-fields-left.is ∙ ap (λ (k : ℕ). f ∷ drop k fields) back in
    let more : drop (n - 1) values ≡ v ∷ drop n values = next_item (n - 1) values v (omega (arith, inv.values, some)) c.index-values-left.is ∙ ap (λ (k : ℕ). v ∷ drop k values) back in
    let pushed : members_view c.put.new.map.entries ≡ put f.name.text (view c.in_ok-value.value) (members_view c.loop-left.map.entries) = c.in_ok-put.ensures.ok ∙ ap (λ (k : List ℕ). put k (view c.in_ok-value.value) (members_view c.loop-left.map.entries)) c.as_str.ensures ∙ ap (λ (x : FieldDecl). put x.name.text (view c.in_ok-value.value) (members_view c.loop-left.map.entries)) (sym c.index-fields-left.is) in
    let given : view c.in_ok-value.value ≡ value_data v = cc (c.in_ok-value.ensures, c.index-values-left.is) in
    record {
      fields = omega (arith, inv.fields);
      values = omega (arith, inv.values);
      map = field_more f v (drop (n - 1) fields) (drop n fields) (drop (n - 1) values) (drop n values) (view c.in_ok-value.value) (members_view c.loop-left.map.entries) (members_view c.put.new.map.entries) nexts more given pushed inv.map;
    }

pub returns : goal.returns
returns c =
    let inv = c.loop-left.invariant in
    let fields = c.args.fields.now in
    let values = c.args.values.now in
    let none : c.loop-left.left ≡ 0 = omega (arith, c.loop-left-test.false) in
    view-Object c.loop-left.map ∙ ap object (inv.map ∙ ap (λ (n : ℕ). fields_data (drop n fields) (drop n values)) none)
