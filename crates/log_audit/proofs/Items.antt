-- Arguments and fields as they are taken one by one.
use Rattle.std.proofs.Common.{◌≡◌, ◌⊎◌, inl, inr, ℕ, ◌≤◌, List, [], ◌∷◌, ◌++◌, length, map, drop, refl, sym, ◌∙◌, ap, append_assoc, append-nil}
use Rattle.std.proofs.Math.ListN.{drop_of_length-le}
use Rattle.base_types.specs.declared.calls.Value.{Value}
use Rattle.request_wire.specs.Reply.{value_data}
use Rattle.script_tree.specs.declared.programs.FieldDecl.{FieldDecl}
use Rattle.serde_json.specs.Data.{Data, Members, no_members, item, put}
use Rattle.serde_json.specs.View as seen
use Rattle.promise_spec.specs.Reports.{fields_data, items_of}

-- arguments as items
pub items_are : (values : List Value) → seen.items_of (map value_data values) ≡ items_of values
items_are [] = refl
items_are (v ∷ vs) = ap (item (value_data v)) (items_are vs)

-- one argument more
pub item_more : (done new whole : List Data) (v : Value) (more left : List Value) (d : Data) → left ≡ v ∷ more → new ≡ done ++ d ∷ [] → d ≡ value_data v → done ++ map value_data left ≡ whole → new ++ map value_data more ≡ whole
item_more done new whole v more left d next pushed is so_far =
    ap (λ (l : List Data). l ++ map value_data more) pushed ∙ append_assoc done (d ∷ []) (map value_data more)
    ∙ ap (λ (x : Data). done ++ (x ∷ map value_data more)) is
    ∙ sym (ap (λ (l : List Value). done ++ map value_data l) next) ∙ so_far

pub items_all : (done whole : List Data) (left : List Value) → left ≡ [] → done ++ map value_data left ≡ whole → done ≡ whole
items_all done whole left none so_far = sym (append-nil done) ∙ sym (ap (λ (l : List Value). done ++ map value_data l) none) ∙ so_far

no_values : (fields : List FieldDecl) → fields_data fields [] ≡ no_members
no_values [] = refl
no_values (f ∷ fields) = refl

-- behind the shorter of the two there is nothing
pub none_behind : (n : ℕ) (fields : List FieldDecl) (values : List Value) → (length fields ≤ n) ⊎ (length values ≤ n) → fields_data (drop n fields) (drop n values) ≡ no_members
none_behind n fields values (inl past) = ap (λ (l : List FieldDecl). fields_data l (drop n values)) (drop_of_length-le fields past)
none_behind n fields values (inr past) = ap (λ (l : List Value). fields_data (drop n fields) l) (drop_of_length-le values past) ∙ no_values (drop n fields)

-- one field more, from behind
pub field_more : (f : FieldDecl) (v : Value) (fields more_fields : List FieldDecl) (values more_values : List Value) (d : Data) (old new : Members) → fields ≡ f ∷ more_fields → values ≡ v ∷ more_values
    → d ≡ value_data v → new ≡ put f.name.text d old → old ≡ fields_data more_fields more_values → new ≡ fields_data fields values
field_more f v fields more_fields values more_values d old new next nexts is pushed so_far =
    pushed ∙ (λ i. put f.name.text (is i) (so_far i)) ∙ sym (λ i. fields_data (next i) (nexts i))
