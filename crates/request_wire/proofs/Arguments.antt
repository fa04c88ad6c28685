-- The value of a line, and the values of its arguments.
use Rattle.std.proofs.Common.{◌≡◌, ℕ, suc, ◌+◌, ◌<◌, List, [], ◌∷◌, ◌++◌, length, drop, Bool, true, false, refl, sym, ap, ◌∙◌, Option, Some, None, option_map, get_or, append_assoc, add-one, drop-cons}
use Rattle.std.specs.Str.{IsUtf8, is_utf8}
use Rattle.std.proofs.lemmas.Str.{IsUtf8-from_is_utf8, is_utf8-from_IsUtf8}
use Rattle.base_types.specs.declared.calls.Value.{Value}
use Rattle.serde_json.specs.Data.{Data}
use Rattle.serde_json.specs.Read.{read}
use Rattle.serde_json.specs.View.{view, items_view}
use Rattle.serde_json.specs.declared.value.Value as json
use Rattle.request_wire.specs.Request.{json_of, value_of_json, values_of}

pub json_of-read : (line : List ℕ) (d : Data) → IsUtf8 line → read line ≡ Some d → Some d ≡ json_of line
json_of-read line d text e = rw (is_utf8-from_IsUtf8 line text, e) refl

pub json_of-unread : (line : List ℕ) → (IsUtf8 line → read line ≡ None) → None ≡ json_of line
json_of-unread line h = by_test (is_utf8 line) refl
  where
    by_test : (b : Bool) → is_utf8 line ≡ b → None ≡ json_of line
    by_test true is = rw (is, h (IsUtf8-from_is_utf8 line is)) refl
    by_test false is = rw is refl

-- what was found, and then the values of the rest
abbrev pub with_front : List Value → Option (List Value) → Option (List Value)
with_front found None = None
with_front found (Some more) = Some (found ++ more)

with_front-more : (found : List Value) (value : Value) (more : Option (List Value)) → with_front found (option_map (λ vs. value ∷ vs) more) ≡ with_front (found ++ value ∷ []) more
with_front-more found value None = refl
with_front-more found value (Some more) = ap Some (sym (append_assoc found (value ∷ []) more))

values_of-first : (v : json.Value) (vs : List json.Value) (value : Value) → Some value ≡ value_of_json (view v) → values_of (items_view (v ∷ vs)) ≡ option_map (λ more. value ∷ more) (values_of (items_view vs))
values_of-first v vs value e = rw (← e) refl

values_of-none : (v : json.Value) (vs : List json.Value) → None ≡ value_of_json (view v) → values_of (items_view (v ∷ vs)) ≡ None
values_of-none v vs e = rw (← e) refl

-- one more argument has a value
pub one_value : (vs : List json.Value) (k : ℕ) (d : json.Value) (found : List Value) (value : Value) → k < length vs → Some value ≡ value_of_json (view (get_or vs k d)) → with_front found (values_of (items_view (drop k vs))) ≡ with_front (found ++ value ∷ []) (values_of (items_view (drop (k + 1) vs)))
one_value vs k d found value h e =
    ap (λ (xs : List json.Value). with_front found (values_of (items_view xs))) (drop-cons vs k d h)
    ∙ ap (with_front found) (values_of-first (get_or vs k d) (drop (suc k) vs) value e)
    ∙ with_front-more found value (values_of (items_view (drop (suc k) vs)))
    ∙ ap (λ n. with_front (found ++ value ∷ []) (values_of (items_view (drop n vs)))) (sym (add-one k))

-- one argument has none, so the arguments have none
pub no_value : (vs : List json.Value) (k : ℕ) (d : json.Value) (found : List Value) → k < length vs → None ≡ value_of_json (view (get_or vs k d)) → with_front found (values_of (items_view (drop k vs))) ≡ None
no_value vs k d found h e =
    ap (λ (xs : List json.Value). with_front found (values_of (items_view xs))) (drop-cons vs k d h)
    ∙ ap (with_front found) (values_of-none (get_or vs k d) (drop (suc k) vs) e)
