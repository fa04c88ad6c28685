-- The counts and shapes of values.
use Rattle.std.proofs.Common.{◌≡◌, ℕ, suc, List, [], ◌∷◌, length, refl, ap, ◌∙◌, arith, Some, None, String, Global, codes}
use Rattle.std.proofs.lemmas.Grind.{common_steps}
use Rattle.serde_json.specs.Data.{Data, null, boolean, number, string, array, object, Items, Members}
use Rattle.serde_json.specs.Find.{get, as_array, as_str, as_object}
use Rattle.serde_json.specs.View.{items_view, members_view}
use Rattle.serde_json.specs.declared.value.Value.{Value}
use Rattle.request_wire.specs.Request.{members_count, keys_count, shape_of, items_count}

-- a list of values has as many items as its data
pub items_count_view : (vs : List Value) → items_count (items_view vs) ≡ length vs
items_count_view [] = refl
items_count_view (v ∷ vs) = ap suc (items_count_view vs)

members_count-view : (ms : List (String Global × Value)) → members_count (members_view ms) ≡ length ms
members_count-view [] = refl
members_count-view (m ∷ ms) = ap suc (members_count-view ms)

keys_count-object : (d : Data) (ms : Members) → Some ms ≡ as_object d → keys_count d ≡ members_count ms
keys_count-object (object ns) ms e = cc e
keys_count-object null ms e = absurd (cc e)
keys_count-object (boolean b) ms e = absurd (cc e)
keys_count-object (number n) ms e = absurd (cc e)
keys_count-object (string s) ms e = absurd (cc e)
keys_count-object (array ds) ms e = absurd (cc e)

-- an object with more or fewer than two keys has no shape
pub shape_of-none : (d : Data) (ms : List (String Global × Value)) → Some (members_view ms) ≡ as_object d → (length ms ≡ 2 → ⊥) → None ≡ shape_of d
shape_of-none d ms e h =
    let size : keys_count d ≡ length ms = keys_count-object d (members_view ms) e ∙ members_count-view ms in
    grind (arith, common_steps)

-- an object with two keys has the shape that its two members give
pub shape_of-some : (d a b : Data) (ms : List (String Global × Value)) (args : Items) (call : List ℕ) → Some (members_view ms) ≡ as_object d → length ms ≡ 2 → get (codes "args") d ≡ Some a → Some args ≡ as_array a → get (codes "call") d ≡ Some b → Some call ≡ as_str b → Some (args, call) ≡ shape_of d
shape_of-some d a b ms args call e h found_args is_args found_call is_call =
    let size : keys_count d ≡ 2 = keys_count-object d (members_view ms) e ∙ members_count-view ms ∙ h in
    rw (size, found_args, found_call, ← is_args, ← is_call) refl

pub ruleset shapes = (shape_of-none, shape_of-some)
