-- Parameters and locals at the places of their names.
use Rattle.std.proofs.Common.{◌≡◌, ◌+◌, ◌<◌, ℕ, suc, List, [], ◌∷◌, ◌++◌, length, take, drop, get_or, Bool, true, false, Option, Some, None, refl, sym, ap, ◌∙◌, subst, arith}
use Rattle.std.specs.Prelude.{if◌then◌else◌, bytes_eq, slice_set}
use Rattle.base_types.specs.declared.calls.Value.{Value}
use Rattle.script_scopes.specs.Places.{place_from, name_place}
use Rattle.script_values.specs.declared.locals.Local.{Local}
use Rattle.script_values.specs.Expressions.{put_local, local_named}
use Rattle.script_values.specs.LocalNames.{names_of}
use Rattle.script_values.proofs.Writes.{write_at}

-- a local of this name is the first at this place
pub record IsPlaced (name : List ℕ) (locals : List Local) (k : ℕ) : Type 0 where
  pub within : k < length locals
  pub put : (value : Value) → take k locals ++ put_local name value (drop k locals) ≡ put_local name value locals
  pub meant : (x : Local) → x ≡ get_or locals k x → bytes_eq x.name name ≡ true
  pub named : (x : Local) → x ≡ get_or locals k x → local_named name locals ≡ Some x.value

abbrev pub Counted : List ℕ → List Local → ℕ → ℕ → Type 0
Counted name locals i p = (k : ℕ) × (p ≡ i + k) × IsPlaced name locals k

placed_first : (name : List ℕ) (i : ℕ) (y : Local) (ys : List Local) → bytes_eq y.name name ≡ true → Counted name (y ∷ ys) i i
placed_first name i y ys same =
    let here : i ≡ i + 0 = omega arith in
    let within : 0 < length (y ∷ ys) = omega arith in (
      0,
      here,
      record {
        within = within;
        put = λ value. refl;
        meant = λ x at. ap (λ (l : Local). bytes_eq l.name name) at ∙ same;
        named = λ x at. ap (λ (b : Bool). if b then Some y.value else local_named name ys) same ∙ ap (λ (l : Local). let v : Option Value = Some l.value in v) (sym at);
      },
    )

placed_later : (name : List ℕ) (i p : ℕ) (y : Local) (ys : List Local) → bytes_eq y.name name ≡ false → Counted name ys (i + 1) p → Counted name (y ∷ ys) i p
placed_later name i p y ys other r =
    let k = r.0 in
    let is : p ≡ (i + 1) + k = r.1 in
    let there : p ≡ i + suc k = omega arith in
    let inside : k < length ys = r.2.within in
    let within : suc k < length (y ∷ ys) = omega arith in (
      suc k,
      there,
      record {
        within = within;
        put = λ value. ap (λ (l : List Local). y ∷ l) (r.2.put value) ∙ sym (ap (λ (b : Bool). if b then (record { name = y.name; value = value }) ∷ ys else y ∷ put_local name value ys) other);
        meant = λ x at. r.2.meant x at;
        named = λ x at. ap (λ (b : Bool). if b then Some y.value else local_named name ys) other ∙ r.2.named x at;
      },
    )

placed_at : (name : List ℕ) (i p : ℕ) (y : Local) (ys : List Local) (b : Bool) → bytes_eq y.name name ≡ b → (if b then Some i else place_from (i + 1) name (names_of ys)) ≡ Some p → (place_from (i + 1) name (names_of ys) ≡ Some p → Counted name ys (i + 1) p) → Counted name (y ∷ ys) i p
placed_at name i p y ys true same e later =
    let is : i ≡ p = cc in
    subst (λ (q : ℕ). Counted name (y ∷ ys) i q) is (placed_first name i y ys same)
placed_at name i p y ys false other e later = placed_later name i p y ys other (later e)

placed_from : (name : List ℕ) (i : ℕ) (locals : List Local) (p : ℕ) → place_from i name (names_of locals) ≡ Some p → Counted name locals i p
placed_from name i [] p e = absurd cc
placed_from name i (y ∷ ys) p e = placed_at name i p y ys (bytes_eq y.name name) refl e (placed_from name (i + 1) ys p)

-- the place of a name is that of the first local of this name
pub placed : (name : List ℕ) (locals : List Local) (p : ℕ) → name_place name (names_of locals) ≡ Some p → IsPlaced name locals p
placed name locals p e =
    let r = placed_from name 0 locals p e in
    let is : r.0 ≡ p = omega (arith, r.1) in
    subst (λ (q : ℕ). IsPlaced name locals q) is r.2

pub placed_within : (name : List ℕ) (locals : List Local) (p : ℕ) → name_place name (names_of locals) ≡ Some p → p < length locals
placed_within name locals p e = (placed name locals p e).within

pub placed_named : (name : List ℕ) (locals : List Local) (p : ℕ) (x : Local) → name_place name (names_of locals) ≡ Some p → x ≡ get_or locals p x → Some x.value ≡ local_named name locals
placed_named name locals p x e at = sym ((placed name locals p e).named x at)

-- it gets a value
pub placed_put : (name : List ℕ) (value : Value) (locals : List Local) (p : ℕ) (x y : Local) → name_place name (names_of locals) ≡ Some p → x ≡ get_or locals p x → y ≡ get_or locals p y → slice_set locals p (record { name = y.name; value = value }) ≡ put_local name value locals
placed_put name value locals p x y e at_x at_y =
    let is = placed name locals p e in
    let written : Local → Local = λ l. record { name = l.name; value = value } in
    let meant : (rest : List Local) → put_local name value (x ∷ rest) ≡ written x ∷ rest = λ rest. ap (λ (b : Bool). if b then written x ∷ rest else x ∷ put_local name value rest) (is.meant x at_x) in
    write_at (put_local name value) written locals locals p x y (is.put value) is.within at_x at_y meant

-- a name without a place
absent_at : (name : List ℕ) (i : ℕ) (y : Local) (ys : List Local) (b : Bool) → (if b then Some i else place_from (i + 1) name (names_of ys)) ≡ None → (b ≡ false) × (place_from (i + 1) name (names_of ys) ≡ None)
absent_at name i y ys true e = absurd cc
absent_at name i y ys false e = (refl, e)

absent_from : (name : List ℕ) (i : ℕ) (locals : List Local) → place_from i name (names_of locals) ≡ None → (local_named name locals ≡ None) × ((value : Value) → put_local name value locals ≡ locals ++ (record { name = name; value = value }) ∷ [])
absent_from name i [] e = (refl, λ value. refl)
absent_from name i (y ∷ ys) e =
    let here = absent_at name i y ys (bytes_eq y.name name) e in
    let rest = absent_from name (i + 1) ys here.1 in (
      ap (λ (b : Bool). if b then Some y.value else local_named name ys) here.0 ∙ rest.0,
      λ value. ap (λ (b : Bool). if b then (record { name = y.name; value = value }) ∷ ys else y ∷ put_local name value ys) here.0 ∙ ap (λ (l : List Local). y ∷ l) (rest.1 value),
    )

pub named_none : (name : List ℕ) (locals : List Local) → name_place name (names_of locals) ≡ None → local_named name locals ≡ None
named_none name locals e = (absent_from name 0 locals e).0

pub put_behind : (name : List ℕ) (locals : List Local) → name_place name (names_of locals) ≡ None → (value : Value) → put_local name value locals ≡ locals ++ (record { name = name; value = value }) ∷ []
put_behind name locals e = (absent_from name 0 locals e).1

-- a local that is there keeps its place
keeps_at : (name : List ℕ) (value : Value) (i p : ℕ) (y : Local) (ys : List Local) (b : Bool) → (if b then Some i else place_from (i + 1) name (names_of ys)) ≡ Some p → (place_from (i + 1) name (names_of ys) ≡ Some p → names_of (put_local name value ys) ≡ names_of ys) → names_of (if b then (record { name = y.name; value = value }) ∷ ys else y ∷ put_local name value ys) ≡ names_of (y ∷ ys)
keeps_at name value i p y ys true e later = refl
keeps_at name value i p y ys false e later = ap (λ (l : List (List ℕ)). y.name ∷ l) (later e)

keeps_from : (name : List ℕ) (value : Value) (i : ℕ) (locals : List Local) (p : ℕ) → place_from i name (names_of locals) ≡ Some p → names_of (put_local name value locals) ≡ names_of locals
keeps_from name value i [] p e = absurd cc
keeps_from name value i (y ∷ ys) p e = keeps_at name value i p y ys (bytes_eq y.name name) e (keeps_from name value (i + 1) ys p)

pub keeps_names : (name : List ℕ) (value : Value) (locals : List Local) (p : ℕ) → name_place name (names_of locals) ≡ Some p → names_of (put_local name value locals) ≡ names_of locals
keeps_names name value locals p e = keeps_from name value 0 locals p e

-- one local more is one name more
pub names_more : (locals : List Local) (one : Local) → names_of (locals ++ one ∷ []) ≡ names_of locals ++ one.name ∷ []
names_more [] one = refl
names_more (y ∷ ys) one = ap (λ (l : List (List ℕ)). y.name ∷ l) (names_more ys one)
