-- A line's call, and a child's, is one of the program's methods, with as many arguments as it has parameters.
use Rattle.std.proofs.Common.{◌≡◌, ℕ, suc, ◌+◌, ◌<◌, ◌≤◌, List, [], ◌∷◌, length, get_or, map, inl, inr, refl, sym, ap, ◌∙◌, subst, arith, Option, Some, None, option_map, eqb-true}
use Rattle.std.specs.Prelude.{◌==◌, slice_get, bytes_eq, Result, Ok, Err, option_and_then}
use Rattle.std.specs.List.{All}
use Rattle.std.specs.Option.{ok_or}
use Rattle.std.proofs.lemmas.Bool.{cond_both}
use Rattle.std.proofs.lemmas.Option.{slice_get-map, slice_get_within, slice_get-get_or, get_or_from_slice_get}
use Rattle.base_types.specs.declared.calls.Call.{Call}
use Rattle.base_types.specs.declared.calls.Value.{Value}
use Rattle.base_types.specs.declared.calls.GrainId.{GrainId}
use Rattle.base_types.specs.declared.entries.BadRequest.{BadRequest}
use Rattle.base_types.specs.declared.entries.BadRequest.TheVariants.{Json, Shape, Grain, Method, Args}
use Rattle.base_types.specs.declared.shapes.TypeShape.{TypeShape}
use Rattle.cell_model.specs.Units.{Member}
use Rattle.commit_log.specs.Bodies.{IsCallIn, params_of}
use Rattle.request_wire.specs.Names.{TypeNames, type_names, method_names, names_in, named}
use Rattle.request_wire.specs.Request.{call_of, passed, json_of, shape_of, grain_of, method_of, args_of, values_of, value_of_json, items_count}
use Rattle.serde_json.specs.Data.{Data, Items, no_items, item}
use Rattle.script_check.specs.AcceptedPrograms.{IsAcceptedProgram, IsAcceptedType, IsAcceptedMethod}
use Rattle.script_check.specs.Programs.{field_names}
use Rattle.script_check.specs.Shapes.{type_shape}
use Rattle.script_tree.specs.Programs.{MethodTree, TypeTree, ProgramTree}
use Rattle.script_meaning.specs.Calls.{Target, numbered, method_there}
use Rattle.script_meaning.specs.Laws.{IsChild}
use Rattle.settler_rules.specs.LoggedUnits.{shape_with}

pub some-is : {A : Type 0} (x y : A) → Some x ≡ Some y → x ≡ y
some-is {A} x y e = ap of e
  where
    of : Option A → A
    of None = x
    of (Some z) = z

-- a request that passed
abbrev passes_as : {A : Type 0} → A → Result A BadRequest
passes_as x = Ok x

ok-is : {A : Type 0} (x y : A) → passes_as x ≡ passes_as y → x ≡ y
ok-is {A} x y e = ap of e
  where
    of : Result A BadRequest → A
    of (Err z) = x
    of (Ok z) = z

-- ---- lists

pub all-at : {A : Type 0} (P : A → Type 0) (xs : List A) (k : ℕ) (x : A) → All P xs → slice_get xs k ≡ Some x → P x
all-at P xs k x all is = subst P (get_or_from_slice_get xs k x x is) (all k x (slice_get_within xs k x is))

place-of : {A : Type 0} (xs : List A) (x : A) → Member x xs → (i : ℕ) × (i < length xs) × (get_or xs i x ≡ x)
place-of {A} xs x m = go xs m
  where
    go : (ys : List A) → Member x ys → (i : ℕ) × (i < length ys) × (get_or ys i x ≡ x)
    go [] none = absurd none
    go (y ∷ ys) (inl e) = (0, omega arith, sym e)
    go (y ∷ ys) (inr n) = (let t = go ys n in (suc t.0, omega (arith, t.1), t.2))

pub all-member : {A : Type 0} (P : A → Type 0) (xs : List A) (x : A) → All P xs → Member x xs → P x
all-member P xs x all m = (let t = place-of xs x m in subst P t.2 (all t.0 x t.1))

later-item : {A : Type 0} (x : A) (xs : List A) (i : ℕ) (y : A) → slice_get xs i ≡ Some y → slice_get (x ∷ xs) (suc i) ≡ Some y
later-item x xs i y is =
    let low = slice_get_within xs i y is in
    slice_get-get_or (x ∷ xs) (suc i) y (omega (arith, low)) ∙ ap Some (get_or_from_slice_get xs i y y is)

mapped : {A B : Type 0} (f : A → B) (xs : List A) (k : ℕ) (y : B) → slice_get (map f xs) k ≡ Some y → (x : A) × (slice_get xs k ≡ Some x) × (f x ≡ y)
mapped {A} {B} f xs k y is = go (slice_get xs k) (sym (slice_get-map f xs k) ∙ is)
  where
    go : (o : Option A) → option_map f o ≡ Some y → (x : A) × (o ≡ Some x) × (f x ≡ y)
    go None e = absurd cc
    go (Some x) e = (x, refl, some-is (f x) y e)

-- ---- methods

-- the program's method of that number, with as many parameters as there are arguments
pub record HasMethod (types : ProgramTree) (call : Call) : Type 0 where
  pub of_type : TypeTree
  pub there : slice_get types call.grain.kind ≡ Some of_type
  pub method : MethodTree
  pub at : slice_get of_type.methods call.method ≡ Some method
  pub count : length method.params ≡ length call.args

pub call-in : (types : ProgramTree) (call : Call) → HasMethod types call → IsCallIn (shape_with types) call
call-in types call m =
    let shape : slice_get (map type_shape types) call.grain.kind ≡ Some (type_shape m.of_type) = slice_get-map type_shape types call.grain.kind ∙ ap (option_map type_shape) m.there in (
      slice_get_within (map type_shape types) call.grain.kind (type_shape m.of_type) shape,
      ap (λ (o : Option TypeShape). params_of o call.method) shape
          ∙ slice_get-map (λ (x : MethodTree). length x.params) m.of_type.methods call.method
          ∙ ap (option_map (λ (x : MethodTree). length x.params)) m.at
          ∙ ap Some m.count,
    )

pub few-args : (types : ProgramTree) (call : Call) → IsAcceptedProgram types → HasMethod types call → length call.args ≤ 8
few-args types call p m =
    let of : IsAcceptedType types m.of_type = all-at (IsAcceptedType types) types call.grain.kind m.of_type p.each m.there in
    let few = (all-at (IsAcceptedMethod types (field_names m.of_type.fields)) m.of_type.methods call.method m.method of.methods m.at).few in
    let count = m.count in
    omega (arith, few, count)

-- ---- children

numbered-there : (o : Option TypeTree) (number : ℕ) (t : Target) → numbered o number ≡ Some t → (of : TypeTree) × (o ≡ Some of) × (slice_get of.methods number ≡ Some t.method)
numbered-there None number t e = absurd cc
numbered-there (Some of_type) number t e = (of_type, refl, go (slice_get of_type.methods number) e)
  where
    go : (o : Option MethodTree) → method_there of_type number o ≡ Some t → o ≡ Some t.method
    go None e = absurd cc
    go (Some m) e = ap Some (ap (λ (x : Target). x.method) (some-is (record { of_type = of_type; number = number; method = m }) t e))

pub child-method : (types : ProgramTree) (depth : ℕ) (call : Call) (at : ℕ) → IsAcceptedProgram types → IsChild types depth (call, at) → HasMethod types call
child-method types depth call at p child =
    let target = child.transaction.0 in
    let is : numbered (slice_get types call.grain.kind) call.method ≡ Some target = child.transaction.1 in
    let t = numbered-there (slice_get types call.grain.kind) call.method target is in
    record { of_type = t.0; there = t.1; method = target.method; at = t.2; count = sym (child.arity p target is) }

-- ---- lines

passed-ok : {A B : Type 0} (r : Result A BadRequest) (next : A → Result B BadRequest) (b : B) → passed r next ≡ Ok b → (a : A) × (r ≡ Ok a) × (next a ≡ Ok b)
passed-ok (Ok a) next b e = (a, refl, e)
passed-ok (Err why) next b e = absurd cc

ok_or-some : {A : Type 0} (o : Option A) (why : BadRequest) (a : A) → ok_or o why ≡ Ok a → o ≡ Some a
ok_or-some None why a e = absurd cc
ok_or-some (Some x) why a e = ap Some (ok-is x a e)

then-some : {A B : Type 0} (f : A → Option B) (o : Option A) (y : B) → option_and_then f o ≡ Some y → (x : A) × (o ≡ Some x) × (f x ≡ Some y)
then-some f None y e = absurd cc
then-some f (Some x) y e = (x, refl, e)

map-some : {A B : Type 0} (f : A → B) (o : Option A) (y : B) → option_map f o ≡ Some y → (x : A) × (o ≡ Some x) × (f x ≡ y)
map-some f None y e = absurd cc
map-some f (Some x) y e = (x, refl, some-is (f x) y e)

named-at : {A : Type 0} (name_of : A → List ℕ) (start : ℕ) (xs : List A) (name : List ℕ) (m : ℕ × A) → named name_of start xs name ≡ Some m → (i : ℕ) × (m.0 ≡ start + i) × (slice_get xs i ≡ Some m.1)
named-at name_of start [] name m e = absurd cc
named-at {A} name_of start (x ∷ xs) name m e = cond_both (bytes_eq name (name_of x)) (Some (start, x)) (named name_of (start + 1) xs name) (λ o. o ≡ Some m → (i : ℕ) × (m.0 ≡ start + i) × (slice_get (x ∷ xs) i ≡ Some m.1))
    (λ t s.
    (let pair : (start, x) ≡ m = some-is (start, x) m s in
    let first : start ≡ m.0 = ap (λ (y : ℕ × A). y.0) pair in
    (0, omega (arith, first), ap (λ (y : ℕ × A). Some y.1) pair)))
    (λ t s.
    (let n = named-at name_of (start + 1) xs name m s in
    let number = n.1 in
    (suc n.0, omega (arith, number), later-item x xs n.0 m.1 n.2)))
    e

values-count : (items : Items) (vs : List Value) → values_of items ≡ Some vs → length vs ≡ items_count items
values-count no_items vs e = ap length (sym (some-is [] vs e))
values-count (item d ds) vs e =
    let t = then-some (λ v. option_map (λ ws. v ∷ ws) (values_of ds)) (value_of_json d) vs e in
    let s = map-some (λ ws. t.0 ∷ ws) (values_of ds) vs t.2 in
    let rest : length s.0 ≡ items_count ds = values-count ds s.0 s.1 in
    let whole : suc (length s.0) ≡ length vs = ap length s.2 in
    omega (arith, rest, whole)

args-count : (params : ℕ) (items : Items) (vs : List Value) → args_of params items ≡ Some vs → params ≡ length vs
args-count params items vs e = cond_both (items_count items == params) (values_of items) None (λ o. o ≡ Some vs → params ≡ length vs)
    (λ t s. sym (eqb-true (items_count items) params t) ∙ sym (values-count items vs s))
    (λ t s. absurd cc)
    e

-- the method that is named, of a type
method-named : (types : ProgramTree) (kind : ℕ) (name : List ℕ) (found : ℕ × ℕ) → method_of (names_in types) kind name ≡ Some found
    → (of : TypeTree) × (slice_get types kind ≡ Some of) × ((m : MethodTree) × (slice_get of.methods found.0 ≡ Some m) × (length m.params ≡ found.1))
method-named types kind name found e =
    let t = then-some (λ (t : TypeNames). option_map (λ m. (m.0, m.1.1)) (named (λ m. m.0) 0 t.methods name)) (slice_get (names_in types) kind) found e in
    let of = mapped type_names types kind t.0 t.1 in
    let s = map-some (λ (m : ℕ × (List ℕ × ℕ)). (m.0, m.1.1)) (named (λ (m : List ℕ × ℕ). m.0) 0 t.0.methods name) found t.2 in
    let n = named-at (λ (m : List ℕ × ℕ). m.0) 0 t.0.methods name s.0 s.1 in
    let there : slice_get (map method_names of.0.methods) n.0 ≡ Some s.0.1 = ap (λ (x : TypeNames). slice_get x.methods n.0) of.2 ∙ n.2 in
    let m = mapped method_names of.0.methods n.0 s.0.1 there in
    let number : n.0 ≡ found.0 = omega (arith, n.1, ap (λ (x : ℕ × ℕ). x.0) s.2) in
    let count : length m.0.params ≡ found.1 = ap (λ (x : List ℕ × ℕ). x.1) m.2 ∙ ap (λ (x : ℕ × ℕ). x.1) s.2 in
    (of.0, of.1, (m.0, subst (λ k. slice_get of.0.methods k ≡ Some m.0) number m.1, count))

-- what is read behind each test that passed
abbrev pub with_args : GrainId × List ℕ → ℕ × ℕ → List Value → Result Call BadRequest
with_args grain method args = Ok (record { grain = grain.0; method = method.0; args = args })

abbrev pub with_method : Items × List ℕ → GrainId × List ℕ → ℕ × ℕ → Result Call BadRequest
with_method shape grain method = passed (ok_or (args_of method.1 shape.0) Args) (with_args grain method)

abbrev pub with_grain : List TypeNames → Items × List ℕ → GrainId × List ℕ → Result Call BadRequest
with_grain types shape grain = passed (ok_or (method_of types grain.0.kind grain.1) Method) (with_method shape grain)

abbrev pub with_shape : List TypeNames → Items × List ℕ → Result Call BadRequest
with_shape types shape = passed (ok_or (grain_of types shape.1) Grain) (with_grain types shape)

abbrev pub with_json : List TypeNames → Data → Result Call BadRequest
with_json types d = passed (ok_or (shape_of d) Shape) (with_shape types)

pub line-method : (types : ProgramTree) (line : List ℕ) (call : Call) → call_of (names_in types) line ≡ Ok call → HasMethod types call
line-method types line call e =
    let names = names_in types in
    let json = passed-ok {A = Data} {B = Call} (ok_or (json_of line) Json) (with_json names) call e in
    let shape = passed-ok {A = Items × List ℕ} {B = Call} (ok_or (shape_of json.0) Shape) (with_shape names) call json.2 in
    let grain = passed-ok {A = GrainId × List ℕ} {B = Call} (ok_or (grain_of names shape.0.1) Grain) (with_grain names shape.0) call shape.2 in
    let method = passed-ok {A = ℕ × ℕ} {B = Call} (ok_or (method_of names grain.0.0.kind grain.0.1) Method) (with_method shape.0 grain.0) call grain.2 in
    let args = passed-ok {A = List Value} {B = Call} (ok_or (args_of method.0.1 shape.0.0) Args) (with_args grain.0 method.0) call method.2 in
    let made : Call = record { grain = grain.0.0; method = method.0.0; args = args.0 } in
    let is : made ≡ call = ok-is made call args.2 in
    let m = method-named types grain.0.0.kind grain.0.1 method.0 (ok_or-some (method_of names grain.0.0.kind grain.0.1) Method method.0 method.1) in
    let count : length m.2.0.params ≡ length args.0 = m.2.2 ∙ args-count method.0.1 shape.0.0 args.0 (ok_or-some (args_of method.0.1 shape.0.0) Args args.0 args.1) in
    subst (HasMethod types) is (record { of_type = m.0; there = m.1; method = m.2.0; at = m.2.1; count = count })
