-- The methods that calls look up.
use Rattle.std.proofs.Common.{◌≡◌, ℕ, suc, ◌+◌, List, [], ◌∷◌, length, true, false, Option, Some, None, refl, sym, ap, ◌∙◌, subst, arith}
use Rattle.std.specs.Prelude.{if◌then◌else◌, bytes_eq, slice_get}
use Rattle.std.specs.List.{All}
use Rattle.std.proofs.lemmas.Option.{slice_get_within, get_or_from_slice_get}
use Rattle.script_tree.specs.Exprs.{CallTree}
use Rattle.script_tree.specs.Programs.{MethodTree, TypeTree, ProgramTree}
use Rattle.script_scopes.specs.Names.{Scope, Setting}
use Rattle.script_scopes.specs.Expressions.{type_named, method_named}
use Rattle.script_scopes.specs.Bodies.{IsCallInScope}
use Rattle.script_check.specs.Programs.{field_names}
use Rattle.script_check.specs.AcceptedPrograms.{IsAcceptedMethod, IsAcceptedType, IsAcceptedProgram}
use Rattle.script_meaning.specs.Calls.{Target, type_from, method_from, method_there, numbered, numbered_by, method_target}

-- a method that a look-up found: its type is the one that was looked in, and its number is its own
method_there_is : (of_type : TypeTree) (number : ℕ) (method : Option MethodTree) (target : Target) →
    method_there of_type number method ≡ Some target →
    (of_type ≡ target.of_type) × (number ≡ target.number) × (method ≡ Some target.method)
method_there_is of_type number None target e = absurd (cc)
method_there_is of_type number (Some method) target e =
    let made : Target = record { of_type = of_type; number = number; method = method } in
    let same : made ≡ target = cc in
    (ap (λ (t : Target). t.of_type) same, ap (λ (t : Target). t.number) same, ap (λ (t : Target). Some t.method) same)

pub numbered_type : (of_type : Option TypeTree) (number : ℕ) (target : Target) →
    numbered of_type number ≡ Some target → of_type ≡ Some target.of_type
numbered_type None number target e = absurd (cc)
numbered_type (Some of_type) number target e =
    ap (λ (t : TypeTree). Some t) (method_there_is of_type number (slice_get of_type.methods number) target e).0

-- a method is found again by its own number
pub numbered_is : (of_type : Option TypeTree) (number : ℕ) (target : Target) → numbered of_type number ≡ Some target →
    numbered of_type target.number ≡ Some target
numbered_is None number target e = absurd (cc)
numbered_is (Some of_type) number target e =
    subst (λ (n : ℕ). numbered (Some of_type) n ≡ Some target)
    (method_there_is of_type number (slice_get of_type.methods number) target e).1 e

-- so is one that was found by the number of its name
numbered_by_is : (of_type : TypeTree) (number : Option ℕ) (target : Target) →
    numbered_by of_type number ≡ Some target → numbered (Some of_type) target.number ≡ Some target
numbered_by_is of_type None target e = absurd (cc)
numbered_by_is of_type (Some number) target e = numbered_is (Some of_type) number target e

-- so is one that was found by its name
pub method_of_is : (of_type : Option TypeTree) (name : List ℕ) (target : Target) →
    method_target of_type name ≡ Some target → numbered of_type target.number ≡ Some target
method_of_is None name target e = absurd (cc)
method_of_is (Some of_type) name target e = numbered_by_is of_type (method_from 0 name of_type.methods) target e

-- a target has the method of its number
numbered_method : (of_type : Option TypeTree) (number : ℕ) (target : Target) → numbered of_type number ≡ Some target →
    slice_get target.of_type.methods target.number ≡ Some target.method
numbered_method None number target e = absurd (cc)
numbered_method (Some of_type) number target e =
    let is : (of_type ≡ target.of_type) × (number ≡ target.number)
    × (slice_get of_type.methods number ≡ Some target.method) =
    method_there_is of_type number (slice_get of_type.methods number) target e in
    (λ i. slice_get (sym is.0 i).methods (sym is.1 i)) ∙ is.2

-- what holds of each element holds of the one at a place
All-slice_get : {X : Type 0} (P : X → Type 0) (xs : List X) (i : ℕ) (x : X) → All P xs → slice_get xs i ≡ Some x → P x
All-slice_get P xs i x all e = subst P (get_or_from_slice_get xs i x x e) (all i x (slice_get_within xs i x e))

-- a target's method is one of the program
pub target_is_method : (types : ProgramTree) (kind : ℕ) (target : Target) →
    numbered (slice_get types kind) target.number ≡ Some target → IsAcceptedProgram types →
    IsAcceptedMethod types (field_names target.of_type.fields) target.method
target_is_method types kind target is program =
    let of_type : IsAcceptedType types target.of_type =
    All-slice_get (IsAcceptedType types) types kind target.of_type program.each
    (numbered_type (slice_get types kind) target.number target is) in
    All-slice_get (IsAcceptedMethod types (field_names target.of_type.fields)) target.of_type.methods target.number
    target.method of_type.methods
    (numbered_method (slice_get types kind) target.number target is)

-- a name's number is that of the first type, or method, of the name
type_from_is : (i : ℕ) (name : List ℕ) (types : ProgramTree) (n : ℕ) → type_from i name types ≡ Some n →
    (k : ℕ) × (n ≡ i + k) × (slice_get types k ≡ type_named types name)
type_from_is i name [] n e = absurd (cc)
type_from_is i name (first ∷ rest) n e =
    (elim (bytes_eq first.name.text name) as (λ b. (if b then Some i else type_from (i + 1) name rest) ≡ Some n →
    (k : ℕ) × (n ≡ i + k) × (slice_get (first ∷ rest) k ≡ (if b then Some first else type_named rest name))) [
      | true ↦ λ h. let f : i ≡ n = cc in (0, omega (arith, f), refl)
      | false ↦ λ h. let later : (k : ℕ) × (n ≡ (i + 1) + k) × (slice_get rest k ≡ type_named rest name) =
          type_from_is (i + 1) name rest n h in
          (suc later.0, omega (arith, later.1), later.2)
    ]) e

-- a name's number is that of the first method of the name
method_from_is : (i : ℕ) (name : List ℕ) (methods : List MethodTree) (n : ℕ) → method_from i name methods ≡ Some n →
    (k : ℕ) × (n ≡ i + k) × (slice_get methods k ≡ method_named methods name)
method_from_is i name [] n e = absurd (cc)
method_from_is i name (first ∷ rest) n e =
    (elim (bytes_eq first.name.text name) as (λ b. (if b then Some i else method_from (i + 1) name rest) ≡ Some n →
    (k : ℕ) × (n ≡ i + k) × (slice_get (first ∷ rest) k ≡ (if b then Some first else method_named rest name))) [
      | true ↦ λ h. let f : i ≡ n = cc in (0, omega (arith, f), refl)
      | false ↦ λ h. let later : (k : ℕ) × (n ≡ (i + 1) + k) × (slice_get rest k ≡ method_named rest name) =
          method_from_is (i + 1) name rest n h in
          (suc later.0, omega (arith, later.1), later.2)
    ]) e

-- a method that is found by the number of its name is the first of that name
named_by_is : (of_type : TypeTree) (name : List ℕ) (number : Option ℕ) (target : Target) →
    method_from 0 name of_type.methods ≡ number → numbered_by of_type number ≡ Some target →
    (of_type ≡ target.of_type) × (method_named of_type.methods name ≡ Some target.method)
named_by_is of_type name None target from e = absurd (cc)
named_by_is of_type name (Some n) target from e =
    let is : (of_type ≡ target.of_type) × (n ≡ target.number) × (slice_get of_type.methods n ≡ Some target.method) =
    method_there_is of_type n (slice_get of_type.methods n) target e in
    let place : (k : ℕ) × (n ≡ 0 + k) × (slice_get of_type.methods k ≡ method_named of_type.methods name) =
    method_from_is 0 name of_type.methods n from in
    let same : place.0 ≡ n = omega (arith, place.1) in
    (is.0, sym place.2 ∙ ap (slice_get of_type.methods) same ∙ is.2)

-- the method that a call finds is the one that a check of the call finds
method_of_named : (of_type : Option TypeTree) (name : List ℕ) (target : Target) → method_target of_type name ≡ Some target →
    (of_type ≡ Some target.of_type) × (method_named target.of_type.methods name ≡ Some target.method)
method_of_named None name target e = absurd (cc)
method_of_named (Some of_type) name target e =
    let is : (of_type ≡ target.of_type) × (method_named of_type.methods name ≡ Some target.method) =
    named_by_is of_type name (method_from 0 name of_type.methods) target refl e in
    (ap (λ (t : TypeTree). Some t) is.0, ap (λ (t : TypeTree). method_named t.methods name) (sym is.0) ∙ is.1)

-- a checked call has as many arguments as the method that it finds has parameters
pub call_has_arity : (setting : Setting) (scope : Scope) (call : CallTree) → IsCallInScope setting scope call →
    (number : ℕ) (target : Target) →
    type_from 0 call.target.text setting.types ≡ Some number →
    method_target (slice_get setting.types number) call.method.text ≡ Some target →
    length call.args ≡ length target.method.params
call_has_arity setting scope call right number target from found =
    let place : (k : ℕ) × (number ≡ 0 + k) × (slice_get setting.types k ≡ type_named setting.types call.target.text) =
    type_from_is 0 call.target.text setting.types number from in
    let same : number ≡ place.0 = omega (arith, place.1) in
    let named : (slice_get setting.types number ≡ Some target.of_type)
    × (method_named target.of_type.methods call.method.text ≡ Some target.method) =
    method_of_named (slice_get setting.types number) call.method.text target found in
    let types : Some right.target ≡ Some target.of_type = sym right.is_target ∙ sym place.2
    ∙ ap (slice_get setting.types) (sym same) ∙ named.0 in
    let one_type : right.target ≡ target.of_type = cc in
    let methods : Some right.method ≡ Some target.method = sym right.is_method
    ∙ ap (λ (t : TypeTree). method_named t.methods call.method.text) one_type ∙ named.1 in
    let one_method : right.method ≡ target.method = cc in
    right.arity ∙ ap (λ (m : MethodTree). length m.params) one_method

-- a checked call finds a method
type_from_some : (i : ℕ) (name : List ℕ) (types : ProgramTree) (of_type : TypeTree) →
    type_named types name ≡ Some of_type → (n : ℕ) × (type_from i name types ≡ Some n)
type_from_some i name [] of_type e = absurd (cc)
type_from_some i name (first ∷ rest) of_type e =
    (elim (bytes_eq first.name.text name) as (λ b. (if b then Some first else type_named rest name) ≡ Some of_type →
    (n : ℕ) × ((if b then Some i else type_from (i + 1) name rest) ≡ Some n))
    [ true ↦ λ h. (i, refl) | false ↦ λ h. type_from_some (i + 1) name rest of_type h ]) e

-- a method of this name has a number
method_from_some : (i : ℕ) (name : List ℕ) (methods : List MethodTree) (method : MethodTree) →
    method_named methods name ≡ Some method → (n : ℕ) × (method_from i name methods ≡ Some n)
method_from_some i name [] method e = absurd (cc)
method_from_some i name (first ∷ rest) method e =
    (elim (bytes_eq first.name.text name) as (λ b. (if b then Some first else method_named rest name) ≡ Some method →
    (n : ℕ) × ((if b then Some i else method_from (i + 1) name rest) ≡ Some n))
    [ true ↦ λ h. (i, refl) | false ↦ λ h. method_from_some (i + 1) name rest method h ]) e

-- a method of this name is found
method_of_some : (of_type : TypeTree) (name : List ℕ) (method : MethodTree) →
    method_named of_type.methods name ≡ Some method → (found : Target) × (method_target (Some of_type) name ≡ Some found)
method_of_some of_type name method e =
    let from : (n : ℕ) × (method_from 0 name of_type.methods ≡ Some n) =
    method_from_some 0 name of_type.methods method e in
    let place : (k : ℕ) × (from.0 ≡ 0 + k) × (slice_get of_type.methods k ≡ method_named of_type.methods name) =
    method_from_is 0 name of_type.methods from.0 from.1 in
    let same : from.0 ≡ place.0 = omega (arith, place.1) in
    let there : slice_get of_type.methods from.0 ≡ Some method = ap (slice_get of_type.methods) same ∙ place.2 ∙ e in (
      record { of_type = of_type; number = from.0; method = method },
      ap (numbered_by of_type) from.1 ∙ ap (method_there of_type from.0) there,
    )

pub call_finds : (setting : Setting) (scope : Scope) (call : CallTree) → IsCallInScope setting scope call →
    (n : ℕ) × (type_from 0 call.target.text setting.types ≡ Some n) × (found : Target)
    × (method_target (slice_get setting.types n) call.method.text ≡ Some found)
call_finds setting scope call right =
    let from : (n : ℕ) × (type_from 0 call.target.text setting.types ≡ Some n) =
    type_from_some 0 call.target.text setting.types right.target right.is_target in
    let place : (k : ℕ) × (from.0 ≡ 0 + k) × (slice_get setting.types k ≡ type_named setting.types call.target.text) =
    type_from_is 0 call.target.text setting.types from.0 from.1 in
    let same : from.0 ≡ place.0 = omega (arith, place.1) in
    let there : slice_get setting.types from.0 ≡ Some right.target =
    ap (slice_get setting.types) same ∙ place.2 ∙ right.is_target in
    let found : (found : Target) × (method_target (Some right.target) call.method.text ≡ Some found) =
    method_of_some right.target call.method.text right.method right.is_method in
    (from.0, from.1, found.0, ap (λ (t : Option TypeTree). method_target t call.method.text) there ∙ found.1)
