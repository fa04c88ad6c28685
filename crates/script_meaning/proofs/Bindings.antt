-- Parameters with their arguments, one argument after another.
use Rattle.std.proofs.Common.{◌≡◌, List, [], ◌∷◌, ◌++◌, length, Some, None, refl, ap}
use Rattle.std.specs.Prelude.{slice_get}
use Rattle.base_types.specs.declared.calls.Value.{Value}
use Rattle.script_tree.specs.declared.expressions.Name.{Name}
use Rattle.script_values.specs.declared.locals.Local.{Local}
use Rattle.script_values.specs.Expressions.{Locals}
use Rattle.script_meaning.specs.Calls.{bound}

-- no argument is bound
pub bound_none : (names : List Name) → bound names [] ≡ []
bound_none [] = refl
bound_none (first ∷ names) = refl

-- an argument more, where there is a parameter for it
pub bound_more : (names : List Name) (values : List Value) (name : Name) (value : Value) → slice_get names (length values) ≡ Some name →
    bound names (values ++ (value ∷ [])) ≡ bound names values ++ ((record { name = name.text; value = value }) ∷ [])
bound_more [] values name value there = absurd (cc)
bound_more (first ∷ names) [] name value there =
    let is : first ≡ name = cc in
    let local : Name → Local = λ n. record { name = n.text; value = value } in
    (λ i. local (is i) ∷ bound_none names i)
bound_more (first ∷ names) (v ∷ values) name value there =
    let local : Local = record { name = first.text; value = v } in
    ap (λ (l : Locals). local ∷ l) (bound_more names values name value there)

-- as many parameters are bound as there are arguments, or all
pub bound_next : (names : List Name) (values : List Value) → slice_get names (length (bound names values)) ≡ slice_get names (length values)
bound_next [] values = refl
bound_next (first ∷ names) [] = refl
bound_next (first ∷ names) (v ∷ values) = bound_next names values

-- arguments past the last parameter are left out
pub bound_all : (names : List Name) (values more : List Value) → slice_get names (length values) ≡ None →
    bound names (values ++ more) ≡ bound names values
bound_all [] values more none = refl
bound_all (first ∷ names) [] more none = absurd (cc)
bound_all (first ∷ names) (v ∷ values) more none =
    let local : Local = record { name = first.text; value = v } in
    ap (λ (l : Locals). local ∷ l) (bound_all names values more none)
