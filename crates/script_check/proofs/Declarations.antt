-- Declarations one after another.
use Rattle.std.proofs.Common.{◌≡◌, ◌+◌, ◌<◌, ◌≤◌, ℕ, List, [], ◌∷◌, ◌++◌, map, length, drop, get_or, None, refl, sym, ap, ◌∙◌, append_assoc, drop-cons, add-one}
use Rattle.std.proofs.Math.ListN.{drop_of_length-le}
use Rattle.std.proofs.lemmas.List.{append-nil}
use Rattle.script_tree.specs.declared.expressions.Name.{Name}
use Rattle.script_scopes.specs.declared.faults.CheckFault.{CheckFault}
use Rattle.script_scopes.specs.FirstFaults.{FirstFault, Fails}
use Rattle.script_scopes.specs.Names.{Scope}
use Rattle.script_check.specs.Programs.{each_fault}
use Rattle.script_scopes.proofs.Founds.{fails_first, fails_is, goes_on}

-- the names of what is declared
abbrev pub texts : {A : Type 0} → (A → Name) → List A → Scope
texts name_of xs = map (λ x. (name_of x).text) xs

-- declarations of which the first are right, with their names
pub record HasDeclared {A : Type 0} (name_of : A → Name) (fault : Scope → A → FirstFault) (scope : Scope) (rest all : List A) : Type 0 where
  pub so_far : each_fault name_of fault scope rest ≡ each_fault name_of fault [] all
  pub names : scope ++ texts name_of rest ≡ texts name_of all

-- before the first
pub none_declared : {A : Type 0} (name_of : A → Name) (fault : Scope → A → FirstFault) (all : List A) → HasDeclared name_of fault [] all all
none_declared name_of fault all = record { so_far = refl; names = refl }

-- one more is right
pub declares : {A : Type 0} (name_of : A → Name) (fault : Scope → A → FirstFault) (scope next : Scope) (first : A) (rest left all : List A) → left ≡ first ∷ rest → fault scope first ≡ None → next ≡ scope ++ ((name_of first).text ∷ []) → HasDeclared name_of fault scope left all → HasDeclared name_of fault next rest all
unfolding each_fault
declares name_of fault scope next first rest left all l e n h =
    let step : each_fault name_of fault scope (first ∷ rest) ≡ each_fault name_of fault (scope ++ ((name_of first).text ∷ [])) rest = goes_on (fault scope first) (each_fault name_of fault (scope ++ ((name_of first).text ∷ [])) rest) e in
    record {
      so_far = ap (λ (s : Scope). each_fault name_of fault s rest) n ∙ sym step ∙ ap (λ (xs : List _). each_fault name_of fault scope xs) (sym l) ∙ h.so_far;
      names = ap (λ (s : Scope). s ++ texts name_of rest) n ∙ append_assoc scope ((name_of first).text ∷ []) (texts name_of rest) ∙ ap (λ (xs : List _). scope ++ texts name_of xs) (sym l) ∙ h.names;
    }

-- the next is at fault
pub declares_not : {A : Type 0} (e : CheckFault) (name_of : A → Name) (fault : Scope → A → FirstFault) (scope : Scope) (first : A) (rest left all : List A) → left ≡ first ∷ rest → Fails e (fault scope first) → HasDeclared name_of fault scope left all → Fails e (each_fault name_of fault [] all)
unfolding each_fault
declares_not e name_of fault scope first rest left all l f h =
    fails_is e _ _ (ap (λ (xs : List _). each_fault name_of fault scope xs) (sym l) ∙ h.so_far) (fails_first e (fault scope first) (each_fault name_of fault (scope ++ ((name_of first).text ∷ [])) rest) f)

-- all are right
pub all_declared : {A : Type 0} (name_of : A → Name) (fault : Scope → A → FirstFault) (scope : Scope) (left all : List A) → left ≡ [] → HasDeclared name_of fault scope left all → (each_fault name_of fault [] all ≡ None) × (scope ≡ texts name_of all)
unfolding each_fault
all_declared name_of fault scope left all l h = (
  sym h.so_far ∙ ap (λ (xs : List _). each_fault name_of fault scope xs) l,
  sym (append-nil scope) ∙ ap (λ (xs : List _). scope ++ texts name_of xs) (sym l) ∙ h.names,
)

-- what is left at an index within a list
pub drop_item : {A : Type 0} (i : ℕ) (xs : List A) (x : A) → i < length xs → x ≡ get_or xs i x → drop i xs ≡ x ∷ drop (i + 1) xs
drop_item i xs x lt e =
    let h : drop i xs ≡ get_or xs i x ∷ drop (i + 1) xs = rw (add-one, drop-cons xs i x) refl in
    h ∙ ap (λ y. y ∷ drop (i + 1) xs) (sym e)

-- nothing is left past its end
pub drop_past : {A : Type 0} (i : ℕ) (xs : List A) → length xs ≤ i → drop i xs ≡ []
drop_past i xs le = drop_of_length-le xs le
