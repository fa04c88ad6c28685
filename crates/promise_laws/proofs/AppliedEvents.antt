-- What holds of each event that applies, and of the states that such events lead to.
use Rattle.std.proofs.Common.{◌≡◌, ◌+◌, ◌<◌, ◌≤◌, ℕ, zero, suc, List, [], ◌∷◌, Bool, true, false, Some, inl, inr, refl, sym, ap, ◌∙◌, subst, arith}
use Rattle.std.specs.Prelude.{take, slice_get, fold, count_by, if◌then◌else◌}
use Rattle.std.proofs.lemmas.Bool.{cond_both, cases_Bool}
use Rattle.core_model.specs.CoreState.{Member, CoreState}
use Rattle.core_model.specs.declared.events.CoreEvent.{CoreEvent}
use Rattle.core_model.specs.Events.{applies, step, run}
use Rattle.core_model.specs.LegalRuns.{Run, begins}
use Rattle.core_laws.proofs.Replies.{no-change}
use Rattle.promise_spec.specs.Cores.{AppliesAt, applied_from, how_many}
use Rattle.promise_spec.proofs.Lists.{some_is, none_at}

-- this fits each event of the list that applies, in the state before it
abbrev pub AllFit : (CoreState → CoreEvent → Type 0) → CoreState → List CoreEvent → Type 0
AllFit Fits w events = (at : ℕ) (e : CoreEvent) → slice_get events at ≡ Some e → applies (run w (take at events)) e ≡ true → Fits (run w (take at events)) e

-- what an event that applies and fits keeps, all of them keep
pub keeps-run : (Fits : CoreState → CoreEvent → Type 0) (Keeps : CoreState → Type 0) → ((w : CoreState) (e : CoreEvent) → applies w e ≡ true → Fits w e → Keeps w → Keeps (step w e))
    → (events : List CoreEvent) (w : CoreState) → AllFit Fits w events → Keeps w → Keeps (run w events)
keeps-run Fits Keeps one [] w fit k = k
keeps-run Fits Keeps one (e ∷ events) w fit k =
    keeps-run Fits Keeps one events (step w e) (λ at f there a. fit (suc at) f there a)
    (elim (cases_Bool (applies w e)) [
      | inl a ↦ one w e a (fit 0 e refl a) k
      | inr a ↦ subst Keeps (sym (no-change w e a)) k
    ])

-- an event that applies is among those that applied
among : (events : List CoreEvent) (w : CoreState) (at : ℕ) (e : CoreEvent) → slice_get events at ≡ Some e → applies (run w (take at events)) e ≡ true → Member e (applied_from w events)
among [] w at e there a = absurd (none_at at e there)
among (x ∷ events) w zero e there a =
    let same : x ≡ e = some_is x e there in
    cond_both (applies w x) (x ∷ applied_from (step w x) events) (applied_from (step w x) events) (Member e)
    (λ b. inl (sym same))
    (λ b. (let t : true ≡ false = sym a ∙ ap (applies w) (sym same) ∙ b in cc))
among (x ∷ events) w (suc at) e there a =
    let more : Member e (applied_from (step w x) events) = among events (step w x) at e there a in
    cond_both (applies w x) (x ∷ applied_from (step w x) events) (applied_from (step w x) events) (Member e) (λ b. inr more) (λ b. more)

-- a count goes on from what it has
count-on : {A : Type 0} (is : A → Bool) (xs : List A) (n : ℕ) → n ≤ fold (λ a x. a + (if is x then 1 else 0)) n xs
count-on is [] n = omega arith
count-on is (x ∷ xs) n = (let more = count-on is xs (n + (if is x then 1 else 0)) in omega (arith, more))

counted-on : {A : Type 0} (is : A → Bool) (xs : List A) (x : A) (n : ℕ) → Member x xs → is x ≡ true → n < fold (λ a y. a + (if is y then 1 else 0)) n xs
counted-on is [] x n m e = absurd m
counted-on is (y ∷ ys) x n (inl q) e =
    let one : 0 < (if is y then 1 else 0) = subst (λ (b : Bool). 0 < (if b then 1 else 0)) (sym (ap is (sym q) ∙ e)) (omega arith) in
    let more = count-on is ys (n + (if is y then 1 else 0)) in
    omega (arith, one, more)
counted-on is (y ∷ ys) x n (inr m) e = (let more = counted-on is ys x (n + (if is y then 1 else 0)) m e in omega (arith, more))

-- where none is counted, there is none
pub counts : {A : Type 0} (is : A → Bool) (xs : List A) (x : A) → Member x xs → is x ≡ true → count_by is xs ≡ 0 → ⊥
counts is xs x m e none = (let more = counted-on is xs x 0 m e in omega (arith, more, none))

pub none-applies : (is : CoreEvent → Bool) (r : Run) → how_many is r ≡ 0 → (at : ℕ) (e : CoreEvent) → AppliesAt r at e → is e ≡ true → ⊥
none-applies is r none at e a t = counts is (applied_from (begins r) r.events) e (among r.events (begins r) at e a.there a.applied) t none
