-- The entries of one number, and what their holder promises.
use Rattle.std.proofs.Common.{◌≡◌, ◌⊎◌, ⊎_elim, inl, inr, ℕ, List, [], ◌∷◌, ◌++◌, length, Bool, true, false, refl, sym, ap, ◌∙◌, subst, arith, length-append, append-nil}
use Rattle.std.specs.Prelude.{cond}
use Rattle.base_types.specs.Lists.{Member}
use Rattle.core_model.specs.declared.events.CoreEvent.{CoreEvent}
use Rattle.core_model.specs.declared.events.CoreReply.{CoreReply}
use Rattle.core_model.specs.LegalRuns.{Run}
use Rattle.turn_cell.specs.History.{entries_of, same_number, entry}
use Rattle.turn_cell.proofs.Lists.{in_right}
use Rattle.core_access.proofs.Entries.{entries-append, entries-single, nothing, not-nothing, front-of, rest-of, ends-same}
use Rattle.worker_rules.specs.SharedHistories.{Told, OwnsUnits, IsDueBehind, AllDue, Promised, Keeps}

-- an entry of the number is one of the whole list
pub of-log : (n : List ℕ) (log : List Told) (e : Told) → Member e (entries_of n log) → Member e log × (same_number n e.by ≡ true)
of-log n [] e = λ i. absurd i
of-log n (x ∷ log) e = by (same_number n x.by) refl (of-log n log e)
  where
    by : (s : Bool) → same_number n x.by ≡ s → (Member e (entries_of n log) → Member e log × (same_number n e.by ≡ true)) → Member e (cond s (x ∷ entries_of n log) (entries_of n log)) → Member e (x ∷ log) × (same_number n e.by ≡ true)
    by true is ih i = ⊎_elim (λ (t : e ≡ x). (inl t, ap (λ (z : Told). same_number n z.by) t ∙ is)) (λ t. (let r = ih t in (inr r.0, r.1))) i
    by false is ih i = (let r = ih i in (inr r.0, r.1))

-- a place in two parts is in the first, or behind it
pub split-cases : (xs ys before : List Told) (e : Told) (rest : List Told) → xs ++ ys ≡ before ++ (e ∷ rest) →
    ((more : List Told) × (xs ≡ before ++ (e ∷ more))) ⊎ ((more : List Told) × (before ≡ xs ++ more) × (ys ≡ more ++ (e ∷ rest)))
split-cases [] ys before e rest q = inr (before, refl, q)
split-cases (x ∷ xs) ys [] e rest q = inl (xs, λ j. ap (front-of e) q j ∷ xs)
split-cases (x ∷ xs) ys (b ∷ before) e rest q =
    let same : x ≡ b = ap (front-of e) q in
    ⊎_elim
    (λ t. inl (t.0, λ j. same j ∷ t.1 j))
    (λ t. inr (t.0, (λ j. sym same j ∷ t.1 j), t.2))
    (split-cases xs ys before e rest (ap rest-of q))

-- what stands in the middle is in the list
in-middle : (before : List Told) (e : Told) (rest : List Told) → Member e (before ++ (e ∷ rest))
in-middle before e rest = in_right e before (e ∷ rest) (inl refl)

module _ (Due : Run → CoreEvent → Type 0) (first : Run) (n : List ℕ) where
  -- what was seen is followed by entries of others
  pub due-longer : (seen more : List Told) → AllDue Due first n seen → entries_of n more ≡ [] → AllDue Due first n (seen ++ more)
  due-longer seen more all none before e rest q by = ⊎_elim
      (λ t. all before e t.0 t.1 by)
      (λ t. absurd (not-nothing n more e (subst (Member e) (sym t.2) (in-middle t.0 e rest)) (sym by) none))
      (split-cases seen more before e rest q)

  -- and then one more entry of the number
  pub due-next : (seen : List Told) (e : Told) → AllDue Due first n seen → IsDueBehind Due first n seen e → AllDue Due first n (seen ++ (e ∷ []))
  due-next seen e all one before f rest q by = ⊎_elim
      (λ t. all before f t.0 t.1 by)
      (λ t. last t.0 t.1 t.2)
      (split-cases seen (e ∷ []) before f rest q)
    where
      last : (more : List Told) → before ≡ seen ++ more → e ∷ [] ≡ more ++ (f ∷ rest) → IsDueBehind Due first n before f
      last [] is t =
          let b : before ≡ seen = is ∙ append-nil seen in
          let same : e ≡ f = ap (front-of e) t in
          subst (λ (z : Told). IsDueBehind Due first n before z) same (subst (λ (l : List Told). IsDueBehind Due first n l e) (sym b) one)
      last (x ∷ more) is t = let l = ap (length {A = Told}) (ap rest-of t) in absurd (omega (arith, l, length-append more (f ∷ rest)))

  -- The promise as more is seen: nothing of the number was put
  pub promise-sees : (seen more mine : List Told) → Promised Due first n seen mine → Promised Due first n (seen ++ more) mine
  promise-sees seen more mine p = record {
    owns = p.owns;
    some = (let s = p.some in let a = ap (length {A = Told}) (entries-append n seen more) in omega (arith, s, a, length-append (entries_of n seen) (entries_of n more)));
    due = λ is.
        let a = ap (length {A = Told}) (sym (entries-append n seen more) ∙ is) in
        let s = p.some in
        let none : entries_of n more ≡ [] = nothing (entries_of n more) (omega (arith, a, s, length-append (entries_of n seen) (entries_of n more))) in
        let same : entries_of n seen ≡ mine = sym (append-nil (entries_of n seen)) ∙ (ap (λ (l : List Told). entries_of n seen ++ l) (sym none) ∙ (sym (entries-append n seen more) ∙ is)) in
        due-longer seen more (p.due same) none;
  }

  -- and then an entry of the number was put, which is due there and of a unit that began
  pub promise-adds : (seen more mine : List Told) (e : CoreEvent) (r : CoreReply) → Promised Due first n seen mine
      → (entries_of n (seen ++ more) ≡ mine → IsDueBehind Due first n (seen ++ more) (entry n e r))
      → OwnsUnits (mine ++ (entry n e r ∷ []))
      → Promised Due first n ((seen ++ more) ++ (entry n e r ∷ [])) (mine ++ (entry n e r ∷ []))
  promise-adds seen more mine e r p one owns =
      let now = promise-sees seen more mine p in
      let new : Told = entry n e r in
      let single : entries_of n (new ∷ []) ≡ new ∷ [] = entries-single n e r in
      let whole : entries_of n ((seen ++ more) ++ (new ∷ [])) ≡ entries_of n (seen ++ more) ++ (new ∷ []) = entries-append n (seen ++ more) (new ∷ []) ∙ ap (λ (l : List Told). entries_of n (seen ++ more) ++ l) single in record {
        owns = owns;
        some = (let s = now.some in let a = ap (length {A = Told}) whole in omega (arith, s, a, length-append mine (new ∷ []), length-append (entries_of n (seen ++ more)) (new ∷ [])));
        due = λ is.
            let same : entries_of n (seen ++ more) ≡ mine = ends-same (entries_of n (seen ++ more)) mine new (sym whole ∙ is) in
            due-next (seen ++ more) new (now.due same) (one same);
      }

  -- a pass that put nothing promises nothing
  pub promise-none : (seen : List Told) → Promised Due first n seen []
  promise-none seen = record {
    owns = λ e u i own. absurd i;
    some = omega arith;
    due = λ is before e rest q by. absurd (not-nothing n seen e (subst (Member e) (sym q) (in-middle before e rest)) (sym by) is);
  }

  -- at the end it holds of the whole history
  pub due-whole : (log mine : List Told) → Keeps Due first log n mine → entries_of n log ≡ mine → AllDue Due first n log
  due-whole log mine k is =
      let p = promise-sees k.seen k.begins.0 mine k.promise in
      let now : entries_of n (k.seen ++ k.begins.0) ≡ mine = ap (entries_of n) (sym k.begins.1) ∙ is in
      subst (AllDue Due first n) (sym k.begins.1) (p.due now)
