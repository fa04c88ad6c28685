-- How many events of a kind one more event makes, and what the counts of faults say then.
use Rattle.std.proofs.Common.{◌≡◌, ℕ, zero, suc, ◌+◌, ◌≤◌, List, [], ◌∷◌, ◌++◌, take, Bool, true, false, refl, sym, ap, ◌∙◌, arith, append_assoc, Some, slice_get}
use Rattle.std.specs.Prelude.{if◌then◌else◌, count_by}
use Rattle.core_model.specs.declared.events.CoreEvent.{CoreEvent}
use Rattle.core_model.specs.declared.events.CoreEvent.TheVariants.{Doubt}
use Rattle.core_model.specs.CoreState.{CoreState}
use Rattle.core_model.specs.Events.{applies, step}
use Rattle.core_model.specs.LegalRuns.{Run, begins, ends}
use Rattle.core_model.specs.Laws.{extended}
use Rattle.promise_spec.specs.Cores.{how_many, applied_from}
use Rattle.promise_spec.specs.Causes.{RunHasDoubt}
use Rattle.turn_rules.proofs.Growth.{applied-more}
use Rattle.turn_rules.proofs.ListTests.{count-more, count-one, count-none}
use Rattle.settler_rules.proofs.Commits.{doubt-stays}
use Rattle.run_books.proofs.BooksCore.{moves-run}

-- what one event adds to a count
abbrev pub one_more : (CoreEvent → Bool) → Run → CoreEvent → ℕ
one_more p r e = count_by p (if applies (ends r) e then e ∷ [] else [])

pub how-more : (p : CoreEvent → Bool) (r : Run) (e : CoreEvent) → how_many p (extended r (e ∷ [])) ≡ how_many p r + one_more p r e
how-more p r e = ap (count_by p) (applied-more r.events (begins r) e) ∙ count-more p (applied_from (begins r) r.events) (if applies (ends r) e then e ∷ [] else [])

-- none of another kind
pub how-same : (p : CoreEvent → Bool) (r : Run) (e : CoreEvent) → p e ≡ false → how_many p (extended r (e ∷ [])) ≡ how_many p r
how-same p r e other = how-more p r e ∙ (let none : one_more p r e ≡ 0 = by (applies (ends r) e) in omega (arith, none))
  where
    by : (a : Bool) → count_by p (if a then e ∷ [] else []) ≡ 0
    by true = count-none p e other
    by false = refl

-- one of its kind, where it applies
pub how-one : (p : CoreEvent → Bool) (r : Run) (e : CoreEvent) → p e ≡ true → applies (ends r) e ≡ true → how_many p (extended r (e ∷ [])) ≡ how_many p r + 1
how-one p r e is a =
    how-more p r e
    ∙ ap (λ (n : ℕ). how_many p r + n) (ap (λ (b : Bool). count_by p (if b then e ∷ [] else [])) a ∙ count-one p e is)

-- what more events leave of a count: none are fewer
count-begins : (p : CoreEvent → Bool) (w : CoreState) (xs ys : List CoreEvent) → count_by p (applied_from w xs) ≤ count_by p (applied_from w (xs ++ ys))
count-begins p w [] ys = omega arith
count-begins p w (x ∷ xs) ys = by (count-begins p (step w x) xs ys) (applies w x)
  where
    by : count_by p (applied_from (step w x) xs) ≤ count_by p (applied_from (step w x) (xs ++ ys)) → (a : Bool)
        → count_by p (if a then x ∷ applied_from (step w x) xs else applied_from (step w x) xs) ≤ count_by p (if a then x ∷ applied_from (step w x) (xs ++ ys) else applied_from (step w x) (xs ++ ys))
    by more true =
        let one = count-more p (x ∷ []) (applied_from (step w x) xs) in
        let other = count-more p (x ∷ []) (applied_from (step w x) (xs ++ ys)) in
        omega (arith, more, one, other)
    by more false = more

-- so where there are none, there were none
pub none-before : (p : CoreEvent → Bool) (r : Run) (more : List CoreEvent) → how_many p (extended r more) ≡ 0 → how_many p r ≡ 0
none-before p r more none = let fewer : how_many p r ≤ how_many p (extended r more) = count-begins p (begins r) r.events more in omega (arith, fewer, none)

-- ---- a doubt that is left

-- the list up to an element, that element, and what is behind
parts-at : {A : Type 0} (xs : List A) (n : ℕ) (x : A) → slice_get xs n ≡ Some x → (back : List A) × (xs ≡ take n xs ++ (x ∷ back))
parts-at [] n x q = absurd cc
parts-at {A} (y ∷ ys) zero x q = let same : y ≡ x = cc in (ys, ap (λ (z : A). z ∷ ys) same)
parts-at {A} (y ∷ ys) (suc n) x q = let rest = parts-at ys n x q in (rest.0, ap (λ (l : List A). y ∷ l) rest.1)

-- stands to the end
pub doubt-ends : (r : Run) → RunHasDoubt r → (at : ℕ) × ((ends r).manager.doubt ≡ Some at)
doubt-ends r d =
    let front : Run = record r { events = take d.at r.events } in
    let parts = parts-at r.events d.at (Doubt d.number) d.doubt.there in
    let left : (at : ℕ) × ((ends (extended front (Doubt d.number ∷ []))).manager.doubt ≡ Some at) = (moves-run front (Doubt d.number) d.doubt.applied).doubted refl in
    let whole : extended (extended front (Doubt d.number ∷ [])) parts.0 ≡ r =
    (λ i. record r { events = (append_assoc (take d.at r.events) (Doubt d.number ∷ []) parts.0 ∙ sym parts.1) i }) in
    let stays = doubt-stays (extended front (Doubt d.number ∷ [])) parts.0 left.0 left.1 in
    (left.0, ap (λ (x : Run). (ends x).manager.doubt) (sym whole) ∙ (stays.doubt ∙ left.1))
