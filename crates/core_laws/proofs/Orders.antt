-- The finish order and its parts.
use Rattle.std.proofs.Common.{◌≡◌, ℕ, zero, suc, ◌+◌, ◌<◌, ◌≤◌, List, [], ◌∷◌, length, get_or, take, drop, inl, inr, refl, sym, ap, ◌∙◌, subst, arith, length-drop, length-take, get_or-drop, get_or-take, ◌++◌}
use Rattle.std.proofs.lemmas.Bool.{cond_both}
use Rattle.core_model.specs.CoreState.{UnitNo, nobody, put, Member, Batch, Decision, CoreState}
use Rattle.core_model.specs.declared.phases.Phase.TheVariants.{Finished}
use Rattle.core_model.specs.declared.phases.Verdict.{Verdict}
use Rattle.core_model.specs.declared.phases.Verdict.TheVariants.{Open}
use Rattle.core_model.specs.Tests.{is_free, free_prefix, members, waiting}
use Rattle.core_model.specs.Changes.{verdict_of, judged}
use Rattle.core_laws.proofs.Puts.{put-other}
use Rattle.core_laws.proofs.Loadless.{LoadlessAt}

pub free_prefix-length : (w : CoreState) (us : List UnitNo) → free_prefix w us ≤ length us
free_prefix-length w [] = omega arith
free_prefix-length w (u ∷ us) = cond_both (is_free w u) (free_prefix w us + 1) 0 (λ t. t ≤ length (u ∷ us)) (λ e. omega (arith, free_prefix-length w us)) (λ e. omega arith)

pub take_length : (m : ℕ) (xs : List UnitNo) → m ≤ length xs → length (take m xs) ≡ m
take_length zero xs h = refl
take_length (suc m) [] h = absurd (omega arith)
take_length (suc m) (x ∷ xs) h = ap suc (take_length m xs (omega arith))

pub at_take : (m j : ℕ) (xs : List UnitNo) → j < m → get_or (take m xs) j nobody ≡ get_or xs j nobody
at_take zero j xs h = absurd (omega arith)
at_take (suc m) j [] h = refl
at_take (suc m) zero (x ∷ xs) h = refl
at_take (suc m) (suc j) (x ∷ xs) h = at_take m j xs (omega arith)

at_drop : (n j : ℕ) (xs : List UnitNo) → get_or (drop n xs) j nobody ≡ get_or xs (n + j) nobody
at_drop zero j xs = (let e : j ≡ 0 + j = omega arith in ap (λ k. get_or xs k nobody) e)
at_drop (suc n) j [] = refl
at_drop (suc n) j (x ∷ xs) = (let e : suc (n + j) ≡ suc n + j = omega arith in at_drop n j xs ∙ ap (λ k. get_or (x ∷ xs) k nobody) e)

-- an item of a part is one of the whole
pub at_part : (m n : ℕ) (xs : List UnitNo) (j : ℕ) → j < m → get_or (take m (drop n xs)) j nobody ≡ get_or xs (n + j) nobody
at_part m n xs j h = at_take m j (drop n xs) h ∙ at_drop n j xs

pub Member-at : (x : UnitNo) (xs : List UnitNo) → Member x xs → (j : ℕ) × (j < length xs) × (get_or xs j nobody ≡ x)
Member-at x [] m = absurd m
Member-at x (y ∷ xs) (inl e) = (0, omega arith, sym e)
Member-at x (y ∷ xs) (inr m) = (let t = Member-at x xs m in (suc t.0, omega (arith, t.1), t.2))

pub Member-get : (xs : List UnitNo) (j : ℕ) → j < length xs → Member (get_or xs j nobody) xs
Member-get [] j h = absurd (omega arith)
Member-get (y ∷ xs) zero h = inl refl
Member-get (y ∷ xs) (suc j) h = inr (Member-get xs j (omega arith))

pub Member-take : (m : ℕ) (x : UnitNo) (xs : List UnitNo) → Member x (take m xs) → Member x xs
Member-take zero x xs h = absurd h
Member-take (suc m) x [] h = absurd h
Member-take (suc m) x (y ∷ xs) (inl e) = inl e
Member-take (suc m) x (y ∷ xs) (inr h) = inr (Member-take m x xs h)

-- one more at the end of the finish order leaves the batch
pub take-drop-push : (m n : ℕ) (xs : List UnitNo) (x : UnitNo) → n + m ≤ length xs → take m (drop n (xs ++ x ∷ [])) ≡ take m (drop n xs)
take-drop-push m (suc n) [] x h = absurd (omega arith)
take-drop-push m (suc n) (y ∷ xs) x h = take-drop-push m n xs x (omega arith)
take-drop-push zero zero xs x h = refl
take-drop-push (suc m) zero [] x h = absurd (omega arith)
take-drop-push (suc m) zero (y ∷ xs) x h = ap (λ t. y ∷ t) (take-drop-push m zero xs x (omega arith))

-- what stands after the first m has later places
pub in_drop : (n : ℕ) (w : CoreState) → LoadlessAt n w → (m : ℕ) (x : UnitNo) → Member x (drop m w.manager.order) → (w.units.phase x ≡ Finished) × (m < w.manager.place x)
in_drop n w i m x h =
    let t = Member-at x (drop m w.manager.order) h in
    let lt : m + t.0 < length w.manager.order = omega (arith, t.1, length-drop m w.manager.order) in
    let e : get_or w.manager.order (m + t.0) nobody ≡ x = sym (get_or-drop m w.manager.order t.0 nobody) ∙ t.2 in
    let l = i.listed (m + t.0) lt in
    (subst (λ z. w.units.phase z ≡ Finished) e l.0, subst (λ z. m < w.manager.place z) e (omega (arith, l.1)))

-- the first m have the places up to m
pub in_take : (n : ℕ) (w : CoreState) → LoadlessAt n w → (m : ℕ) (x : UnitNo) → Member x (take m w.manager.order) → m ≤ length w.manager.order → (w.units.phase x ≡ Finished) × (w.manager.place x ≤ m)
in_take n w i m x h le =
    let t = Member-at x (take m w.manager.order) h in
    let lt : t.0 < m = at_most m w.manager.order t.0 t.1 in
    let e : get_or w.manager.order t.0 nobody ≡ x = sym (get_or-take m w.manager.order t.0 nobody lt) ∙ t.2 in
    let l = i.listed t.0 (omega (arith, lt, le)) in
    (subst (λ z. w.units.phase z ≡ Finished) e l.0, subst (λ z. w.manager.place z ≤ m) e (omega (arith, l.1, lt)))
  where
    at_most : (m : ℕ) (xs : List UnitNo) (j : ℕ) → j < length (take m xs) → j < m
    at_most zero xs j h = absurd (omega arith)
    at_most (suc m) [] j h = absurd (omega arith)
    at_most (suc m) (y ∷ xs) zero h = omega arith
    at_most (suc m) (y ∷ xs) (suc j) h = omega (arith, at_most m xs j (omega arith))

-- the first m items of what stands after the first n
pub in_part : (n : ℕ) (w : CoreState) → LoadlessAt n w → (k m : ℕ) (x : UnitNo) → Member x (take m (drop k w.manager.order)) → (w.units.phase x ≡ Finished) × (k < w.manager.place x)
in_part n w i k m x h = in_drop n w i k x (Member-take m x (drop k w.manager.order) h)

-- the units of an open batch are undecided until it is decided
pub members-open : (w : CoreState) (b : Batch) → LoadlessAt w.manager.closed w → (x : UnitNo) → Member x (members w b) → (w.units.phase x ≡ Finished) × (w.manager.verdict x ≡ Open)
members-open w b i x m =
    let t = in_part w.manager.closed w i w.manager.closed b.size x m in
    (t.0, i.late x t.0 t.1)

-- who stands in an open batch stands up to its end
pub member-place : (n : ℕ) (w : CoreState) (b : Batch) → LoadlessAt n w → (u : UnitNo) → Member u (members w b) → (w.units.phase u ≡ Finished) × (w.manager.place u ≤ w.manager.closed + b.size)
member-place n w b i u m =
    let t = Member-at u (members w b) m in
    let len = length-take b.size (waiting w) in
    let e : get_or w.manager.order (w.manager.closed + t.0) nobody ≡ u = sym (at_part b.size w.manager.closed w.manager.order t.0 (omega (arith, t.1, len))) ∙ t.2 in
    let l = i.listed (w.manager.closed + t.0) (omega (arith, t.1, len, length-drop w.manager.closed w.manager.order)) in
    (subst (λ z. w.units.phase z ≡ Finished) e l.0, subst (λ z. w.manager.place z ≤ w.manager.closed + b.size) e (omega (arith, l.1, t.1, len)))

-- who isn't judged keeps the verdict
pub judged-other : (us : List UnitNo) (ds : List Decision) (v : UnitNo → Verdict) (x : UnitNo) → (Member x us → ⊥) → judged us ds v x ≡ v x
judged-other [] ds v x n = refl
judged-other (u ∷ us) [] v x n = refl
judged-other (u ∷ us) (d ∷ ds) v x n =
    judged-other us ds (put v u (verdict_of d)) x (λ m. n (inr m)) ∙ put-other v u (verdict_of d) x (λ e. n (inl e))
