-- Lists of units: functions that agree on them, what is added at the end, and what is taken from the front.
use Rattle.std.proofs.Common.{◌≡◌, ℕ, zero, suc, ◌+◌, ◌<◌, ◌≤◌, List, [], ◌∷◌, ◌++◌, Bool, true, false, inl, inr, refl, sym, ap, ◌∙◌, arith, Option, Some, None, length, take, drop, map, filter}
use Rattle.std.specs.Prelude.{if◌then◌else◌, flat_map}
use Rattle.core_model.specs.CoreState.{UnitNo, GrainId, Member, Value, Write, put}
use Rattle.core_model.specs.declared.phases.Verdict.{Verdict}
use Rattle.core_model.specs.Tests.{is_committed, is_final, state_written}
use Rattle.history_core.specs.ClosedUnits.{last_among, state_after}

-- functions that agree on a list map it alike
pub map-agree : {A B : Type 0} (f h : A → B) (us : List A) → ((x : A) → Member x us → f x ≡ h x) → map f us ≡ map h us
map-agree f h [] e = refl
map-agree f h (u ∷ us) e = (let one = e u (inl refl) in let rest = map-agree f h us (λ x m. e x (inr m)) in λ i. one i ∷ rest i)

pub flat-agree : {A B : Type 0} (f h : A → List B) (us : List A) → ((x : A) → Member x us → f x ≡ h x) → flat_map f us ≡ flat_map h us
flat-agree f h [] e = refl
flat-agree f h (u ∷ us) e = (let one = e u (inl refl) in let rest = flat-agree f h us (λ x m. e x (inr m)) in λ i. one i ++ rest i)

pub filter-agree : {A : Type 0} (f h : A → Bool) (us : List A) → ((x : A) → Member x us → f x ≡ h x) → filter f us ≡ filter h us
filter-agree f h [] e = refl
filter-agree f h (u ∷ us) e = (let one = e u (inl refl) in let rest = filter-agree f h us (λ x m. e x (inr m)) in λ i. if one i then u ∷ rest i else rest i)

pub filter-in : {A : Type 0} (f : A → Bool) (us : List A) (x : A) → Member x (filter f us) → Member x us
filter-in f [] x m = m
filter-in f (u ∷ us) x m = by_test (λ k. filter-in f us x k) (f u) m
  where
    by_test : (Member x (filter f us) → Member x us) → (b : Bool) → Member x (if b then u ∷ filter f us else filter f us) → Member x (u ∷ us)
    by_test rest true (inl e) = inl e
    by_test rest true (inr k) = inr (rest k)
    by_test rest false k = inr (rest k)

pub map-last : {A B : Type 0} (f : A → B) (us : List A) (u : A) → map f (us ++ u ∷ []) ≡ map f us ++ f u ∷ []
map-last f [] u = refl
map-last f (x ∷ us) u = ap (λ t. f x ∷ t) (map-last f us u)

pub length-last : {A : Type 0} (us : List A) (u : A) → length (us ++ u ∷ []) ≡ length us + 1
length-last [] u = refl
length-last (x ∷ us) u = omega (arith, length-last us u)

pub drop-last : {A : Type 0} (n : ℕ) (us : List A) (u : A) → n ≤ length us → drop n (us ++ u ∷ []) ≡ drop n us ++ u ∷ []
drop-last zero us u h = refl
drop-last (suc n) [] u h = absurd (omega arith)
drop-last (suc n) (x ∷ us) u h = drop-last n us u (omega arith)

pub take-last : {A : Type 0} (n : ℕ) (us : List A) (u : A) → n ≤ length us → take n (us ++ u ∷ []) ≡ take n us
take-last zero us u h = refl
take-last (suc n) [] u h = absurd (omega arith)
take-last (suc n) (x ∷ us) u h = ap (λ t. x ∷ t) (take-last n us u (omega arith))

-- what is last among units depends on their verdicts and writes alone
pub last-agree : (v v' : UnitNo → Verdict) (ws ws' : UnitNo → List Write) (g : GrainId) (us : List UnitNo) (before : Option (List Value)) →
    ((x : UnitNo) → Member x us → is_committed (v x) ≡ is_committed (v' x)) → ((x : UnitNo) → Member x us → ws x ≡ ws' x) → last_among v ws g us before ≡ last_among v' ws' g us before
last-agree v v' ws ws' g [] before e h = refl
last-agree v v' ws ws' g (u ∷ us) before e h =
    last-agree v v' ws ws' g us (state_after (is_committed (v u)) (state_written g (ws u)) before) (λ x m. e x (inr m)) (λ x m. h x (inr m))
    ∙ (let one = e u (inl refl) in let two = h u (inl refl) in λ i. last_among v' ws' g us (state_after (one i) (state_written g (two i)) before))
