-- The place of a grain among ordered ones, and the plan as it grows.
use Rattle.std.proofs.Common.{◌≡◌, ℕ, zero, suc, ◌<◌, ◌≤◌, List, [], ◌∷◌, ◌++◌, length, get_or, take, drop, Bool, true, false, ◌||◌, None, Some, position, refl, ap, ◌∙◌, arith, nat_lt, cond}
use Rattle.std.specs.List.{position_or_len, flat_map}
use Rattle.std.proofs.lemmas.Bool.{cond_both, ltb-false}
use Rattle.std.proofs.lemmas.List.Sums.{fails_before_first}
use Rattle.std.proofs.lemmas.List.Quantifiers.{position-Some}
use Rattle.base_types.specs.declared.calls.UnitNo.{UnitNo}
use Rattle.base_types.specs.declared.calls.GrainId.{GrainId}
use Rattle.cell_model.specs.Units.{same_grain}
use Rattle.core_model.specs.Tests.{is_before, with_grain, grains_of}
use Rattle.open_batch.specs.declared.members.FinishedUnit.{FinishedUnit}
use Rattle.open_batch.specs.Members.{grains_by, plan_of, with_grains}

-- x doesn't come before the grain
abbrev pub reaches : GrainId → GrainId → Bool
reaches g x = same_grain x g || is_before g x

or_none : (a b : Bool) → (a || b) ≡ false → (a ≡ false) × (b ≡ false)
or_none true b e = absurd (cc e)
or_none false true e = absurd (cc e)
or_none false false e = (refl, refl)

or_second : (a b : Bool) → (a || b) ≡ true → a ≡ false → b ≡ true
or_second true b e f = absurd (cc f)
or_second false b e f = e

-- a grain that comes before stays where it is
with-earlier : (x : GrainId) (xs : List GrainId) (g : GrainId) → reaches g x ≡ false → with_grain (x ∷ xs) g ≡ x ∷ with_grain xs g
with-earlier x xs g e =
    let parts = or_none (same_grain x g) (is_before g x) e in
    ap (λ t. cond t (x ∷ xs) (cond (is_before g x) (g ∷ x ∷ xs) (x ∷ with_grain xs g))) parts.0
    ∙ ap (λ t. cond t (g ∷ x ∷ xs) (x ∷ with_grain xs g)) parts.1

-- one that comes later makes place
with-later : (x : GrainId) (xs : List GrainId) (g : GrainId) → reaches g x ≡ true → same_grain x g ≡ false → with_grain (x ∷ xs) g ≡ g ∷ x ∷ xs
with-later x xs g e n =
    ap (λ t. cond t (x ∷ xs) (cond (is_before g x) (g ∷ x ∷ xs) (x ∷ with_grain xs g))) n
    ∙ ap (λ t. cond t (g ∷ x ∷ xs) (x ∷ with_grain xs g)) (or_second (same_grain x g) (is_before g x) e n)

position-none : (p : GrainId → Bool) (xs : List GrainId) (d : GrainId) → position p xs ≡ None → (k : ℕ) → k < length xs → p (get_or xs k d) ≡ false
position-none p xs d e k h = fails_before_first p xs k d (omega (arith, passes))
  where
    passes : length xs ≤ position_or_len p xs
    passes = cond_both (nat_lt (position_or_len p xs) (length xs)) (Some (position_or_len p xs)) None (λ t. t ≡ None → length xs ≤ position_or_len p xs)
        (λ q f. cc) (λ q f. ltb-false _ _ q) e

with-last : (xs : List GrainId) (g : GrainId) (d : GrainId) → ((k : ℕ) → k < length xs → reaches g (get_or xs k d) ≡ false) → with_grain xs g ≡ xs ++ g ∷ []
with-last [] g d h = refl
with-last (x ∷ xs) g d h =
    with-earlier x xs g (h 0 (omega arith))
    ∙ ap (λ t. x ∷ t) (with-last xs g d (λ k l. h (suc k) (omega arith)))

with-at : (xs : List GrainId) (g : GrainId) (at : ℕ) (d : GrainId) → at < length xs → reaches g (get_or xs at d) ≡ true → same_grain (get_or xs at d) g ≡ false → ((k : ℕ) → k < at → reaches g (get_or xs k d) ≡ false) → with_grain xs g ≡ take at xs ++ g ∷ drop at xs
with-at [] g at d l r n before = absurd (omega arith)
with-at (x ∷ xs) g zero d l r n before = with-later x xs g r n
with-at (x ∷ xs) g (suc at) d l r n before =
    with-earlier x xs g (before 0 (omega arith))
    ∙ ap (λ t. x ∷ t) (with-at xs g at d (omega arith) r n (λ k m. before (suc k) (omega arith)))

with-there : (xs : List GrainId) (g : GrainId) (at : ℕ) (d : GrainId) → at < length xs → same_grain (get_or xs at d) g ≡ true → ((k : ℕ) → k < at → reaches g (get_or xs k d) ≡ false) → with_grain xs g ≡ xs
with-there [] g at d l s before = absurd (omega arith)
with-there (x ∷ xs) g zero d l s before = ap (λ t. cond t (x ∷ xs) (cond (is_before g x) (g ∷ x ∷ xs) (x ∷ with_grain xs g))) s
with-there (x ∷ xs) g (suc at) d l s before =
    with-earlier x xs g (before 0 (omega arith))
    ∙ ap (λ t. x ∷ t) (with-there xs g at d (omega arith) s (λ k m. before (suc k) (omega arith)))

-- all come before: the grain comes last
pub comes-last : (xs : List GrainId) (g : GrainId) → position (reaches g) xs ≡ None → with_grain xs g ≡ xs ++ g ∷ []
comes-last xs g e = with-last xs g g (position-none (reaches g) xs g e)

-- the grain comes before the first that doesn't
pub comes-at : (xs : List GrainId) (g : GrainId) (at : ℕ) (d : GrainId) → position (reaches g) xs ≡ Some at → same_grain (get_or xs at d) g ≡ false → with_grain xs g ≡ take at xs ++ g ∷ drop at xs
comes-at xs g at d e n = (let t = position-Some (reaches g) xs at d e in with-at xs g at d t.0 t.1 n t.2)

-- the grain is there
pub is-there : (xs : List GrainId) (g : GrainId) (at : ℕ) (d : GrainId) → position (reaches g) xs ≡ Some at → same_grain (get_or xs at d) g ≡ true → with_grain xs g ≡ xs
is-there xs g at d e s = (let t = position-Some (reaches g) xs at d e in with-there xs g at d t.0 s t.2)

-- grains in order, with some before them
grains-append : (gs ks : List GrainId) → grains_of (gs ++ ks) ≡ with_grains gs (grains_of ks)
grains-append [] ks = refl
grains-append (g ∷ gs) ks = ap (λ t. with_grain t g) (grains-append gs ks)

-- one more unit in front
pub plan-cons : (bad : UnitNo → Bool) (m : FinishedUnit) (ms : List FinishedUnit) → plan_of bad (m ∷ ms) ≡ with_grains (grains_by bad m) (plan_of bad ms)
plan-cons bad m ms = grains-append (grains_by bad m) (flat_map (grains_by bad) ms)
