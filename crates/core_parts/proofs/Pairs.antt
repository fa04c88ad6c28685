-- A pair that is taken out of a list, and what a filter leaves of pairs.
use Rattle.std.proofs.Common.{◌≡◌, ℕ, zero, suc, ◌<◌, ◌≤◌, ◌+◌, List, [], ◌∷◌, length, get_or, Bool, true, false, not, cond, Some, None, position, refl, sym, ap, ◌∙◌, arith, nat_lt, filter}
use Rattle.std.specs.Prelude.{find, slice_get}
use Rattle.std.specs.List.{position_or_len, remove, count_by}
use Rattle.std.proofs.lemmas.Bool.{cond_both, ltb-false}
use Rattle.std.proofs.lemmas.List.Sums.{fails_before_first, sum_by-cons}
use Rattle.std.proofs.lemmas.List.Quantifiers.{position-Some}
use Rattle.cell_model.specs.Units.{UnitNo, GrainId, nobody}
use Rattle.core_parts.specs.Pairs.{is_pair, without_first, other_pairs}

first-at : (ps : List (UnitNo × GrainId)) (unit : UnitNo) (grain : GrainId) (at : ℕ) (d : UnitNo × GrainId) → at < length ps → is_pair unit grain (get_or ps at d) ≡ true →
    ((k : ℕ) → k < at → is_pair unit grain (get_or ps k d) ≡ false) → remove ps at ≡ without_first ps unit grain
first-at [] unit grain at d l h before = absurd (omega arith)
first-at (p ∷ ps) unit grain zero d l h before =
    cond_both (is_pair unit grain p) ps (p ∷ without_first ps unit grain) (λ t. ps ≡ t) (λ e. refl) (λ e. absurd (cc (sym h ∙ e)))
first-at (p ∷ ps) unit grain (suc at) d l h before =
    cond_both (is_pair unit grain p) ps (p ∷ without_first ps unit grain) (λ t. remove (p ∷ ps) (suc at) ≡ t)
    (λ e. absurd (cc (sym e ∙ before 0 (omega arith))))
    (λ e. ap (λ t. p ∷ t) (first-at ps unit grain at d (omega arith) h (λ k m. before (suc k) (omega arith))))

-- the first that is of this unit and this grain is taken out
pub takes-first : (ps : List (UnitNo × GrainId)) (unit : UnitNo) (grain : GrainId) (at : ℕ) (d : UnitNo × GrainId) → position (is_pair unit grain) ps ≡ Some at → remove ps at ≡ without_first ps unit grain
takes-first ps unit grain at d e =
    let found = position-Some (is_pair unit grain) ps at d e in
    first-at ps unit grain at d found.0 found.1 found.2

none-at : (ps : List (UnitNo × GrainId)) (unit : UnitNo) (grain : GrainId) (d : UnitNo × GrainId) → ((k : ℕ) → k < length ps → is_pair unit grain (get_or ps k d) ≡ false) → ps ≡ without_first ps unit grain
none-at [] unit grain d h = refl
none-at (p ∷ ps) unit grain d h =
    cond_both (is_pair unit grain p) ps (p ∷ without_first ps unit grain) (λ t. (p ∷ ps) ≡ t)
    (λ e. absurd (cc (sym e ∙ h 0 (omega arith))))
    (λ e. ap (λ t. p ∷ t) (none-at ps unit grain d (λ k m. h (suc k) (omega arith))))

-- where none is of this unit and this grain, all stay
pub takes-none : (ps : List (UnitNo × GrainId)) (unit : UnitNo) (grain : GrainId) → position (is_pair unit grain) ps ≡ None → ps ≡ without_first ps unit grain
takes-none ps unit grain e =
    none-at ps unit grain (nobody, record { kind = 0; key = 0 }) (λ k h. fails_before_first (is_pair unit grain) ps k (nobody, record { kind = 0; key = 0 }) (omega (arith, passes)))
  where
    passes : length ps ≤ position_or_len (is_pair unit grain) ps
    passes = cond_both (nat_lt (position_or_len (is_pair unit grain) ps) (length ps)) (Some (position_or_len (is_pair unit grain) ps)) None (λ t. t ≡ None → length ps ≤ position_or_len (is_pair unit grain) ps)
        (λ q f. cc) (λ q f. ltb-false _ _ q) e

count-cons : {A : Type 0} (p : A → Bool) (x : A) (xs : List A) → count_by p (x ∷ xs) ≡ cond (p x) 1 0 + count_by p xs
count-cons p x xs = sum_by-cons (λ y. cond (p y) 1 0) x xs

count-yes : {A : Type 0} (p : A → Bool) (x : A) (xs : List A) → p x ≡ true → count_by p (x ∷ xs) ≡ 1 + count_by p xs
count-yes p x xs e = count-cons p x xs ∙ ap (λ b. cond b 1 0 + count_by p xs) e

count-no : {A : Type 0} (p : A → Bool) (x : A) (xs : List A) → p x ≡ false → count_by p (x ∷ xs) ≡ 0 + count_by p xs
count-no p x xs e = count-cons p x xs ∙ ap (λ b. cond b 1 0 + count_by p xs) e

-- where none passes, all that don't pass are all
pub none-passes : {A : Type 0} (p : A → Bool) (xs : List A) → count_by p xs ≡ 0 → filter (λ x. not (p x)) xs ≡ xs
none-passes p [] none = refl
none-passes p (x ∷ xs) none =
    cond_both (not (p x)) (x ∷ filter (λ y. not (p y)) xs) (filter (λ y. not (p y)) xs) (λ t. t ≡ x ∷ xs)
    (λ e. ap (λ t. x ∷ t) (none-passes p xs (let c = count-no p x xs (by_not (p x) e) in omega (arith, c, none))))
    (λ e. absurd (let c = count-yes p x xs (by_not_not (p x) e) in omega (arith, c, none)))
  where
    by_not : (b : Bool) → not b ≡ true → b ≡ false
    by_not false e = refl
    by_not true e = cc e

    by_not_not : (b : Bool) → not b ≡ false → b ≡ true
    by_not_not true e = refl
    by_not_not false e = cc e

-- a pair that is there at most once is taken out: all others stay
pub takes-one : (ps : List (UnitNo × GrainId)) (unit : UnitNo) (grain : GrainId) → count_by (is_pair unit grain) ps ≤ 1 → without_first ps unit grain ≡ other_pairs ps unit grain
takes-one [] unit grain once = refl
takes-one (p ∷ ps) unit grain once =
    cond_both (is_pair unit grain p) ps (p ∷ without_first ps unit grain) (λ t. t ≡ other_pairs (p ∷ ps) unit grain)
    (λ e.
    let c = count-yes (is_pair unit grain) p ps e in
    let none : count_by (is_pair unit grain) ps ≡ 0 = omega (arith, c, once) in
    sym (none-passes (is_pair unit grain) ps none) ∙ sym (left-out e))
    (λ e.
    let c = count-no (is_pair unit grain) p ps e in
    ap (λ t. p ∷ t) (takes-one ps unit grain (omega (arith, c, once))) ∙ sym (kept e))
  where
    left-out : is_pair unit grain p ≡ true → other_pairs (p ∷ ps) unit grain ≡ other_pairs ps unit grain
    left-out e = ap (λ b. cond (not b) (p ∷ other_pairs ps unit grain) (other_pairs ps unit grain)) e

    kept : is_pair unit grain p ≡ false → other_pairs (p ∷ ps) unit grain ≡ p ∷ other_pairs ps unit grain
    kept e = ap (λ b. cond (not b) (p ∷ other_pairs ps unit grain) (other_pairs ps unit grain)) e

-- a filter leaves no more that pass
pub count-filter : {A : Type 0} (p q : A → Bool) (xs : List A) → count_by p (filter q xs) ≤ count_by p xs
count-filter p q [] = omega arith
count-filter p q (x ∷ xs) =
    let rest = count-filter p q xs in
    let all = count-cons p x xs in
    cond_both (q x) (x ∷ filter q xs) (filter q xs) (λ t. count_by p t ≤ count_by p (x ∷ xs))
    (λ e. (let kept = count-cons p x (filter q xs) in omega (arith, rest, all, kept)))
    (λ e. omega (arith, rest, all))

-- the first that passes is the first of those that pass
pub first-passing : {A : Type 0} (p : A → Bool) (xs : List A) → find p xs ≡ slice_get (filter p xs) 0
first-passing p [] = refl
first-passing p (x ∷ xs) =
    cond_both (p x) (Some x) (find p xs) (λ t. t ≡ slice_get (cond (p x) (x ∷ filter p xs) (filter p xs)) 0)
    (λ e. ap (λ b. slice_get (cond b (x ∷ filter p xs) (filter p xs)) 0) (sym e))
    (λ e. first-passing p xs ∙ ap (λ b. slice_get (cond b (x ∷ filter p xs) (filter p xs)) 0) (sym e))

-- what passes one test and then another is what passes both
pub filter-both : {A : Type 0} (p q r : A → Bool) → ((x : A) → r x ≡ cond (q x) (p x) false) → (xs : List A) → filter p (filter q xs) ≡ filter r xs
filter-both p q r both [] = refl
filter-both p q r both (x ∷ xs) =
    let rest = filter-both p q r both xs in
    cond_both (q x) (x ∷ filter q xs) (filter q xs) (λ t. filter p t ≡ filter r (x ∷ xs))
    (λ e.
    let same : r x ≡ p x = both x ∙ ap (λ b. cond b (p x) false) e in
    ap (λ t. cond (p x) (x ∷ t) t) rest ∙ ap (λ b. cond b (x ∷ filter r xs) (filter r xs)) (sym same))
    (λ e.
    let not_both : r x ≡ false = both x ∙ ap (λ b. cond b (p x) false) e in
    rest ∙ ap (λ b. cond b (x ∷ filter r xs) (filter r xs)) (sym not_both))
