-- What a batch that closes leaves, by the front of those that wait, is what the model leaves.
use Rattle.std.proofs.Common.{◌≡◌, ℕ, zero, suc, ◌+◌, ◌<◌, ◌≤◌, List, [], ◌∷◌, ◌++◌, Bool, true, false, not, ◌⊎◌, inl, inr, refl, sym, ap, ◌∙◌, subst, arith, Option, Some, None, length, take, drop, map, filter}
use Rattle.std.specs.Prelude.{if◌then◌else◌, flat_map}
use Rattle.cell_model.specs.Units.{Member}
use Rattle.cell_model.proofs.Units.{cases_unit}
use Rattle.core_model.specs.CoreState.{UnitNo, GrainId, Value, Write, Outcome, Entry, Decision, CoreState, put}
use Rattle.core_model.specs.declared.effects.Effect.{Effect}
use Rattle.core_model.specs.declared.phases.Verdict.{Verdict}
use Rattle.core_model.specs.declared.phases.Verdict.TheVariants.{Open, Chosen, Condemned, Committed, Aborted}
use Rattle.core_model.specs.Tests.{is_final, is_committed, is_over, state_written}
use Rattle.core_model.specs.Answers.{effect_of}
use Rattle.core_model.specs.Changes.{entries_in, entry_for, told, seal, spoil, leave}
use Rattle.core_laws.proofs.Puts.{put-at, put-is, put-other}
use Rattle.history_core.specs.declared.batch_closing.Closing.{Closing}
use Rattle.history_core.specs.declared.batch_closing.Closing.TheVariants as how
use Rattle.history_core.specs.ClosedUnits.{state_after, last_among, grains_with, mapped}
use Rattle.history_core.specs.Fronts.{ends_as, told_as, pairs_of, verdicts_after, entries_after, pairs_after, last_after}

-- ---- what becomes of verdicts

pub ends-twice : (h : Closing) (v : Verdict) → ends_as h (ends_as h v) ≡ ends_as h v
ends-twice how.Sealed Open = refl
ends-twice how.Sealed Chosen = refl
ends-twice how.Sealed Condemned = refl
ends-twice how.Sealed Committed = refl
ends-twice how.Sealed Aborted = refl
ends-twice how.NotSealed Open = refl
ends-twice how.NotSealed Chosen = refl
ends-twice how.NotSealed Condemned = refl
ends-twice how.NotSealed Committed = refl
ends-twice how.NotSealed Aborted = refl
ends-twice how.Doubt Open = refl
ends-twice how.Doubt Chosen = refl
ends-twice how.Doubt Condemned = refl
ends-twice how.Doubt Committed = refl
ends-twice how.Doubt Aborted = refl

pub ends-open : (h : Closing) → ends_as h Open ≡ Open
ends-open how.Sealed = refl
ends-open how.NotSealed = refl
ends-open how.Doubt = refl

pub ends-final : (h : Closing) (v : Verdict) → is_final v ≡ true → ends_as h v ≡ v
ends-final h Open e = cc
ends-final h Chosen e = cc
ends-final h Condemned e = cc
ends-final how.Sealed Committed e = refl
ends-final how.NotSealed Committed e = refl
ends-final how.Doubt Committed e = refl
ends-final how.Sealed Aborted e = refl
ends-final how.NotSealed Aborted e = refl
ends-final how.Doubt Aborted e = refl

-- ---- the verdicts of the front

-- the verdicts where that of one unit is mapped
pub put-mapped : (h : Closing) (v w : UnitNo → Verdict) (u : UnitNo) → ((x : UnitNo) → ends_as h (w x) ≡ ends_as h (v x)) → (x : UnitNo) → ends_as h (put w u (ends_as h (w u)) x) ≡ ends_as h (v x)
put-mapped h v w u e x = put-at w u (ends_as h (w u)) (λ y. ends_as h y ≡ ends_as h (v x)) x
    (λ q. ends-twice h (w u) ∙ e u ∙ ap (λ z. ends_as h (v z)) (sym q))
    (λ n. e x)

mapped-out : (h : Closing) (us : List UnitNo) (v : UnitNo → Verdict) (x : UnitNo) → ends_as h (v x) ≡ v x → mapped (ends_as h) us v x ≡ v x
mapped-out h [] v x e = refl
mapped-out h (u ∷ us) v x e =
    let same : put v u (ends_as h (v u)) x ≡ v x = put-at v u (ends_as h (v u)) (λ y. y ≡ v x) x (λ q. ap (λ z. ends_as h (v z)) (sym q) ∙ e) (λ n. refl) in
    mapped-out h us (put v u (ends_as h (v u))) x (ap (ends_as h) same ∙ e ∙ sym same) ∙ same

mapped-in : (h : Closing) (us : List UnitNo) (v : UnitNo → Verdict) (x : UnitNo) → Member x us → mapped (ends_as h) us v x ≡ ends_as h (v x)
mapped-in h [] v x m = absurd m
mapped-in h (u ∷ us) v x (inl q) =
    let now : put v u (ends_as h (v u)) x ≡ ends_as h (v x) = put-is v u (ends_as h (v u)) x q ∙ ap (λ z. ends_as h (v z)) (sym q) in
    mapped-out h us (put v u (ends_as h (v u))) x (ap (ends_as h) now ∙ ends-twice h (v x) ∙ sym now) ∙ now
mapped-in h (u ∷ us) v x (inr m) = mapped-in h us (put v u (ends_as h (v u))) x m ∙ put-mapped h v v u (λ y. refl) x

pub mapped-is : (h : Closing) (us : List UnitNo) (v : UnitNo → Verdict) → ((x : UnitNo) → Member x us ⊎ (ends_as h (v x) ≡ v x)) → ◌≡◌ {A = UnitNo → Verdict} (mapped (ends_as h) us v) (λ x. ends_as h (v x))
mapped-is h us v e = λ i x. at x i
  where
    at : (x : UnitNo) → mapped (ends_as h) us v x ≡ ends_as h (v x)
    at x = elim (e x) [
      | inl m ↦ mapped-in h us v x m
      | inr q ↦ mapped-out h us v x q ∙ sym q
    ]

pub verdicts-link : (f : Verdict → Verdict) (ds : List Decision) (w : CoreState) (us : List UnitNo) (v : UnitNo → Verdict) → verdicts_after f ds (map (effect_of w) us) v ≡ mapped f (take (length ds) us) v
verdicts-link f [] w us v = refl
verdicts-link f (d ∷ ds) w [] v = refl
verdicts-link f (d ∷ ds) w (u ∷ us) v = verdicts-link f ds w us (put v u (f (v u)))

-- ---- entries

pub entries-link : (h : Closing) (ds : List Decision) (w : CoreState) (us : List UnitNo) → entries_after h ds (map (effect_of w) us) ≡ entries_in w (λ u. told_as h (w.manager.result u)) (take (length ds) us) ds
entries-link h [] w us = refl
entries-link h (d ∷ ds) w [] = refl
entries-link h (d ∷ ds) w (u ∷ us) = ap (λ t. entry_for (w.units.origin u) u (told (told_as h (w.manager.result u)) d) ++ t) (entries-link h ds w us)

-- ---- what is to learn

pub pairs-link : (h : Closing) (ds : List Decision) (w : CoreState) (us : List UnitNo) (v now : UnitNo → Verdict) → ((x : UnitNo) → ends_as h (now x) ≡ ends_as h (v x)) →
    pairs_after (ends_as h) ds (map (effect_of w) us) now ≡ flat_map (λ x. grains_with x (w.manager.writes x)) (filter (λ x. is_final (ends_as h (v x))) (take (length ds) us))
pairs-link h [] w us v now e = refl
pairs-link h (d ∷ ds) w [] v now e = refl
pairs-link h (d ∷ ds) w (u ∷ us) v now e =
    (λ i. pairs_of (is_final (e u i)) u (w.manager.writes u) ++ pairs-link h ds w us v (put now u (ends_as h (now u))) (put-mapped h v now u e) i)
    ∙ by_test (is_final (ends_as h (v u)))
  where
    rest : List (UnitNo × GrainId)
    rest = flat_map (λ x. grains_with x (w.manager.writes x)) (filter (λ x. is_final (ends_as h (v x))) (take (length ds) us))

    by_test : (b : Bool) → pairs_of b u (w.manager.writes u) ++ rest
        ≡ flat_map (λ x. grains_with x (w.manager.writes x)) (if b then u ∷ filter (λ x. is_final (ends_as h (v x))) (take (length ds) us) else filter (λ x. is_final (ends_as h (v x))) (take (length ds) us))
    by_test true = refl
    by_test false = refl

-- ---- last states

pub last-link : (h : Closing) (g : GrainId) (ds : List Decision) (w : CoreState) (us : List UnitNo) (v now : UnitNo → Verdict) (before : Option (List Value)) → ((x : UnitNo) → ends_as h (now x) ≡ ends_as h (v x)) →
    last_after (ends_as h) g ds (map (effect_of w) us) now before ≡ last_among (λ x. ends_as h (v x)) w.manager.writes g (take (length ds) us) before
last-link h g [] w us v now before e = refl
last-link h g (d ∷ ds) w [] v now before e = refl
last-link h g (d ∷ ds) w (u ∷ us) v now before e =
    last-link h g ds w us v (put now u (ends_as h (now u))) (state_after (is_committed (ends_as h (now u))) (state_written g (w.manager.writes u)) before) (put-mapped h v now u e)
    ∙ ap (λ y. last_among (λ x. ends_as h (v x)) w.manager.writes g (take (length ds) us) (state_after (is_committed y) (state_written g (w.manager.writes u)) before)) (e u)

pub last-append : (v : UnitNo → Verdict) (ws : UnitNo → List Write) (g : GrainId) (us vs : List UnitNo) (before : Option (List Value)) → last_among v ws g (us ++ vs) before ≡ last_among v ws g vs (last_among v ws g us before)
last-append v ws g [] vs before = refl
last-append v ws g (u ∷ us) vs before = last-append v ws g us vs (state_after (is_committed (v u)) (state_written g (ws u)) before)

-- ---- lists

pub take-more : {A : Type 0} (n m : ℕ) (xs : List A) → take (n + m) xs ≡ take n xs ++ take m (drop n xs)
take-more zero m xs = (let e : 0 + m ≡ m = omega arith in ap (λ k. take k xs) e)
take-more (suc n) m [] = (let e : suc n + m ≡ suc (n + m) = omega arith in ap (λ k. take k []) e ∙ none m)
  where
    none : {A : Type 0} (k : ℕ) → ◌≡◌ {A = List A} [] (take k [])
    none zero = refl
    none (suc k) = refl
take-more (suc n) m (x ∷ xs) = (let e : suc n + m ≡ suc (n + m) = omega arith in ap (λ k. take k (x ∷ xs)) e ∙ ap (λ t. x ∷ t) (take-more n m xs))

pub drop-more : {A : Type 0} (n m : ℕ) (xs : List A) → drop m (drop n xs) ≡ drop (n + m) xs
drop-more zero m xs = (let e : m ≡ 0 + m = omega arith in ap (λ k. drop k xs) e)
drop-more (suc n) m [] = (let e : suc (n + m) ≡ suc n + m = omega arith in none m ∙ ap (λ k. drop k []) e)
  where
    none : {A : Type 0} (k : ℕ) → ◌≡◌ {A = List A} (drop k []) []
    none zero = refl
    none (suc k) = refl
drop-more (suc n) m (x ∷ xs) = (let e : suc (n + m) ≡ suc n + m = omega arith in drop-more n m xs ∙ ap (λ k. drop k (x ∷ xs)) e)

pub filter-append : {A : Type 0} (p : A → Bool) (xs ys : List A) → filter p (xs ++ ys) ≡ filter p xs ++ filter p ys
filter-append p [] ys = refl
filter-append p (x ∷ xs) ys = by_test (filter-append p xs ys) (p x)
  where
    by_test : filter p (xs ++ ys) ≡ filter p xs ++ filter p ys → (b : Bool) → (if b then x ∷ filter p (xs ++ ys) else filter p (xs ++ ys)) ≡ (if b then x ∷ filter p xs else filter p xs) ++ filter p ys
    by_test rest true = ap (λ t. x ∷ t) rest
    by_test rest false = rest

pub append-thrice : {A : Type 0} (xs ys zs : List A) → xs ++ (ys ++ zs) ≡ (xs ++ ys) ++ zs
append-thrice [] ys zs = refl
append-thrice (x ∷ xs) ys zs = ap (λ t. x ∷ t) (append-thrice xs ys zs)

pub flat-append : {A B : Type 0} (f : A → List B) (xs ys : List A) → flat_map f (xs ++ ys) ≡ flat_map f xs ++ flat_map f ys
flat-append f [] ys = refl
flat-append f (x ∷ xs) ys = ap (λ t. f x ++ t) (flat-append f xs ys) ∙ append-thrice (f x) (flat_map f xs) (flat_map f ys)

pub filter-whole : {A : Type 0} (p : A → Bool) (xs : List A) → ((x : A) → Member x xs → p x ≡ true) → filter p xs ≡ xs
filter-whole p [] e = refl
filter-whole p (x ∷ xs) e = ap (λ b. if b then x ∷ filter p xs else filter p xs) (e x (inl refl)) ∙ ap (λ t. x ∷ t) (filter-whole p xs (λ y m. e y (inr m)))
