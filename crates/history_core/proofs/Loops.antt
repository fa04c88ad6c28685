-- Steps of loops over what was written and read.
use Rattle.std.proofs.Common.{◌≡◌, ℕ, zero, suc, ◌+◌, ◌<◌, ◌≤◌, List, [], ◌∷◌, ◌++◌, Bool, true, false, ◌&&◌, ◌⊎◌, inl, inr, refl, sym, ap, ◌∙◌, subst, arith, Option, Some, None, length, drop, get_or, map, length-drop}
use Rattle.std.specs.Prelude.{if◌then◌else◌}
use Rattle.std.proofs.lemmas.Bool.{cases_Bool}
use Rattle.cell_model.proofs.Units.{cases_unit, cases_grain, same_grain-true, same_grain-is}
use Rattle.std.specs.List.{remove}
use Rattle.core_model.specs.CoreState.{UnitNo, GrainId, Value, Write, Decision, same_grain}
use Rattle.core_model.specs.declared.effects.Effect.{Effect}
use Rattle.history_core.specs.Fronts.{AreOver, PlacedAfter, writes_after}
use Rattle.core_model.specs.Tests.{state_written}
use Rattle.core_parts.specs.States.{last_in, has_place, handed_in, PutsHanded, PutsLast, KeepsPlaces}
use Rattle.core_parts.specs.declared.handed_states.HandedStates.{HandedStates}
use Rattle.core_parts.specs.declared.last_states.LastStates.{LastStates}
use Rattle.open_batch.specs.declared.members.FinishedUnit.{FinishedUnit}
use Rattle.open_batch.specs.Members.{effect_in}
use Rattle.history_core.specs.ClosedUnits.{ArePlaced, or_else}
use Rattle.history_core.specs.HandedWrites.{put_handed}
use Rattle.history_core.specs.KeptParts.{AllPlaced}
use Rattle.history_core.proofs.Finishes.{put-handed-is, put-handed-grain, put-handed-unit}

-- the item at an index, and those behind it
pub drop-at : {A : Type 0} (xs : List A) (i : ℕ) (x : A) → i < length xs → x ≡ get_or xs i x → drop i xs ≡ x ∷ drop (i + 1) xs
drop-at [] i x h e = absurd (omega arith)
drop-at (y ∷ ys) zero x h e = λ k. sym e k ∷ ys
drop-at (y ∷ ys) (suc i) x h e = (let q : suc (i + 1) ≡ suc i + 1 = omega arith in drop-at ys i x (omega arith) e ∙ ap (λ k. x ∷ drop k (y ∷ ys)) q)

-- the same of an item that is its default behind the end
pub drop-at-or : {A : Type 0} (xs : List A) (i : ℕ) (x : A) → i < length xs → drop i xs ≡ get_or xs i x ∷ drop (i + 1) xs
drop-at-or [] i x h = absurd (omega arith)
drop-at-or (y ∷ ys) zero x h = refl
drop-at-or (y ∷ ys) (suc i) x h = (let q : suc (i + 1) ≡ suc i + 1 = omega arith in drop-at-or ys i x (omega arith) ∙ ap (λ k. get_or ys i x ∷ drop k (y ∷ ys)) q)

-- nothing stands behind the end
pub drop-end : {A : Type 0} (xs : List A) (i : ℕ) → length xs ≤ i → drop i xs ≡ []
drop-end [] zero h = refl
drop-end [] (suc i) h = refl
drop-end (y ∷ ys) zero h = absurd (omega arith)
drop-end (y ∷ ys) (suc i) h = drop-end ys i (omega arith)

-- one unit's state of one grain was replaced
pub puts-is : (old new : HandedStates) (u : UnitNo) (g : GrainId) (s : Option (List Value)) → PutsHanded old new u g s → handed_in new ≡ put_handed (handed_in old) u g s
puts-is old new u g s p = λ i x k. at x k i
  where
    both : (x : UnitNo) (k : GrainId) → ((x ≡ u) ⊎ (x ≡ u → ⊥)) → ((k ≡ g) ⊎ (k ≡ g → ⊥)) → handed_in new x k ≡ put_handed (handed_in old) u g s x k
    both x k (inl e) (inl q) = (λ i. handed_in new (e i) (q i)) ∙ p.put ∙ sym (put-handed-is (handed_in old) u g s) ∙ (λ i. put_handed (handed_in old) u g s (sym e i) (sym q i))
    both x k (inl e) (inr n) = p.others x k (λ t. n t.1) ∙ ap (λ z. handed_in old z k) e ∙ sym (put-handed-grain (handed_in old) u g s k n) ∙ ap (λ z. put_handed (handed_in old) u g s z k) (sym e)
    both x k (inr n) q = p.others x k (λ t. n t.0) ∙ sym (put-handed-unit (handed_in old) u g s x k n)

    at : (x : UnitNo) (k : GrainId) → handed_in new x k ≡ put_handed (handed_in old) u g s x k
    at x k = both x k (cases_unit x u) (cases_grain k g)

-- ---- places

pub placed-more : (p q : GrainId → Bool) (xs : List Write) → ((g : GrainId) → p g ≡ true → q g ≡ true) → ArePlaced p xs → ArePlaced q xs
placed-more p q [] f h = tt
placed-more p q (x ∷ xs) f h = (f x.0 h.0, placed-more p q xs f h.1)

pub placed-last : (p : GrainId → Bool) (xs : List Write) (x : Write) → ArePlaced p (xs ++ x ∷ []) → ArePlaced p xs × (p x.0 ≡ true)
placed-last p [] x h = (tt, h.0)
placed-last p (y ∷ ys) x h = (let t = placed-last p ys x h.1 in ((h.0, t.0), t.1))

-- ---- last states

pub written-last : (g : GrainId) (xs : List Write) (x : Write) (before : Option (List Value)) → or_else (state_written g (xs ++ x ∷ [])) before ≡ or_else (state_written g xs) (if same_grain x.0 g then Some x.1 else before)
written-last g [] x before = one (same_grain x.0 g)
  where
    one : (b : Bool) → or_else (if b then Some x.1 else None) before ≡ (if b then Some x.1 else before)
    one true = refl
    one false = refl
written-last g (y ∷ ys) x before = go (written-last g ys x before) (same_grain y.0 g)
  where
    go : or_else (state_written g (ys ++ x ∷ [])) before ≡ or_else (state_written g ys) (if same_grain x.0 g then Some x.1 else before) → (b : Bool) →
        or_else (if b then Some y.1 else state_written g (ys ++ x ∷ [])) before ≡ or_else (if b then Some y.1 else state_written g ys) (if same_grain x.0 g then Some x.1 else before)
    go rest true = refl
    go rest false = rest

pub last-put : (old new : LastStates) (k : GrainId) (s : List Value) → PutsLast old new k s → (g : GrainId) → last_in new g ≡ (if same_grain k g then Some s else last_in old g)
last-put old new k s p g = elim (cases_Bool (same_grain k g)) [
  | inl t ↦ (let e = same_grain-true k g t in ap (last_in new) (sym e) ∙ p.put ∙ sym (ap (λ (b : Bool). if b then Some s else last_in old g) t))
  | inr t ↦ p.others g (λ q. (let z : true ≡ false = sym (same_grain-is k g (sym q)) ∙ t in cc)) ∙ sym (ap (λ (b : Bool). if b then Some s else last_in old g) t)
]

-- ---- the front of those that wait

pub front-removed : {A : Type 0} (ws new : List A) (x : A) → 0 < length ws → x ≡ get_or ws 0 x → new ≡ remove ws 0 → ws ≡ x ∷ new
front-removed [] new x h e q = absurd (omega arith)
front-removed (y ∷ ys) new x h e q = λ i. sym e i ∷ sym q i

-- the first of those that wait, where a decision is left
pub first-waits : {A B : Type 0} (ds : List A) (i : ℕ) (ws new : List B) (x : B) → length (drop i ds) ≤ length ws → i < length ds → x ≡ get_or ws 0 x → new ≡ remove ws 0 → ws ≡ x ∷ new
first-waits ds i ws new x within lt is gone = (let l = length-drop i ds in front-removed ws new x (omega (arith, within, lt, l)) is gone)

-- what is asked of all, of the first and of the others
pub over-front : (f : UnitNo → Bool) {ds rest : List Decision} {d : Decision} {ws new : List FinishedUnit} {x : FinishedUnit} → ds ≡ d ∷ rest → ws ≡ x ∷ new → AreOver f ds (map effect_in ws) → (f x.effect.unit ≡ true) × AreOver f rest (map effect_in new)
over-front f {rest = rest} {d = d} {ws = ws} p q h = subst (λ (vs : List FinishedUnit). AreOver f (d ∷ rest) (map effect_in vs)) q (subst (λ (xs : List Decision). AreOver f xs (map effect_in ws)) p h)

pub placed-front : (f : GrainId → Bool) {ds rest : List Decision} {d : Decision} {ws new : List FinishedUnit} {x : FinishedUnit} → ds ≡ d ∷ rest → ws ≡ x ∷ new → PlacedAfter f ds (map effect_in ws) → ArePlaced f x.effect.writes × PlacedAfter f rest (map effect_in new)
placed-front f {rest = rest} {d = d} {ws = ws} p q h = subst (λ (vs : List FinishedUnit). PlacedAfter f (d ∷ rest) (map effect_in vs)) q (subst (λ (xs : List Decision). PlacedAfter f xs (map effect_in ws)) p h)

pub room-front : (n : ℕ) {ds rest : List Decision} {d : Decision} {ws new : List FinishedUnit} {x : FinishedUnit} → ds ≡ d ∷ rest → ws ≡ x ∷ new → writes_after ds (map effect_in ws) ≤ n → length x.effect.writes + writes_after rest (map effect_in new) ≤ n
room-front n {rest = rest} {d = d} {ws = ws} p q h = subst (λ (vs : List FinishedUnit). writes_after (d ∷ rest) (map effect_in vs) ≤ n) q (subst (λ (xs : List Decision). writes_after xs (map effect_in ws) ≤ n) p h)

pub placed-after-more : (p q : GrainId → Bool) (ds : List Decision) (es : List Effect) → ((g : GrainId) → p g ≡ true → q g ≡ true) → PlacedAfter p ds es → PlacedAfter q ds es
placed-after-more p q [] es f h = tt
placed-after-more p q (d ∷ ds) [] f h = tt
placed-after-more p q (d ∷ ds) (e ∷ es) f h = (placed-more p q e.writes f h.0, placed-after-more p q ds es f h.1)

pub over-same : (f h : UnitNo → Bool) (ds : List Decision) (es : List Effect) → ((u : UnitNo) → f u ≡ h u) → AreOver f ds es → AreOver h ds es
over-same f h [] es e k = tt
over-same f h (d ∷ ds) [] e k = tt
over-same f h (d ∷ ds) (x ∷ es) e k = (sym (e x.unit) ∙ k.0, over-same f h ds es e k.1)
