-- Children and their answers.
use Rattle.std.proofs.Common.{◌≡◌, ℕ, ◌<◌, List, [], ◌∷◌, ◌++◌, length, get_or, Bool, true, ◌⊎◌, inl, inr, refl, sym, ap, ◌∙◌, subst, arith, Option, Some, None}
use Rattle.std.proofs.lemmas.Bool.{and_parts, cases_lt, cond_both}
use Rattle.cell_model.proofs.Units.{cases_unit, Member-append}
use Rattle.core_model.specs.CoreState.{UnitNo, nobody, put, Member, Origin, CoreState}
use Rattle.core_model.specs.declared.phases.Phase.{Phase}
use Rattle.core_model.specs.declared.phases.Phase.TheVariants.{Unborn, Running, Finished, Refused, Ended}
use Rattle.core_laws.proofs.Puts.{put-at, put-from, put-same, put-is, put-other}
use Rattle.std.proofs.Common.{map, le_refl, eqb-true}
use Rattle.std.specs.Prelude.{◌==◌}
use Rattle.base_types.specs.declared.calls.Origin.TheVariants.{Line, Child}
use Rattle.core_model.specs.CoreState.{Outcome, Call}
use Rattle.core_model.specs.Tests.{is_running, is_over, outcome_of, is_answer, answered_by, is_empty}
use Rattle.core_model.specs.Laws.{AnswersAreOutcomes}
use Rattle.core_model.specs.Changes.{begun, new_unit, kids_with, swept, swept_by}
use Rattle.core_model.specs.Events.{can_begin}
use Rattle.core_model.specs.Events.{applies, can, does, step, run, is_allowed}
use Rattle.core_model.specs.declared.events.CoreEvent.{CoreEvent}
use Rattle.core_laws.proofs.EventCases.{Change, bad, begin, lock, raise, refuse, finish, end_plain, end_snapshot, release, take_batch, vote, decide_some, decide_none, seal_batch, spoil_batch, doubt_batch, learn, emit, halt_run, want, load, decode}
use Rattle.core_laws.proofs.Basics.{is_running-true, same_outcome-true}
use Rattle.core_laws.proofs.LoadlessEvents.{get_or-before, get_or-end, length-push}
use Rattle.core_laws.proofs.UnitPlays.{parts-of}
use Rattle.core_laws.proofs.Growth.{Grows, grows-change, grows-outcome}
use Rattle.core_laws.proofs.LoadlessKept.{LoadlessKept, loadless-step}

-- a child is known by its parent and index, and is younger
abbrev pub Kin : CoreState → Type 0
Kin w =
    ((c p : UnitNo) (i d : ℕ) → (w.units.phase c ≡ Unborn → ⊥) → w.units.origin c ≡ Child p i d → (i < length (w.units.kids p)) × (get_or (w.units.kids p) i nobody ≡ c))
    × ((p : UnitNo) (i : ℕ) → i < length (w.units.kids p) → (d : ℕ) × (w.units.origin (get_or (w.units.kids p) i nobody) ≡ Child p i d) × (w.units.phase (get_or (w.units.kids p) i nobody) ≡ Unborn → ⊥))
    × ((p c : UnitNo) → Member c (w.units.kids p) → p.0 < c.0)

kin-phase : (w : CoreState) (u : UnitNo) (end : Phase) → w.units.phase u ≡ Running → (end ≡ Unborn → ⊥) → Kin w → Kin (record w { units = record w.units { phase = put w.units.phase u end } })
kin-phase w u end running n s = (
  (λ c p i d. put-from w.units.phase u end (λ z. z ≡ Unborn → ⊥) (w.units.origin c ≡ Child p i d → (i < length (w.units.kids p)) × (get_or (w.units.kids p) i nobody ≡ c)) c
      (λ q m. s.0 c p i d (λ z. (let t : Unborn ≡ Running = sym z ∙ ap w.units.phase q ∙ running in cc)))
      (λ q m. s.0 c p i d m)),
  (λ p i lt. (let t = s.1 p i lt in (t.0, t.1, put-at w.units.phase u end (λ z. z ≡ Unborn → ⊥) (get_or (w.units.kids p) i nobody) (λ q. n) (λ q. t.2)))),
  s.2,
)

kin-begun : (w : CoreState) (origin : Origin) (call : Call) (plain : Bool) → LoadlessKept w → can_begin w origin ≡ true → Kin w → Kin (begun w origin call plain)
kin-begun w (Line m) call plain k c s = (
  (λ x p i d born. put-from w.units.origin n (Line m) (λ z. z ≡ Child p i d) ((i < length (w.units.kids p)) × (get_or (w.units.kids p) i nobody ≡ x)) x
      (λ q e. cc)
      (λ q e. s.0 x p i d (λ z. born (put-other w.units.phase n Running x q ∙ z)) e)),
  (λ p i lt. (let t = s.1 p i lt in
      let apart : get_or (w.units.kids p) i nobody ≡ n → ⊥ = λ q. t.2 (ap w.units.phase q ∙ new) in
      (t.0, put-other w.units.origin n (Line m) (get_or (w.units.kids p) i nobody) apart ∙ t.1, λ z. t.2 (sym (put-other w.units.phase n Running (get_or (w.units.kids p) i nobody) apart) ∙ z)))),
  s.2,
)
  where
    n : UnitNo
    n = new_unit w

    new : w.units.phase (new_unit w) ≡ Unborn
    new = k.0.unborn (new_unit w) (le_refl w.units.next)
kin-begun w (Child q i0 d0) call plain k c s = (
  (λ x p i d born. put-from w.units.origin n (Child q i0 d0) (λ z. z ≡ Child p i d) ((i < length (kids p)) × (get_or (kids p) i nobody ≡ x)) x
      (λ e h. (let parent : q ≡ p = cc in let index : i0 ≡ i = cc in
      subst (λ z. (i < length (kids z)) × (get_or (kids z) i nobody ≡ x)) parent
      (subst (λ z. (i < length z) × (get_or z i nobody ≡ x)) (sym (put-same w.units.kids q more))
      (omega (arith, length-push (w.units.kids q) n, at, index), ap (λ j. get_or more j nobody) (sym index ∙ at) ∙ get_or-end (w.units.kids q) n ∙ sym e))))
      (λ e h. old x p i (s.0 x p i d (λ z. born (put-other w.units.phase n Running x e ∙ z)) h))),
  (λ p i. put-from w.units.kids q more (λ z. i < length z) ((d : ℕ) × (origin (get_or (kids p) i nobody) ≡ Child p i d) × (phase (get_or (kids p) i nobody) ≡ Unborn → ⊥)) p
      (λ e lt. subst (λ z. (d : ℕ) × (origin (get_or z i nobody) ≡ Child p i d) × (phase (get_or z i nobody) ≡ Unborn → ⊥)) (sym (put-is w.units.kids q more p e))
      (elim (cases_lt i (length (w.units.kids q))) [
        | inl l ↦ subst (λ z. (d : ℕ) × (origin z ≡ Child p i d) × (phase z ≡ Unborn → ⊥)) (sym (get_or-before (w.units.kids q) n i l))
            (known p i (get_or (w.units.kids q) i nobody) (subst (λ z. (d : ℕ) × (w.units.origin (get_or (w.units.kids z) i nobody) ≡ Child p i d) × (w.units.phase (get_or (w.units.kids z) i nobody) ≡ Unborn → ⊥)) e (s.1 p i (subst (λ z. i < length (w.units.kids z)) (sym e) l))))
        | inr g ↦ (let here : i ≡ length (w.units.kids q) = omega (arith, lt, g, length-push (w.units.kids q) n) in
            subst (λ z. (d : ℕ) × (origin z ≡ Child p i d) × (phase z ≡ Unborn → ⊥)) (sym (ap (λ j. get_or more j nobody) here ∙ get_or-end (w.units.kids q) n))
            (d0, put-same w.units.origin n (Child q i0 d0) ∙ (λ j. Child (sym e j) ((at ∙ sym here) j) d0), λ z. (let t : Running ≡ Unborn = sym (put-same w.units.phase n Running) ∙ z in cc)))
      ]))
      (λ e lt. subst (λ z. (d : ℕ) × (origin (get_or z i nobody) ≡ Child p i d) × (phase (get_or z i nobody) ≡ Unborn → ⊥)) (sym (put-other w.units.kids q more p e)) (known p i _ (s.1 p i lt)))),
  (λ p x. put-from w.units.kids q more (Member x) (p.0 < x.0) p
      (λ e m. elim (Member-append x (w.units.kids q) (n ∷ []) m) [
        | inl o ↦ s.2 p x (subst (λ z. Member x (w.units.kids z)) (sym e) o)
        | inr o ↦ elim o [ inl h ↦ omega (arith, born_parent, ap (λ (z : UnitNo). z.0) e, ap (λ (z : UnitNo). z.0) h) | inr h ↦ absurd h ]
      ])
      (λ e m. s.2 p x m)),
)
  where
    n : UnitNo
    n = new_unit w

    more : List UnitNo
    more = w.units.kids q ++ new_unit w ∷ []

    kids : UnitNo → List UnitNo
    kids = put w.units.kids q (w.units.kids q ++ new_unit w ∷ [])

    origin : UnitNo → Origin
    origin = put w.units.origin (new_unit w) (Child q i0 d0)

    phase : UnitNo → Phase
    phase = put w.units.phase (new_unit w) Running

    at : i0 ≡ length (w.units.kids q)
    at = eqb-true _ _ (and_parts (i0 == length (w.units.kids q)) _ (and_parts (is_running (w.units.phase q)) _ c).1).0

    parent_runs : w.units.phase q ≡ Running
    parent_runs = is_running-true _ (and_parts (is_running (w.units.phase q)) _ c).0

    born_parent : q.0 < w.units.next
    born_parent = elim (cases_lt q.0 w.units.next) [ inl l ↦ l | inr g ↦ (let t : Unborn ≡ Running = sym (k.0.unborn q g) ∙ parent_runs in cc) ]

    old : (x p : UnitNo) (i : ℕ) → (i < length (w.units.kids p)) × (get_or (w.units.kids p) i nobody ≡ x) → (i < length (kids p)) × (get_or (kids p) i nobody ≡ x)
    old x p i t = put-at w.units.kids q more (λ z. (i < length z) × (get_or z i nobody ≡ x)) p
        (λ e. (let l : i < length (w.units.kids q) = subst (λ z. i < length (w.units.kids z)) e t.0 in
        (omega (arith, l, length-push (w.units.kids q) n), get_or-before (w.units.kids q) n i l ∙ ap (λ z. get_or (w.units.kids z) i nobody) (sym e) ∙ t.1)))
        (λ e. t)

    known : (p : UnitNo) (i : ℕ) (x : UnitNo) → (d : ℕ) × (w.units.origin x ≡ Child p i d) × (w.units.phase x ≡ Unborn → ⊥) → (d : ℕ) × (origin x ≡ Child p i d) × (phase x ≡ Unborn → ⊥)
    known p i x t =
        let apart : x ≡ n → ⊥ = λ z. t.2 (ap w.units.phase z ∙ k.0.unborn (new_unit w) (le_refl w.units.next)) in
        (t.0, put-other w.units.origin n (Child q i0 d0) x apart ∙ t.1, λ z. t.2 (sym (put-other w.units.phase n Running x apart) ∙ z))

pub kin-change : (w : CoreState) (e : CoreEvent) (w' : CoreState) → Change w e w' → applies w e ≡ true → LoadlessKept w → Kin w → Kin w'
kin-change w e w' (bad line why q) a k s = s
kin-change w e w' (begin origin call plain c) a k s = kin-begun w origin call plain k c s
kin-change w e w' (lock u g mode running free first here) a k s = s
kin-change w e w' (raise u g mode running free held here uncovered) a k s = s
kin-change w e w' (refuse u g mode why running q) a k s = kin-phase w u Refused running (λ z. cc) s
kin-change w e w' (finish u effect running plain of_call reads alone) a k s = kin-phase w u Finished running (λ z. cc) s
kin-change w e w' (end_plain u effect running plain of_call bare) a k s = kin-phase w u Ended running (λ z. cc) s
kin-change w e w' (end_snapshot u at outcome running plain kids answer) a k s = kin-phase w u Ended running (λ z. cc) s
kin-change w e w' (release u g over held) a k s = s
kin-change w e w' (take_batch none some) a k s = s
kin-change w e w' (vote n g kept b q number d planned fresh) a k s = s
kin-change w e w' (decide_some n b q number d voted some) a k s = s
kin-change w e w' (decide_none n b q number d voted none) a k s = s
kin-change w e w' (seal_batch n b ds q number d) a k s = s
kin-change w e w' (spoil_batch n b ds q number d) a k s = s
kin-change w e w' (doubt_batch n b ds q number d) a k s = s
kin-change w e w' (learn u g wrote final fresh) a k s = s
kin-change w e w' (emit q) a k s = s
kin-change w e w' (halt_run q) a k s = s
kin-change w e w' (want u g running free fresh) a k s = s
kin-change w e w' (load g u state gone wanted) a k s = s

swept-kin : (w : CoreState) → Kin w → Kin (swept w)
swept-kin w s = go w.cells.capacity
  where
    go : (c : Option ℕ) → Kin (swept_by w c)
    go None = s
    go (Some m) = s

pub kin-step : (w : CoreState) (e : CoreEvent) → LoadlessKept w → Kin w → Kin (step w e)
kin-step w e k s = cond_both (applies w e) (swept (does w e)) w Kin
    (λ a. (let c = decode w e (and_parts (is_allowed w e) (can w e) a).1 in
    swept-kin (does w e) (kin-change w e (does w e) c a k s)))
    (λ a. s)

pub kin-run : (es : List CoreEvent) (w : CoreState) → LoadlessKept w → Kin w → Kin (run w es)
kin-run [] w k s = s
kin-run (e ∷ es) w k s = kin-run es (step w e) (loadless-step w e k) (kin-step w e k s)

-- the unit came to its end
abbrev pub IsAtEnd : CoreState → UnitNo → Type 0
IsAtEnd w p = (w.units.phase p ≡ Finished) ⊎ (w.units.phase p ≡ Ended)

end-over : (w : CoreState) (p : UnitNo) → IsAtEnd w p → is_over (w.units.phase p) ≡ true
end-over w p (inl f) = ap is_over f
end-over w p (inr f) = ap is_over f

-- outcomes that are known stay
map-outcomes : (w w' : CoreState) → Grows w w' → (ks : List UnitNo) (os : List Outcome) → map (outcome_of w) ks ≡ map Some os → map (outcome_of w') ks ≡ map Some os
map-outcomes w w' g [] [] e = refl
map-outcomes w w' g [] (o ∷ os) e = cc
map-outcomes w w' g (k ∷ ks) [] e = cc
map-outcomes w w' g (k ∷ ks) (o ∷ os) e =
    let head : outcome_of w k ≡ Some o = cc in
    let rest : map (outcome_of w) ks ≡ map Some os = cc in
    let h = grows-outcome w w' g k o head in let r = map-outcomes w w' g ks os rest in
    λ i. h i ∷ r i

answered-outcomes : (w : CoreState) (ks : List UnitNo) (os : List Outcome) → answered_by w ks os ≡ true → map (outcome_of w) ks ≡ map Some os
answered-outcomes w [] [] e = refl
answered-outcomes w [] (o ∷ os) e = cc
answered-outcomes w (k ∷ ks) [] e = cc
answered-outcomes w (k ∷ ks) (o ∷ os) e =
    let p = and_parts (is_answer (outcome_of w k) o) (answered_by w ks os) e in
    let h = one (outcome_of w k) refl p.0 in let r = answered-outcomes w ks os p.1 in
    λ i. h i ∷ r i
  where
    one : (x : Option Outcome) → outcome_of w k ≡ x → is_answer x o ≡ true → outcome_of w k ≡ Some o
    one None q t = cc
    one (Some y) q t = q ∙ ap Some (same_outcome-true y o t)

-- the answers of who is at its end are as before, or are tested now
answered-from : (w w' : CoreState) → Grows w w' → AnswersAreOutcomes w → ((p : UnitNo) → IsAtEnd w' p → IsAtEnd w p ⊎ (answered_by w (w'.units.kids p) (w'.manager.answers p) ≡ true)) → AnswersAreOutcomes w'
answered-from w w' g s from p end = elim (from p end) [
  | inl old ↦ (let t = g.3 p (end-over w p old) in
      ap (map (outcome_of w')) t.3 ∙ map-outcomes w w' g (w.units.kids p) (w.manager.answers p) (s p old) ∙ ap (map Some) (sym t.2))
  | inr now ↦ map-outcomes w w' g (w'.units.kids p) (w'.manager.answers p) (answered-outcomes w (w'.units.kids p) (w'.manager.answers p) now)
]

answers-empty : (w : CoreState) (ks : List UnitNo) → is_empty ks ≡ true → answered_by w ks [] ≡ true
answers-empty w [] e = refl
answers-empty w (k ∷ ks) e = cc

at-end-put : (w : CoreState) (u : UnitNo) (end : Phase) (p : UnitNo) (Q : Type 0) → (p ≡ u → Q) → ((p ≡ u → ⊥) → IsAtEnd w p → Q) → (put w.units.phase u end p ≡ Finished) ⊎ (put w.units.phase u end p ≡ Ended) → Q
at-end-put w u end p Q same other o = elim (cases_unit p u) [
  | inl e ↦ same e
  | inr n ↦ other n (elim o [ inl f ↦ inl (sym (put-other w.units.phase u end p n) ∙ f) | inr f ↦ inr (sym (put-other w.units.phase u end p n) ∙ f) ])
]

not-at-end : (w : CoreState) (u : UnitNo) (end : Phase) (p : UnitNo) → (end ≡ Finished → ⊥) → (end ≡ Ended → ⊥) → p ≡ u → (put w.units.phase u end p ≡ Finished) ⊎ (put w.units.phase u end p ≡ Ended) → ⊥
not-at-end w u end p n m e o = elim o [ inl f ↦ n (sym (put-is w.units.phase u end p e) ∙ f) | inr f ↦ m (sym (put-is w.units.phase u end p e) ∙ f) ]

answered-now : (w : CoreState) (u : UnitNo) (answers : List Outcome) (p : UnitNo) → p ≡ u → answered_by w (w.units.kids u) answers ≡ true → answered_by w (w.units.kids p) (put w.manager.answers u answers p) ≡ true
answered-now w u answers p z e = (λ i. answered_by w (w.units.kids (z i)) (put-is w.manager.answers u answers p z i)) ∙ e

pub answered-change : (w : CoreState) (e : CoreEvent) (w' : CoreState) → Change w e w' → applies w e ≡ true → LoadlessKept w → AnswersAreOutcomes w → AnswersAreOutcomes w'
answered-change w e w' c a k s = answered-from w w' (grows-change w e w' c a k) s (from w e w' c a k s)
  where
    from : (w : CoreState) (e : CoreEvent) (w' : CoreState) → Change w e w' → applies w e ≡ true → LoadlessKept w → AnswersAreOutcomes w →
        (p : UnitNo) → IsAtEnd w' p → IsAtEnd w p ⊎ (answered_by w (w'.units.kids p) (w'.manager.answers p) ≡ true)
    from w e w' (bad line why q) a k s = λ p o. inl o
    from w e w' (begin origin call plain c) a k s = λ p o. at-end-put w (new_unit w) Running p (IsAtEnd w p ⊎ (answered_by w (kids_with w.units.kids origin (new_unit w) p) (w.manager.answers p) ≡ true)) (λ z. absurd (not-at-end w (new_unit w) Running p (λ y. cc) (λ y. cc) z o)) (λ z q. inl q) o
    from w e w' (lock u g mode running free first here) a k s = λ p o. inl o
    from w e w' (raise u g mode running free held here uncovered) a k s = λ p o. inl o
    from w e w' (refuse u g mode why running q) a k s = λ p o. at-end-put w u Refused p (IsAtEnd w p ⊎ (answered_by w (w.units.kids p) (w.manager.answers p) ≡ true)) (λ z. absurd (not-at-end w u Refused p (λ y. cc) (λ y. cc) z o)) (λ z q. inl q) o
    from w e w' (finish u effect running plain of_call reads alone) a k s = λ p o. at-end-put w u Finished p (IsAtEnd w p ⊎ (answered_by w (w.units.kids p) (put w.manager.answers u effect.answers p) ≡ true)) (λ z. inr (answered-now w u effect.answers p z (parts-of w u effect of_call).3)) (λ z q. inl q) o
    from w e w' (end_plain u effect running plain of_call bare) a k s = λ p o. at-end-put w u Ended p (IsAtEnd w p ⊎ (answered_by w (w.units.kids p) (put w.manager.answers u effect.answers p) ≡ true)) (λ z. inr (answered-now w u effect.answers p z (parts-of w u effect of_call).3)) (λ z q. inl q) o
    from w e w' (end_snapshot u at outcome running plain kids answer) a k s = λ p o. at-end-put w u Ended p (IsAtEnd w p ⊎ (answered_by w (w.units.kids p) (put w.manager.answers u [] p) ≡ true)) (λ z. inr (answered-now w u [] p z (answers-empty w (w.units.kids u) kids))) (λ z q. inl q) o
    from w e w' (release u g over held) a k s = λ p o. inl o
    from w e w' (take_batch none some) a k s = λ p o. inl o
    from w e w' (vote n g kept b q number d planned fresh) a k s = λ p o. inl o
    from w e w' (decide_some n b q number d voted some) a k s = λ p o. inl o
    from w e w' (decide_none n b q number d voted none) a k s = λ p o. inl o
    from w e w' (seal_batch n b ds q number d) a k s = λ p o. inl o
    from w e w' (spoil_batch n b ds q number d) a k s = λ p o. inl o
    from w e w' (doubt_batch n b ds q number d) a k s = λ p o. inl o
    from w e w' (learn u g wrote final fresh) a k s = λ p o. inl o
    from w e w' (emit q) a k s = λ p o. inl o
    from w e w' (halt_run q) a k s = λ p o. inl o
    from w e w' (want u g running free fresh) a k s = λ p o. inl o
    from w e w' (load g u state gone wanted) a k s = λ p o. inl o

pub answered-step : (w : CoreState) (e : CoreEvent) → LoadlessKept w → AnswersAreOutcomes w → AnswersAreOutcomes (step w e)
answered-step w e k s = cond_both (applies w e) (swept (does w e)) w AnswersAreOutcomes
    (λ a. swept-answered (does w e) (answered-change w e (does w e) (decode w e (and_parts (is_allowed w e) (can w e) a).1) a k s))
    (λ a. s)
  where
    swept-answered : (w : CoreState) → AnswersAreOutcomes w → AnswersAreOutcomes (swept w)
    swept-answered w s = go w.cells.capacity
      where
        go : (c : Option ℕ) → AnswersAreOutcomes (swept_by w c)
        go None = s
        go (Some m) = s

pub answered-run : (es : List CoreEvent) (w : CoreState) → LoadlessKept w → AnswersAreOutcomes w → AnswersAreOutcomes (run w es)
answered-run [] w k s = s
answered-run (e ∷ es) w k s = answered-run es (step w e) (loadless-step w e k) (answered-step w e k s)
