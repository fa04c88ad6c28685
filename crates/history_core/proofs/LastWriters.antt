-- What is kept as a grain's last state is what its last committed writer wrote.
use Rattle.std.proofs.Common.{◌≡◌, ℕ, zero, suc, ◌+◌, ◌<◌, ◌≤◌, List, [], ◌∷◌, ◌++◌, ◌⊎◌, inl, inr, refl, sym, ap, ◌∙◌, subst, arith, Option, Some, None, length, get_or, take, get_or-take, length-append}
use Rattle.core_model.specs.CoreState.{UnitNo, GrainId, nobody, Member, Value, Write, CoreState}
use Rattle.core_model.specs.declared.phases.Verdict.{Verdict}
use Rattle.core_model.specs.declared.phases.Verdict.TheVariants.{Open, Chosen, Condemned, Committed, Aborted}
use Rattle.core_model.specs.Tests.{is_committed, state_written}
use Rattle.core_model.specs.LegalRuns.{Run, ends}
use Rattle.core_laws.proofs.Orders.{Member-at, Member-get, take_length}
use Rattle.history_core.specs.ClosedUnits.{state_after, last_among, last_state}
use Rattle.history_core.specs.KeptParts.{IsCoreReached}
use Rattle.history_core.specs.LastWriters.{IsLastOf}
use Rattle.history_core.proofs.CoreStates.{rests, closed-within, committed-closed}

-- no committed unit of these wrote the grain
abbrev NoneOf : (UnitNo → Verdict) → (UnitNo → List Write) → GrainId → List UnitNo → Type 0
NoneOf v ws g us = (c : UnitNo) (x : List Value) → Member c us → v c ≡ Committed → state_written g (ws c) ≡ Some x → ⊥

-- one of them did, and none behind it
record Found (v : UnitNo → Verdict) (ws : UnitNo → List Write) (g : GrainId) (us : List UnitNo) (o : Option (List Value)) : Type 0 where
  front : List UnitNo
  unit : UnitNo
  behind : List UnitNo
  state : List Value
  split : us ≡ front ++ (unit ∷ behind)
  commits : v unit ≡ Committed
  wrote : state_written g (ws unit) ≡ Some state
  none : NoneOf v ws g behind
  is : o ≡ Some state

none-more : (v : UnitNo → Verdict) (ws : UnitNo → List Write) (g : GrainId) (u : UnitNo) (us : List UnitNo) → NoneOf v ws g us →
    ((x : List Value) → v u ≡ Committed → state_written g (ws u) ≡ Some x → ⊥) → NoneOf v ws g (u ∷ us)
none-more v ws g u us n h = λ c x m e f. elim m [
  | inl q ↦ h x (ap v (sym q) ∙ e) (ap (λ z. state_written g (ws z)) (sym q) ∙ f)
  | inr k ↦ n c x k e f
]

look : (v : UnitNo → Verdict) (ws : UnitNo → List Write) (g : GrainId) (us : List UnitNo) (b : Option (List Value)) →
    (NoneOf v ws g us × (last_among v ws g us b ≡ b)) ⊎ Found v ws g us (last_among v ws g us b)
look v ws g [] b = inl ((λ c x m e f. absurd m), refl)
look v ws g (u ∷ us) b = elim (look v ws g us (state_after (is_committed (v u)) (state_written g (ws u)) b)) [
  | inr f ↦ inr (record { front = u ∷ f.front; unit = f.unit; behind = f.behind; state = f.state; split = ap (λ xs. u ∷ xs) f.split; commits = f.commits; wrote = f.wrote; none = f.none; is = f.is })
  | inl t ↦ here (v u) (state_written g (ws u)) refl refl t.0 t.1
]
  where
    here : (d : Verdict) (o : Option (List Value)) → v u ≡ d → state_written g (ws u) ≡ o → NoneOf v ws g us →
        last_among v ws g us (state_after (is_committed (v u)) (state_written g (ws u)) b) ≡ state_after (is_committed (v u)) (state_written g (ws u)) b →
        (NoneOf v ws g (u ∷ us) × (last_among v ws g (u ∷ us) b ≡ b)) ⊎ Found v ws g (u ∷ us) (last_among v ws g (u ∷ us) b)
    here Committed (Some s) e f n t = inr (record { front = []; unit = u; behind = us; state = s; split = refl; commits = e; wrote = f; none = n; is = t ∙ (λ i. state_after (is_committed (e i)) (f i) b) })
    here Committed None e f n t = inl (none-more v ws g u us n (λ x k q. (let z : None ≡ Some x = sym f ∙ q in cc)), t ∙ (λ i. state_after (is_committed (e i)) (f i) b))
    here Open o e f n t = inl (none-more v ws g u us n (λ x k q. (let z : Open ≡ Committed = sym e ∙ k in cc)), t ∙ (λ i. state_after (is_committed (e i)) (f i) b))
    here Chosen o e f n t = inl (none-more v ws g u us n (λ x k q. (let z : Chosen ≡ Committed = sym e ∙ k in cc)), t ∙ (λ i. state_after (is_committed (e i)) (f i) b))
    here Condemned o e f n t = inl (none-more v ws g u us n (λ x k q. (let z : Condemned ≡ Committed = sym e ∙ k in cc)), t ∙ (λ i. state_after (is_committed (e i)) (f i) b))
    here Aborted o e f n t = inl (none-more v ws g u us n (λ x k q. (let z : Aborted ≡ Committed = sym e ∙ k in cc)), t ∙ (λ i. state_after (is_committed (e i)) (f i) b))

at-left : (xs ys : List UnitNo) (j : ℕ) → j < length xs → get_or (xs ++ ys) j nobody ≡ get_or xs j nobody
at-left [] ys j h = absurd (omega arith)
at-left (x ∷ xs) ys zero h = refl
at-left (x ∷ xs) ys (suc j) h = at-left xs ys j (omega arith)

at-here : (xs : List UnitNo) (x : UnitNo) (ys : List UnitNo) → get_or (xs ++ (x ∷ ys)) (length xs) nobody ≡ x
at-here [] x ys = refl
at-here (y ∷ xs) x ys = at-here xs x ys

parts : (c : UnitNo) (xs ys : List UnitNo) → Member c (xs ++ ys) → Member c xs ⊎ Member c ys
parts c [] ys m = inr m
parts c (x ∷ xs) ys (inl e) = inl (inl e)
parts c (x ∷ xs) ys (inr m) = elim (parts c xs ys m) [ inl k ↦ inl (inr k) | inr k ↦ inr k ]

module _ (w : CoreState) (r : IsCoreReached w) where
  abbrev units : List UnitNo
  units = take w.manager.closed w.manager.order

  long : length units ≡ w.manager.closed
  long = take_length w.manager.closed w.manager.order (closed-within w r)

  -- a committed unit stands in a closed batch
  closed-member : (c : UnitNo) → w.manager.verdict c ≡ Committed → Member c units
  closed-member c e =
      let t = committed-closed w r c e in
      let p = (rests w r).prefix.order.placed c t.0 in
      let lt : p.0 < w.manager.closed = omega (arith, p.2, t.1) in
      let is : get_or units p.0 nobody ≡ c = get_or-take w.manager.closed w.manager.order p.0 nobody lt ∙ p.3 in
      subst (λ z. Member z units) is (Member-get units p.0 (omega (arith, lt, long)))

  -- a unit's place follows from where it stands
  place-at : (j : ℕ) (x : UnitNo) → j < length units → get_or units j nobody ≡ x → w.manager.place x ≡ j + 1
  place-at j x h e =
      let lt : j < w.manager.closed = omega (arith, h, long) in
      let l = (rests w r).prefix.order.listed j (omega (arith, lt, closed-within w r)) in
      subst (λ z. w.manager.place z ≡ j + 1) (sym (get_or-take w.manager.closed w.manager.order j nobody lt) ∙ e) l.1

  module _ (g : GrainId) (o : Option (List Value)) (f : Found w.manager.verdict w.manager.writes g units o) where
    lengths : length units ≡ length f.front + suc (length f.behind)
    lengths = ap (λ (xs : List UnitNo). length xs) f.split ∙ length-append f.front (f.unit ∷ f.behind)

    own-place : w.manager.place f.unit ≡ length f.front + 1
    own-place = place-at (length f.front) f.unit (omega (arith, lengths)) (ap (λ xs. get_or xs (length f.front) nobody) f.split ∙ at-here f.front f.unit f.behind)

    late : (c : UnitNo) (x : List Value) → w.manager.verdict c ≡ Committed → state_written g (w.manager.writes c) ≡ Some x → w.manager.place c ≤ w.manager.place f.unit
    late c x e q = elim (parts c f.front (f.unit ∷ f.behind) (subst (Member c) f.split (closed-member c e))) [
      | inl m ↦ (let t = Member-at c f.front m in
          let s = place-at t.0 c (omega (arith, t.1, lengths)) (ap (λ xs. get_or xs t.0 nobody) f.split ∙ at-left f.front (f.unit ∷ f.behind) t.0 t.1 ∙ t.2) in
          omega (arith, s, own-place, t.1))
      | inr m ↦ elim m [
        | inl k ↦ (let s = ap w.manager.place k in omega (arith, s))
        | inr k ↦ absurd (f.none c x k e q)
      ]
    ]

  pub last-of : (g : GrainId) → IsLastOf w g (last_state w g)
  last-of g = elim (look w.manager.verdict w.manager.writes g units None) [
    | inl t ↦ subst (IsLastOf w g) (sym t.1) (λ c x e f. t.0 c x (closed-member c e) e f)
    | inr f ↦ subst (IsLastOf w g) (sym f.is) (f.unit, record { commits = f.commits; wrote = f.wrote; last = late g (last_state w g) f })
  ]

-- so it is of every run in which units are numbered from 1 on
pub last-ends : (r : Run) (g : GrainId) → 0 < r.base → IsLastOf (ends r) g (last_state (ends r) g)
last-ends r g above = last-of (ends r) (r, above, refl) g
