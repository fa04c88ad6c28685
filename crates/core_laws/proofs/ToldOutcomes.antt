-- An outcome that is told is the unit's for good, and its children are decided, whatever was loaded.
use Rattle.std.proofs.Common.{◌≡◌, ℕ, zero, suc, ◌<◌, ◌≤◌, List, [], ◌∷◌, length, get_or, Bool, true, false, ◌⊎◌, inl, inr, refl, sym, ap, ◌∙◌, subst, arith, Some, None, map}
use Rattle.std.specs.Prelude.{is_some}
use Rattle.std.specs.List.{list_any as any}
use Rattle.std.proofs.lemmas.Bool.{cases_lt}
use Rattle.base_types.specs.declared.entries.Settled.TheVariants as settled
use Rattle.cell_model.proofs.Units.{any-true, any-member, same_unit-true, same_unit-is}
use Rattle.core_model.specs.CoreState.{UnitNo, nobody, same_unit, Member, Outcome, Entry, CoreState}
use Rattle.core_model.specs.declared.phases.Phase.{Phase}
use Rattle.core_model.specs.declared.phases.Phase.TheVariants.{Unborn, Running, Finished, Refused, Ended}
use Rattle.core_model.specs.declared.phases.Verdict.{Verdict}
use Rattle.core_model.specs.declared.phases.Verdict.TheVariants.{Open, Chosen, Condemned, Committed, Aborted}
use Rattle.core_model.specs.Tests.{is_final, is_decided, outcome_in, outcome_of}
use Rattle.core_model.specs.Laws.{AnswersAreOutcomes, ChildrenAreKnown}
use Rattle.core_model.specs.Lines.{IsSettled}
use Rattle.core_model.specs.ToldOutcomes.{ChildrenAreDecided, ToldIsFinal, LinesAreTold}
use Rattle.core_model.specs.SerialOrder.{batch_begin}
use Rattle.core_model.specs.LegalRuns.{Run, ends}
use Rattle.core_laws.proofs.Basics.{is_final-cases}
use Rattle.core_laws.proofs.LineEntries.{once-ends}
use Rattle.core_laws.proofs.SaidEntries.{Says, says-ends}
use Rattle.core_laws.proofs.LoadlessRuns.{split-ends, batched-ends, answers-ends, children-ends}
use Rattle.core_laws.proofs.LoadlessKept.{loadless-ends}

-- a list of known outcomes
known-at : (w : CoreState) (us : List UnitNo) (os : List Outcome) → map (outcome_of w) us ≡ map Some os → (i : ℕ) → i < length us → (o : Outcome) × (outcome_of w (get_or us i nobody) ≡ Some o)
known-at w [] os e i lt = absurd (omega (arith, lt))
known-at w (u ∷ us) [] e i lt = cc
known-at w (u ∷ us) (o ∷ os) e zero lt = (o, head e)
  where
    head : (outcome_of w u ∷ map (outcome_of w) us) ≡ (Some o ∷ map Some os) → outcome_of w u ≡ Some o
    head q = cc
known-at w (u ∷ us) (o ∷ os) e (suc i) lt = known-at w us os (rest e) i (omega (arith, lt))
  where
    rest : (outcome_of w u ∷ map (outcome_of w) us) ≡ (Some o ∷ map Some os) → map (outcome_of w) us ≡ map Some os
    rest q = cc

-- the children of a unit that came to its end are decided
children-decided : (w : CoreState) → ChildrenAreKnown w → AnswersAreOutcomes w → (p : UnitNo) → (w.units.phase p ≡ Finished) ⊎ (w.units.phase p ≡ Ended) → ChildrenAreDecided w p
children-decided w known answers p o c i d born origin =
    let t = known.listed c p i d born origin in
    let k = known-at w (w.units.kids p) (w.manager.answers p) (answers p o) i t.0 in
    (k.0, ap (outcome_of w) (sym t.1) ∙ k.1)

-- what is told of a unit is its outcome
told-known : (w : CoreState) (u : UnitNo) (result : Outcome) → Says w u (settled.Done result) → outcome_of w u ≡ Some result
told-known w u result s = elim s.0 [
  | inl e ↦ (λ i. outcome_in (e i) (w.manager.verdict u) (s.1 i))
  | inr f ↦ (λ i. outcome_in (f.0 i) (f.1 i) (s.1 i))
]

-- who was told an outcome finished, or ended as a plain run
told-over : (w : CoreState) (u : UnitNo) (result : Outcome) → Says w u (settled.Done result) → (w.units.phase u ≡ Finished) ⊎ (w.units.phase u ≡ Ended)
told-over w u result s = elim s.0 [ inl e ↦ inr e | inr f ↦ inl f.0 ]

pub told-ends : (r : Run) → 0 < r.base → ToldIsFinal (ends r)
told-ends r above = record {
  known = λ x result m is. told-known (ends r) x.unit result (said x result m is);
  children = λ x result m is. decided x.unit (told-over (ends r) x.unit result (said x result m is));
  ended = decided;
}
  where
    said : (x : Entry) (result : Outcome) → Member x (ends r).manager.settled → x.what ≡ settled.Done result → Says (ends r) x.unit (settled.Done result)
    said x result m is = subst (Says (ends r) x.unit) is (says-ends r above x m)

    decided : (p : UnitNo) → ((ends r).units.phase p ≡ Finished) ⊎ ((ends r).units.phase p ≡ Ended) → ChildrenAreDecided (ends r) p
    decided p o = children-decided (ends r) (children-ends r above) (answers-ends r above) p o

-- ---- lines

-- an outcome is known of who is settled, unless its batch is in doubt
settled-known : (w : CoreState) (u : UnitNo) → IsSettled w u → (w.units.phase u ≡ Finished → w.manager.place u ≤ w.manager.closed → is_final (w.manager.verdict u) ≡ true) → is_decided w u ≡ true
settled-known w u (inl p) f = ap (λ (z : Phase). is_some (outcome_in z (w.manager.verdict u) (w.manager.result u))) p
settled-known w u (inr (inl p)) f = ap (λ (z : Phase). is_some (outcome_in z (w.manager.verdict u) (w.manager.result u))) p
settled-known w u (inr (inr p)) f = elim (is_final-cases (w.manager.verdict u) (f p.0 p.1)) [
  | inl v ↦ (λ i. is_some (outcome_in (p.0 i) (v i) (w.manager.result u)))
  | inr v ↦ (λ i. is_some (outcome_in (p.0 i) (v i) (w.manager.result u)))
]

-- of whom an outcome is known, is settled
known-settled : (w : CoreState) (u : UnitNo) → (w.units.phase u ≡ Finished → is_final (w.manager.verdict u) ≡ true → w.manager.place u ≤ w.manager.closed) → is_decided w u ≡ true → IsSettled w u
known-settled w u late e = go (w.units.phase u) refl (w.manager.verdict u) refl e
  where
    go : (p : Phase) → w.units.phase u ≡ p → (v : Verdict) → w.manager.verdict u ≡ v → is_some (outcome_in p v (w.manager.result u)) ≡ true → IsSettled w u
    go Unborn q v d z = cc
    go Running q v d z = cc
    go Refused q v d z = inl q
    go Ended q v d z = inr (inl q)
    go Finished q Open d z = cc
    go Finished q Chosen d z = cc
    go Finished q Condemned d z = cc
    go Finished q Committed d z = inr (inr (q, late q (ap is_final d)))
    go Finished q Aborted d z = inr (inr (q, late q (ap is_final d)))

true-iff : (a b : Bool) → (a ≡ true → b ≡ true) → (b ≡ true → a ≡ true) → a ≡ b
true-iff true true f g = refl
true-iff false false f g = refl
true-iff true false f g = sym (f refl)
true-iff false true f g = g refl

pub lines-ends : (r : Run) → 0 < r.base → (ends r).manager.doubt ≡ None → LinesAreTold (ends r)
lines-ends r above none u n b =
    true-iff (is_decided (ends r) u) (any (λ (x : Entry). same_unit x.unit u) (ends r).manager.settled) told decided
  where
    told : is_decided (ends r) u ≡ true → any (λ (x : Entry). same_unit x.unit u) (ends r).manager.settled ≡ true
    told e =
        let s = known-settled (ends r) u (λ f v. elim (cases_lt (ends r).manager.closed ((ends r).manager.place u)) [
          | inl lt ↦ (let z : true ≡ false = sym v ∙ (batched-ends r above).1 u f lt in cc)
          | inr le ↦ le
        ]) e in
        let x = (once-ends r above).complete u n b s in
        any-member (λ (x : Entry). same_unit x.unit u) (ends r).manager.settled x.0 x.1 (same_unit-is x.0.unit u x.2)

    decided : any (λ (x : Entry). same_unit x.unit u) (ends r).manager.settled ≡ true → is_decided (ends r) u ≡ true
    decided e =
        let x = any-true (λ (x : Entry). same_unit x.unit u) (ends r).manager.settled e in
        let is = same_unit-true x.0.unit u x.2 in
        elim ((once-ends r above).entry x.0 x.1).2 [
          | inl o ↦ absurd (b.0 (ap (ends r).units.phase (sym is ∙ o.0) ∙ (loadless-ends r above).0.outside))
          | inr o ↦ settled-known (ends r) u (subst (IsSettled (ends r)) is o.1) (λ f le. (split-ends r above).0 u f (omega (arith, le, ap (λ d. batch_begin d (ends r).manager.closed) none)))
        ]
