-- An entry with an outcome tells of no unit that is committed later.
use Rattle.std.proofs.Common.{◌≡◌, ℕ, ◌<◌, List, [], ◌∷◌, ◌++◌, length, get_or, Bool, true, false, inl, inr, refl, sym, ap, ◌∙◌, subst, Some}
use Rattle.base_types.specs.declared.calls.Origin.TheVariants.{Child}
use Rattle.base_types.specs.declared.calls.Outcome.{Outcome}
use Rattle.base_types.specs.declared.entries.Entry.{Entry}
use Rattle.base_types.specs.declared.entries.Settled.{Settled}
use Rattle.base_types.specs.declared.entries.Settled.TheVariants as settled
use Rattle.core_model.specs.CoreState.{UnitNo, nobody, Member, CoreState}
use Rattle.core_model.specs.declared.events.CoreEvent.{CoreEvent}
use Rattle.core_model.specs.declared.phases.Phase.{Phase}
use Rattle.core_model.specs.declared.phases.Phase.TheVariants.{Unborn, Running, Finished, Refused, Ended}
use Rattle.core_model.specs.declared.phases.Verdict.{Verdict}
use Rattle.core_model.specs.declared.phases.Verdict.TheVariants.{Open, Chosen, Condemned, Committed, Aborted}
use Rattle.core_model.specs.Laws.{extended}
use Rattle.core_model.specs.LegalRuns.{Run, ends}
use Rattle.core_model.specs.Tests.{is_final, is_over, outcome_in, outcome_of}
use Rattle.core_laws.proofs.FurtherLaws.{grows-ends}
use Rattle.core_laws.proofs.Growth.{Grows}
use Rattle.core_laws.proofs.ToldOutcomes.{told-ends}
use Rattle.promise_spec.specs.Crashes.{HasOutcome}
use Rattle.settler_rules.specs.CommittedUnits.{IsToldOf}
use Rattle.core_laws.proofs.LoadlessRuns.{children-ends, committed-closed}

outcome-in : (what : Settled) → HasOutcome what → (o : Outcome) × (what ≡ settled.Done o)
outcome-in (settled.Done o) h = (o, refl)
outcome-in (settled.Lock by g) h = absurd h
outcome-in (settled.Vote g) h = absurd h
outcome-in (settled.Dependency on) h = absurd h
outcome-in settled.Disk h = absurd h
outcome-in settled.InDoubt h = absurd h
outcome-in (settled.Bad why) h = absurd h

-- a unit with an outcome is over
over-in : (p : Phase) (v : Verdict) (result o : Outcome) → outcome_in p v result ≡ Some o → is_over p ≡ true
over-in Unborn v result o e = absurd cc
over-in Running v result o e = absurd cc
over-in Finished v result o e = refl
over-in Refused v result o e = refl
over-in Ended v result o e = refl

-- what is told of in a run that goes on
abbrev TellsNoLater : CoreState → CoreState → Type 0
TellsNoLater w later = (x : Entry) → Member x w.manager.settled → HasOutcome x.what → (u : UnitNo) → IsToldOf later x u → later.manager.verdict u ≡ Committed → w.manager.verdict u ≡ Committed

module _ (q : Run) (tail : List CoreEvent) (above : 0 < q.base) where
  abbrev w : CoreState
  w = ends q

  abbrev later : CoreState
  later = ends (extended q tail)

  grows : Grows w later
  grows = grows-ends q tail above

  -- a unit with an outcome that is committed later is committed
  decided-by-then : (u : UnitNo) (o : Outcome) → outcome_of w u ≡ Some o → later.manager.verdict u ≡ Committed → w.manager.verdict u ≡ Committed
  decided-by-then u o known committed = by_phase (w.units.phase u) refl (w.manager.verdict u) refl known
    where
      finished : later.units.phase u ≡ Finished
      finished = (committed-closed (extended q tail) above u committed).0

      stays : (p : Phase) → w.units.phase u ≡ p → is_over p ≡ true → p ≡ Finished
      stays p is over = sym is ∙ sym (grows.3 u (ap is_over is ∙ over)).0 ∙ finished

      by_verdict : (v : Verdict) → w.manager.verdict u ≡ v → outcome_in Finished v (w.manager.result u) ≡ Some o → w.manager.verdict u ≡ Committed
      by_verdict Committed is e = is
      by_verdict Aborted is e = (let z : Aborted ≡ Committed = sym is ∙ sym (grows.1 u (ap is_final is)) ∙ committed in absurd cc)
      by_verdict Open is e = absurd cc
      by_verdict Chosen is e = absurd cc
      by_verdict Condemned is e = absurd cc

      by_phase : (p : Phase) → w.units.phase u ≡ p → (v : Verdict) → w.manager.verdict u ≡ v → outcome_in p v (w.manager.result u) ≡ Some o → w.manager.verdict u ≡ Committed
      by_phase Unborn is v of e = absurd cc
      by_phase Running is v of e = absurd cc
      by_phase Refused is v of e = (let z : Refused ≡ Finished = stays Refused is refl in absurd cc)
      by_phase Ended is v of e = (let z : Ended ≡ Finished = stays Ended is refl in absurd cc)
      by_phase Finished is v of e = by_verdict v of e

  -- a child of a unit that is over has begun by then
  child-by-then : (p u : UnitNo) (i d : ℕ) → is_over (w.units.phase p) ≡ true → later.units.origin u ≡ Child p i d → (later.units.phase u ≡ Unborn → ⊥)
      → (k : ℕ) × (w.units.origin u ≡ Child p i k) × (w.units.phase u ≡ Unborn → ⊥)
  child-by-then p u i d over origin born =
      let there = (children-ends (extended q tail) above).listed u p i d born origin in
      let kids : later.units.kids p ≡ w.units.kids p = (grows.3 p over).3 in
      let low : i < length (w.units.kids p) = subst (λ (us : List UnitNo). i < length us) kids there.0 in
      let is : get_or (w.units.kids p) i nobody ≡ u = ap (λ (us : List UnitNo). get_or us i nobody) (sym kids) ∙ there.1 in
      let t = (children-ends q above).origin p i low in
      (t.0, subst (λ (x : UnitNo). w.units.origin x ≡ Child p i t.0) is t.1, subst (λ (x : UnitNo). w.units.phase x ≡ Unborn → ⊥) is t.2)

  pub told-by-then : TellsNoLater w later
  told-by-then x m h u of committed =
      let told = told-ends q above in
      let result = outcome-in x.what h in
      let known : outcome_of w x.unit ≡ Some result.0 = told.known x result.0 m result.1 in
      elim of [
        | inl same ↦ decided-by-then u result.0 (ap (outcome_of w) same ∙ known) committed
        | inr child ↦
            (let over = over-in (w.units.phase x.unit) (w.manager.verdict x.unit) (w.manager.result x.unit) result.0 known in
            let finished : later.units.phase u ≡ Finished = (committed-closed (extended q tail) above u committed).0 in
            let c = child-by-then x.unit u child.0 child.1 over child.2 (λ b. (let z : Finished ≡ Unborn = sym finished ∙ b in cc)) in
            let o = told.children x result.0 m result.1 u child.0 c.0 c.2 c.1 in
            decided-by-then u o.0 o.1 committed)
      ]
