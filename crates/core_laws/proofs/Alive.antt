-- Committed units are alive.
use Rattle.std.proofs.Common.{◌≡◌, ℕ, List, true, false, ◌⊎◌, inl, inr, sym, ap, ◌∙◌, subst}
use Rattle.core_model.specs.CoreState.{UnitNo, GrainId, nobody, Member, Value, CoreState}
use Rattle.core_model.specs.Tests.{is_bad, is_good}
use Rattle.core_model.specs.DeadUnits.{Dead}
use Rattle.core_laws.proofs.Basics.{Dead-not, not_both}
use Rattle.core_laws.proofs.Invariant.{Inv}

-- no unit that is committed or to commit is dead
pub good-alive : (opening : GrainId → List Value) (n : ℕ) (w : CoreState) → Inv opening n w → (u : UnitNo) → is_good (w.manager.verdict u) ≡ true → Dead w.manager.verdict w.units.reads u → ⊥
good-alive opening n w i u c d =
    Dead-not w.manager.verdict w.units.reads (λ x. (is_good (w.manager.verdict x) ≡ true) ⊎ (x ≡ nobody))
    (λ x o b. elim o [
      | inl q ↦ not_both _ q b
      | inr q ↦ (let t : false ≡ true = sym (ap is_bad (ap w.manager.verdict q ∙ i.undecided nobody (inl i.outside))) ∙ b in cc)
    ])
    (λ x r o m. elim o [
      | inl q ↦ elim (i.good x r q m) [ inl a ↦ inr a | inr a ↦ inl a ]
      | inr q ↦ absurd (subst (Member r) (ap w.units.reads q ∙ i.blank nobody i.outside) m)
    ])
    u d (inl c)
