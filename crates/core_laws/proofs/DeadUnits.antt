-- Dead over sources, and dead over dependencies.
use Rattle.std.proofs.Common.{◌≡◌, ℕ, List, true, false, inl, inr, sym, ap, ◌∙◌, subst}
use Rattle.core_model.specs.CoreState.{UnitNo, GrainId, nobody, Member, Value, CoreState}
use Rattle.core_model.specs.Tests.{is_bad, is_good}
use Rattle.core_model.specs.DeadUnits.{Dead, itself, by_source}
use Rattle.core_laws.proofs.Basics.{Dead-not}
use Rattle.core_laws.proofs.Invariant.{Inv}
use Rattle.core_model.specs.DeadUnits.{DeadByDeps, aborted, by_dependency, DeadEitherWay}
use Rattle.core_laws.proofs.Alive.{good-alive}
use Rattle.core_laws.proofs.Dependencies.{Depends}
use Rattle.core_laws.proofs.KeptInvariant.{Kept}

-- a dead unit is somebody
nobody-alive : (opening : GrainId → List Value) (n : ℕ) (w : CoreState) → Inv opening n w → (u : UnitNo) → u ≡ nobody → Dead w.manager.verdict w.units.reads u → ⊥
nobody-alive opening n w i u q d = Dead-not w.manager.verdict w.units.reads (λ x. x ≡ nobody)
    (λ x e b. (let t : false ≡ true = sym (ap is_bad (ap w.manager.verdict e ∙ i.undecided nobody (inl i.outside))) ∙ b in cc))
    (λ x r e m. absurd (subst (Member r) (ap w.units.reads e ∙ i.blank nobody i.outside) m))
    u d q

by-deps : (opening : GrainId → List Value) (w : CoreState) → Kept opening w → (u : UnitNo) → Dead w.manager.verdict w.units.reads u → DeadByDeps w.manager.verdict w.units.deps u
by-deps opening w k u (itself e) = aborted e
by-deps opening w k u (by_source r m d) = elim (k.2 u r m) [
  | inl e ↦ absurd (nobody-alive opening _ w k.0 r.source e d)
  | inr o ↦ elim o [
    | inl c ↦ absurd (good-alive opening _ w k.0 r.source (ap is_good c) d)
    | inr n ↦ by_dependency r.source n (by-deps opening w k r.source d)
  ]
]

by-sources : (w : CoreState) → Depends w → (u : UnitNo) → DeadByDeps w.manager.verdict w.units.deps u → Dead w.manager.verdict w.units.reads u
by-sources w s u (aborted e) = itself e
by-sources w s u (by_dependency d m h) =
    let t = s.1 u d m in
    by_source t.0 t.1 (subst (Dead w.manager.verdict w.units.reads) (sym t.2) (by-sources w s d h))

pub either-way : (opening : GrainId → List Value) (w : CoreState) → Kept opening w → Depends w → DeadEitherWay w
either-way opening w k s u = ((λ d. by-deps opening w k u d), (λ d. by-sources w s u d))
