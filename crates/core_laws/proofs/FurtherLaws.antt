-- What stays as a run goes on, and further laws after a legal run.
use Rattle.std.proofs.Common.{◌≡◌, List, [], ◌∷◌, ◌++◌, Bool, refl, sym, subst, Some, ◌<◌}
use Rattle.core_model.specs.CoreState.{UnitNo, GrainId, Value, CoreState}
use Rattle.core_model.specs.declared.effects.Effect.{Effect}
use Rattle.core_model.specs.CoreState.{Outcome}
use Rattle.core_model.specs.Tests.{outcome_of}
use Rattle.core_model.specs.Events.{run, step}
use Rattle.core_model.specs.declared.events.CoreEvent.{CoreEvent}
use Rattle.core_model.specs.SerialOrder.{AllPlay, AllLoadsTrue}
use Rattle.core_model.specs.DeadUnits.{IsDead}
use Rattle.core_model.specs.LegalRuns.{Run, IsLegal, begins, ends}
use Rattle.core_model.specs.Laws.{extended}
use Rattle.core_laws.proofs.Ends.{kept-begins, kept-ends}
use Rattle.core_laws.proofs.Growth.{Grows, grows-run, grows-dead, grows-outcome}
use Rattle.core_model.specs.Causes.{GoneIsRemoved}
use Rattle.core_laws.proofs.GoneVersions.{removed-run, gone-absent}
use Rattle.core_model.specs.DeadUnits.{DeadEitherWay}
use Rattle.core_laws.proofs.DeadUnits.{either-way}
use Rattle.core_laws.proofs.Consistency.{depends-ends}
use Rattle.core_laws.proofs.LoadlessKept.{loadless-ends}

pub run-append : (w : CoreState) (es more : List CoreEvent) → run w (es ++ more) ≡ run (run w es) more
run-append w [] more = refl
run-append w (e ∷ es) more = run-append (step w e) es more

pub loads-append : (opening : GrainId → List Value) (w : CoreState) (es more : List CoreEvent) → AllLoadsTrue opening w (es ++ more) → AllLoadsTrue opening w es × AllLoadsTrue opening (run w es) more
loads-append opening w [] more l = (tt, l)
loads-append opening w (e ∷ es) more l = (let t = loads-append opening (step w e) es more l.1 in ((l.0, t.0), t.1))

plays-append : (plays : Effect → Bool) (es more : List CoreEvent) → AllPlay plays (es ++ more) → AllPlay plays es
plays-append plays [] more p = tt
plays-append plays (e ∷ es) more p = (p.0, plays-append plays es more p.1)

-- the front of a legal run is one
pub legal-front : (plays : Effect → Bool) (r : Run) (more : List CoreEvent) → IsLegal plays (extended r more) → IsLegal plays r
legal-front plays r more l = record {
  above = l.above;
  effects = plays-append plays r.events more l.effects;
  loads = (loads-append r.opening (begins r) r.events more l.loads).0;
}

pub grows-ends : (r : Run) (more : List CoreEvent) → 0 < r.base → Grows (ends r) (ends (extended r more))
grows-ends r more above =
    subst (Grows (ends r)) (sym (run-append (begins r) r.events more))
    (grows-run more (ends r) (loadless-ends r above))

pub dead-ends : (r : Run) (more : List CoreEvent) → 0 < r.base → (u : UnitNo) → IsDead (ends r) u → IsDead (ends (extended r more)) u
dead-ends r more above u d = grows-dead (ends r) (ends (extended r more)) (grows-ends r more above) u d

pub outcome-ends : (r : Run) (more : List CoreEvent) → 0 < r.base → (u : UnitNo) (o : Outcome) → outcome_of (ends r) u ≡ Some o → outcome_of (ends (extended r more)) u ≡ Some o
outcome-ends r more above u o e = grows-outcome (ends r) (ends (extended r more)) (grows-ends r more above) u o e

pub removed-ends : (plays : Effect → Bool) (r : Run) → IsLegal plays r → GoneIsRemoved (ends r)
removed-ends plays r l u read running m =
    let s = removed-run r.opening r.events (begins r) l.loads (kept-begins plays r l) (λ u r p n. absurd n) in
    let t = gone-absent r.opening _ (ends r) (kept-ends plays r l).0 s u read running m in
    (t.0, t.1)

pub either-ends : (plays : Effect → Bool) (r : Run) → IsLegal plays r → DeadEitherWay (ends r)
either-ends plays r l = either-way r.opening (ends r) (kept-ends plays r l) (depends-ends plays r l)
