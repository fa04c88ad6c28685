-- All that a history tells of a legal run.
use Rattle.std.proofs.Common.{◌≡◌, List, [], ◌∷◌, ◌++◌, Bool, true}
use Rattle.std.specs.Prelude.{◌↔◌}
use Rattle.core_model.specs.declared.events.CoreEvent.{CoreEvent}
use Rattle.core_model.specs.declared.effects.Effect.{Effect}
use Rattle.core_model.specs.declared.phases.Phase.TheVariants.{Finished}
use Rattle.core_model.specs.declared.phases.Verdict.TheVariants.{Committed, Aborted}
use Rattle.core_model.specs.CoreState.{UnitNo, GrainId, Value, CoreState}
use Rattle.core_model.specs.DeadUnits.{IsDead}
use Rattle.core_model.specs.SerialOrder.{AllLoadsTrue}
use Rattle.core_model.specs.Events.{applies, step}
use Rattle.core_model.specs.LegalRuns.{Run, IsLegal, begins, ends}
use Rattle.core_laws.proofs.EventCases.{Change}
use Rattle.core_laws.proofs.Growth.{grows-change}
use Rattle.core_history.specs.Histories.{Applied, history_of}
use Rattle.core_history.specs.Fates.{IsDeadIn, IsCommittedIn}
use Rattle.core_history.specs.GoneVersions.{IsDecidedDead}
use Rattle.core_history.proofs.BatchPlaces.{batch-finished}
use Rattle.core_history.proofs.Words.{more}
use Rattle.core_history.proofs.RunHistory.{answered, with_here, after-step, along}
use Rattle.core_history.proofs.AnyEvents.{Tells, tells-after, tells-step, tells-begins}
use Rattle.core_history.proofs.Cores.{Core, core-step, core-begins}
use Rattle.core_history.proofs.Fates.{Step, FatesOf, fates-after, dead-in, dead-by, committed-in, committed-by}
use Rattle.core_history.proofs.Dependencies.{DependsOf, depends-after}
use Rattle.core_history.proofs.DeadUnits.{Endings, endings-after, decided-dead-in, decided-dead-by}
use Rattle.core_history.proofs.GoneVersions.{OffOf, GoneOf, SameGone, off-after, gone-after, same-gone}
use Rattle.core_history.proofs.EntryCauses.{CausesOf, causes-after}
use Rattle.core_history.proofs.AbortCauses.{AbortsOf, aborts-after}
use Rattle.core_laws.proofs.LoadlessKept.{loadless-kept}

-- the state is a core's, and the history tells it
pub record Knows (opening : GrainId → List Value) (h : List Applied) (w : CoreState) : Type 0 where
  pub core : Core opening w
  pub tells : Tells h w
  pub fates : FatesOf h w
  pub depends : DependsOf h w
  pub endings : Endings h w
  pub off : OffOf h w
  pub gone : GoneOf h w
  pub causes : CausesOf h w
  pub aborts : AbortsOf h w

-- what is known at an event
pub at-event : (opening : GrainId → List Value) (h : List Applied) (w : CoreState) (e : CoreEvent) (w' : CoreState) → applies w e ≡ true → Knows opening h w → Change w e w' → Step opening h w e w'
at-event opening h w e w' a k c = record { core = k.core; told = k.tells; next = tells-after h w e w' c k.tells; fates = k.fates; applied = a; grows = grows-change w e w' c a (loadless-kept opening w k.core.kept) }

-- which grains are in memory doesn't matter
endings-here : (h : List Applied) (w : CoreState) (here : GrainId → Bool) → Endings h w → Endings h (with_here w here)
endings-here h w here k = record { aborted = k.aborted; doubted = k.doubted; doubts = k.doubts; decided = k.decided; condemned = k.condemned }

-- each step keeps it
knows-step : (opening : GrainId → List Value) (h : List Applied) (w : CoreState) (e : CoreEvent) (es : List CoreEvent) → AllLoadsTrue opening w (e ∷ es) → applies w e ≡ true → Knows opening h w → Knows opening (more h (answered w e)) (step w e)
knows-step opening h w e es l a k = record {
  core = core-step opening w e l.0 k.core;
  tells = tells-step h w e a k.tells;
  fates = after-step (FatesOf (more h (answered w e))) w e a (λ c. fates-after opening h w e _ c (at-event opening h w e _ a k c)) (λ v here f. f);
  depends = after-step (DependsOf (more h (answered w e))) w e a (λ c. depends-after opening h w e _ c k.core k.tells k.fates k.depends) (λ v here f. f);
  endings = after-step (Endings (more h (answered w e))) w e a (λ c. endings-after opening h w e _ c (at-event opening h w e _ a k c) k.endings) (λ v here f. endings-here (more h (answered w e)) v here f);
  off = after-step (OffOf (more h (answered w e))) w e a (λ c. off-after opening h w e _ c (at-event opening h w e _ a k c) k.endings l.0 k.off) (λ v here f. f);
  gone = after-step (GoneOf (more h (answered w e))) w e a (λ c. gone-after opening h w e _ c (at-event opening h w e _ a k c) k.endings k.gone) (λ v here f. f);
  causes = after-step (CausesOf (more h (answered w e))) w e a (λ c. causes-after opening h w e _ c (at-event opening h w e _ a k c) k.depends same k.causes) (λ v here f. f);
  aborts = after-step (AbortsOf (more h (answered w e))) w e a (λ c. aborts-after opening h w e _ c (at-event opening h w e _ a k c) k.depends same k.aborts) (λ v here f. f);
}
  where
    same : SameGone h w
    same = same-gone opening h w k.core k.tells k.off k.gone

-- it holds where a run begins
knows-begins : (plays : Effect → Bool) (r : Run) → IsLegal plays r → Knows r.opening [] (begins r)
knows-begins plays r l = record {
  core = core-begins plays r l;
  tells = tells-begins r;
  fates = record {
    numbers = λ e m. absurd m;
    undecided = λ b q n m. m;
    failed = λ b g q. cc;
    voted = λ b g q m. absurd m;
    refusals = λ u g mode m. absurd m;
    down = λ n u g b m. absurd m;
    ends = λ n u b m. absurd m;
    spoils = λ n u b m. absurd m;
    dies = λ u e. cc;
    commits = λ u e. cc;
  };
  depends = λ u d. ((λ m. absurd m), (λ x. absurd (never x.at x.back x.front x.split)));
  endings = record {
    aborted = λ v f. cc;
    doubted = λ n m. absurd m;
    doubts = λ n v b m. absurd m;
    decided = λ n v b m. absurd m;
    condemned = λ n v b m. absurd m;
  };
  off = λ v g x. absurd (never x.at x.back x.front x.split);
  gone = λ u r q m. absurd m;
  causes = λ x m. absurd m;
  aborts = λ u e. cc;
}
  where
    never : (x : Applied) (back : List Applied) (front : List Applied) → [] ≡ front ++ (x ∷ back) → ⊥
    never x back [] q = cc
    never x back (y ∷ f) q = cc

-- and where it ends
pub knows-ends : (plays : Effect → Bool) (r : Run) → IsLegal plays r → Knows r.opening (history_of r) (ends r)
knows-ends plays r l = along (AllLoadsTrue r.opening) (λ w e es s. s.1) (Knows r.opening) (knows-step r.opening) [] (begins r) r.events l.loads (knows-begins plays r l)

-- the dead after a legal run
pub dead-ends : (plays : Effect → Bool) (r : Run) → IsLegal plays r → (u : UnitNo) → IsDead (ends r) u ↔ IsDeadIn (history_of r) u
dead-ends plays r l u = (let k = knows-ends plays r l in (dead-in (history_of r) (ends r) k.tells k.fates u, dead-by (history_of r) (ends r) k.tells k.fates u))

-- the committed after a legal run
pub committed-ends : (plays : Effect → Bool) (r : Run) → IsLegal plays r → (u : UnitNo) → ((ends r).manager.verdict u ≡ Committed) ↔ IsCommittedIn (history_of r) u
committed-ends plays r l u = (let k = knows-ends plays r l in (committed-in r.opening (history_of r) (ends r) k.core k.tells k.fates u, committed-by (history_of r) (ends r) k.tells k.fates u))

-- who is aborted after its finish
pub decided-ends : (plays : Effect → Bool) (r : Run) → IsLegal plays r → (u : UnitNo) → (((ends r).units.phase u ≡ Finished) × ((ends r).manager.verdict u ≡ Aborted)) ↔ IsDecidedDead (history_of r) u
decided-ends plays r l u = (let k = knows-ends plays r l in (
  (λ x. decided-dead-in (history_of r) (ends r) k.fates k.endings u x.0 x.1),
  (λ x. (batch-finished r.opening (history_of r) (ends r) k.core.kept k.tells x.batch u x.within, decided-dead-by r.opening (history_of r) (ends r) k.core k.tells k.fates k.endings u x)),
))

-- what is gone after a legal run
pub gone-ends : (plays : Effect → Bool) (r : Run) → IsLegal plays r → SameGone (history_of r) (ends r)
gone-ends plays r l = (let k = knows-ends plays r l in same-gone r.opening (history_of r) (ends r) k.core k.tells k.off k.gone)
