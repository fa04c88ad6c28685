-- The cause of each aborted unit, read off a history.
use Rattle.std.proofs.Common.{◌≡◌, List, [], ◌∷◌, ◌++◌, inl, inr, refl, sym, ap, ◌∙◌, subst, Some, append_assoc}
use Rattle.base_types.specs.declared.entries.Settled.TheVariants as settled
use Rattle.cell_model.specs.declared.outcomes.Decision.{Decision}
use Rattle.cell_model.specs.declared.outcomes.Decision.TheVariants as decision
use Rattle.core_model.specs.declared.events.CoreEvent.{CoreEvent}
use Rattle.core_model.specs.declared.events.CoreEvent.TheVariants.{Refuse, Decide, Sealed, NotSealed, Doubt}
use Rattle.core_model.specs.declared.phases.Verdict.TheVariants.{Aborted}
use Rattle.core_model.specs.CoreState.{UnitNo, GrainId, Mode, Value, Settled, CoreState}
use Rattle.core_model.specs.Tests.{ask_answer, members}
use Rattle.core_model.specs.Causes.{IsAbort}
use Rattle.core_model.specs.Changes.{told, decisions_of, judged, seal, spoil, leave, refusal}
use Rattle.core_laws.proofs.EventCases.{Change, refuse, decide_some, decide_none, seal_batch, spoil_batch, doubt_batch, ask-refused}
use Rattle.core_laws.proofs.Puts.{put-from}
use Rattle.core_laws.proofs.Basics.{Dead-more}
use Rattle.core_laws.proofs.CommitOrder.{no_doubt}
use Rattle.core_laws.proofs.AbortCauses.{judged-aborted, decided-stops, ended-stops, seal-commit, leave-commit}
use Rattle.core_history.specs.Histories.{Applied}
use Rattle.core_history.specs.Causes.{CouldCommit, CauseIn, IsAbortedIn}
use Rattle.core_history.proofs.Words.{more}
use Rattle.core_history.proofs.RunHistory.{answered}
use Rattle.core_history.proofs.Cores.{seal-bad}
use Rattle.core_history.proofs.Fates.{Step, fates-after, dead-by}
use Rattle.core_history.proofs.Dependencies.{DependsOf}
use Rattle.core_history.proofs.GoneVersions.{SameGone}
use Rattle.core_history.proofs.EntryCauses.{refused-in, ended-in, closed-in}

-- each aborted unit of a state has its cause in the history
abbrev pub AbortsOf : List Applied → CoreState → Type 0
AbortsOf h w = (u : UnitNo) → w.manager.verdict u ≡ Aborted → (why : Settled) × IsAbortedIn h u why

-- a cause stays one
stopped-before : (h : List Applied) (a : Applied) (u : UnitNo) → (why : Settled) × IsAbortedIn h u why → (why : Settled) × IsAbortedIn (more h a) u why
stopped-before h a u t = (
  t.0,
  record {
    front = t.1.front;
    at = t.1.at;
    back = t.1.back ++ a ∷ [];
    split = ap (λ z. z ++ a ∷ []) t.1.split ∙ append_assoc t.1.front (t.1.at ∷ t.1.back) (a ∷ []);
    abort = t.1.abort;
    cause = t.1.cause;
  },
)

-- what an event tells a unit
abbrev Stopped : List Applied → Applied → UnitNo → Type 0
Stopped h a u = (why : Settled) × IsAbort why × CauseIn h a u why

-- the cause of a unit that is aborted now
stopped-now : (h : List Applied) (a : Applied) (u : UnitNo) → Stopped h a u → (why : Settled) × IsAbortedIn (more h a) u why
stopped-now h a u t = (t.0, record { front = h; at = a; back = []; split = refl; abort = t.1; cause = t.2 })

-- no decision to abort tells a result
told-abort : (d : Decision) → IsAbort (told settled.Disk d)
told-abort decision.Commit = tt
told-abort (decision.Vote g) = tt
told-abort (decision.Dependency on) = tt

-- a refusal is an abort
refused-abort : (w : CoreState) (u : UnitNo) (g : GrainId) (mode : Mode) (why : Settled) → refusal g (ask_answer w u g mode) ≡ Some why → IsAbort why
refused-abort w u g mode why q = elim (ask-refused w u g mode why q).1 [
  | inl d ↦ subst IsAbort (sym d.2) tt
  | inr d ↦ subst IsAbort (sym d.3) tt
]

-- the causes of aborted units after an event
pub aborts-after : (opening : GrainId → List Value) (h : List Applied) (w : CoreState) (e : CoreEvent) (w' : CoreState) → Change w e w' → Step opening h w e w' → DependsOf h w → SameGone h w → AbortsOf h w → AbortsOf (more h (answered w e)) w'
aborts-after opening h w e w' (refuse u g mode why running q) s dep same k = λ x.
    put-from w.manager.verdict u Aborted (λ z. z ≡ Aborted) ((c : Settled) × IsAbortedIn (more h (answered w (Refuse u g mode))) x c) x
    (λ z y. subst (λ j. (c : Settled) × IsAbortedIn (more h (answered w (Refuse u g mode))) j c) (sym z)
    (stopped-now h (answered w (Refuse u g mode)) u (why, refused-abort w u g mode why q, refused-in opening h w u g mode why s.core s.told s.fates same running q)))
    (λ z y. stopped-before h (answered w (Refuse u g mode)) x (k x y))
aborts-after opening h w e w' (decide_some n b q number d voted some) s dep same k = λ x v.
    stopped-before h (answered w (Decide n)) x (k x (judged-aborted (members w b) (decisions_of w b) w.manager.verdict x v))
aborts-after opening h w e w' (decide_none n b q number d voted none) s dep same k = λ x v.
    (let c : Change w (Decide n) w' = decide_none n b q number d voted none in
    let fates = fates-after opening h w (Decide n) w' c s in
    elim (decided-stops opening w b x (Stopped h (answered w (Decide n)) x) s.core.kept s.core.depends s.core.split s.core.turned (no_doubt w (Decide n) s.applied refl) q d
    (λ j m y z r. (
      told settled.Disk j,
      told-abort j,
      closed-in opening h w n w' c s dep b q number d none s.next.reads
          (λ y' z'. Dead-more _ (judged (members w b) (decisions_of w b) w.manager.verdict) w.units.reads w.units.reads (λ u' t'. seal-bad (judged (members w b) (decisions_of w b) w.manager.verdict u') t') (λ u' r' m'. m') y'
          (dead-by (more h (answered w (Decide n))) w' s.next fates y' z'))
          settled.Disk x m j y r,
    ))
    v) [
      | inl o ↦ stopped-before h (answered w (Decide n)) x (k x o)
      | inr o ↦ stopped-now h (answered w (Decide n)) x o
    ])
aborts-after opening h w e w' (seal_batch n b ds q number d) s dep same k = λ x v.
    elim (ended-stops opening w seal b ds x (Stopped h (answered w (Sealed n)) x) refl refl s.core.kept s.core.argued s.core.split s.core.turned (no_doubt w (Sealed n) s.applied refl) q d
    (λ j m y z r. (
      told settled.Disk j,
      told-abort j,
      ended-in opening h w (answered w (Sealed n)) b ds s.core s.told s.fates dep q d (sym number) refl settled.Disk x m
          (λ is can. absurd (seal-commit (w.manager.verdict x) is z)) j y r,
    ))
    v) [
      | inl o ↦ stopped-before h (answered w (Sealed n)) x (k x o)
      | inr o ↦ stopped-now h (answered w (Sealed n)) x o
    ]
aborts-after opening h w e w' (spoil_batch n b ds q number d) s dep same k = λ x v.
    elim (ended-stops opening w spoil b ds x (Stopped h (answered w (NotSealed n)) x) refl refl s.core.kept s.core.argued s.core.split s.core.turned (no_doubt w (NotSealed n) s.applied refl) q d
    (λ j m y z r. (
      told settled.Disk j,
      told-abort j,
      ended-in opening h w (answered w (NotSealed n)) b ds s.core s.told s.fates dep q d (sym number) refl settled.Disk x m
          (λ is can. (n, refl, subst (λ i. CouldCommit h i x) number can)) j y r,
    ))
    v) [
      | inl o ↦ stopped-before h (answered w (NotSealed n)) x (k x o)
      | inr o ↦ stopped-now h (answered w (NotSealed n)) x o
    ]
aborts-after opening h w e w' (doubt_batch n b ds q number d) s dep same k = λ x v.
    elim (ended-stops opening w leave b ds x (Stopped h (answered w (Doubt n)) x) refl refl s.core.kept s.core.argued s.core.split s.core.turned (no_doubt w (Doubt n) s.applied refl) q d
    (λ j m y z r. (
      told settled.Disk j,
      told-abort j,
      ended-in opening h w (answered w (Doubt n)) b ds s.core s.told s.fates dep q d (sym number) refl settled.Disk x m
          (λ is can. absurd (leave-commit (w.manager.verdict x) is z)) j y r,
    ))
    v) [
      | inl o ↦ stopped-before h (answered w (Doubt n)) x (k x o)
      | inr o ↦ stopped-now h (answered w (Doubt n)) x o
    ]
aborts-after opening h w e w' c s dep same k = λ x v. stopped-before h (answered w e) x (k x v)
