-- Who is decided dead, by the state and by the history.
use Rattle.std.proofs.Common.{◌≡◌, ℕ, List, [], ◌∷◌, Bool, true, false, ◌⊎◌, inl, inr, refl, sym, ap, ◌∙◌, subst, Some, None}
use Rattle.std.specs.List.{list_any as any}
use Rattle.cell_model.specs.declared.outcomes.Decision.{Decision}
use Rattle.cell_model.specs.declared.outcomes.Decision.TheVariants as decision
use Rattle.cell_model.specs.Decisions.{is_commit}
use Rattle.cell_model.proofs.Units.{any-false}
use Rattle.core_model.specs.declared.events.CoreEvent.{CoreEvent}
use Rattle.core_model.specs.declared.events.CoreEvent.TheVariants.{Decide, Sealed, NotSealed, Doubt}
use Rattle.core_model.specs.declared.phases.Phase.TheVariants.{Running, Finished, Refused, Ended}
use Rattle.core_model.specs.declared.phases.Verdict.{Verdict}
use Rattle.core_model.specs.declared.phases.Verdict.TheVariants.{Open, Chosen, Condemned, Committed, Aborted}
use Rattle.core_model.specs.CoreState.{UnitNo, GrainId, Value, Write, Batch, CoreState, Member, put}
use Rattle.core_model.specs.Tests.{is_bad, is_good, is_final, members}
use Rattle.core_model.specs.Changes.{new_unit, decisions_of, judged, verdict_of, seal, spoil, leave}
use Rattle.core_laws.proofs.EventCases.{Change, begin, refuse, finish, end_plain, end_snapshot, release, emit, decide_some, decide_none, seal_batch, spoil_batch, doubt_batch}
use Rattle.core_laws.proofs.Puts.{put-from, put-other}
use Rattle.core_laws.proofs.Basics.{is_final-cases}
use Rattle.core_laws.proofs.Alive.{good-alive}
use Rattle.core_laws.proofs.Orders.{judged-other, in_part}
use Rattle.core_laws.proofs.KeptInvariant.{inv-open}
use Rattle.core_laws.proofs.Reasons.{Reasons, argued-decided}
use Rattle.core_laws.proofs.CommitOrder.{no_doubt}
use Rattle.core_laws.proofs.AbortCauses.{judged-aborted, decided-stops, ended-stops}
use Rattle.core_history.specs.Histories.{Applied, Happened}
use Rattle.core_history.specs.Batches.{InBatch}
use Rattle.core_history.specs.Fates.{IsDeadIn}
use Rattle.core_history.specs.GoneVersions.{BatchHasEnded, on_disk, not_on_disk, in_doubt, all_dead, IsDecidedDead}
use Rattle.core_history.proofs.Words.{more, reads-more, happened-before, happened-now, happened-cases}
use Rattle.core_history.proofs.RunHistory.{answered}
use Rattle.core_history.proofs.AnyEvents.{Tells}
use Rattle.core_history.proofs.BatchPlaces.{batch-before, open-batch, open-member}
use Rattle.core_history.proofs.Cores.{Core, chosen-undecided, member-judged}
use Rattle.core_history.proofs.Fates.{Step, FatesOf, dead-more, dead-by, decided-dead, decided-reason, old-batch}
use Rattle.core_laws.proofs.Verdicts.{member-or-not}
use Rattle.core_laws.proofs.Invariant.{loadless-of}

-- What the history tells of decided batches: who is aborted after its finish had a batch that has ended; in a batch in
-- doubt nobody is to abort any more; and in a decided one somebody is to abort only where somebody is to commit.
pub record Endings (h : List Applied) (w : CoreState) : Type 0 where
  pub aborted : (v : UnitNo) → w.units.phase v ≡ Finished → w.manager.verdict v ≡ Aborted → (n : ℕ) × InBatch h n v × BatchHasEnded h n
  pub doubted : (n : ℕ) → Happened h (Doubt n) → w.manager.doubt ≡ None → ⊥
  pub doubts : (n : ℕ) (v : UnitNo) → InBatch h n v → Happened h (Doubt n) → (is_final (w.manager.verdict v) ≡ true) ⊎ (w.manager.verdict v ≡ Chosen)
  pub decided : (n : ℕ) (v : UnitNo) → InBatch h n v → Happened h (Decide n) → w.manager.verdict v ≡ Open → ⊥
  pub condemned : (n : ℕ) (v : UnitNo) → InBatch h n v → Happened h (Decide n) → w.manager.verdict v ≡ Condemned → (x : UnitNo) × InBatch h n x × (w.manager.verdict x ≡ Chosen)

-- a batch that has ended has ended for good
ended-more : (opening : GrainId → List Value) (h : List Applied) (w : CoreState) (e : CoreEvent) (w' : CoreState) → Change w e w' → Step opening h w e w' → (n : ℕ) → BatchHasEnded h n → BatchHasEnded (more h (answered w e)) n
ended-more opening h w e w' c s n (on_disk m) = on_disk (happened-before h (answered w e) (Sealed n) m)
ended-more opening h w e w' c s n (not_on_disk m) = not_on_disk (happened-before h (answered w e) (NotSealed n) m)
ended-more opening h w e w' c s n (in_doubt m) = in_doubt (happened-before h (answered w e) (Doubt n) m)
ended-more opening h w e w' c s n (all_dead d f) =
    all_dead (happened-before h (answered w e) (Decide n) d) (λ u b. dead-more opening h w e w' c s u
    (f u (old-batch opening h w e w' s n u (Decide n) refl (λ q. cc) b (happened-before h (answered w e) (Decide n) d))))

-- a unit's batch, which has ended
abbrev Over : List Applied → UnitNo → Type 0
Over h v = (n : ℕ) × InBatch h n v × BatchHasEnded h n

over-more : (opening : GrainId → List Value) (h : List Applied) (w : CoreState) (e : CoreEvent) (w' : CoreState) → Change w e w' → Step opening h w e w' → (v : UnitNo) → Over h v → Over (more h (answered w e)) v
over-more opening h w e w' c s v t = (t.0, batch-before h (answered w e) t.0 v t.1, ended-more opening h w e w' c s t.0 t.2)

-- in a batch that is decided and closed at once all are dead
closed-dead : (opening : GrainId → List Value) (h : List Applied) (w : CoreState) (n : ℕ) (w' : CoreState) → Change w (Decide n) w' → Step opening h w (Decide n) w' → (b : Batch) → w.manager.batch ≡ Some b → b.number ≡ n → b.decisions ≡ None →
    any is_commit (decisions_of w b) ≡ false → (u : UnitNo) → InBatch (more h (answered w (Decide n))) n u → IsDeadIn (more h (answered w (Decide n))) u
closed-dead opening h w n w' c s b q number d none u i =
    let o = old-batch opening h w (Decide n) w' s n u (Decide n) refl (λ z. cc) i (happened-now h (answered w (Decide n))) in
    let t = decided-reason opening h w (Decide n) w' s b q d u (open-member h w b s.told q u (subst (λ k. InBatch h k u) (sym number) o)) in
    decided-dead opening h w n w' c s b q number d (λ x. s.told.reads x ∙ sym (reads-more x h (answered w (Decide n)))) u (ap is_bad t.2 ∙ to_abort t.0 (any-false is_commit (decisions_of w b) none t.0 t.1))
  where
    to_abort : (j : Decision) → is_commit j ≡ false → is_bad (verdict_of j) ≡ true
    to_abort decision.Commit z = cc
    to_abort (decision.Vote g) z = refl
    to_abort (decision.Dependency on) z = refl

-- who is aborted after an event
aborted-after : (opening : GrainId → List Value) (h : List Applied) (w : CoreState) (e : CoreEvent) (w' : CoreState) → Change w e w' → Step opening h w e w' → Endings h w → (v : UnitNo) → w'.units.phase v ≡ Finished → w'.manager.verdict v ≡ Aborted →
    Over (more h (answered w e)) v
aborted-after opening h w e w' (begin origin call plain ok) s k v =
    put-from w.units.phase (new_unit w) Running (λ p. p ≡ Finished) (w.manager.verdict v ≡ Aborted → Over (more h (answered w e)) v) v (λ z f. cc)
    (λ z f a. over-more opening h w e w' (begin origin call plain ok) s v (k.aborted v f a))
aborted-after opening h w e w' (refuse u g mode why running q) s k v =
    put-from w.units.phase u Refused (λ p. p ≡ Finished) (put w.manager.verdict u Aborted v ≡ Aborted → Over (more h (answered w e)) v) v (λ z f. cc)
    (λ z f a. over-more opening h w e w' (refuse u g mode why running q) s v (k.aborted v f (sym (put-other w.manager.verdict u Aborted v z) ∙ a)))
aborted-after opening h w e w' (finish u effect running plain of_call reads alone) s k v =
    put-from w.units.phase u Finished (λ p. p ≡ Finished) (w.manager.verdict v ≡ Aborted → Over (more h (answered w e)) v) v
    (λ z f a. (let y : Open ≡ Aborted = sym (ap w.manager.verdict z ∙ s.core.kept.0.undecided u (inr running)) ∙ a in cc))
    (λ z f a. over-more opening h w e w' (finish u effect running plain of_call reads alone) s v (k.aborted v f a))
aborted-after opening h w e w' (end_plain u effect running plain of_call bare) s k v =
    put-from w.units.phase u Ended (λ p. p ≡ Finished) (w.manager.verdict v ≡ Aborted → Over (more h (answered w e)) v) v (λ z f. cc)
    (λ z f a. over-more opening h w e w' (end_plain u effect running plain of_call bare) s v (k.aborted v f a))
aborted-after opening h w e w' (end_snapshot u at outcome running plain kids answer) s k v =
    put-from w.units.phase u Ended (λ p. p ≡ Finished) (w.manager.verdict v ≡ Aborted → Over (more h (answered w e)) v) v (λ z f. cc)
    (λ z f a. over-more opening h w e w' (end_snapshot u at outcome running plain kids answer) s v (k.aborted v f a))
aborted-after opening h w e w' (decide_some n b q number d voted some) s k v = λ f a.
    over-more opening h w (Decide n) w' (decide_some n b q number d voted some) s v (k.aborted v f (judged-aborted (members w b) (decisions_of w b) w.manager.verdict v a))
aborted-after opening h w e w' (decide_none n b q number d voted none) s k v = λ f a.
    (let c : Change w (Decide n) w' = decide_none n b q number d voted none in
    elim (decided-stops opening w b v (Over (more h (answered w (Decide n))) v) s.core.kept s.core.depends s.core.split s.core.turned (no_doubt w (Decide n) s.applied refl) q d
    (λ j m y z r. (
      n,
      batch-before h (answered w (Decide n)) n v (subst (λ i. InBatch h i v) number (open-batch h w b s.told q v m)),
      all_dead (happened-now h (answered w (Decide n))) (closed-dead opening h w n w' c s b q number d none),
    ))
    a) [ inl o ↦ over-more opening h w (Decide n) w' c s v (k.aborted v f o) | inr o ↦ o ])
aborted-after opening h w e w' (seal_batch n b ds q number d) s k v = λ f a.
    elim (ended-stops opening w seal b ds v (Over (more h (answered w (Sealed n))) v) refl refl s.core.kept s.core.argued s.core.split s.core.turned (no_doubt w (Sealed n) s.applied refl) q d
    (λ j m y z r. (n, batch-before h (answered w (Sealed n)) n v (subst (λ i. InBatch h i v) number (open-batch h w b s.told q v m)), on_disk (happened-now h (answered w (Sealed n)))))
    a) [ inl o ↦ over-more opening h w (Sealed n) w' (seal_batch n b ds q number d) s v (k.aborted v f o) | inr o ↦ o ]
aborted-after opening h w e w' (spoil_batch n b ds q number d) s k v = λ f a.
    elim (ended-stops opening w spoil b ds v (Over (more h (answered w (NotSealed n))) v) refl refl s.core.kept s.core.argued s.core.split s.core.turned (no_doubt w (NotSealed n) s.applied refl) q d
    (λ j m y z r. (n, batch-before h (answered w (NotSealed n)) n v (subst (λ i. InBatch h i v) number (open-batch h w b s.told q v m)), not_on_disk (happened-now h (answered w (NotSealed n)))))
    a) [ inl o ↦ over-more opening h w (NotSealed n) w' (spoil_batch n b ds q number d) s v (k.aborted v f o) | inr o ↦ o ]
aborted-after opening h w e w' (doubt_batch n b ds q number d) s k v = λ f a.
    elim (ended-stops opening w leave b ds v (Over (more h (answered w (Doubt n))) v) refl refl s.core.kept s.core.argued s.core.split s.core.turned (no_doubt w (Doubt n) s.applied refl) q d
    (λ j m y z r. (n, batch-before h (answered w (Doubt n)) n v (subst (λ i. InBatch h i v) number (open-batch h w b s.told q v m)), in_doubt (happened-now h (answered w (Doubt n)))))
    a) [ inl o ↦ over-more opening h w (Doubt n) w' (doubt_batch n b ds q number d) s v (k.aborted v f o) | inr o ↦ o ]
aborted-after opening h w e w' c s k v = λ f a. over-more opening h w e w' c s v (k.aborted v f a)

-- after a doubt there is one
doubted-after : (opening : GrainId → List Value) (h : List Applied) (w : CoreState) (e : CoreEvent) (w' : CoreState) → Change w e w' → Endings h w → (n : ℕ) → Happened (more h (answered w e)) (Doubt n) → w'.manager.doubt ≡ None → ⊥
doubted-after opening h w e w' (doubt_batch m b ds q number d) k n = λ x z. cc
doubted-after opening h w e w' c k n = λ x z. elim (happened-cases h (answered w e) (Doubt n) x) [ inl old ↦ k.doubted n old z | inr y ↦ cc ]

-- nobody of a batch in doubt is to abort
leave-cases : (v : Verdict) → (v ≡ Open → ⊥) → (is_final (leave v) ≡ true) ⊎ (leave v ≡ Chosen)
leave-cases Open n = absurd (n refl)
leave-cases Chosen n = inr refl
leave-cases Condemned n = inl refl
leave-cases Committed n = inl refl
leave-cases Aborted n = inl refl

doubts-old : (opening : GrainId → List Value) (h : List Applied) (w : CoreState) (e : CoreEvent) (w' : CoreState) → Change w e w' → Step opening h w e w' → Endings h w → (n : ℕ) (v : UnitNo) → InBatch h n v → Happened h (Doubt n) → (is_final (w'.manager.verdict v) ≡ true) ⊎ (w'.manager.verdict v ≡ Chosen)
doubts-old opening h w e w' (release u g over held) s k n v i m = k.doubts n v i m
doubts-old opening h w e w' (emit q) s k n v i m = k.doubts n v i m
doubts-old opening h w e w' c s k n v i m = absurd (k.doubted n m (no_doubt w e s.applied refl))

doubts-now : (opening : GrainId → List Value) (h : List Applied) (w : CoreState) (e : CoreEvent) (w' : CoreState) → Change w e w' → Step opening h w e w' → (n : ℕ) (v : UnitNo) → InBatch h n v → Doubt n ≡ e → (is_final (w'.manager.verdict v) ≡ true) ⊎ (w'.manager.verdict v ≡ Chosen)
doubts-now opening h w e w' (doubt_batch m b ds q number d) s n v i z =
    (let is : n ≡ b.number = (let y : n ≡ m = cc in y ∙ sym number) in
    leave-cases (w.manager.verdict v) (member-judged opening w b ds s.core q d v (open-member h w b s.told q v (subst (λ k. InBatch h k v) is i))).0)
doubts-now opening h w e w' c s n v i z = cc

doubts-after : (opening : GrainId → List Value) (h : List Applied) (w : CoreState) (e : CoreEvent) (w' : CoreState) → Change w e w' → Step opening h w e w' → Endings h w → (n : ℕ) (v : UnitNo) → InBatch (more h (answered w e)) n v → Happened (more h (answered w e)) (Doubt n) →
    (is_final (w'.manager.verdict v) ≡ true) ⊎ (w'.manager.verdict v ≡ Chosen)
doubts-after opening h w e w' c s k n v i m =
    let b = old-batch opening h w e w' s n v (Doubt n) refl (λ q. cc) i m in
    elim (happened-cases h (answered w e) (Doubt n) m) [
      | inl old ↦ doubts-old opening h w e w' c s k n v b old
      | inr q ↦ doubts-now opening h w e w' c s n v b q
    ]

-- what the ends of batches leave open, or to abort
seal-open : (v : Verdict) → seal v ≡ Open → v ≡ Open
seal-open Open e = refl
seal-open Chosen e = cc
seal-open Condemned e = cc
seal-open Committed e = cc
seal-open Aborted e = cc

spoil-open : (v : Verdict) → spoil v ≡ Open → v ≡ Open
spoil-open Open e = refl
spoil-open Chosen e = cc
spoil-open Condemned e = cc
spoil-open Committed e = cc
spoil-open Aborted e = cc

leave-open : (v : Verdict) → leave v ≡ Open → v ≡ Open
leave-open Open e = refl
leave-open Chosen e = cc
leave-open Condemned e = cc
leave-open Committed e = cc
leave-open Aborted e = cc

seal-condemned : (v : Verdict) → seal v ≡ Condemned → ⊥
seal-condemned Open e = cc
seal-condemned Chosen e = cc
seal-condemned Condemned e = cc
seal-condemned Committed e = cc
seal-condemned Aborted e = cc

spoil-condemned : (v : Verdict) → spoil v ≡ Condemned → ⊥
spoil-condemned Open e = cc
spoil-condemned Chosen e = cc
spoil-condemned Condemned e = cc
spoil-condemned Committed e = cc
spoil-condemned Aborted e = cc

leave-condemned : (v : Verdict) → leave v ≡ Condemned → ⊥
leave-condemned Open e = cc
leave-condemned Chosen e = cc
leave-condemned Condemned e = cc
leave-condemned Committed e = cc
leave-condemned Aborted e = cc

-- a decision leaves nobody open
verdict-open : (d : Decision) → verdict_of d ≡ Open → ⊥
verdict-open decision.Commit e = cc
verdict-open (decision.Vote g) e = cc
verdict-open (decision.Dependency on) e = cc

judged-open : (opening : GrainId → List Value) (h : List Applied) (w : CoreState) (e : CoreEvent) (w' : CoreState) → Step opening h w e w' → (b : Batch) → w.manager.batch ≡ Some b → b.decisions ≡ None → (x : UnitNo) → Member x (members w b) →
    judged (members w b) (decisions_of w b) w.manager.verdict x ≡ Open → ⊥
judged-open opening h w e w' s b q d x m z = (let t = decided-reason opening h w e w' s b q d x m in verdict-open t.0 (sym t.2 ∙ z))

-- who is decided stays so
decided-old : (opening : GrainId → List Value) (h : List Applied) (w : CoreState) (e : CoreEvent) (w' : CoreState) → Change w e w' → Step opening h w e w' → (v : UnitNo) → (w.manager.verdict v ≡ Open → ⊥) → w'.manager.verdict v ≡ Open → ⊥
decided-old opening h w e w' (refuse u g mode why running q) s v fixed = put-from w.manager.verdict u Aborted (λ z. z ≡ Open) ⊥ v (λ z y. cc) (λ z y. fixed y)
decided-old opening h w e w' (decide_some n b q number d voted some) s v fixed = λ z. elim (member-or-not v (members w b)) [
  | inl m ↦ judged-open opening h w (Decide n) w' s b q d v m z
  | inr m ↦ fixed (sym (judged-other (members w b) (decisions_of w b) w.manager.verdict v m) ∙ z)
]
decided-old opening h w e w' (decide_none n b q number d voted none) s v fixed = λ z.
    (let y = seal-open (judged (members w b) (decisions_of w b) w.manager.verdict v) z in
    elim (member-or-not v (members w b)) [
      | inl m ↦ judged-open opening h w (Decide n) w' s b q d v m y
      | inr m ↦ fixed (sym (judged-other (members w b) (decisions_of w b) w.manager.verdict v m) ∙ y)
    ])
decided-old opening h w e w' (seal_batch n b ds q number d) s v fixed = λ z. fixed (seal-open (w.manager.verdict v) z)
decided-old opening h w e w' (spoil_batch n b ds q number d) s v fixed = λ z. fixed (spoil-open (w.manager.verdict v) z)
decided-old opening h w e w' (doubt_batch n b ds q number d) s v fixed = λ z. fixed (leave-open (w.manager.verdict v) z)
decided-old opening h w e w' c s v fixed = fixed

decided-now : (opening : GrainId → List Value) (h : List Applied) (w : CoreState) (e : CoreEvent) (w' : CoreState) → Change w e w' → Step opening h w e w' → (n : ℕ) (v : UnitNo) → InBatch h n v → Decide n ≡ e → w'.manager.verdict v ≡ Open → ⊥
decided-now opening h w e w' (decide_some m b q number d voted some) s n v i z = λ y.
    (let is : n ≡ b.number = (let t : n ≡ m = cc in t ∙ sym number) in
    judged-open opening h w (Decide m) w' s b q d v (open-member h w b s.told q v (subst (λ k. InBatch h k v) is i)) y)
decided-now opening h w e w' (decide_none m b q number d voted none) s n v i z = λ y.
    (let is : n ≡ b.number = (let t : n ≡ m = cc in t ∙ sym number) in
    judged-open opening h w (Decide m) w' s b q d v (open-member h w b s.told q v (subst (λ k. InBatch h k v) is i)) (seal-open (judged (members w b) (decisions_of w b) w.manager.verdict v) y))
decided-now opening h w e w' c s n v i z = cc

decided-after : (opening : GrainId → List Value) (h : List Applied) (w : CoreState) (e : CoreEvent) (w' : CoreState) → Change w e w' → Step opening h w e w' → Endings h w → (n : ℕ) (v : UnitNo) → InBatch (more h (answered w e)) n v → Happened (more h (answered w e)) (Decide n) → w'.manager.verdict v ≡ Open → ⊥
decided-after opening h w e w' c s k n v i m =
    let b = old-batch opening h w e w' s n v (Decide n) refl (λ q. cc) i m in
    elim (happened-cases h (answered w e) (Decide n) m) [
      | inl old ↦ decided-old opening h w e w' c s v (k.decided n v b old)
      | inr q ↦ decided-now opening h w e w' c s n v b q
    ]

-- somebody of the batch is to commit
abbrev SomeCommits : List Applied → CoreState → ℕ → Type 0
SomeCommits h w n = (x : UnitNo) × InBatch h n x × (w.manager.verdict x ≡ Chosen)

-- a decision to commit has its unit
commit-unit : (votes : List (GrainId × Bool)) (writes : UnitNo → List Write) (deps : UnitNo → List UnitNo) (verdict : UnitNo → Verdict) (us : List UnitNo) (ds : List Decision) → Reasons votes writes deps verdict us ds → any is_commit ds ≡ true →
    (x : UnitNo) × Member x us × (verdict x ≡ Chosen)
commit-unit votes writes deps verdict [] [] r e = cc
commit-unit votes writes deps verdict [] (d ∷ ds) r e = absurd r
commit-unit votes writes deps verdict (u ∷ us) [] r e = absurd r
commit-unit votes writes deps verdict (u ∷ us) (decision.Commit ∷ ds) r e = (u, inl refl, r.0)
commit-unit votes writes deps verdict (u ∷ us) (decision.Vote g ∷ ds) r e = (let t = commit-unit votes writes deps verdict us ds r.2 e in (t.0, inr t.1, t.2))
commit-unit votes writes deps verdict (u ∷ us) (decision.Dependency on ∷ ds) r e = (let t = commit-unit votes writes deps verdict us ds r.2 e in (t.0, inr t.1, t.2))

condemned-old : (opening : GrainId → List Value) (h : List Applied) (w : CoreState) (e : CoreEvent) (w' : CoreState) → Change w e w' → Step opening h w e w' → Endings h w → (n : ℕ) (v : UnitNo) → InBatch h n v → Happened h (Decide n) → w'.manager.verdict v ≡ Condemned →
    SomeCommits (more h (answered w e)) w' n
condemned-old opening h w e w' (refuse u g mode why running q) s k n v i m =
    put-from w.manager.verdict u Aborted (λ z. z ≡ Condemned) (SomeCommits (more h (answered w e)) w' n) v (λ z y. cc)
    (λ z y. (let t = k.condemned n v i m y in
    (t.0, batch-before h (answered w e) n t.0 t.1, put-other w.manager.verdict u Aborted t.0 (λ p. (let x : Open ≡ Chosen = sym (ap w.manager.verdict p ∙ s.core.kept.0.undecided u (inr running)) ∙ t.2 in cc)) ∙ t.2)))
condemned-old opening h w e w' (decide_some j b q number d voted some) s k n v i m = λ z. elim (member-or-not v (members w b)) [
  | inl y ↦ (let p = inv-open opening w b s.core.kept q d in
      let t = in_part w.manager.closed w (loadless-of opening _ w p) w.manager.closed b.size v y in
      absurd (k.decided n v i m (p.late v t.0 t.1)))
  | inr y ↦ (let t = k.condemned n v i m (sym (judged-other (members w b) (decisions_of w b) w.manager.verdict v y) ∙ z) in
      absurd (chosen-undecided opening w b s.core (no_doubt w (Decide j) s.applied refl) q d t.0 t.2))
]
condemned-old opening h w e w' (decide_none j b q number d voted none) s k n v i m = λ z. absurd (seal-condemned (judged (members w b) (decisions_of w b) w.manager.verdict v) z)
condemned-old opening h w e w' (seal_batch j b ds q number d) s k n v i m = λ z. absurd (seal-condemned (w.manager.verdict v) z)
condemned-old opening h w e w' (spoil_batch j b ds q number d) s k n v i m = λ z. absurd (spoil-condemned (w.manager.verdict v) z)
condemned-old opening h w e w' (doubt_batch j b ds q number d) s k n v i m = λ z. absurd (leave-condemned (w.manager.verdict v) z)
condemned-old opening h w e w' c s k n v i m = λ z. (let t = k.condemned n v i m z in (t.0, batch-before h (answered w e) n t.0 t.1, t.2))

condemned-now : (opening : GrainId → List Value) (h : List Applied) (w : CoreState) (e : CoreEvent) (w' : CoreState) → Change w e w' → Step opening h w e w' → (n : ℕ) (v : UnitNo) → Decide n ≡ e → w'.manager.verdict v ≡ Condemned → SomeCommits (more h (answered w e)) w' n
condemned-now opening h w e w' (decide_some m b q number d voted some) s n v z = λ y.
    (let is : b.number ≡ n = (let t : n ≡ m = cc in number ∙ sym t) in
    let t = commit-unit b.votes w.manager.writes w.units.deps (judged (members w b) (decisions_of w b) w.manager.verdict) (members w b) (decisions_of w b) (argued-decided opening w b s.core.kept s.core.depends q d) some in
    (t.0, batch-before h (answered w (Decide m)) n t.0 (subst (λ i. InBatch h i t.0) is (open-batch h w b s.told q t.0 t.1)), t.2))
condemned-now opening h w e w' (decide_none m b q number d voted none) s n v z = λ y. absurd (seal-condemned (judged (members w b) (decisions_of w b) w.manager.verdict v) y)
condemned-now opening h w e w' c s n v z = cc

condemned-after : (opening : GrainId → List Value) (h : List Applied) (w : CoreState) (e : CoreEvent) (w' : CoreState) → Change w e w' → Step opening h w e w' → Endings h w → (n : ℕ) (v : UnitNo) → InBatch (more h (answered w e)) n v → Happened (more h (answered w e)) (Decide n) →
    w'.manager.verdict v ≡ Condemned → SomeCommits (more h (answered w e)) w' n
condemned-after opening h w e w' c s k n v i m =
    let b = old-batch opening h w e w' s n v (Decide n) refl (λ q. cc) i m in
    elim (happened-cases h (answered w e) (Decide n) m) [
      | inl old ↦ condemned-old opening h w e w' c s k n v b old
      | inr q ↦ condemned-now opening h w e w' c s n v q
    ]

-- all that after an event
pub endings-after : (opening : GrainId → List Value) (h : List Applied) (w : CoreState) (e : CoreEvent) (w' : CoreState) → Change w e w' → Step opening h w e w' → Endings h w → Endings (more h (answered w e)) w'
endings-after opening h w e w' c s k = record {
  aborted = aborted-after opening h w e w' c s k;
  doubted = doubted-after opening h w e w' c k;
  doubts = doubts-after opening h w e w' c s k;
  decided = decided-after opening h w e w' c s k;
  condemned = condemned-after opening h w e w' c s k;
}

-- a finished unit that is aborted is decided dead by the history
pub decided-dead-in : (h : List Applied) (w : CoreState) → FatesOf h w → Endings h w → (v : UnitNo) → w.units.phase v ≡ Finished → w.manager.verdict v ≡ Aborted → IsDecidedDead h v
decided-dead-in h w f k v fin a = (let t = k.aborted v fin a in record { dead = f.dies v (ap is_bad a); batch = t.0; within = t.1; ended = t.2 })

-- and the other way round
pub decided-dead-by : (opening : GrainId → List Value) (h : List Applied) (w : CoreState) → Core opening w → Tells h w → FatesOf h w → Endings h w → (v : UnitNo) → IsDecidedDead h v → w.manager.verdict v ≡ Aborted
decided-dead-by opening h w c t f k v x = go x.ended
  where
    alive : (u : UnitNo) → is_good (w.manager.verdict u) ≡ true → IsDeadIn h u → ⊥
    alive u good dead = good-alive opening _ w c.kept.0 u good (dead-by h w t f u dead)

    final : is_final (w.manager.verdict v) ≡ true → w.manager.verdict v ≡ Aborted
    final e = elim (is_final-cases (w.manager.verdict v) e) [
      | inl y ↦ absurd (alive v (ap is_good y) x.dead)
      | inr y ↦ y
    ]

    from : (y : Verdict) → w.manager.verdict v ≡ y → (y ≡ Open → ⊥) → (y ≡ Condemned → ⊥) → w.manager.verdict v ≡ Aborted
    from Open q a b = absurd (a refl)
    from Chosen q a b = absurd (alive v (ap is_good q) x.dead)
    from Condemned q a b = absurd (b refl)
    from Committed q a b = absurd (alive v (ap is_good q) x.dead)
    from Aborted q a b = q

    go : BatchHasEnded h x.batch → w.manager.verdict v ≡ Aborted
    go (on_disk m) = final (f.ends x.batch v x.within m)
    go (not_on_disk m) = f.spoils x.batch v x.within m
    go (in_doubt m) = elim (k.doubts x.batch v x.within m) [ inl e ↦ final e | inr e ↦ absurd (alive v (ap is_good e) x.dead) ]
    go (all_dead m all) = from (w.manager.verdict v) refl (k.decided x.batch v x.within m)
        (λ q. (let y = k.condemned x.batch v x.within m q in alive y.0 (ap is_good y.2) (all y.0 y.1)))
