-- Open batches, what they decide, and a batch in doubt.
use Rattle.std.proofs.Common.{◌≡◌, ℕ, ◌+◌, ◌<◌, ◌≤◌, List, [], ◌∷◌, ◌++◌, length, true, false, ◌⊎◌, inl, inr, refl, sym, ap, ◌∙◌, subst, arith, Option, Some, None}
use Rattle.std.proofs.lemmas.Bool.{and_parts, cond_both}
use Rattle.core_model.specs.CoreState.{UnitNo, put, Settled, Batch, Decision, CoreState}
use Rattle.core_model.specs.declared.phases.Phase.{Phase}
use Rattle.core_model.specs.declared.phases.Phase.TheVariants.{Running, Finished, Refused, Ended}
use Rattle.core_model.specs.declared.phases.Verdict.{Verdict}
use Rattle.core_model.specs.declared.phases.Verdict.TheVariants.{Open, Chosen, Condemned, Committed, Aborted}
use Rattle.core_model.specs.Tests.{is_final}
use Rattle.core_laws.proofs.Puts.{put-at, put-from, put-is, put-other}
use Rattle.std.proofs.Common.{take, length-take}
use Rattle.base_types.specs.declared.entries.Settled.TheVariants as settled
use Rattle.cell_model.specs.declared.outcomes.Decision.TheVariants as decision
use Rattle.core_model.specs.Tests.{members, waiting}
use Rattle.core_model.specs.SerialOrder.{batch_begin}
use Rattle.core_model.specs.Changes.{new_batch, new_unit, verdict_of, judged, decisions_of, with_decisions, closed, result_told, seal, spoil, leave, swept, swept_by}
use Rattle.core_model.specs.Events.{batch_size}
use Rattle.core_model.specs.Events.{applies, can, does, step, run, is_allowed}
use Rattle.core_model.specs.declared.events.CoreEvent.{CoreEvent}
use Rattle.core_model.specs.declared.events.CoreEvent.TheVariants.{Decide, Sealed, NotSealed}
use Rattle.core_laws.proofs.EventCases.{Change, bad, begin, lock, raise, refuse, finish, end_plain, end_snapshot, release, take_batch, vote, decide_some, decide_none, seal_batch, spoil_batch, doubt_batch, learn, emit, halt_run, want, load, decode}
use Rattle.core_laws.proofs.Orders.{free_prefix-length, in_part, judged-other}
use Rattle.core_laws.proofs.CommitOrder.{begin_of, no_doubt}
use Rattle.core_laws.proofs.LoadlessKept.{LoadlessKept, open-at, judged-at, decided-at, loadless-step}
use Rattle.core_laws.proofs.Loadless.{LoadlessAt}

-- an open batch has 1 to 64 units; who stands after the closed batches isn't decided for good; who stands in the batch in
-- doubt is to commit or aborted
abbrev pub Sized : CoreState → Type 0
Sized w = (b : Batch) → w.manager.batch ≡ Some b → (0 < b.size) × (b.size ≤ 64)

abbrev pub Later : CoreState → Type 0
Later w = (u : UnitNo) → w.units.phase u ≡ Finished → w.manager.closed < w.manager.place u → is_final (w.manager.verdict u) ≡ false

abbrev pub Doubtful : CoreState → Type 0
Doubtful w = (u : UnitNo) → w.units.phase u ≡ Finished → begin_of w < w.manager.place u → w.manager.place u ≤ w.manager.closed → (w.manager.verdict u ≡ Chosen) ⊎ (w.manager.verdict u ≡ Aborted)

abbrev pub Batched : CoreState → Type 0
Batched w = Sized w × Later w × Doubtful w

verdict_of-final : (d : Decision) → is_final (verdict_of d) ≡ false
verdict_of-final decision.Commit = refl
verdict_of-final (decision.Vote g) = refl
verdict_of-final (decision.Dependency u) = refl

pub judged-final : (us : List UnitNo) (ds : List Decision) (v : UnitNo → Verdict) (x : UnitNo) → is_final (v x) ≡ false → is_final (judged us ds v x) ≡ false
judged-final [] ds v x e = e
judged-final (u ∷ us) [] v x e = e
judged-final (u ∷ us) (d ∷ ds) v x e = judged-final us ds (put v u (verdict_of d)) x (put-at v u (verdict_of d) (λ t. is_final t ≡ false) x (λ q. verdict_of-final d) (λ q. e))

open_final : (v : Verdict) → v ≡ Open → is_final v ≡ false
open_final v e = ap is_final e

-- before a batch is decided no unit of it is decided, after it none is open
leave-cases : (v : Verdict) → is_final v ≡ false → (v ≡ Open → ⊥) → (leave v ≡ Chosen) ⊎ (leave v ≡ Aborted)
leave-cases Open e n = absurd (n refl)
leave-cases Chosen e n = inl refl
leave-cases Condemned e n = inr refl
leave-cases Committed e n = cc
leave-cases Aborted e n = cc

none-some : {A : Type 0} (o : Option A) (x y : A) → o ≡ None → o ≡ Some x → ⊥
none-some o x y n s = (let t : None ≡ Some x = sym n ∙ s in cc)

batched-closed : (w : CoreState) (f : Verdict → Verdict) (answer : UnitNo → Settled) (b : Batch) (ds : List Decision) → f Open ≡ Open →
    LoadlessAt (w.manager.closed + b.size) w → w.manager.doubt ≡ None → Batched (closed w f answer b ds)
batched-closed w f answer b ds still i none = (
  (λ c q. (let t : None ≡ Some c = q in cc)),
  (λ u p lt. open_final _ (ap f (i.late u p lt) ∙ still)),
  (λ u p lt le. absurd (omega (arith, lt, le, ap (λ o. batch_begin o (w.manager.closed + b.size)) none))),
)

batched-decided : (w : CoreState) (b : Batch) (ds : List Decision) → LoadlessKept w → w.manager.batch ≡ Some b → b.decisions ≡ None → Batched w → Batched (with_decisions w b ds)
batched-decided w b ds k q d s = (
  (λ c e. (let z : record b { decisions = Some ds } ≡ c = cc in
      let y = s.0 b q in subst (λ (t : Batch). (0 < t.size) × (t.size ≤ 64)) z y)),
  (λ u p lt. judged-final (members w b) ds w.manager.verdict u (s.1 u p lt)),
  (λ u p lt le. (let z = judged-other (members w b) ds w.manager.verdict u (λ m.
      (let t = in_part w.manager.closed w (open-at w b k q d) w.manager.closed b.size u m in omega (arith, t.1, le))) in
      elim (s.2 u p lt le) [ inl c ↦ inl (z ∙ c) | inr c ↦ inr (z ∙ c) ])),
)

-- a unit that isn't finished leaves the finished ones as they are
batched-phase : (w : CoreState) (u : UnitNo) (end : Phase) → (end ≡ Finished → ⊥) → Batched w → Batched (record w { units = record w.units { phase = put w.units.phase u end } })
batched-phase w u end n s = (
  s.0,
  (λ x. put-from w.units.phase u end (λ p. p ≡ Finished) (w.manager.closed < w.manager.place x → is_final (w.manager.verdict x) ≡ false) x (λ q f. absurd (n f)) (λ q f. s.1 x f)),
  (λ x. put-from w.units.phase u end (λ p. p ≡ Finished) (begin_of w < w.manager.place x → w.manager.place x ≤ w.manager.closed → (w.manager.verdict x ≡ Chosen) ⊎ (w.manager.verdict x ≡ Aborted)) x (λ q f. absurd (n f)) (λ q f. s.2 x f)),
)

pub batched-change : (w : CoreState) (e : CoreEvent) (w' : CoreState) → Change w e w' → applies w e ≡ true → LoadlessKept w → Batched w → Batched w'
batched-change w e w' (bad line why q) a k s = s
batched-change w e w' (begin origin call plain c) a k s = batched-phase w (new_unit w) Running (λ z. cc) s
batched-change w e w' (lock u g mode running free first here) a k s = s
batched-change w e w' (raise u g mode running free held here uncovered) a k s = s
batched-change w e w' (refuse u g mode why running q) a k s =
    (let t = batched-phase w u Refused (λ z. cc) s in
    let other : (x : UnitNo) → put w.units.phase u Refused x ≡ Finished → x ≡ u → ⊥ = λ x f z. (let y : Finished ≡ Refused = sym f ∙ put-is w.units.phase u Refused x z in cc) in (
      s.0,
      (λ x f lt. ap is_final (put-other w.manager.verdict u Aborted x (other x f)) ∙ t.1 x f lt),
      (λ x f lt le. (let z = put-other w.manager.verdict u Aborted x (other x f) in elim (t.2 x f lt le) [ inl c ↦ inl (z ∙ c) | inr c ↦ inr (z ∙ c) ])),
    ))
batched-change w e w' (finish u effect running plain of_call reads alone) a k s = (
  s.0,
  (λ x. put-from w.units.phase u Finished (λ p. p ≡ Finished) (w.manager.closed < put w.manager.place u (length w.manager.order + 1) x → is_final (w.manager.verdict x) ≡ false) x
      (λ z f lt. open_final _ (ap w.manager.verdict z ∙ k.0.undecided u (inr running)))
      (λ z f lt. s.1 x f (subst (λ m. w.manager.closed < m) (put-other w.manager.place u (length w.manager.order + 1) x z) lt))),
  (λ x. put-from w.units.phase u Finished (λ p. p ≡ Finished) (begin_of w < put w.manager.place u (length w.manager.order + 1) x → put w.manager.place u (length w.manager.order + 1) x ≤ w.manager.closed → (w.manager.verdict x ≡ Chosen) ⊎ (w.manager.verdict x ≡ Aborted)) x
      (λ z f lt le. absurd (omega (arith, put-is w.manager.place u (length w.manager.order + 1) x z, le, k.1)))
      (λ z f lt le. (let y = put-other w.manager.place u (length w.manager.order + 1) x z in s.2 x f (subst (λ m. begin_of w < m) y lt) (subst (λ m. m ≤ w.manager.closed) y le)))),
)
batched-change w e w' (end_plain u effect running plain of_call bare) a k s = batched-phase w u Ended (λ z. cc) s
batched-change w e w' (end_snapshot u at outcome running plain kids answer) a k s = batched-phase w u Ended (λ z. cc) s
batched-change w e w' (release u g over held) a k s = s
batched-change w e w' (take_batch none some) a k s = (
  (λ c z. (let y : new_batch w (batch_size w) ≡ c = cc in
      subst (λ (t : Batch). (0 < t.size) × (t.size ≤ 64)) y (some, omega (arith, free_prefix-length w (take 64 (waiting w)), length-take 64 (waiting w))))),
  s.1,
  s.2,
)
batched-change w e w' (vote n g kept b q number d planned fresh) a k s = (
  (λ c z. (let y : record b { votes = b.votes ++ (g, kept) ∷ [] } ≡ c = cc in subst (λ (t : Batch). (0 < t.size) × (t.size ≤ 64)) y (s.0 b q))),
  s.1,
  s.2,
)
batched-change w e w' (decide_some n b q number d voted some) a k s = batched-decided w b (decisions_of w b) k q d s
batched-change w e w' (decide_none n b q number d voted none) a k s =
    batched-closed (with_decisions w b (decisions_of w b)) seal (result_told (with_decisions w b (decisions_of w b))) b (decisions_of w b) refl (decided-at w b k q d) (no_doubt w (Decide n) a refl)
batched-change w e w' (seal_batch n b ds q number d) a k s = batched-closed w seal (result_told w) b ds refl (judged-at w b ds k q d) (no_doubt w (Sealed n) a refl)
batched-change w e w' (spoil_batch n b ds q number d) a k s = batched-closed w spoil (λ u. settled.Disk) b ds refl (judged-at w b ds k q d) (no_doubt w (NotSealed n) a refl)
batched-change w e w' (doubt_batch n b ds q number d) a k s =
    (let i = judged-at w b ds k q d in (
      (λ c z. (let t : None ≡ Some c = z in cc)),
      (λ u p lt. open_final _ (ap leave (i.late u p lt))),
      (λ u p lt le. leave-cases (w.manager.verdict u) (s.1 u p lt) (i.early u p le)),
    ))
batched-change w e w' (learn u g wrote final fresh) a k s = s
batched-change w e w' (emit q) a k s = s
batched-change w e w' (halt_run q) a k s = s
batched-change w e w' (want u g running free fresh) a k s = s
batched-change w e w' (load g u state gone wanted) a k s = s

swept-batched : (w : CoreState) → Batched w → Batched (swept w)
swept-batched w s = go w.cells.capacity
  where
    go : (c : Option ℕ) → Batched (swept_by w c)
    go None = s
    go (Some m) = s

pub batched-step : (w : CoreState) (e : CoreEvent) → LoadlessKept w → Batched w → Batched (step w e)
batched-step w e k s = cond_both (applies w e) (swept (does w e)) w Batched
    (λ a. (let c = decode w e (and_parts (is_allowed w e) (can w e) a).1 in
    swept-batched (does w e) (batched-change w e (does w e) c a k s)))
    (λ a. s)

pub batched-run : (es : List CoreEvent) (w : CoreState) → LoadlessKept w → Batched w → Batched (run w es)
batched-run [] w k s = s
batched-run (e ∷ es) w k s = batched-run es (step w e) (loadless-step w e k) (batched-step w e k s)
