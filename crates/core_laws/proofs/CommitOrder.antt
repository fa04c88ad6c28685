-- The units to commit stand after all committed units.
use Rattle.std.proofs.Common.{◌≡◌, ℕ, ◌+◌, ◌<◌, ◌≤◌, List, [], ◌∷◌, ◌++◌, length, Bool, true, false, ◌||◌, inl, inr, refl, sym, ap, ◌∙◌, subst, arith, Option, Some, None}
use Rattle.std.specs.Prelude.{if◌then◌else◌}
use Rattle.std.proofs.lemmas.Bool.{and_parts, cond_both}
use Rattle.core_model.specs.CoreState.{UnitNo, put, Member, Settled, Batch, Decision, CoreState}
use Rattle.core_model.specs.declared.phases.Phase.TheVariants.{Running, Finished, Refused, Ended}
use Rattle.core_model.specs.declared.phases.Verdict.{Verdict}
use Rattle.core_model.specs.declared.phases.Verdict.TheVariants.{Open, Chosen, Condemned, Committed, Aborted}
use Rattle.core_model.specs.Tests.{is_good, is_committed, is_final}
use Rattle.core_laws.proofs.Puts.{put-at, put-from, put-is, put-other}
use Rattle.std.proofs.Common.{map, filter, take, drop, append-nil, take-append-drop, is_none}
use Rattle.std.proofs.lemmas.List.Elements.{filter-append}
use Rattle.core_model.specs.Tests.{members}
use Rattle.core_model.specs.Changes.{new_unit, verdict_of, judged, decisions_of, with_decisions, closed, result_told, seal, spoil, leave, swept, swept_by}
use Rattle.core_model.specs.Events.{applies, can, does, step, run, is_allowed, is_after_doubt}
use Rattle.core_model.specs.declared.events.CoreEvent.{CoreEvent}
use Rattle.core_model.specs.declared.events.CoreEvent.TheVariants.{Decide, Sealed, NotSealed, Doubt}
use Rattle.core_model.specs.Answers.{effect_of}
use Rattle.core_model.specs.SerialOrder.{committed, chosen, batch_begin}
use Rattle.core_laws.proofs.Orders.{in_drop, in_take, in_part, judged-other}
use Rattle.core_laws.proofs.EventCases.{Change, bad, begin, lock, raise, refuse, finish, end_plain, end_snapshot, release, take_batch, vote, decide_some, decide_none, seal_batch, spoil_batch, doubt_batch, learn, emit, halt_run, want, load, decode}
use Rattle.base_types.specs.declared.entries.Settled.TheVariants as settled
use Rattle.cell_model.specs.declared.outcomes.Decision.TheVariants as decision
use Rattle.core_laws.proofs.LoadlessKept.{LoadlessKept, open-at, judged-at, decided-at, loadless-change, loadless-step}
use Rattle.core_laws.proofs.Loadless.{LoadlessAt}

-- where the batch that is open or in doubt begins
abbrev pub begin_of : CoreState → ℕ
begin_of w = batch_begin w.manager.doubt w.manager.closed

-- what stands before is decided for good, and nothing after it is committed
abbrev pub Split : CoreState → Type 0
Split w =
    ((u : UnitNo) → w.units.phase u ≡ Finished → w.manager.place u ≤ begin_of w → is_final (w.manager.verdict u) ≡ true)
    × ((u : UnitNo) → w.units.phase u ≡ Finished → begin_of w < w.manager.place u → w.manager.verdict u ≡ Committed → ⊥)
    × (begin_of w ≤ w.manager.closed)

-- no batch is in doubt where an event applies that isn't one of those after a doubt
pub no_doubt : (w : CoreState) (e : CoreEvent) → applies w e ≡ true → is_after_doubt e ≡ false → w.manager.doubt ≡ None
no_doubt w e a n = go w.manager.doubt refl
  where
    go : (o : Option ℕ) → w.manager.doubt ≡ o → w.manager.doubt ≡ None
    go None q = q
    go (Some d) q =
        let p = and_parts (is_none w.manager.doubt || is_after_doubt e) _ (and_parts (is_allowed w e) (can w e) a).0 in
        let z : true ≡ false = sym p.0 ∙ ap (λ o. is_none o || is_after_doubt e) q ∙ n in cc

verdict_of-committed : (d : Decision) → verdict_of d ≡ Committed → ⊥
verdict_of-committed decision.Commit e = cc
verdict_of-committed (decision.Vote g) e = cc
verdict_of-committed (decision.Dependency u) e = cc

judged-committed : (us : List UnitNo) (ds : List Decision) (v : UnitNo → Verdict) (x : UnitNo) → judged us ds v x ≡ Committed → v x ≡ Committed
judged-committed [] ds v x e = e
judged-committed (u ∷ us) [] v x e = e
judged-committed (u ∷ us) (d ∷ ds) v x e =
    put-from v u (verdict_of d) (λ t. t ≡ Committed) (v x ≡ Committed) x
    (λ q h. absurd (verdict_of-committed d h)) (λ q h. h)
    (judged-committed us ds (put v u (verdict_of d)) x e)

pub seal-final : (v : Verdict) → (v ≡ Open → ⊥) → is_final (seal v) ≡ true
seal-final Open n = absurd (n refl)
seal-final Chosen n = refl
seal-final Condemned n = refl
seal-final Committed n = refl
seal-final Aborted n = refl

pub spoil-final : (v : Verdict) → (v ≡ Open → ⊥) → is_final (spoil v) ≡ true
spoil-final Open n = absurd (n refl)
spoil-final Chosen n = refl
spoil-final Condemned n = refl
spoil-final Committed n = refl
spoil-final Aborted n = refl

leave-final : (v : Verdict) → is_final v ≡ true → is_final (leave v) ≡ true
leave-final Open e = cc
leave-final Chosen e = cc
leave-final Condemned e = refl
leave-final Committed e = refl
leave-final Aborted e = refl

pub leave-committed : (v : Verdict) → leave v ≡ Committed → v ≡ Committed
leave-committed Open e = cc
leave-committed Chosen e = cc
leave-committed Condemned e = cc
leave-committed Committed e = refl
leave-committed Aborted e = cc

-- where no batch is in doubt, it begins after the closed ones
at_closed : (w : CoreState) → w.manager.doubt ≡ None → begin_of w ≡ w.manager.closed
at_closed w q = ap (λ o. batch_begin o w.manager.closed) q

split-closed : (w : CoreState) (f : Verdict → Verdict) (answer : UnitNo → Settled) (b : Batch) (ds : List Decision) →
    ((v : Verdict) → (v ≡ Open → ⊥) → is_final (f v) ≡ true) → f Open ≡ Open → LoadlessAt (w.manager.closed + b.size) w → w.manager.doubt ≡ None → Split (closed w f answer b ds)
split-closed w f answer b ds final still i none =
    let e : batch_begin w.manager.doubt (w.manager.closed + b.size) ≡ w.manager.closed + b.size = ap (λ o. batch_begin o (w.manager.closed + b.size)) none in (
      (λ u p le. final _ (i.early u p (subst (λ z. w.manager.place u ≤ z) e le))),
      (λ u p lt q. (let t : Open ≡ Committed = sym (ap f (i.late u p (subst (λ z. z < w.manager.place u) e lt)) ∙ still) ∙ q in cc)),
      omega (arith, e),
    )

split-decided : (w : CoreState) (b : Batch) (ds : List Decision) → LoadlessKept w → w.manager.batch ≡ Some b → b.decisions ≡ None → w.manager.doubt ≡ None → Split w → Split (with_decisions w b ds)
split-decided w b ds k q d none s = (
  (λ u f le. ap is_final (judged-other (members w b) ds w.manager.verdict u (λ m.
      (let t = in_part w.manager.closed w (open-at w b k q d) w.manager.closed b.size u m in
      omega (arith, t.1, le, at_closed w none)))) ∙ s.0 u f le),
  (λ u f lt c. s.1 u f lt (judged-committed (members w b) ds w.manager.verdict u c)),
  s.2,
)

pub split-change : (w : CoreState) (e : CoreEvent) (w' : CoreState) → Change w e w' → applies w e ≡ true → LoadlessKept w → LoadlessKept w' → Split w → Split w'
split-change w e w' (bad line why q) a k k' s = s
split-change w e w' (begin origin call plain c) a k k' s = (
  (λ u. put-at w.units.phase (new_unit w) Running (λ p. p ≡ Finished → w.manager.place u ≤ begin_of w → is_final (w.manager.verdict u) ≡ true) u (λ e f. cc) (λ e. s.0 u)),
  (λ u. put-at w.units.phase (new_unit w) Running (λ p. p ≡ Finished → begin_of w < w.manager.place u → w.manager.verdict u ≡ Committed → ⊥) u (λ e f. cc) (λ e. s.1 u)),
  s.2,
)
split-change w e w' (lock u g mode running free first here) a k k' s = s
split-change w e w' (raise u g mode running free held here uncovered) a k k' s = s
split-change w e w' (refuse u g mode why running q) a k k' s = (
  (λ x. put-from w.units.phase u Refused (λ p. p ≡ Finished) (w.manager.place x ≤ begin_of w → is_final (put w.manager.verdict u Aborted x) ≡ true) x (λ q f. cc) (λ q f le. ap is_final (put-other w.manager.verdict u Aborted x q) ∙ s.0 x f le)),
  (λ x. put-from w.units.phase u Refused (λ p. p ≡ Finished) (begin_of w < w.manager.place x → put w.manager.verdict u Aborted x ≡ Committed → ⊥) x (λ q f. cc) (λ q f lt c. s.1 x f lt (sym (put-other w.manager.verdict u Aborted x q) ∙ c))),
  s.2,
)
split-change w e w' (finish u effect running plain of_call reads alone) a k k' s =
    let early : begin_of w < length w.manager.order + 1 = omega (arith, k.1, s.2) in (
      (λ x. put-from w.units.phase u Finished (λ p. p ≡ Finished) (put w.manager.place u (length w.manager.order + 1) x ≤ begin_of w → is_final (w.manager.verdict x) ≡ true) x
          (λ q f le. absurd (omega (arith, early, put-is w.manager.place u (length w.manager.order + 1) x q, le)))
          (λ q f le. s.0 x f (subst (λ z. z ≤ begin_of w) (put-other w.manager.place u (length w.manager.order + 1) x q) le))),
      (λ x. put-from w.units.phase u Finished (λ p. p ≡ Finished) (begin_of w < put w.manager.place u (length w.manager.order + 1) x → w.manager.verdict x ≡ Committed → ⊥) x
          (λ q f lt c. (let t : Open ≡ Committed = sym (ap w.manager.verdict q ∙ k.0.undecided u (inr running)) ∙ c in cc))
          (λ q f lt c. s.1 x f (subst (λ z. begin_of w < z) (put-other w.manager.place u (length w.manager.order + 1) x q) lt) c)),
      s.2,
    )
split-change w e w' (end_plain u effect running plain of_call bare) a k k' s = split-ended w u s
  where
    split-ended : (w : CoreState) (u : UnitNo) → Split w → Split (record w { units = record w.units { phase = put w.units.phase u Ended } })
    split-ended w u s = (
      (λ x. put-from w.units.phase u Ended (λ p. p ≡ Finished) (w.manager.place x ≤ begin_of w → is_final (w.manager.verdict x) ≡ true) x (λ q f. cc) (λ q f. s.0 x f)),
      (λ x. put-from w.units.phase u Ended (λ p. p ≡ Finished) (begin_of w < w.manager.place x → w.manager.verdict x ≡ Committed → ⊥) x (λ q f. cc) (λ q f. s.1 x f)),
      s.2,
    )
split-change w e w' (end_snapshot u at outcome running plain kids answer) a k k' s = (
  (λ x. put-from w.units.phase u Ended (λ p. p ≡ Finished) (w.manager.place x ≤ begin_of w → is_final (w.manager.verdict x) ≡ true) x (λ q f. cc) (λ q f. s.0 x f)),
  (λ x. put-from w.units.phase u Ended (λ p. p ≡ Finished) (begin_of w < w.manager.place x → w.manager.verdict x ≡ Committed → ⊥) x (λ q f. cc) (λ q f. s.1 x f)),
  s.2,
)
split-change w e w' (release u g over held) a k k' s = s
split-change w e w' (take_batch none some) a k k' s = s
split-change w e w' (vote n g kept b q number d planned fresh) a k k' s = s
split-change w e w' (decide_some n b q number d voted some) a k k' s =
    split-decided w b (decisions_of w b) k q d (no_doubt w (Decide n) a refl) s
split-change w e w' (decide_none n b q number d voted none) a k k' s =
    split-closed (with_decisions w b (decisions_of w b)) seal (result_told (with_decisions w b (decisions_of w b))) b (decisions_of w b) seal-final refl (decided-at w b k q d) (no_doubt w (Decide n) a refl)
split-change w e w' (seal_batch n b ds q number d) a k k' s =
    split-closed w seal (result_told w) b ds seal-final refl (judged-at w b ds k q d) (no_doubt w (Sealed n) a refl)
split-change w e w' (spoil_batch n b ds q number d) a k k' s =
    split-closed w spoil (λ u. settled.Disk) b ds spoil-final refl (judged-at w b ds k q d) (no_doubt w (NotSealed n) a refl)
split-change w e w' (doubt_batch n b ds q number d) a k k' s =
    let none = at_closed w (no_doubt w (Doubt n) a refl) in (
      (λ u f le. leave-final _ (s.0 u f (subst (λ z. w.manager.place u ≤ z) (sym none) le))),
      (λ u f lt c. s.1 u f (subst (λ z. z < w.manager.place u) (sym none) lt) (leave-committed _ c)),
      omega arith,
    )
split-change w e w' (learn u g wrote final fresh) a k k' s = s
split-change w e w' (emit q) a k k' s = s
split-change w e w' (halt_run q) a k k' s = s
split-change w e w' (want u g running free fresh) a k k' s = s
split-change w e w' (load g u state gone wanted) a k k' s = s

swept-split : (w : CoreState) → Split w → Split (swept w)
swept-split w s = go w.cells.capacity
  where
    go : (c : Option ℕ) → Split (swept_by w c)
    go None = s
    go (Some m) = s

pub split-step : (w : CoreState) (e : CoreEvent) → LoadlessKept w → Split w → Split (step w e)
split-step w e k s = cond_both (applies w e) (swept (does w e)) w Split
    (λ a. (let c = decode w e (and_parts (is_allowed w e) (can w e) a).1 in
    swept-split (does w e) (split-change w e (does w e) c a k (loadless-change w e (does w e) c a k) s)))
    (λ a. s)

pub split-run : (es : List CoreEvent) (w : CoreState) → LoadlessKept w → Split w → Split (run w es)
split-run [] w k s = s
split-run (e ∷ es) w k s = split-run es (step w e) (loadless-step w e k) (split-step w e k s)

filter-same : (p q : UnitNo → Bool) (xs : List UnitNo) → ((x : UnitNo) → Member x xs → p x ≡ q x) → filter p xs ≡ filter q xs
filter-same p q [] h = refl
filter-same p q (x ∷ xs) h =
    (λ i. if h x (inl refl) i then x ∷ filter-same p q xs (λ y m. h y (inr m)) i else filter-same p q xs (λ y m. h y (inr m)) i)

filter-none : (p : UnitNo → Bool) (xs : List UnitNo) → ((x : UnitNo) → Member x xs → p x ≡ false) → filter p xs ≡ []
filter-none p [] h = refl
filter-none p (x ∷ xs) h = (λ i. if h x (inl refl) i then x ∷ filter p xs else filter p xs) ∙ filter-none p xs (λ y m. h y (inr m))

good_final : (v : Verdict) → is_final v ≡ true → is_good v ≡ is_committed v
good_final Open e = cc
good_final Chosen e = cc
good_final Condemned e = cc
good_final Committed e = refl
good_final Aborted e = refl

not_committed : (v : Verdict) → (v ≡ Committed → ⊥) → is_committed v ≡ false
not_committed Open n = refl
not_committed Chosen n = refl
not_committed Condemned n = refl
not_committed Committed n = absurd (n refl)
not_committed Aborted n = refl

map-append : (w : CoreState) (xs ys : List UnitNo) → map (effect_of w) (xs ++ ys) ≡ map (effect_of w) xs ++ map (effect_of w) ys
map-append w [] ys = refl
map-append w (x ∷ xs) ys = ap (λ t. effect_of w x ∷ t) (map-append w xs ys)

-- the committed units, and after them those to commit
pub split-order : (w : CoreState) → LoadlessKept w → Split w →
    map (effect_of w) (filter (λ u. is_good (w.manager.verdict u)) w.manager.order) ≡ committed w ++ chosen w
split-order w k s =
    ap (map (effect_of w)) order ∙ map-append w _ _
  where
    n : ℕ
    n = begin_of w

    good : UnitNo → Bool
    good u = is_good (w.manager.verdict u)

    sure : UnitNo → Bool
    sure u = is_committed (w.manager.verdict u)

    within : n ≤ length w.manager.order
    within = omega (arith, k.1, s.2)

    parts : take n w.manager.order ++ drop n w.manager.order ≡ w.manager.order
    parts = take-append-drop n w.manager.order

    first : filter good (take n w.manager.order) ≡ filter sure (take n w.manager.order)
    first = filter-same good sure (take n w.manager.order) (λ x m. (let t = in_take _ w k.0 n x m within in good_final _ (s.0 x t.0 t.1)))

    none : filter sure (drop n w.manager.order) ≡ []
    none = filter-none sure (drop n w.manager.order) (λ x m. (let t = in_drop _ w k.0 n x m in not_committed _ (s.1 x t.0 t.1)))

    whole : filter sure w.manager.order ≡ filter sure (take n w.manager.order)
    whole = ap (filter sure) (sym parts) ∙ filter-append sure (take n w.manager.order) (drop n w.manager.order) ∙ ap (λ t. filter sure (take n w.manager.order) ++ t) none ∙ append-nil _

    order : filter good w.manager.order ≡ filter sure w.manager.order ++ filter good (drop n w.manager.order)
    order = ap (filter good) (sym parts) ∙ filter-append good (take n w.manager.order) (drop n w.manager.order) ∙ ap (λ t. t ++ filter good (drop n w.manager.order)) (first ∙ sym whole)
