-- What is committed by each event.
use Rattle.std.proofs.Common.{◌≡◌, ℕ, zero, suc, ◌+◌, ◌<◌, List, [], ◌∷◌, ◌++◌, drop, map, filter, Bool, true, false, ◌||◌, inl, inr, refl, sym, ap, ◌∙◌, subst, arith, Option, Some, None, is_some, is_none, append-nil, take-append-drop}
use Rattle.std.specs.Prelude.{◌==◌, if◌then◌else◌}
use Rattle.std.proofs.lemmas.Bool.{and_parts, cond_both, or_parts}
use Rattle.std.proofs.lemmas.List.Elements.{filter-append}
use Rattle.cell_model.proofs.Units.{filter-member}
use Rattle.cell_model.specs.Decisions.{is_commit}
use Rattle.cell_model.specs.declared.outcomes.Decision.{Decision}
use Rattle.cell_model.specs.declared.outcomes.Decision.TheVariants as decision
use Rattle.core_model.specs.CoreState.{UnitNo, GrainId, put, put_grain, top, Member, Value, Batch, CoreState}
use Rattle.core_model.specs.declared.effects.Effect.{Effect}
use Rattle.core_model.specs.declared.events.CoreEvent.{CoreEvent}
use Rattle.core_model.specs.declared.events.CoreEvent.TheVariants.{Sealed, Decide, Doubt}
use Rattle.core_model.specs.declared.phases.Phase.TheVariants.{Unborn, Running, Finished}
use Rattle.core_model.specs.declared.phases.Verdict.{Verdict}
use Rattle.core_model.specs.declared.phases.Verdict.TheVariants.{Open, Chosen, Condemned, Committed, Aborted}
use Rattle.core_model.specs.Answers.{effect_of}
use Rattle.core_model.specs.Changes.{cleaned, new_unit, read_of, decisions_of, in_doubt, judged, on_decided, on_decisions, verdict_of, seal, spoil, leave, swept, swept_by}
use Rattle.core_model.specs.Events.{applies, can, does, step, run, is_after_doubt, is_allowed, is_judged}
use Rattle.core_model.specs.Laws.{extended}
use Rattle.core_model.specs.LegalRuns.{Run, ends}
use Rattle.core_model.specs.SerialOrder.{batch_begin, committed, chosen}
use Rattle.core_model.specs.Settler.{to_commit}
use Rattle.core_model.specs.Tests.{any, is_committed, is_good, members, waiting}
use Rattle.core_model.specs.ToldOutcomes.{IsSteady, OnlyTheBatchIsJudged}
use Rattle.core_laws.proofs.EventCases.{Change, bad, begin, lock, raise, refuse, finish, end_plain, end_snapshot, release, take_batch, vote, decide_some, decide_none, seal_batch, spoil_batch, doubt_batch, learn, emit, halt_run, want, load, decode}
use Rattle.core_laws.proofs.Orders.{Member-at, in_drop, judged-other, members-open}
use Rattle.core_laws.proofs.Puts.{put-from, put-other}
use Rattle.core_laws.proofs.LoadlessLaws.{holds-ends}
use Rattle.core_laws.proofs.CommitOrder.{Split, no_doubt, split-order}
use Rattle.core_laws.proofs.Verdicts.{member-or-not}
use Rattle.promise_spec.specs.Causes.{is_sealed}
use Rattle.settler_rules.specs.CommittedUnits.{KeepsDoubt}
use Rattle.settler_rules.proofs.StandingVotes.{ends-more}
use Rattle.core_laws.proofs.LoadlessKept.{LoadlessKept, loadless-ends, open-at, judged-at}
use Rattle.core_laws.proofs.LoadlessRuns.{split-ends}
use Rattle.core_laws.proofs.SettlerSteps.{shows-chosen}

-- ---- verdicts

seal-good : (v : Verdict) → is_committed (seal v) ≡ is_good v
seal-good Open = refl
seal-good Chosen = refl
seal-good Condemned = refl
seal-good Committed = refl
seal-good Aborted = refl

spoil-same : (v : Verdict) → is_committed (spoil v) ≡ is_committed v
spoil-same Open = refl
spoil-same Chosen = refl
spoil-same Condemned = refl
spoil-same Committed = refl
spoil-same Aborted = refl

leave-good : (v : Verdict) → is_good (leave v) ≡ is_good v
leave-good Open = refl
leave-good Chosen = refl
leave-good Condemned = refl
leave-good Committed = refl
leave-good Aborted = refl

leave-same : (v : Verdict) → is_committed (leave v) ≡ is_committed v
leave-same Open = refl
leave-same Chosen = refl
leave-same Condemned = refl
leave-same Committed = refl
leave-same Aborted = refl

-- one that is no more than decided to abort
no-commit : (v : Verdict) → (v ≡ Committed → ⊥) → is_committed v ≡ false
no-commit Open n = refl
no-commit Chosen n = refl
no-commit Condemned n = refl
no-commit Committed n = absurd (n refl)
no-commit Aborted n = refl

seal-steady : (v : Verdict) → IsSteady v → is_committed (seal v) ≡ is_committed v
seal-steady Open s = refl
seal-steady Chosen (inl q) = absurd cc
seal-steady Chosen (inr q) = absurd cc
seal-steady Condemned s = refl
seal-steady Committed s = refl
seal-steady Aborted s = refl

seal-none : (v : Verdict) → (v ≡ Chosen → ⊥) → (v ≡ Committed → ⊥) → is_committed (seal v) ≡ false
seal-none Open a b = refl
seal-none Chosen a b = absurd (a refl)
seal-none Condemned a b = refl
seal-none Committed a b = absurd (b refl)
seal-none Aborted a b = refl

never-committed : (d : Decision) → verdict_of d ≡ Committed → ⊥
never-committed decision.Commit e = cc
never-committed (decision.Vote g) e = cc
never-committed (decision.Dependency u) e = cc

judged-committed : (us : List UnitNo) (ds : List Decision) (v : UnitNo → Verdict) (x : UnitNo) → judged us ds v x ≡ Committed → v x ≡ Committed
judged-committed [] ds v x e = e
judged-committed (u ∷ us) [] v x e = e
judged-committed (u ∷ us) (d ∷ ds) v x e =
    put-from v u (verdict_of d) (λ t. t ≡ Committed) (v x ≡ Committed) x
    (λ q h. absurd (never-committed d h)) (λ q h. h)
    (judged-committed us ds (put v u (verdict_of d)) x e)

not-chosen : (d : Decision) → is_commit d ≡ false → verdict_of d ≡ Chosen → ⊥
not-chosen decision.Commit n e = cc
not-chosen (decision.Vote g) n e = cc
not-chosen (decision.Dependency u) n e = cc

-- where nothing is to commit nobody becomes so
judged-chosen : (us : List UnitNo) (ds : List Decision) (v : UnitNo → Verdict) (x : UnitNo) → any is_commit ds ≡ false → judged us ds v x ≡ Chosen → v x ≡ Chosen
judged-chosen [] ds v x n e = e
judged-chosen (u ∷ us) [] v x n e = e
judged-chosen (u ∷ us) (d ∷ ds) v x n e =
    let p = or_parts (is_commit d) (any is_commit ds) n in
    put-from v u (verdict_of d) (λ t. t ≡ Chosen) (v x ≡ Chosen) x
    (λ q h. absurd (not-chosen d p.0 h)) (λ q h. h)
    (judged-chosen us ds (put v u (verdict_of d)) x p.1 e)

-- ---- lists

pub filter-same : (p q : UnitNo → Bool) (xs : List UnitNo) → ((x : UnitNo) → Member x xs → p x ≡ q x) → filter p xs ≡ filter q xs
filter-same p q [] h = refl
filter-same p q (x ∷ xs) h =
    (λ i. if h x (inl refl) i then x ∷ filter-same p q xs (λ y m. h y (inr m)) i else filter-same p q xs (λ y m. h y (inr m)) i)

filter-none : (p : UnitNo → Bool) (xs : List UnitNo) → ((x : UnitNo) → Member x xs → p x ≡ false) → filter p xs ≡ []
filter-none p [] h = refl
filter-none p (x ∷ xs) h = (λ i. if h x (inl refl) i then x ∷ filter p xs else filter p xs) ∙ filter-none p xs (λ y m. h y (inr m))

pub map-same : (f g : UnitNo → Effect) (xs : List UnitNo) → ((x : UnitNo) → Member x xs → f x ≡ g x) → map f xs ≡ map g xs
map-same f g [] h = refl
map-same f g (x ∷ xs) h = λ i. h x (inl refl) i ∷ map-same f g xs (λ y m. h y (inr m)) i

drop-drop-sum : (m k : ℕ) (xs : List UnitNo) → drop k (drop m xs) ≡ drop (m + k) xs
drop-drop-sum zero k xs = (let e : k ≡ 0 + k = omega arith in ap (λ z. drop z xs) e)
drop-drop-sum (suc m) zero [] = (let e : suc m ≡ suc m + 0 = omega arith in ap (λ z. drop z []) e)
drop-drop-sum (suc m) (suc k) [] = (let e : suc (m + suc k) ≡ suc m + suc k = omega arith in ap (λ z. drop z []) e)
drop-drop-sum (suc m) k (x ∷ xs) = (let e : suc (m + k) ≡ suc m + k = omega arith in drop-drop-sum m k xs ∙ ap (λ z. drop z (x ∷ xs)) e)

abbrev sure : CoreState → UnitNo → Bool
sure w u = is_committed (w.manager.verdict u)

-- what is committed stays, where the order goes on by nobody who is
committed-same : (w w' : CoreState) (extra : List UnitNo) → w'.manager.order ≡ w.manager.order ++ extra → ((x : UnitNo) → Member x extra → sure w' x ≡ false)
    → ((x : UnitNo) → Member x w.manager.order → sure w' x ≡ sure w x) → ((x : UnitNo) → Member x w.manager.order → effect_of w' x ≡ effect_of w x) → committed w' ≡ committed w
committed-same w w' extra order none same effects =
    ap (λ us. map (effect_of w') (filter (sure w') us)) order
    ∙ ap (map (effect_of w'))
    (filter-append (sure w') w.manager.order extra
    ∙ (λ i. filter-same (sure w') (sure w) w.manager.order same i ++ filter-none (sure w') extra none i)
    ∙ append-nil (filter (sure w) w.manager.order))
    ∙ map-same (effect_of w') (effect_of w) (filter (sure w) w.manager.order) (λ x m. effects x (filter-member (sure w) w.manager.order x m).0)

-- ---- each event

module _ (w : CoreState) (k : LoadlessKept w) (s : Split w) (calm : w.manager.doubt ≡ None → OnlyTheBatchIsJudged w) where
  finished-in : (x : UnitNo) → Member x w.manager.order → w.units.phase x ≡ Finished
  finished-in x m = (let t = Member-at x w.manager.order m in subst (λ (y : UnitNo). w.units.phase y ≡ Finished) t.2 (k.0.listed t.0 t.1).0)

  other : (x u : UnitNo) → Member x w.manager.order → w.units.phase u ≡ Running → x ≡ u → ⊥
  other x u m running q = (let z : Finished ≡ Running = sym (finished-in x m) ∙ ap w.units.phase q ∙ running in cc)

  not-new : (x : UnitNo) → Member x w.manager.order → x ≡ new_unit w → ⊥
  not-new x m q = (let z : Finished ≡ Unborn = sym (finished-in x m) ∙ ap w.units.phase q ∙ k.0.unborn (new_unit w) (omega arith) in cc)

  open-verdict : (u : UnitNo) → w.units.phase u ≡ Running → sure w u ≡ false
  open-verdict u running = ap is_committed (k.0.undecided u (inr running))

  -- a unit of the undecided batch isn't committed, now and then
  was-open : (b : Batch) → w.manager.batch ≡ Some b → b.decisions ≡ None → (x : UnitNo) → Member x (members w b) → w.manager.verdict x ≡ Open
  was-open b q d x m = (members-open w b (open-at w b k q d) x m).1

  committed-change : (e : CoreEvent) (w' : CoreState) → Change w e w' → applies w e ≡ true → committed w' ≡ (if is_sealed e then committed w ++ chosen w else committed w)
  committed-change e w' (bad line why q) a = refl
  committed-change e w' (begin origin call plain c) a =
      committed-same w w' [] (sym (append-nil w.manager.order)) (λ x m. absurd m) (λ x m. refl)
      (λ x m i. record (effect_of w x) { origin = put-other w.units.origin (new_unit w) origin x (not-new x m) i; call = put-other w.units.call (new_unit w) call x (not-new x m) i })
  committed-change e w' (lock u g mode running free first here) a =
      committed-same w w' [] (sym (append-nil w.manager.order)) (λ x m. absurd m) (λ x m. refl)
      (λ x m i. record (effect_of w x) { reads = put-other w.units.reads u (w.units.reads u ++ read_of g (top (put_grain w.cells.stack g (cleaned w g) g)) ∷ []) x (other x u m running) i })
  committed-change e w' (raise u g mode running free held here uncovered) a = refl
  committed-change e w' (refuse u g mode why running q) a =
      committed-same w w' [] (sym (append-nil w.manager.order)) (λ x m. absurd m) (λ x m. ap is_committed (put-other w.manager.verdict u Aborted x (other x u m running))) (λ x m. refl)
  committed-change e w' (finish u effect running plain of_call reads alone) a =
      committed-same w w' (u ∷ []) refl (λ x m. elim m [ inl q ↦ ap (sure w) q ∙ open-verdict u running | inr n ↦ absurd n ]) (λ x m. refl)
      (λ x m i. record (effect_of w x) {
        answers = put-other w.manager.answers u effect.answers x (other x u m running) i;
        writes = put-other w.manager.writes u effect.writes x (other x u m running) i;
        result = put-other w.manager.result u effect.result x (other x u m running) i;
      })
  committed-change e w' (end_plain u effect running plain of_call bare) a =
      committed-same w w' [] (sym (append-nil w.manager.order)) (λ x m. absurd m) (λ x m. refl)
      (λ x m i. record (effect_of w x) { answers = put-other w.manager.answers u effect.answers x (other x u m running) i; result = put-other w.manager.result u effect.result x (other x u m running) i })
  committed-change e w' (end_snapshot u at outcome running plain kids answer) a =
      committed-same w w' [] (sym (append-nil w.manager.order)) (λ x m. absurd m) (λ x m. refl)
      (λ x m i. record (effect_of w x) { answers = put-other w.manager.answers u [] x (other x u m running) i; result = put-other w.manager.result u outcome x (other x u m running) i })
  committed-change e w' (release u g over held) a = refl
  committed-change e w' (take_batch none some) a = refl
  committed-change e w' (vote n g kept b q number d planned fresh) a = refl
  committed-change e w' (decide_some n b q number d voted some) a =
      committed-same w w' [] (sym (append-nil w.manager.order)) (λ x m. absurd m)
      (λ x m. elim (member-or-not x (members w b)) [
        | inl t ↦
            (let was = was-open b q d x t in
            no-commit _ (λ h. (let z : Open ≡ Committed = sym was ∙ judged-committed (members w b) (decisions_of w b) w.manager.verdict x h in cc)) ∙ sym (ap is_committed was))
        | inr n ↦ ap is_committed (judged-other (members w b) (decisions_of w b) w.manager.verdict x n)
      ])
      (λ x m. refl)
  committed-change e w' (decide_none n b q number d voted none) a =
      committed-same w w' [] (sym (append-nil w.manager.order)) (λ x m. absurd m)
      (λ x m. elim (member-or-not x (members w b)) [
        | inl t ↦
            (let was = was-open b q d x t in
            seal-none _
            (λ h. (let z : Open ≡ Chosen = sym was ∙ judged-chosen (members w b) (decisions_of w b) w.manager.verdict x none h in cc))
            (λ h. (let z : Open ≡ Committed = sym was ∙ judged-committed (members w b) (decisions_of w b) w.manager.verdict x h in cc))
            ∙ sym (ap is_committed was))
        | inr o ↦
            ap (λ v. is_committed (seal v)) (judged-other (members w b) (decisions_of w b) w.manager.verdict x o)
            ∙ seal-steady (w.manager.verdict x) ((calm (no_doubt w (Decide n) a refl)).undecided (λ c z. subst (λ (y : Batch). y.decisions ≡ None) (some-is b c (sym q ∙ z)) d) x)
      ])
      (λ x m. refl)
    where
      some-is : (y z : Batch) → Some y ≡ Some z → y ≡ z
      some-is y z p = ap of p
        where
          of : Option Batch → Batch
          of None = y
          of (Some v) = v
  committed-change e w' (seal_batch n b ds q number d) a =
      (λ i. map (effect_of w) (filter (λ u. seal-good (w.manager.verdict u) i) w.manager.order)) ∙ split-order w k s
  committed-change e w' (spoil_batch n b ds q number d) a = λ i. map (effect_of w) (filter (λ u. spoil-same (w.manager.verdict u) i) w.manager.order)
  committed-change e w' (doubt_batch n b ds q number d) a = λ i. map (effect_of w) (filter (λ u. leave-same (w.manager.verdict u) i) w.manager.order)
  committed-change e w' (learn u g wrote final fresh) a = refl
  committed-change e w' (emit q) a = refl
  committed-change e w' (halt_run q) a = refl
  committed-change e w' (want u g running free fresh) a = refl
  committed-change e w' (load g u state gone wanted) a = refl

  committed-swept : (v : CoreState) → committed (swept v) ≡ committed v
  committed-swept v = go v.cells.capacity
    where
      go : (c : Option ℕ) → committed (swept_by v c) ≡ committed v
      go None = refl
      go (Some m) = refl

  pub committed-step : (e : CoreEvent) → applies w e ≡ true → committed (step w e) ≡ (if is_sealed e then committed w ++ chosen w else committed w)
  committed-step e a =
      ap (λ t. committed (if t then swept (does w e) else w)) a
      ∙ committed-swept (does w e)
      ∙ committed-change e (does w e) (decode w e (and_parts (is_allowed w e) (can w e) a).1) a

-- ---- a run

judged-batch : (n : ℕ) (o : Option Batch) → is_judged n o ≡ true → (b : Batch) × (o ≡ Some b) × ((ds : List Decision) × (b.decisions ≡ Some ds))
judged-batch n None e = absurd cc
judged-batch n (Some b) e = (b, refl, some-of b.decisions (and_parts (b.number == n) (is_some b.decisions) e).1)
  where
    some-of : (o : Option (List Decision)) → is_some o ≡ true → (ds : List Decision) × (o ≡ Some ds)
    some-of None t = absurd cc
    some-of (Some ds) t = (ds, refl)

module _ (r : Run) (above : 0 < r.base) where
  by-rule : (e : CoreEvent) → applies (ends r) e ≡ true → committed (step (ends r) e) ≡ (if is_sealed e then committed (ends r) ++ chosen (ends r) else committed (ends r))
  by-rule = committed-step (ends r) (loadless-ends r above) (split-ends r above) (holds-ends r above).judged

  pub sealed-commit : (n : ℕ) → applies (ends r) (Sealed n) ≡ true → committed (ends (extended r (Sealed n ∷ []))) ≡ committed (ends r) ++ to_commit (ends r) (ends r).manager.batch
  sealed-commit n a =
      let b = judged-batch n (ends r).manager.batch (and_parts (is_allowed (ends r) (Sealed n)) (can (ends r) (Sealed n)) a).1 in
      let shown : to_commit (ends r) (ends r).manager.batch ≡ chosen (ends r) = ap (to_commit (ends r)) b.1 ∙ shows-chosen r above b.0 b.2.0 b.1 b.2.1 in
      ap committed (ends-more r (Sealed n ∷ [])) ∙ by-rule (Sealed n) a ∙ ap (λ es. committed (ends r) ++ es) (sym shown)

  pub others-leave : (e : CoreEvent) → is_sealed e ≡ false → committed (ends (extended r (e ∷ []))) ≡ committed (ends r)
  others-leave e kept =
      ap committed (ends-more r (e ∷ []))
      ∙ by_test (applies (ends r) e) refl
    where
      by_test : (t : Bool) → applies (ends r) e ≡ t → committed (step (ends r) e) ≡ committed (ends r)
      by_test true a = by-rule e a ∙ ap (λ t. if t then committed (ends r) ++ chosen (ends r) else committed (ends r)) kept
      by_test false a = ap (λ t. committed (if t then swept (does (ends r) e) else ends r)) a

-- ---- a doubt

-- what was to commit when a batch is left in doubt
chosen-doubted : (w : CoreState) (b : Batch) (ds : List Decision) → w.manager.doubt ≡ None → chosen (in_doubt w b ds) ≡ chosen w
chosen-doubted w b ds none =
    (λ i. map (effect_of w) (filter (λ u. leave-good (w.manager.verdict u) i) (drop w.manager.closed w.manager.order)))
    ∙ ap (λ o. map (effect_of w) (filter (λ u. is_good (w.manager.verdict u)) (drop (batch_begin o w.manager.closed) w.manager.order))) (sym none)

chosen-swept : (v : CoreState) → chosen (swept v) ≡ chosen v
chosen-swept v = go v.cells.capacity
  where
    go : (c : Option ℕ) → chosen (swept_by v c) ≡ chosen v
    go None = refl
    go (Some m) = refl

pub doubt-chosen : (r : Run) → 0 < r.base → (n : ℕ) → applies (ends r) (Doubt n) ≡ true → chosen (ends (extended r (Doubt n ∷ []))) ≡ to_commit (ends r) (ends r).manager.batch
doubt-chosen r above n a =
    let w : CoreState = ends r in
    let b = judged-batch n w.manager.batch (and_parts (is_allowed w (Doubt n)) (can w (Doubt n)) a).1 in
    let does-is : does w (Doubt n) ≡ in_doubt w b.0 b.2.0 = ap (on_decided w (in_doubt w)) b.1 ∙ ap (on_decisions w (in_doubt w b.0)) b.2.1 in
    ap chosen (ends-more r (Doubt n ∷ []))
    ∙ ap (λ t. chosen (if t then swept (does w (Doubt n)) else w)) a
    ∙ chosen-swept (does w (Doubt n))
    ∙ ap chosen does-is
    ∙ chosen-doubted w b.0 b.2.0 (no_doubt w (Doubt n) a refl)
    ∙ sym (ap (to_commit w) b.1 ∙ shows-chosen r above b.0 b.2.0 b.1 b.2.1)

same : (w : CoreState) → KeepsDoubt w w
same w = record { doubt = refl; committed = refl; chosen = refl; settled = refl }

-- what an event after a doubt changes
doubt-change : (w : CoreState) (e : CoreEvent) (w' : CoreState) → Change w e w' → is_after_doubt e ≡ true → KeepsDoubt w w'
doubt-change w e w' (release u g over held) late = record { doubt = refl; committed = refl; chosen = refl; settled = refl }
doubt-change w e w' (emit q) late = record { doubt = refl; committed = refl; chosen = refl; settled = refl }
doubt-change w e w' (bad line why q) late = absurd cc
doubt-change w e w' (begin origin call plain c) late = absurd cc
doubt-change w e w' (lock u g mode running free first here) late = absurd cc
doubt-change w e w' (raise u g mode running free held here uncovered) late = absurd cc
doubt-change w e w' (refuse u g mode why running q) late = absurd cc
doubt-change w e w' (finish u effect running plain of_call reads alone) late = absurd cc
doubt-change w e w' (end_plain u effect running plain of_call bare) late = absurd cc
doubt-change w e w' (end_snapshot u at outcome running plain kids answer) late = absurd cc
doubt-change w e w' (take_batch none some) late = absurd cc
doubt-change w e w' (vote n g kept b q number d planned fresh) late = absurd cc
doubt-change w e w' (decide_some n b q number d voted some) late = absurd cc
doubt-change w e w' (decide_none n b q number d voted none) late = absurd cc
doubt-change w e w' (seal_batch n b ds q number d) late = absurd cc
doubt-change w e w' (spoil_batch n b ds q number d) late = absurd cc
doubt-change w e w' (doubt_batch n b ds q number d) late = absurd cc
doubt-change w e w' (learn u g wrote final fresh) late = absurd cc
doubt-change w e w' (halt_run q) late = absurd cc
doubt-change w e w' (want u g running free fresh) late = absurd cc
doubt-change w e w' (load g u state gone wanted) late = absurd cc

doubt-more : (a b c : CoreState) → KeepsDoubt a b → KeepsDoubt b c → KeepsDoubt a c
doubt-more a b c k l = record {
  doubt = l.doubt ∙ k.doubt;
  committed = l.committed ∙ k.committed;
  chosen = l.chosen ∙ k.chosen;
  settled = l.settled ∙ k.settled;
}

doubt-swept : (v : CoreState) → KeepsDoubt v (swept v)
doubt-swept v = go v.cells.capacity
  where
    go : (c : Option ℕ) → KeepsDoubt v (swept_by v c)
    go None = record { doubt = refl; committed = refl; chosen = refl; settled = refl }
    go (Some m) = record { doubt = refl; committed = refl; chosen = refl; settled = refl }

doubt-step : (w : CoreState) (e : CoreEvent) (d : ℕ) → w.manager.doubt ≡ Some d → KeepsDoubt w (step w e)
doubt-step w e d q = cond_both (applies w e) (swept (does w e)) w (KeepsDoubt w)
    (λ a.
    (let p = and_parts (is_allowed w e) (can w e) a in
    let late : is_after_doubt e ≡ true = sym (ap (λ o. is_none o || is_after_doubt e) q) ∙ (and_parts (is_none w.manager.doubt || is_after_doubt e) _ p.0).0 in
    doubt-more w (does w e) (swept (does w e)) (doubt-change w e (does w e) (decode w e p.1) late) (doubt-swept (does w e))))
    (λ a. same w)

doubt-run : (es : List CoreEvent) (w : CoreState) (d : ℕ) → w.manager.doubt ≡ Some d → KeepsDoubt w (run w es)
doubt-run [] w d q = same w
doubt-run (e ∷ es) w d q =
    let k = doubt-step w e d q in
    doubt-more w (step w e) (run (step w e) es) k (doubt-run es (step w e) d (k.doubt ∙ q))

pub doubt-stays : (r : Run) (more : List CoreEvent) (d : ℕ) → (ends r).manager.doubt ≡ Some d → KeepsDoubt (ends r) (ends (extended r more))
doubt-stays r more d q = subst (KeepsDoubt (ends r)) (sym (ends-more r more)) (doubt-run more (ends r) d q)
