-- Who is decided has finished or was refused; and a child finishes before its parent.
use Rattle.std.proofs.Common.{◌≡◌, ℕ, ◌+◌, ◌<◌, List, [], ◌∷◌, length, Bool, true, ◌⊎◌, inl, inr, refl, sym, ap, ◌∙◌, subst, arith, Option, Some, None}
use Rattle.std.proofs.lemmas.Bool.{and_parts, cond_both}
use Rattle.cell_model.proofs.Units.{cases_unit}
use Rattle.core_model.specs.CoreState.{UnitNo, put, Member, Origin, Settled, Batch, Decision, CoreState}
use Rattle.core_model.specs.declared.phases.Phase.{Phase}
use Rattle.core_model.specs.declared.phases.Phase.TheVariants.{Running, Finished, Refused, Ended}
use Rattle.core_model.specs.declared.phases.Verdict.{Verdict}
use Rattle.core_model.specs.declared.phases.Verdict.TheVariants.{Open, Aborted}
use Rattle.core_laws.proofs.Puts.{put-at, put-from, put-is, put-other}
use Rattle.base_types.specs.declared.entries.Settled.TheVariants as settled
use Rattle.base_types.specs.declared.calls.Origin.TheVariants.{Line, Child}
use Rattle.core_model.specs.CoreState.{Outcome, Call}
use Rattle.std.proofs.Common.{le_refl, map}
use Rattle.core_model.specs.Tests.{members, outcome_of, outcome_in, is_running}
use Rattle.core_model.specs.Laws.{AnswersAreOutcomes}
use Rattle.core_model.specs.Events.{can_begin}
use Rattle.core_model.specs.Changes.{begun, after_refusal, new_unit, kids_with, decisions_of, with_decisions, closed, result_told, seal, spoil, leave, swept, swept_by}
use Rattle.core_model.specs.Events.{applies, can, does, step, run, is_allowed}
use Rattle.core_model.specs.declared.events.CoreEvent.{CoreEvent}
use Rattle.core_laws.proofs.EventCases.{Change, bad, begin, lock, raise, refuse, finish, end_plain, end_snapshot, release, take_batch, vote, decide_some, decide_none, seal_batch, spoil_batch, doubt_batch, learn, emit, halt_run, want, load, decode}
use Rattle.core_laws.proofs.Basics.{is_running-true}
use Rattle.core_laws.proofs.Orders.{judged-other, members-open}
use Rattle.core_laws.proofs.Children.{Kin, kin-step, answered-step}
use Rattle.core_laws.proofs.LoadlessKept.{LoadlessKept, open-at, loadless-step}

abbrev pub Turned : CoreState → Type 0
Turned w =
    ((u : UnitNo) → (w.manager.verdict u ≡ Open → ⊥) → (w.units.phase u ≡ Finished) ⊎ (w.units.phase u ≡ Refused))
    × ((u : UnitNo) → w.units.phase u ≡ Refused → w.manager.verdict u ≡ Aborted)

pub turned-phase : (w : CoreState) (u : UnitNo) (end : Phase) → w.manager.verdict u ≡ Open → (end ≡ Refused → ⊥) → Turned w → Turned (record w { units = record w.units { phase = put w.units.phase u end } })
turned-phase w u end open_u n s = (
  (λ x d. put-at w.units.phase u end (λ p. (p ≡ Finished) ⊎ (p ≡ Refused)) x (λ q. absurd (d (ap w.manager.verdict q ∙ open_u))) (λ q. s.0 x d)),
  (λ x. put-from w.units.phase u end (λ p. p ≡ Refused) (w.manager.verdict x ≡ Aborted) x (λ q h. absurd (n h)) (λ q h. s.1 x h)),
)

pub member-or-not : (u : UnitNo) (us : List UnitNo) → Member u us ⊎ (Member u us → ⊥)
member-or-not u [] = inr (λ m. m)
member-or-not u (x ∷ xs) = elim (cases_unit u x) [
  | inl e ↦ inl (inl e)
  | inr n ↦ elim (member-or-not u xs) [ inl m ↦ inl (inr m) | inr k ↦ inr (λ o. elim o [ inl e ↦ n e | inr m ↦ k m ]) ]
]

turned-decided : (w : CoreState) (b : Batch) (ds : List Decision) → LoadlessKept w → w.manager.batch ≡ Some b → b.decisions ≡ None → Turned w → Turned (with_decisions w b ds)
turned-decided w b ds k q d s = (
  (λ x n. elim (member-or-not x (members w b)) [
    | inl m ↦ inl (members-open w b (open-at w b k q d) x m).0
    | inr m ↦ s.0 x (λ z. n (judged-other (members w b) ds w.manager.verdict x m ∙ z))
  ]),
  (λ x f. judged-other (members w b) ds w.manager.verdict x (λ m. (let t : Finished ≡ Refused = sym (members-open w b (open-at w b k q d) x m).0 ∙ f in cc)) ∙ s.1 x f),
)

pub turned-mapped : (w : CoreState) (f : Verdict → Verdict) (answer : UnitNo → Settled) (b : Batch) (ds : List Decision) → f Open ≡ Open → f Aborted ≡ Aborted → Turned w → Turned (closed w f answer b ds)
turned-mapped w f answer b ds still aborted s = (
  (λ x n. s.0 x (λ z. n (ap f z ∙ still))),
  (λ x q. ap f (s.1 x q) ∙ aborted),
)

pub turned-refused : (w : CoreState) (u : UnitNo) (why : Settled) → Turned w → Turned (after_refusal w u why)
turned-refused w u why s = (
  (λ x d. elim (cases_unit x u) [
    | inl z ↦ inr (put-is w.units.phase u Refused x z)
    | inr z ↦ elim (s.0 x (λ y. d (put-other w.manager.verdict u Aborted x z ∙ y))) [ inl f ↦ inl (put-other w.units.phase u Refused x z ∙ f) | inr f ↦ inr (put-other w.units.phase u Refused x z ∙ f) ]
  ]),
  (λ x f. elim (cases_unit x u) [
    | inl z ↦ put-is w.manager.verdict u Aborted x z
    | inr z ↦ put-other w.manager.verdict u Aborted x z ∙ s.1 x (sym (put-other w.units.phase u Refused x z) ∙ f)
  ]),
)

pub turned-change : (w : CoreState) (e : CoreEvent) (w' : CoreState) → Change w e w' → applies w e ≡ true → LoadlessKept w → Turned w → Turned w'
turned-change w e w' (bad line why q) a k s = s
turned-change w e w' (begin origin call plain c) a k s = turned-phase w (new_unit w) Running (k.0.undecided (new_unit w) (inl (k.0.unborn (new_unit w) (le_refl w.units.next)))) (λ z. cc) s
turned-change w e w' (lock u g mode running free first here) a k s = s
turned-change w e w' (raise u g mode running free held here uncovered) a k s = s
turned-change w e w' (refuse u g mode why running q) a k s = turned-refused w u why s
turned-change w e w' (finish u effect running plain of_call reads alone) a k s = turned-phase w u Finished (k.0.undecided u (inr running)) (λ z. cc) s
turned-change w e w' (end_plain u effect running plain of_call bare) a k s = turned-phase w u Ended (k.0.undecided u (inr running)) (λ z. cc) s
turned-change w e w' (end_snapshot u at outcome running plain kids answer) a k s = turned-phase w u Ended (k.0.undecided u (inr running)) (λ z. cc) s
turned-change w e w' (release u g over held) a k s = s
turned-change w e w' (take_batch none some) a k s = s
turned-change w e w' (vote n g kept b q number d planned fresh) a k s = s
turned-change w e w' (decide_some n b q number d voted some) a k s = turned-decided w b (decisions_of w b) k q d s
turned-change w e w' (decide_none n b q number d voted none) a k s = turned-mapped (with_decisions w b (decisions_of w b)) seal (result_told (with_decisions w b (decisions_of w b))) b (decisions_of w b) refl refl (turned-decided w b (decisions_of w b) k q d s)
turned-change w e w' (seal_batch n b ds q number d) a k s = turned-mapped w seal (result_told w) b ds refl refl s
turned-change w e w' (spoil_batch n b ds q number d) a k s = turned-mapped w spoil (λ u. settled.Disk) b ds refl refl s
turned-change w e w' (doubt_batch n b ds q number d) a k s = turned-mapped w leave (λ u. settled.InDoubt) b ds refl refl s
turned-change w e w' (learn u g wrote final fresh) a k s = s
turned-change w e w' (emit q) a k s = s
turned-change w e w' (halt_run q) a k s = s
turned-change w e w' (want u g running free fresh) a k s = s
turned-change w e w' (load g u state gone wanted) a k s = s

swept-turned : (w : CoreState) → Turned w → Turned (swept w)
swept-turned w s = go w.cells.capacity
  where
    go : (c : Option ℕ) → Turned (swept_by w c)
    go None = s
    go (Some m) = s

pub turned-step : (w : CoreState) (e : CoreEvent) → LoadlessKept w → Turned w → Turned (step w e)
turned-step w e k s = cond_both (applies w e) (swept (does w e)) w Turned
    (λ a. (let c = decode w e (and_parts (is_allowed w e) (can w e) a).1 in
    swept-turned (does w e) (turned-change w e (does w e) c a k s)))
    (λ a. s)

pub turned-run : (es : List CoreEvent) (w : CoreState) → LoadlessKept w → Turned w → Turned (run w es)
turned-run [] w k s = s
turned-run (e ∷ es) w k s = turned-run es (step w e) (loadless-step w e k) (turned-step w e k s)

-- the children of a finished unit are decided
kid-decided : (w : CoreState) → AnswersAreOutcomes w → (p c : UnitNo) → Member c (w.units.kids p) → w.units.phase p ≡ Finished → w.units.phase c ≡ Running → ⊥
kid-decided w s p c m f running = go (w.units.kids p) (w.manager.answers p) m (s p (inl f))
  where
    go : (ks : List UnitNo) (os : List Outcome) → Member c ks → map (outcome_of w) ks ≡ map Some os → ⊥
    go [] os m e = m
    go (k ∷ ks) [] m e = cc
    go (k ∷ ks) (o ∷ os) (inl q) e =
        let head : outcome_of w k ≡ Some o = cc in
        let none : outcome_of w k ≡ None = (λ i. outcome_in ((ap w.units.phase (sym q) ∙ running) i) (w.manager.verdict k) (w.manager.result k)) in
        let z : None ≡ Some o = sym none ∙ head in cc
    go (k ∷ ks) (o ∷ os) (inr q) e = (let rest : map (outcome_of w) ks ≡ map Some os = cc in go ks os q rest)

abbrev pub First : CoreState → Type 0
First w = (p c : UnitNo) → Member c (w.units.kids p) → w.units.phase p ≡ Finished → w.units.phase c ≡ Finished → w.manager.place c < w.manager.place p

first-phase : (w : CoreState) (u : UnitNo) (end : Phase) → (end ≡ Finished → ⊥) → First w → First (record w { units = record w.units { phase = put w.units.phase u end } })
first-phase w u end n s p c m = put-from w.units.phase u end (λ z. z ≡ Finished) (put w.units.phase u end c ≡ Finished → w.manager.place c < w.manager.place p) p
    (λ q f. absurd (n f))
    (λ q f. put-from w.units.phase u end (λ z. z ≡ Finished) (w.manager.place c < w.manager.place p) c (λ y g. absurd (n g)) (λ y g. s p c m f g))

first-begun : (w : CoreState) (origin : Origin) (call : Call) (plain : Bool) → can_begin w origin ≡ true → First w → First (begun w origin call plain)
first-begun w origin call plain can_it s p c m = put-from w.units.phase (new_unit w) Running (λ z. z ≡ Finished) (put w.units.phase (new_unit w) Running c ≡ Finished → w.manager.place c < w.manager.place p) p
    (λ q f. cc)
    (λ q f. put-from w.units.phase (new_unit w) Running (λ z. z ≡ Finished) (w.manager.place c < w.manager.place p) c (λ y g. cc) (λ y g. s p c (subst (Member c) (same origin can_it f) m) f g))
  where
    same : (origin : Origin) → can_begin w origin ≡ true → w.units.phase p ≡ Finished → kids_with w.units.kids origin (new_unit w) p ≡ w.units.kids p
    same (Line n) e f = refl
    same (Child q i d) e f = put-other w.units.kids q _ p (λ z. (let t : Finished ≡ Running = sym f ∙ ap w.units.phase z ∙ is_running-true _ (and_parts (is_running (w.units.phase q)) _ e).0 in cc))

pub first-change : (w : CoreState) (e : CoreEvent) (w' : CoreState) → Change w e w' → applies w e ≡ true → LoadlessKept w → Kin w → AnswersAreOutcomes w → First w → First w'
first-change w e w' (bad line why q) a k kin ans s = s
first-change w e w' (begin origin call plain c) a k kin ans s = first-begun w origin call plain c s
first-change w e w' (lock u g mode running free first here) a k kin ans s = s
first-change w e w' (raise u g mode running free held here uncovered) a k kin ans s = s
first-change w e w' (refuse u g mode why running q) a k kin ans s = first-phase w u Refused (λ z. cc) s
first-change w e w' (finish u effect running plain of_call reads alone) a k kin ans s =
    λ p c m. put-from w.units.phase u Finished (λ z. z ≡ Finished) (put w.units.phase u Finished c ≡ Finished → put w.manager.place u (length w.manager.order + 1) c < put w.manager.place u (length w.manager.order + 1) p) p
    (λ q f. put-from w.units.phase u Finished (λ z. z ≡ Finished) (put w.manager.place u (length w.manager.order + 1) c < put w.manager.place u (length w.manager.order + 1) p) c
    (λ y g. absurd (omega (arith, kin.2 p c m, ap (λ (z : UnitNo). z.0) q, ap (λ (z : UnitNo). z.0) y)))
    (λ y g. (let t = k.0.placed c g in omega (arith, put-other w.manager.place u (length w.manager.order + 1) c y, put-is w.manager.place u (length w.manager.order + 1) p q, t.1, t.2))))
    (λ q f. put-from w.units.phase u Finished (λ z. z ≡ Finished) (put w.manager.place u (length w.manager.order + 1) c < put w.manager.place u (length w.manager.order + 1) p) c
    (λ y g. absurd (kid-decided w ans p c m f (ap w.units.phase y ∙ running)))
    (λ y g. omega (arith, put-other w.manager.place u (length w.manager.order + 1) c y, put-other w.manager.place u (length w.manager.order + 1) p q, s p c m f g)))
first-change w e w' (end_plain u effect running plain of_call bare) a k kin ans s = first-phase w u Ended (λ z. cc) s
first-change w e w' (end_snapshot u at outcome running plain kids answer) a k kin ans s = first-phase w u Ended (λ z. cc) s
first-change w e w' (release u g over held) a k kin ans s = s
first-change w e w' (take_batch none some) a k kin ans s = s
first-change w e w' (vote n g kept b q number d planned fresh) a k kin ans s = s
first-change w e w' (decide_some n b q number d voted some) a k kin ans s = s
first-change w e w' (decide_none n b q number d voted none) a k kin ans s = s
first-change w e w' (seal_batch n b ds q number d) a k kin ans s = s
first-change w e w' (spoil_batch n b ds q number d) a k kin ans s = s
first-change w e w' (doubt_batch n b ds q number d) a k kin ans s = s
first-change w e w' (learn u g wrote final fresh) a k kin ans s = s
first-change w e w' (emit q) a k kin ans s = s
first-change w e w' (halt_run q) a k kin ans s = s
first-change w e w' (want u g running free fresh) a k kin ans s = s
first-change w e w' (load g u state gone wanted) a k kin ans s = s

pub first-step : (w : CoreState) (e : CoreEvent) → LoadlessKept w → Kin w → AnswersAreOutcomes w → First w → First (step w e)
first-step w e k kin ans s = cond_both (applies w e) (swept (does w e)) w First
    (λ a. swept-first (does w e) (first-change w e (does w e) (decode w e (and_parts (is_allowed w e) (can w e) a).1) a k kin ans s))
    (λ a. s)
  where
    swept-first : (w : CoreState) → First w → First (swept w)
    swept-first w s = go w.cells.capacity
      where
        go : (c : Option ℕ) → First (swept_by w c)
        go None = s
        go (Some m) = s

pub first-run : (es : List CoreEvent) (w : CoreState) → LoadlessKept w → Kin w → AnswersAreOutcomes w → First w → First (run w es)
first-run [] w k kin ans s = s
first-run (e ∷ es) w k kin ans s =
    first-run es (step w e) (loadless-step w e k) (kin-step w e k kin) (answered-step w e k ans) (first-step w e k kin ans s)
