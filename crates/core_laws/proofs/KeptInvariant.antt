-- Every event keeps the invariant.
use Rattle.std.proofs.Common.{◌≡◌, ℕ, ◌+◌, ◌<◌, ◌≤◌, List, [], ◌∷◌, length, true, ◌⊎◌, inl, inr, refl, sym, ap, ◌∙◌, subst, arith, Option, Some, None}
use Rattle.std.specs.Prelude.{if◌then◌else◌}
use Rattle.std.proofs.lemmas.Bool.{and_parts, cases_Bool, cond-false, cond_both}
use Rattle.cell_model.specs.Locks.{covers}
use Rattle.cell_model.proofs.Units.{same_unit-true, Member-append}
use Rattle.core_model.specs.CoreState.{UnitNo, GrainId, nobody, same_unit, put, Member, Value, top, Mode, Settled, Batch, Decision, CoreState}
use Rattle.core_model.specs.declared.phases.Phase.TheVariants.{Ended}
use Rattle.core_model.specs.declared.phases.Verdict.{Verdict}
use Rattle.core_model.specs.declared.phases.Verdict.TheVariants.{Open, Committed, Aborted}
use Rattle.core_model.specs.declared.effects.Read.{Read}
use Rattle.core_model.specs.Tests.{is_bad, is_committed}
use Rattle.core_laws.proofs.Puts.{put-at, put-from, put-is, put-other}
use Rattle.core_laws.proofs.Basics.{is_committed-true}
use Rattle.core_laws.proofs.Invariant.{Inv, loadless-of}
use Rattle.std.proofs.Common.{take, is_some, length-drop, length-take}
use Rattle.cell_model.specs.Sources.{with_source}
use Rattle.cell_model.proofs.Sources.{with-has, with-keeps}
use Rattle.core_model.specs.Tests.{members, failed_in, waiting}
use Rattle.base_types.specs.declared.entries.Settled.TheVariants as settled
use Rattle.std.proofs.lemmas.Bool.{or_cases}
use Rattle.core_laws.proofs.Basics.{is_over-not}
use Rattle.core_model.specs.Changes.{swept_by, restacked, cleaned, after_lock, deps_with, is_sure, read_of, voted, decisions_of, with_decisions, closed, result_told, swept, seal, spoil, leave}
use Rattle.core_model.specs.Events.{can, applies, does, step, run, start, is_allowed}
use Rattle.core_model.specs.declared.events.CoreEvent.{CoreEvent}
use Rattle.core_model.specs.SerialOrder.{IsTrueLoad, AllLoadsTrue}
use Rattle.core_laws.proofs.Orders.{free_prefix-length, take_length, at_part, judged-other, members-open}
use Rattle.core_laws.proofs.EventCases.{Change, bad, begin, lock, raise, refuse, finish, end_plain, end_snapshot, release, take_batch, vote, decide_some, decide_none, seal_batch, spoil_batch, doubt_batch, learn, emit, halt_run, want, load, decode}
use Rattle.core_laws.proofs.KeptBegin.{kept-begun}
use Rattle.core_laws.proofs.KeptStack.{kept-cleaned, kept-learnt}
use Rattle.core_laws.proofs.KeptGrant.{kept-locked, kept-raised}
use Rattle.core_laws.proofs.KeptOver.{kept-over, kept-refused}
use Rattle.core_laws.proofs.KeptFinish.{kept-finished}
use Rattle.core_laws.proofs.LoadlessEvents.{length-push}
use Rattle.core_laws.proofs.KeptRelease.{kept-released}
use Rattle.core_laws.proofs.KeptMemory.{kept-swept, kept-loaded}
use Rattle.core_laws.proofs.KeptBatch.{Covers, Ends, ends-seal, ends-spoil, ends-leave, kept-decide, kept-mapped}

-- how many units of the open batch are decided
abbrev pub decided_size : Option Batch → ℕ
decided_size None = 0
decided_size (Some b) = if is_some b.decisions then b.size else 0

abbrev pub open_size : Option Batch → ℕ
open_size None = 0
open_size (Some b) = b.size

-- the invariant, with as many units decided as stand in closed batches and in a decided open one
abbrev pub Kept : (GrainId → List Value) → CoreState → Type 0
Kept opening w =
    Inv opening (w.manager.closed + decided_size w.manager.batch) w
    × (w.manager.closed + open_size w.manager.batch ≤ length w.manager.order)
    × Covers w.units.reads w.units.deps w.manager.verdict

covers-more : (reads : UnitNo → List Read) (deps : UnitNo → List UnitNo) (v v' : UnitNo → Verdict) → ((x : UnitNo) → v x ≡ Committed → v' x ≡ Committed) → Covers reads deps v → Covers reads deps v'
covers-more reads deps v v' keeps covers u r m = elim (covers u r m) [
  | inl e ↦ inl e
  | inr o ↦ inr (elim o [ inl c ↦ inl (keeps r.source c) | inr d ↦ inr d ])
]

deps-keeps : (w : CoreState) (deps : List UnitNo) (source d : UnitNo) → Member d deps → Member d (deps_with w deps source)
deps-keeps w deps source d m = cond_both (is_sure w source) deps (with_source deps source) (Member d) (λ e. m) (λ e. with-keeps deps source d m)

covers-locked : (w : CoreState) (u : UnitNo) (g : GrainId) (mode : Mode) → Covers w.units.reads w.units.deps w.manager.verdict → Covers (after_lock w u g mode).units.reads (after_lock w u g mode).units.deps w.manager.verdict
covers-locked w u g mode covers x r = put-from w.units.reads u _ (Member r) ((r.source ≡ nobody) ⊎ ((w.manager.verdict r.source ≡ Committed) ⊎ Member r.source (put w.units.deps u new_deps x))) x
    (λ e m. elim (Member-append r (w.units.reads u) (read_of g (top (w.cells.stack g)) ∷ []) m) [
      | inl o ↦ old x r (subst (λ z. Member r (w.units.reads z)) (sym e) o)
      | inr o ↦ elim o [ inl q ↦ subst (λ s. (s ≡ nobody) ⊎ ((w.manager.verdict s ≡ Committed) ⊎ Member s (put w.units.deps u new_deps x))) (sym (ap (λ (z : Read). z.source) q)) (fresh x e) | inr q ↦ absurd q ]
    ])
    (λ e m. old x r m)
  where
    source : UnitNo
    source = (top (w.cells.stack g)).unit

    new_deps : List UnitNo
    new_deps = deps_with w (w.units.deps u) source

    old : (x : UnitNo) (r : Read) → Member r (w.units.reads x) → (r.source ≡ nobody) ⊎ ((w.manager.verdict r.source ≡ Committed) ⊎ Member r.source (put w.units.deps u new_deps x))
    old x r m = elim (covers x r m) [
      | inl e ↦ inl e
      | inr o ↦ inr (elim o [
        | inl c ↦ inl c
        | inr d ↦ inr (put-at w.units.deps u new_deps (Member r.source) x (λ e. deps-keeps w (w.units.deps u) source r.source (subst (λ z. Member r.source (w.units.deps z)) e d)) (λ e. d))
      ])
    ]

    fresh : (x : UnitNo) → x ≡ u → (source ≡ nobody) ⊎ ((w.manager.verdict source ≡ Committed) ⊎ Member source (put w.units.deps u new_deps x))
    fresh x e = elim (cases_Bool (is_sure w source)) [
      | inl s ↦ elim (or_cases (same_unit source nobody) (is_committed (w.manager.verdict source)) s) [
        | inl q ↦ inl (same_unit-true _ _ q)
        | inr q ↦ inr (inl (is_committed-true _ q))
      ]
      | inr s ↦ inr (inr (subst (Member source) (sym (put-is w.units.deps u new_deps x e ∙ cond-false (is_sure w source) (w.units.deps u) (with_source (w.units.deps u) source) s)) (with-has (w.units.deps u) source)))
    ]

kept-closed : (opening : GrainId → List Value) (w : CoreState) (f : Verdict → Verdict) (answer : UnitNo → Settled) (b : Batch) (ds : List Decision) → Ends f →
    Inv opening (w.manager.closed + b.size) w → w.manager.closed + b.size ≤ length w.manager.order → Covers w.units.reads w.units.deps w.manager.verdict → Kept opening (closed w f answer b ds)
kept-closed opening w f answer b ds ends i le covers =
    let e : w.manager.closed + b.size ≡ w.manager.closed + b.size + 0 = omega arith in (
      subst (λ m. Inv opening m (closed w f answer b ds)) e (kept-mapped opening _ w f ends i),
      omega (arith, le),
      covers-more w.units.reads w.units.deps w.manager.verdict (λ u. f (w.manager.verdict u)) (λ x c. ap f c ∙ ends.sure) covers,
    )

-- the invariant where the open batch is known
pub inv-open : (opening : GrainId → List Value) (w : CoreState) (b : Batch) → Kept opening w → w.manager.batch ≡ Some b → b.decisions ≡ None → Inv opening w.manager.closed w
inv-open opening w b k e d =
    subst (λ m. Inv opening m w) (ap (λ z. w.manager.closed + decided_size z) e ∙ ap (λ (z : Option (List Decision)). w.manager.closed + (if is_some z then b.size else 0)) d ∙ omega arith) k.0

pub inv-judged : (opening : GrainId → List Value) (w : CoreState) (b : Batch) (ds : List Decision) → Kept opening w → w.manager.batch ≡ Some b → b.decisions ≡ Some ds → Inv opening (w.manager.closed + b.size) w
inv-judged opening w b ds k e d =
    subst (λ m. Inv opening m w) (ap (λ z. w.manager.closed + decided_size z) e ∙ ap (λ (z : Option (List Decision)). w.manager.closed + (if is_some z then b.size else 0)) d) k.0

pub size-open : (opening : GrainId → List Value) (w : CoreState) (b : Batch) → Kept opening w → w.manager.batch ≡ Some b → w.manager.closed + b.size ≤ length w.manager.order
size-open opening w b k e = subst (λ z. w.manager.closed + open_size z ≤ length w.manager.order) e k.1

pub inv-decided : (opening : GrainId → List Value) (w : CoreState) (b : Batch) → Kept opening w → w.manager.batch ≡ Some b → b.decisions ≡ None →
    Inv opening (w.manager.closed + b.size) (with_decisions w b (decisions_of w b))
inv-decided opening w b k e d =
    let us : List UnitNo = members w b in
    let le = size-open opening w b k e in
    let l : length us ≡ b.size = take_length b.size (waiting w) (omega (arith, length-drop w.manager.closed w.manager.order, le)) in
    subst (λ m. Inv opening (w.manager.closed + m) (with_decisions w b (decisions_of w b))) l
    (kept-decide opening (λ u. is_bad (w.manager.verdict u)) (λ u. failed_in b.votes (w.manager.writes u)) us w.manager.closed w (inv-open opening w b k e d) (λ x. refl) k.2
    (λ j h. (omega (arith, l, h, le), at_part b.size w.manager.closed w.manager.order j (omega (arith, l, h)))))

covers-decided : (opening : GrainId → List Value) (w : CoreState) (b : Batch) (ds : List Decision) → Kept opening w → w.manager.batch ≡ Some b → b.decisions ≡ None →
    Covers w.units.reads w.units.deps (with_decisions w b ds).manager.verdict
covers-decided opening w b ds k e d = covers-more w.units.reads w.units.deps w.manager.verdict _
    (λ x c. judged-other (members w b) ds w.manager.verdict x (λ m. (let t : Open ≡ Committed = sym (members-open w b (loadless-of opening _ w (inv-open opening w b k e d)) x m).1 ∙ c in cc)) ∙ c) k.2

pub kept-change : (opening : GrainId → List Value) (w : CoreState) (e : CoreEvent) (w' : CoreState) → Change w e w' → applies w e ≡ true → IsTrueLoad opening w e → Kept opening w → Kept opening w'
kept-change opening w e w' (bad line why q) a t k = k
kept-change opening w e w' (begin origin call plain c) a t k = (kept-begun opening _ w origin call plain k.0, k.1, k.2)
kept-change opening w e w' (lock u g mode running free first here) a t k =
    (kept-locked opening _ (restacked w g (cleaned w g)) u g mode (kept-cleaned opening _ w g k.0) running free first here, k.1, covers-locked (restacked w g (cleaned w g)) u g mode k.2)
kept-change opening w e w' (raise u g mode running free held here uncovered) a t k =
    (kept-raised opening _ (restacked w g (cleaned w g)) u g mode (kept-cleaned opening _ w g k.0) running free held here, k.1, k.2)
kept-change opening w e w' (refuse u g mode why running q) a t k = (
  kept-refused opening _ w u why k.0 running,
  k.1,
  covers-more w.units.reads w.units.deps w.manager.verdict _ (λ x c. put-other w.manager.verdict u Aborted x (λ z. (let y : Open ≡ Committed = sym (ap w.manager.verdict z ∙ k.0.undecided u (inr running)) ∙ c in cc)) ∙ c) k.2,
)
kept-change opening w e w' (finish u effect running plain of_call reads alone) a t k =
    (kept-finished opening _ w u effect k.0 running alone, omega (arith, k.1, length-push w.manager.order u), k.2)
kept-change opening w e w' (end_plain u effect running plain of_call bare) a t k = (kept-over opening _ w u Ended k.0 running (λ z. cc) (λ z. cc) (λ z. cc), k.1, k.2)
kept-change opening w e w' (end_snapshot u at outcome running plain kids answer) a t k = (kept-over opening _ w u Ended k.0 running (λ z. cc) (λ z. cc) (λ z. cc), k.1, k.2)
kept-change opening w e w' (release u g over held) a t k = (kept-released opening _ w u g k.0 (is_over-not _ over) held, k.1, k.2)
kept-change opening w e w' (take_batch none some) a t k = (
  subst (λ m. Inv opening m w) (ap (λ z. w.manager.closed + decided_size z) none) k.0,
  omega (arith, free_prefix-length w (take 64 (waiting w)), length-take 64 (waiting w), length-drop w.manager.closed w.manager.order, k.1, ap open_size none),
  k.2,
)
kept-change opening w e w' (vote n g kept b q number d planned fresh) a t k =
    let closed_is : w.manager.closed ≡ w.manager.closed + 0 = omega arith in (
      subst (λ (z : Option (List Decision)). Inv opening (w.manager.closed + (if is_some z then b.size else 0)) w) (sym d) (subst (λ m. Inv opening m w) closed_is (inv-open opening w b k q d)),
      size-open opening w b k q,
      k.2,
    )
kept-change opening w e w' (decide_some n b q number d voted some) a t k =
    (inv-decided opening w b k q d, size-open opening w b k q, covers-decided opening w b (decisions_of w b) k q d)
kept-change opening w e w' (decide_none n b q number d voted none) a t k =
    kept-closed opening (with_decisions w b (decisions_of w b)) seal (result_told (with_decisions w b (decisions_of w b))) b (decisions_of w b) ends-seal
    (inv-decided opening w b k q d) (size-open opening w b k q) (covers-decided opening w b (decisions_of w b) k q d)
kept-change opening w e w' (seal_batch n b ds q number d) a t k =
    kept-closed opening w seal (result_told w) b ds ends-seal (inv-judged opening w b ds k q d) (size-open opening w b k q) k.2
kept-change opening w e w' (spoil_batch n b ds q number d) a t k =
    kept-closed opening w spoil (λ u. settled.Disk) b ds ends-spoil (inv-judged opening w b ds k q d) (size-open opening w b k q) k.2
kept-change opening w e w' (doubt_batch n b ds q number d) a t k =
    kept-closed opening w leave (λ u. settled.InDoubt) b ds ends-leave (inv-judged opening w b ds k q d) (size-open opening w b k q) k.2
kept-change opening w e w' (learn u g wrote final fresh) a t k = (kept-learnt opening _ w u g k.0 final, k.1, k.2)
kept-change opening w e w' (emit q) a t k = k
kept-change opening w e w' (halt_run q) a t k = k
kept-change opening w e w' (want u g running free fresh) a t k = k
kept-change opening w e w' (load g u state gone wanted) a t k = (kept-loaded opening _ w g u state k.0 gone (t a), k.1, k.2)

swept-kept : (opening : GrainId → List Value) (w : CoreState) → Kept opening w → Kept opening (swept w)
swept-kept opening w k = go w.cells.capacity (kept-swept opening _ w k.0)
  where
    go : (c : Option ℕ) → Inv opening (w.manager.closed + decided_size w.manager.batch) (swept_by w c) → Kept opening (swept_by w c)
    go None i = (i, k.1, k.2)
    go (Some m) i = (i, k.1, k.2)

pub kept-step : (opening : GrainId → List Value) (w : CoreState) (e : CoreEvent) → IsTrueLoad opening w e → Kept opening w → Kept opening (step w e)
kept-step opening w e t k = cond_both (applies w e) (swept (does w e)) w (Kept opening)
    (λ a. swept-kept opening (does w e) (kept-change opening w e (does w e) (decode w e (and_parts (is_allowed w e) (can w e) a).1) a t k))
    (λ a. k)

pub kept-run : (opening : GrainId → List Value) (es : List CoreEvent) (w : CoreState) → AllLoadsTrue opening w es → Kept opening w → Kept opening (run w es)
kept-run opening [] w l k = k
kept-run opening (e ∷ es) w l k = kept-run opening es (step w e) l.1 (kept-step opening w e l.0 k)

pub kept-start : (base kinds : ℕ) (capacity : Option ℕ) (opening : GrainId → List Value) → 0 < base → Kept opening (start base kinds capacity opening)
kept-start base kinds capacity opening above = (
  record {
    fresh = above;
    unborn = λ u h. refl;
    outside = refl;
    origin = refl;
    blank = λ u h. refl;
    unwritten = λ u h. refl;
    undecided = λ u h. refl;
    listed = λ i h. absurd (omega arith);
    placed = λ u f. cc;
    within = omega arith;
    early = λ u f. cc;
    late = λ u f. cc;
    alone = λ g h l m. absurd m;
    keeps = λ u r p. cc;
    strong = λ u g h f. cc;
    told = λ g h m. absurd m;
    seen = λ g s m. absurd m;
    kept = λ g s m. absurd m;
    view = λ g s m. absurd m;
    source = λ u r m. absurd m;
    gap = λ u r x m. absurd m;
    chain = λ g. inl (refl, refl);
    latest = λ u g f. cc;
    good = λ u r q. cc;
    sure = λ u r q. cc;
    sees = λ u r p. cc;
    away = λ g h. (refl, (record { unit = nobody; state = opening g }, refl));
  },
  omega arith,
  λ u r m. absurd m,
)
