-- What is kept after every list of events, whatever was loaded.
use Rattle.std.proofs.Common.{◌≡◌, ℕ, suc, ◌+◌, ◌<◌, ◌≤◌, List, [], ◌∷◌, length, get_or, true, refl, ap, ◌∙◌, subst, arith, Option, Some, None, take, map, is_some, length-drop, length-take}
use Rattle.std.specs.Prelude.{if◌then◌else◌}
use Rattle.std.proofs.lemmas.List.{length-map}
use Rattle.base_types.specs.declared.entries.Settled.TheVariants as settled
use Rattle.cell_model.proofs.Decisions.{decided-length}
use Rattle.core_model.specs.CoreState.{UnitNo, nobody, Settled, Batch, Decision, CoreState, GrainId, Value}
use Rattle.core_model.specs.declared.phases.Phase.TheVariants.{Ended}
use Rattle.core_model.specs.declared.phases.Verdict.{Verdict}
use Rattle.core_model.specs.declared.phases.Verdict.TheVariants.{Open, Chosen, Condemned, Committed, Aborted}
use Rattle.core_model.specs.Tests.{is_bad, members, waiting, prepared}
use Rattle.core_model.specs.Changes.{restacked, cleaned, result_told, verdict_of, judged, decisions_of, with_decisions, closed, seal, spoil, leave}
use Rattle.core_model.specs.Events.{applies, step, run}
use Rattle.core_model.specs.declared.events.CoreEvent.{CoreEvent}
use Rattle.core_model.specs.LegalRuns.{Run, begins, ends}
use Rattle.core_laws.proofs.Basics.{is_over-not}
use Rattle.core_laws.proofs.Loadless.{LoadlessAt}
use Rattle.core_laws.proofs.LoadlessEvents.{with_verdict, length-push, loadless-begun, loadless-over, loadless-refused, loadless-finished, loadless-locked, loadless-raised, loadless-released, loadless-judged, loadless-mapped}
use Rattle.core_laws.proofs.Orders.{free_prefix-length, at_part, take_length}
use Rattle.core_laws.proofs.EventCases.{Change, bad, begin, lock, raise, refuse, finish, end_plain, end_snapshot, release, take_batch, vote, decide_some, decide_none, seal_batch, spoil_batch, doubt_batch, learn, emit, halt_run, want, load}
use Rattle.core_laws.proofs.KeptInvariant.{decided_size, open_size, Kept}
use Rattle.core_laws.proofs.KeptBatch.{verdict_of-open}
use Rattle.core_laws.proofs.AnyEvents.{run-keeps, step-keeps}
use Rattle.core_laws.proofs.Invariant.{loadless-of}

-- with as many units decided as stand in closed batches and in a decided open one
abbrev pub LoadlessKept : CoreState → Type 0
LoadlessKept w =
    LoadlessAt (w.manager.closed + decided_size w.manager.batch) w
    × (w.manager.closed + open_size w.manager.batch ≤ length w.manager.order)

-- a batch that is decided, unit by unit
loadless-decide : (us : List UnitNo) (ds : List Decision) (n : ℕ) (w : CoreState) → LoadlessAt n w → length ds ≡ length us →
    ((k : ℕ) → k < length us → (n + k < length w.manager.order) × (get_or us k nobody ≡ get_or w.manager.order (n + k) nobody)) →
    LoadlessAt (n + length us) (record w { manager = record w.manager { verdict = judged us ds w.manager.verdict } })
loadless-decide [] ds n w i same at = subst (λ k. LoadlessAt k w) (omega arith) i
loadless-decide (u ∷ us) [] n w i same at = absurd (omega (arith, same))
loadless-decide (u ∷ us) (d ∷ ds) n w i same at =
    let a = at 0 (omega arith) in
    let lt : n < length w.manager.order = omega (arith, a.0) in
    let is : u ≡ get_or w.manager.order n nobody = a.1 ∙ ap (λ k. get_or w.manager.order k nobody) (omega arith) in
    let next = loadless-judged n w u (verdict_of d) i lt is (verdict_of-open d) in
    subst (λ k. LoadlessAt k (record w { manager = record w.manager { verdict = judged (u ∷ us) (d ∷ ds) w.manager.verdict } })) (omega arith)
    (loadless-decide us ds (n + 1) (with_verdict w u (verdict_of d)) next (omega (arith, same))
    (λ k h. (let b = at (suc k) (omega arith) in
    let e : n + suc k ≡ n + 1 + k = omega arith in
    (omega (arith, b.0), b.1 ∙ ap (λ j. get_or w.manager.order j nobody) e))))

pub open-at : (w : CoreState) (b : Batch) → LoadlessKept w → w.manager.batch ≡ Some b → b.decisions ≡ None → LoadlessAt w.manager.closed w
open-at w b k e d =
    subst (λ m. LoadlessAt m w) (ap (λ z. w.manager.closed + decided_size z) e ∙ ap (λ (z : Option (List Decision)). w.manager.closed + (if is_some z then b.size else 0)) d ∙ omega arith) k.0

pub judged-at : (w : CoreState) (b : Batch) (ds : List Decision) → LoadlessKept w → w.manager.batch ≡ Some b → b.decisions ≡ Some ds → LoadlessAt (w.manager.closed + b.size) w
judged-at w b ds k e d =
    subst (λ m. LoadlessAt m w) (ap (λ z. w.manager.closed + decided_size z) e ∙ ap (λ (z : Option (List Decision)). w.manager.closed + (if is_some z then b.size else 0)) d) k.0

pub size-at : (w : CoreState) (b : Batch) → LoadlessKept w → w.manager.batch ≡ Some b → w.manager.closed + b.size ≤ length w.manager.order
size-at w b k e = subst (λ z. w.manager.closed + open_size z ≤ length w.manager.order) e k.1

pub decided-at : (w : CoreState) (b : Batch) → LoadlessKept w → w.manager.batch ≡ Some b → b.decisions ≡ None → LoadlessAt (w.manager.closed + b.size) (with_decisions w b (decisions_of w b))
decided-at w b k e d =
    let le = size-at w b k e in
    let l : length (members w b) ≡ b.size = take_length b.size (waiting w) (omega (arith, length-drop w.manager.closed w.manager.order, le)) in
    subst (λ m. LoadlessAt (w.manager.closed + m) (with_decisions w b (decisions_of w b))) l
    (loadless-decide (members w b) (decisions_of w b) w.manager.closed w (open-at w b k e d)
    (decided-length (λ u. is_bad (w.manager.verdict u)) (map (prepared w b) (members w b)) ∙ length-map (members w b) (prepared w b))
    (λ j h. (omega (arith, l, h, le), at_part b.size w.manager.closed w.manager.order j (omega (arith, l, h)))))

closed-at : (w : CoreState) (f : Verdict → Verdict) (answer : UnitNo → Settled) (b : Batch) (ds : List Decision) → f Open ≡ Open → ((v : Verdict) → f v ≡ Open → v ≡ Open) →
    LoadlessAt (w.manager.closed + b.size) w → w.manager.closed + b.size ≤ length w.manager.order → LoadlessKept (closed w f answer b ds)
closed-at w f answer b ds still opens i le =
    let e : w.manager.closed + b.size ≡ w.manager.closed + b.size + 0 = omega arith in (
      subst (λ m. LoadlessAt m (closed w f answer b ds)) e (loadless-mapped _ w f still opens i),
      omega (arith, le),
    )

seal-open : (v : Verdict) → seal v ≡ Open → v ≡ Open
seal-open Open e = refl
seal-open Chosen e = cc
seal-open Condemned e = cc
seal-open Committed e = cc
seal-open Aborted e = cc

spoil-open : (v : Verdict) → spoil v ≡ Open → v ≡ Open
spoil-open Open e = refl
spoil-open Chosen e = cc
spoil-open Condemned e = cc
spoil-open Committed e = cc
spoil-open Aborted e = cc

leave-open : (v : Verdict) → leave v ≡ Open → v ≡ Open
leave-open Open e = refl
leave-open Chosen e = cc
leave-open Condemned e = cc
leave-open Committed e = cc
leave-open Aborted e = cc

pub loadless-change : (w : CoreState) (e : CoreEvent) (w' : CoreState) → Change w e w' → applies w e ≡ true → LoadlessKept w → LoadlessKept w'
loadless-change w e w' (bad line why q) a k = k
loadless-change w e w' (begin origin call plain c) a k = (loadless-begun _ w origin call plain k.0, k.1)
loadless-change w e w' (lock u g mode running free first here) a k = (loadless-locked _ (restacked w g (cleaned w g)) u g mode k.0 running free first here, k.1)
loadless-change w e w' (raise u g mode running free held here uncovered) a k = (loadless-raised _ (restacked w g (cleaned w g)) u g mode k.0 running free held here, k.1)
loadless-change w e w' (refuse u g mode why running q) a k = (loadless-refused _ w u why k.0 running, k.1)
loadless-change w e w' (finish u effect running plain of_call reads alone) a k = (loadless-finished _ w u effect k.0 running alone, omega (arith, k.1, length-push w.manager.order u))
loadless-change w e w' (end_plain u effect running plain of_call bare) a k = (loadless-over _ w u Ended k.0 running (λ z. cc) (λ z. cc) (λ z. cc), k.1)
loadless-change w e w' (end_snapshot u at outcome running plain kids answer) a k = (loadless-over _ w u Ended k.0 running (λ z. cc) (λ z. cc) (λ z. cc), k.1)
loadless-change w e w' (release u g over held) a k = (loadless-released _ w u g k.0 (is_over-not _ over) held, k.1)
loadless-change w e w' (take_batch none some) a k = (
  subst (λ z. LoadlessAt (w.manager.closed + z) w) (ap decided_size none) k.0,
  omega (arith, k.1, free_prefix-length w (take 64 (waiting w)), length-take 64 (waiting w), length-drop w.manager.closed w.manager.order),
)
loadless-change w e w' (vote n g kept b q number d planned fresh) a k = (subst (λ z. LoadlessAt (w.manager.closed + z) w) (ap decided_size q) k.0, size-at w b k q)
loadless-change w e w' (decide_some n b q number d voted some) a k = (decided-at w b k q d, size-at w b k q)
loadless-change w e w' (decide_none n b q number d voted none) a k = closed-at (with_decisions w b (decisions_of w b)) seal (result_told (with_decisions w b (decisions_of w b))) b (decisions_of w b) refl seal-open (decided-at w b k q d) (size-at w b k q)
loadless-change w e w' (seal_batch n b ds q number d) a k = closed-at w seal (result_told w) b ds refl seal-open (judged-at w b ds k q d) (size-at w b k q)
loadless-change w e w' (spoil_batch n b ds q number d) a k = closed-at w spoil (λ u. settled.Disk) b ds refl spoil-open (judged-at w b ds k q d) (size-at w b k q)
loadless-change w e w' (doubt_batch n b ds q number d) a k = closed-at w leave (λ u. settled.InDoubt) b ds refl leave-open (judged-at w b ds k q d) (size-at w b k q)
loadless-change w e w' (learn u g wrote final fresh) a k = k
loadless-change w e w' (emit q) a k = k
loadless-change w e w' (halt_run q) a k = k
loadless-change w e w' (want u g running free fresh) a k = k
loadless-change w e w' (load g u state gone wanted) a k = k

pub loadless-begins : (r : Run) → 0 < r.base → LoadlessKept (begins r)
loadless-begins r above = (
  record {
    fresh = above;
    unborn = λ u h. refl;
    outside = refl;
    blank = λ u q. refl;
    unwritten = λ u n. refl;
    undecided = λ u o. refl;
    listed = λ i lt. absurd (omega (arith, lt));
    placed = λ u f. cc;
    within = omega arith;
    early = λ u f. cc;
    late = λ u f. cc;
    alone = λ g h k m. absurd m;
    keeps = λ u r p m. absurd m;
    strong = λ u g h f. cc;
    told = λ g h m. absurd m;
    seen = λ g s m. absurd m;
    kept = λ g s m. absurd m;
  },
  omega arith,
)

pub loadless-step : (w : CoreState) (e : CoreEvent) → LoadlessKept w → LoadlessKept (step w e)
loadless-step w e k = step-keeps LoadlessKept loadless-change (λ w here p. p) w e k

pub loadless-run : (es : List CoreEvent) (w : CoreState) → LoadlessKept w → LoadlessKept (run w es)
loadless-run es w k = run-keeps LoadlessKept loadless-change (λ w here p. p) es w k

pub loadless-ends : (r : Run) → 0 < r.base → LoadlessKept (ends r)
loadless-ends r above = loadless-run r.events (begins r) (loadless-begins r above)

-- it is a part of what holds where each load is true
pub loadless-kept : (opening : GrainId → List Value) (w : CoreState) → Kept opening w → LoadlessKept w
loadless-kept opening w k = (loadless-of opening _ w k.0, k.1)
