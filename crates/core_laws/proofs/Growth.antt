-- What never changes back.
use Rattle.std.proofs.Common.{◌≡◌, ℕ, List, [], ◌∷◌, ◌++◌, Bool, true, false, inr, refl, sym, ap, ◌∙◌, subst, Option, Some, None}
use Rattle.std.proofs.lemmas.Bool.{and_parts, cond_both}
use Rattle.cell_model.proofs.Units.{Member-left}
use Rattle.core_model.specs.CoreState.{UnitNo, put_grain, Member, Origin, top, Batch, Decision, CoreState}
use Rattle.core_model.specs.declared.phases.Phase.{Phase}
use Rattle.core_model.specs.declared.phases.Phase.TheVariants.{Unborn, Running, Finished, Refused, Ended}
use Rattle.core_model.specs.declared.phases.Verdict.{Verdict}
use Rattle.core_model.specs.declared.phases.Verdict.TheVariants.{Open, Chosen, Condemned, Committed, Aborted}
use Rattle.core_model.specs.declared.effects.Read.{Read}
use Rattle.core_model.specs.Tests.{is_bad, is_final}
use Rattle.core_model.specs.DeadUnits.{Dead}
use Rattle.core_laws.proofs.Puts.{put-at, put-other}
use Rattle.core_laws.proofs.Basics.{Dead-more}
use Rattle.core_model.specs.CoreState.{Outcome, Call, Units}
use Rattle.core_model.specs.Tests.{is_running}
use Rattle.core_laws.proofs.Basics.{is_running-true}
use Rattle.std.proofs.Common.{le_refl}
use Rattle.core_model.specs.Tests.{is_over, outcome_in, outcome_of, members}
use Rattle.core_model.specs.Changes.{cleaned, read_of, begun, new_unit, kids_with, after_end, judged, decisions_of, with_decisions, sealed, spoiled, in_doubt, seal, spoil, leave, swept, swept_by}
use Rattle.base_types.specs.declared.calls.Origin.TheVariants.{Line, Child}
use Rattle.core_model.specs.Events.{can_begin}
use Rattle.core_model.specs.Events.{applies, can, does, step, run, is_allowed}
use Rattle.core_model.specs.declared.events.CoreEvent.{CoreEvent}
use Rattle.core_laws.proofs.EventCases.{Change, bad, begin, lock, raise, refuse, finish, end_plain, end_snapshot, release, take_batch, vote, decide_some, decide_none, seal_batch, spoil_batch, doubt_batch, learn, emit, halt_run, want, load, decode}
use Rattle.core_laws.proofs.Orders.{judged-other, members-open}
use Rattle.core_laws.proofs.LoadlessKept.{LoadlessKept, open-at, loadless-step}

-- Bad verdicts stay bad, final ones stay, reads stay, and a unit that is over stays as it is.
abbrev pub Grows : CoreState → CoreState → Type 0
Grows w w' =
    ((x : UnitNo) → is_bad (w.manager.verdict x) ≡ true → is_bad (w'.manager.verdict x) ≡ true)
    × ((x : UnitNo) → is_final (w.manager.verdict x) ≡ true → w'.manager.verdict x ≡ w.manager.verdict x)
    × ((x : UnitNo) (r : Read) → Member r (w.units.reads x) → Member r (w'.units.reads x))
    × ((x : UnitNo) → is_over (w.units.phase x) ≡ true → (w'.units.phase x ≡ w.units.phase x) × (w'.manager.result x ≡ w.manager.result x) × (w'.manager.answers x ≡ w.manager.answers x) × (w'.units.kids x ≡ w.units.kids x))

pub grows-same : (w : CoreState) → Grows w w
grows-same w = ((λ x e. e), (λ x e. refl), (λ x r m. m), (λ x o. (refl, refl, refl, refl)))

pub grows-more : (a b c : CoreState) → Grows a b → Grows b c → Grows a c
grows-more a b c g h = (
  (λ x e. h.0 x (g.0 x e)),
  (λ x e. h.1 x (ap is_final (g.1 x e) ∙ e) ∙ g.1 x e),
  (λ x r m. h.2 x r (g.2 x r m)),
  (λ x o. (let p = g.3 x o in let q = h.3 x (ap is_over p.0 ∙ o) in (q.0 ∙ p.0, q.1 ∙ p.1, q.2 ∙ p.2, q.3 ∙ p.3))),
)

-- a unit that runs isn't over
running-over : (p : Phase) → p ≡ Running → is_over p ≡ true → ⊥
running-over p r o = (let t : false ≡ true = sym (ap is_over r) ∙ o in cc)

unborn-over : (p : Phase) → p ≡ Unborn → is_over p ≡ true → ⊥
unborn-over p r o = (let t : false ≡ true = sym (ap is_over r) ∙ o in cc)

open-bad : (v : Verdict) → v ≡ Open → is_bad v ≡ true → ⊥
open-bad v q b = (let t : false ≡ true = sym (ap is_bad q) ∙ b in cc)

open-final : (v : Verdict) → v ≡ Open → is_final v ≡ true → ⊥
open-final v q b = (let t : false ≡ true = sym (ap is_final q) ∙ b in cc)

-- a change of verdicts in one way
grows-mapped : (w : CoreState) (f : Verdict → Verdict) → ((v : Verdict) → is_bad v ≡ true → is_bad (f v) ≡ true) → ((v : Verdict) → is_final v ≡ true → f v ≡ v) →
    (w' : CoreState) → w'.manager.verdict ≡ (λ u. f (w.manager.verdict u)) → w'.units ≡ w.units → w'.manager.result ≡ w.manager.result → w'.manager.answers ≡ w.manager.answers → Grows w w'
grows-mapped w f bad' final' w' v u r a = (
  (λ x e. ap (λ g. is_bad (g x)) v ∙ bad' (w.manager.verdict x) e),
  (λ x e. ap (λ g. g x) v ∙ final' (w.manager.verdict x) e),
  (λ x m n. subst (λ (z : Units). Member m (z.reads x)) (sym u) n),
  (λ x o. (ap (λ (z : Units). z.phase x) u, ap (λ g. g x) r, ap (λ g. g x) a, ap (λ (z : Units). z.kids x) u)),
)

pub seal-bad : (v : Verdict) → is_bad v ≡ true → is_bad (seal v) ≡ true
seal-bad Open e = cc
seal-bad Chosen e = cc
seal-bad Condemned e = refl
seal-bad Committed e = cc
seal-bad Aborted e = refl

spoil-bad : (v : Verdict) → is_bad v ≡ true → is_bad (spoil v) ≡ true
spoil-bad Open e = cc
spoil-bad Chosen e = cc
spoil-bad Condemned e = refl
spoil-bad Committed e = cc
spoil-bad Aborted e = refl

leave-bad : (v : Verdict) → is_bad v ≡ true → is_bad (leave v) ≡ true
leave-bad Open e = cc
leave-bad Chosen e = cc
leave-bad Condemned e = refl
leave-bad Committed e = cc
leave-bad Aborted e = refl

seal-final : (v : Verdict) → is_final v ≡ true → seal v ≡ v
seal-final Open e = cc
seal-final Chosen e = cc
seal-final Condemned e = cc
seal-final Committed e = refl
seal-final Aborted e = refl

spoil-final : (v : Verdict) → is_final v ≡ true → spoil v ≡ v
spoil-final Open e = cc
spoil-final Chosen e = cc
spoil-final Condemned e = cc
spoil-final Committed e = refl
spoil-final Aborted e = refl

leave-final : (v : Verdict) → is_final v ≡ true → leave v ≡ v
leave-final Open e = cc
leave-final Chosen e = cc
leave-final Condemned e = cc
leave-final Committed e = refl
leave-final Aborted e = refl

pub grows-decided : (w : CoreState) (b : Batch) (ds : List Decision) → LoadlessKept w → w.manager.batch ≡ Some b → b.decisions ≡ None → Grows w (with_decisions w b ds)
grows-decided w b ds k q d = (
  (λ x e. ap is_bad (other x (λ m. open-bad _ (is_open x m) e)) ∙ e),
  (λ x e. other x (λ m. open-final _ (is_open x m) e)),
  (λ x r m. m),
  (λ x o. (refl, refl, refl, refl)),
)
  where
    is_open : (x : UnitNo) → Member x (members w b) → w.manager.verdict x ≡ Open
    is_open x m = (members-open w b (open-at w b k q d) x m).1

    other : (x : UnitNo) → (Member x (members w b) → ⊥) → judged (members w b) ds w.manager.verdict x ≡ w.manager.verdict x
    other x n = judged-other (members w b) ds w.manager.verdict x n

grows-ended : (w : CoreState) (u : UnitNo) (answers : List Outcome) (result : Outcome) (at : Option ℕ) → w.units.phase u ≡ Running → Grows w (after_end w u answers result at)
grows-ended w u answers result at running = (
  (λ x e. e),
  (λ x e. refl),
  (λ x r m. m),
  (λ x o. (let apart : x ≡ u → ⊥ = λ q. running-over _ (ap w.units.phase q ∙ running) o in
      (put-other w.units.phase u Ended x apart, put-other w.manager.result u result x apart, put-other w.manager.answers u answers x apart, refl))),
)

grows-begun : (w : CoreState) (origin : Origin) (call : Call) (plain : Bool) → LoadlessKept w → can_begin w origin ≡ true → Grows w (begun w origin call plain)
grows-begun w origin call plain k c = (
  (λ x e. e),
  (λ x e. refl),
  (λ x r m. m),
  (λ x o. (put-other w.units.phase (new_unit w) Running x (λ q. unborn-over _ (ap w.units.phase q ∙ k.0.unborn (new_unit w) (le_refl w.units.next)) o), refl, refl, kids origin x c o)),
)
  where
    kids : (origin : Origin) (x : UnitNo) → can_begin w origin ≡ true → is_over (w.units.phase x) ≡ true → kids_with w.units.kids origin (new_unit w) x ≡ w.units.kids x
    kids (Line n) x c o = refl
    kids (Child p i d) x c o = put-other w.units.kids p _ x (λ q. running-over _ (ap w.units.phase q ∙ is_running-true _ (and_parts (is_running (w.units.phase p)) _ c).0) o)

pub grows-change : (w : CoreState) (e : CoreEvent) (w' : CoreState) → Change w e w' → applies w e ≡ true → LoadlessKept w → Grows w w'
grows-change w e w' (bad line why q) a k = grows-same w
grows-change w e w' (begin origin call plain c) a k = grows-begun w origin call plain k c
grows-change w e w' (lock u g mode running free first here) a k = (
  (λ x z. z),
  (λ x z. refl),
  (λ x r m. put-at w.units.reads u (w.units.reads u ++ read_of g (top (put_grain w.cells.stack g (cleaned w g) g)) ∷ []) (Member r) x (λ z. Member-left r (w.units.reads u) (read_of g (top (put_grain w.cells.stack g (cleaned w g) g)) ∷ []) (subst (λ y. Member r (w.units.reads y)) z m)) (λ z. m)),
  (λ x o. (refl, refl, refl, refl)),
)
grows-change w e w' (raise u g mode running free held here uncovered) a k = grows-same w
grows-change w e w' (refuse u g mode why running q) a k = (
  (λ x z. put-at w.manager.verdict u Aborted (λ v. is_bad v ≡ true) x (λ y. refl) (λ y. z)),
  (λ x z. put-other w.manager.verdict u Aborted x (λ y. open-final _ (ap w.manager.verdict y ∙ k.0.undecided u (inr running)) z)),
  (λ x r m. m),
  (λ x o. (put-other w.units.phase u Refused x (λ y. running-over _ (ap w.units.phase y ∙ running) o), refl, refl, refl)),
)
grows-change w e w' (finish u effect running plain of_call reads alone) a k = (
  (λ x z. z),
  (λ x z. refl),
  (λ x r m. m),
  (λ x o. (let apart : x ≡ u → ⊥ = λ y. running-over _ (ap w.units.phase y ∙ running) o in
      (put-other w.units.phase u Finished x apart, put-other w.manager.result u effect.result x apart, put-other w.manager.answers u effect.answers x apart, refl))),
)
grows-change w e w' (end_plain u effect running plain of_call bare) a k = grows-ended w u effect.answers effect.result None running
grows-change w e w' (end_snapshot u at outcome running plain kids answer) a k = grows-ended w u [] outcome (Some at) running
grows-change w e w' (release u g over held) a k = grows-same w
grows-change w e w' (take_batch none some) a k = grows-same w
grows-change w e w' (vote n g kept b q number d planned fresh) a k = grows-same w
grows-change w e w' (decide_some n b q number d voted some) a k = grows-decided w b (decisions_of w b) k q d
grows-change w e w' (decide_none n b q number d voted none) a k =
    grows-more w (with_decisions w b (decisions_of w b)) (sealed (with_decisions w b (decisions_of w b)) b (decisions_of w b)) (grows-decided w b (decisions_of w b) k q d)
    (grows-mapped (with_decisions w b (decisions_of w b)) seal seal-bad seal-final (sealed (with_decisions w b (decisions_of w b)) b (decisions_of w b)) refl refl refl refl)
grows-change w e w' (seal_batch n b ds q number d) a k = grows-mapped w seal seal-bad seal-final (sealed w b ds) refl refl refl refl
grows-change w e w' (spoil_batch n b ds q number d) a k = grows-mapped w spoil spoil-bad spoil-final (spoiled w b ds) refl refl refl refl
grows-change w e w' (doubt_batch n b ds q number d) a k = grows-mapped w leave leave-bad leave-final (in_doubt w b ds) refl refl refl refl
grows-change w e w' (learn u g wrote final fresh) a k = grows-same w
grows-change w e w' (emit q) a k = grows-same w
grows-change w e w' (halt_run q) a k = grows-same w
grows-change w e w' (want u g running free fresh) a k = grows-same w
grows-change w e w' (load g u state gone wanted) a k = grows-same w

pub grows-swept : (w w' : CoreState) → Grows w w' → Grows w (swept w')
grows-swept w w' g = go w'.cells.capacity
  where
    go : (c : Option ℕ) → Grows w (swept_by w' c)
    go None = g
    go (Some m) = g

pub grows-step : (w : CoreState) (e : CoreEvent) → LoadlessKept w → Grows w (step w e)
grows-step w e k = cond_both (applies w e) (swept (does w e)) w (Grows w)
    (λ a. grows-swept w (does w e) (grows-change w e (does w e) (decode w e (and_parts (is_allowed w e) (can w e) a).1) a k))
    (λ a. grows-same w)

pub grows-run : (es : List CoreEvent) (w : CoreState) → LoadlessKept w → Grows w (run w es)
grows-run [] w k = grows-same w
grows-run (e ∷ es) w k = grows-more w (step w e) (run (step w e) es) (grows-step w e k) (grows-run es (step w e) (loadless-step w e k))

-- the dead stay dead
pub grows-dead : (w w' : CoreState) → Grows w w' → (u : UnitNo) → Dead w.manager.verdict w.units.reads u → Dead w'.manager.verdict w'.units.reads u
grows-dead w w' g = Dead-more w.manager.verdict w'.manager.verdict w.units.reads w'.units.reads g.0 g.2

-- what is decided of a unit stays
pub grows-outcome : (w w' : CoreState) → Grows w w' → (u : UnitNo) (o : Outcome) → outcome_of w u ≡ Some o → outcome_of w' u ≡ Some o
grows-outcome w w' g u o e = go (w.units.phase u) refl (w.manager.verdict u) refl
  where
    over : (p : Phase) → w.units.phase u ≡ p → is_over p ≡ true → (w'.units.phase u ≡ p) × (w'.manager.result u ≡ w.manager.result u)
    over p q h = (let t = g.3 u (ap is_over q ∙ h) in (t.0 ∙ q, t.1))

    from : (p : Phase) (v : Verdict) → w.units.phase u ≡ p → w.manager.verdict u ≡ v → outcome_in p v (w.manager.result u) ≡ Some o
    from p v q h = (λ i. outcome_in (sym q i) (sym h i) (w.manager.result u)) ∙ e

    to : (p : Phase) (v : Verdict) → w'.units.phase u ≡ p → w'.manager.verdict u ≡ v → w'.manager.result u ≡ w.manager.result u → outcome_in p v (w.manager.result u) ≡ Some o → outcome_of w' u ≡ Some o
    to p v q h r f = (λ i. outcome_in (q i) (h i) (r i)) ∙ f

    go : (p : Phase) → w.units.phase u ≡ p → (v : Verdict) → w.manager.verdict u ≡ v → outcome_of w' u ≡ Some o
    go Unborn q v h = (let t : None ≡ Some o = from Unborn v q h in cc)
    go Running q v h = (let t : None ≡ Some o = from Running v q h in cc)
    go Refused q v h = (let t = over Refused q refl in (λ i. outcome_in (t.0 i) (w'.manager.verdict u) (w'.manager.result u)) ∙ from Refused v q h)
    go Ended q v h = (let t = over Ended q refl in (λ i. outcome_in (t.0 i) (w'.manager.verdict u) (t.1 i)) ∙ from Ended v q h)
    go Finished q Committed h = (let t = over Finished q refl in to Finished Committed t.0 (g.1 u (ap is_final h) ∙ h) t.1 (from Finished Committed q h))
    go Finished q Aborted h = (let t = over Finished q refl in to Finished Aborted t.0 (g.1 u (ap is_final h) ∙ h) t.1 (from Finished Aborted q h))
    go Finished q Open h = (let t : None ≡ Some o = from Finished Open q h in cc)
    go Finished q Chosen h = (let t : None ≡ Some o = from Finished Chosen q h in cc)
    go Finished q Condemned h = (let t : None ≡ Some o = from Finished Condemned q h in cc)
