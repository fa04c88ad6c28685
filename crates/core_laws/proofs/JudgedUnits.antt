-- Each unit of a decided open batch is judged as its decision says, whatever was loaded.
use Rattle.std.proofs.Common.{◌≡◌, ℕ, suc, ◌+◌, ◌<◌, List, [], ◌∷◌, length, get_or, map, filter, Bool, true, inl, inr, refl, sym, ap, ◌∙◌, subst, arith, Option, Some, None, length-drop}
use Rattle.std.specs.Prelude.{⊤}
use Rattle.cell_model.specs.Units.{oldest}
use Rattle.cell_model.specs.Decisions.{by_cause, decision, all_decided, and_itself}
use Rattle.cell_model.specs.declared.outcomes.Decision.TheVariants as decision
use Rattle.core_model.specs.CoreState.{UnitNo, GrainId, nobody, put, Member, Write, Batch, Decision, Prepared, CoreState}
use Rattle.core_model.specs.declared.phases.Phase.TheVariants.{Running, Finished}
use Rattle.core_model.specs.declared.phases.Verdict.{Verdict}
use Rattle.core_model.specs.declared.phases.Verdict.TheVariants.{Aborted}
use Rattle.core_model.specs.Chains.{WroteGrain}
use Rattle.core_model.specs.Tests.{is_bad, failed_in, members, state_written, waiting}
use Rattle.core_model.specs.Changes.{finished, verdict_of, judged, decisions_of}
use Rattle.core_model.specs.Events.{applies}
use Rattle.core_model.specs.declared.events.CoreEvent.{CoreEvent}
use Rattle.core_laws.proofs.Puts.{put-same, put-other}
use Rattle.core_laws.proofs.EventCases.{Change, bad, begin, lock, raise, refuse, finish, end_plain, end_snapshot, release, take_batch, vote, decide_some, decide_none, seal_batch, spoil_batch, doubt_batch, learn, emit, halt_run, want, load}
use Rattle.core_laws.proofs.Orders.{judged-other, at_part, take_length, Member-at, in_part, take-drop-push}
use Rattle.core_laws.proofs.KeptBatch.{prepare}
use Rattle.core_laws.proofs.Failures.{failed-some}
use Rattle.core_laws.proofs.Loadless.{LoadlessAt}
use Rattle.core_laws.proofs.LoadlessKept.{LoadlessKept, open-at, size-at}

-- each unit is judged as its decision says, and wrote the grain whose file failed
abbrev pub Judges : (UnitNo → List Write) → (UnitNo → Verdict) → List UnitNo → List Decision → Type 0
Judges writes verdict [] [] = ⊤
Judges writes verdict [] (d ∷ ds) = ⊥
Judges writes verdict (u ∷ us) [] = ⊥
Judges writes verdict (u ∷ us) (d ∷ ds) = (verdict u ≡ verdict_of d) × ((g : GrainId) → d ≡ decision.Vote g → WroteGrain writes u g) × Judges writes verdict us ds

-- where what units wrote and their verdicts are the same, so is that
judges-same : (ws ws' : UnitNo → List Write) (v v' : UnitNo → Verdict) (us : List UnitNo) (ds : List Decision) → ((u : UnitNo) → Member u us → (ws' u ≡ ws u) × (v' u ≡ v u)) → Judges ws v us ds → Judges ws' v' us ds
judges-same ws ws' v v' [] [] same j = tt
judges-same ws ws' v v' [] (d ∷ ds) same j = j
judges-same ws ws' v v' (u ∷ us) [] same j = j
judges-same ws ws' v v' (u ∷ us) (d ∷ ds) same j =
    let t = same u (inl refl) in (
      t.1 ∙ j.0,
      (λ g q. (let w = j.1 g q in (w.0, ap (state_written g) t.0 ∙ w.1))),
      judges-same ws ws' v v' us ds (λ x m. same x (inr m)) j.2,
    )

-- each unit stands once
abbrev pub Apart : List UnitNo → Type 0
Apart [] = ⊤
Apart (u ∷ us) = (Member u us → ⊥) × Apart us

-- a part of the finish order is so
apart-from : (n : ℕ) (w : CoreState) → LoadlessAt n w → (us : List UnitNo) (k : ℕ) →
    ((j : ℕ) → j < length us → (k + j < length w.manager.order) × (get_or us j nobody ≡ get_or w.manager.order (k + j) nobody)) → Apart us
apart-from n w i [] k at = tt
apart-from n w i (u ∷ us) k at = (
  (λ m. (let t = later u m in omega (arith, t, here))),
  apart-from n w i us (k + 1) rest,
)
  where
    here : w.manager.place u ≡ k + 1
    here =
        let a = at 0 (omega arith) in
        let is : u ≡ get_or w.manager.order k nobody = a.1 ∙ ap (λ j. get_or w.manager.order j nobody) (omega arith) in
        ap w.manager.place is ∙ (i.listed k (omega (arith, a.0))).1

    rest : (j : ℕ) → j < length us → (k + 1 + j < length w.manager.order) × (get_or us j nobody ≡ get_or w.manager.order (k + 1 + j) nobody)
    rest j h =
        let b = at (suc j) (omega arith) in
        let e : k + suc j ≡ k + 1 + j = omega arith in
        (omega (arith, b.0), b.1 ∙ ap (λ x. get_or w.manager.order x nobody) e)

    later : (x : UnitNo) → Member x us → k + 1 < w.manager.place x
    later x m =
        let t = Member-at x us m in
        let r = rest t.0 t.1 in
        let l = i.listed (k + 1 + t.0) r.0 in
        subst (λ z. k + 1 < w.manager.place z) (sym r.1 ∙ t.2) (omega (arith, l.1))

-- a decision by a vote names what failed
by_vote : (f : Option GrainId) (o : Option UnitNo) (g : GrainId) → by_cause f o ≡ decision.Vote g → f ≡ Some g
by_vote (Some h) o g q = (let z : h ≡ g = cc in ap Some z)
by_vote None None g q = cc
by_vote None (Some on) g q = cc

-- the decisions of a batch judge its units so
judges-decide : (votes : List (GrainId × Bool)) (writes : UnitNo → List Write) (deps : UnitNo → List UnitNo) (us : List UnitNo) (dead : UnitNo → Bool) (v : UnitNo → Verdict) → Apart us →
    Judges writes (judged us (all_decided dead (map (prepare (λ u. failed_in votes (writes u)) deps) us)) v) us (all_decided dead (map (prepare (λ u. failed_in votes (writes u)) deps) us))
judges-decide votes writes deps [] dead v apart = tt
judges-decide votes writes deps (u ∷ us) dead v apart =
    let p : Prepared = prepare (λ x. failed_in votes (writes x)) deps u in
    let d : Decision = decision dead p in
    let rest : List Decision = all_decided (and_itself dead p) (map (prepare (λ x. failed_in votes (writes x)) deps) us) in (
      judged-other us rest (put v u (verdict_of d)) u apart.0 ∙ put-same v u (verdict_of d),
      (λ g q. (failed-some votes (writes u) g (by_vote (failed_in votes (writes u)) (oldest (filter dead (deps u))) g q)).0),
      judges-decide votes writes deps us (and_itself dead p) (put v u (verdict_of d)) apart.1,
    )

-- a decided open batch does
abbrev pub BatchJudges : CoreState → Type 0
BatchJudges w = (b : Batch) (ds : List Decision) → w.manager.batch ≡ Some b → b.decisions ≡ Some ds → Judges w.manager.writes w.manager.verdict (members w b) ds

some-is : {A : Type 0} (x y : A) → Some x ≡ Some y → x ≡ y
some-is x y e = cc

none-some : {A : Type 0} (o : Option A) (x : A) → o ≡ None → o ≡ Some x → ⊥
none-some o x n s = (let t : None ≡ Some x = sym n ∙ s in cc)

-- a batch that is decided now
pub judges-decided : (w : CoreState) (b : Batch) → LoadlessKept w → w.manager.batch ≡ Some b → b.decisions ≡ None → Judges w.manager.writes (judged (members w b) (decisions_of w b) w.manager.verdict) (members w b) (decisions_of w b)
judges-decided w b k q d =
    let le = size-at w b k q in
    let l : length (members w b) ≡ b.size = take_length b.size (waiting w) (omega (arith, length-drop w.manager.closed w.manager.order, le)) in
    judges-decide b.votes w.manager.writes w.units.deps (members w b) (λ u. is_bad (w.manager.verdict u)) w.manager.verdict
    (apart-from w.manager.closed w (open-at w b k q d) (members w b) w.manager.closed (λ j h. (omega (arith, l, h, le), at_part b.size w.manager.closed w.manager.order j (omega (arith, l, h)))))

-- a member of the open batch doesn't run
pub member-over : (w : CoreState) (b : Batch) → LoadlessKept w → (x u : UnitNo) → Member x (members w b) → w.units.phase u ≡ Running → x ≡ u → ⊥
member-over w b k x u m running q = (let t : Finished ≡ Running = sym (in_part _ w k.0 w.manager.closed b.size x m).0 ∙ ap w.units.phase q ∙ running in cc)

-- every event keeps it
pub batch-judges-change : (w : CoreState) (e : CoreEvent) (w' : CoreState) → Change w e w' → applies w e ≡ true → LoadlessKept w → BatchJudges w → BatchJudges w'
batch-judges-change w e w' (bad line why q) a k s = s
batch-judges-change w e w' (begin origin call plain c) a k s = s
batch-judges-change w e w' (lock u g mode running free first here) a k s = s
batch-judges-change w e w' (raise u g mode running free held here uncovered) a k s = s
batch-judges-change w e w' (refuse u g mode why running q) a k s =
    λ b ds z y. judges-same w.manager.writes w.manager.writes w.manager.verdict (put w.manager.verdict u Aborted) (members w b) ds
    (λ x m. (refl, put-other w.manager.verdict u Aborted x (member-over w b k x u m running)))
    (s b ds z y)
batch-judges-change w e w' (finish u effect running plain of_call reads alone) a k s =
    λ b ds z y.
    let same : members (finished w u effect) b ≡ members w b = take-drop-push b.size w.manager.closed w.manager.order u (size-at w b k z) in
    subst (λ us. Judges (put w.manager.writes u effect.writes) w.manager.verdict us ds) (sym same)
    (judges-same w.manager.writes (put w.manager.writes u effect.writes) w.manager.verdict w.manager.verdict (members w b) ds
    (λ x m. (put-other w.manager.writes u effect.writes x (member-over w b k x u m running), refl))
    (s b ds z y))
batch-judges-change w e w' (end_plain u effect running plain of_call bare) a k s = s
batch-judges-change w e w' (end_snapshot u at outcome running plain kids answer) a k s = s
batch-judges-change w e w' (release u g over held) a k s = s
batch-judges-change w e w' (take_batch none some) a k s = λ b ds z y. absurd (none-some b.decisions ds (ap (λ (t : Batch). t.decisions) (sym (some-is _ b z))) y)
batch-judges-change w e w' (vote n g kept b q number d planned fresh) a k s = λ c ds z y. absurd (none-some c.decisions ds (ap (λ (t : Batch). t.decisions) (sym (some-is _ c z)) ∙ d) y)
batch-judges-change w e w' (decide_some n b q number d voted some) a k s =
    λ c ds z y.
    let same : record b { decisions = Some (decisions_of w b) } ≡ c = some-is _ c z in
    let all : decisions_of w b ≡ ds = some-is _ ds (ap (λ (t : Batch). t.decisions) same ∙ y) in
    subst (λ (t : Batch). Judges w.manager.writes (judged (members w b) (decisions_of w b) w.manager.verdict) (members w t) ds) same
    (subst (λ cs. Judges w.manager.writes (judged (members w b) (decisions_of w b) w.manager.verdict) (members w b) cs) all (judges-decided w b k q d))
batch-judges-change w e w' (decide_none n b q number d voted none) a k s = λ c ds z y. (let t : None ≡ Some c = z in cc)
batch-judges-change w e w' (seal_batch n b ds q number d) a k s = λ c cs z y. (let t : None ≡ Some c = z in cc)
batch-judges-change w e w' (spoil_batch n b ds q number d) a k s = λ c cs z y. (let t : None ≡ Some c = z in cc)
batch-judges-change w e w' (doubt_batch n b ds q number d) a k s = λ c cs z y. (let t : None ≡ Some c = z in cc)
batch-judges-change w e w' (learn u g wrote final fresh) a k s = s
batch-judges-change w e w' (emit q) a k s = s
batch-judges-change w e w' (halt_run q) a k s = s
batch-judges-change w e w' (want u g running free fresh) a k s = s
batch-judges-change w e w' (load g u state gone wanted) a k s = s
