-- Why each unit of a decided batch is decided so.
use Rattle.std.proofs.Common.{◌≡◌, ℕ, suc, ◌+◌, ◌<◌, ◌≤◌, List, [], ◌∷◌, length, get_or, Bool, true, false, inl, inr, refl, sym, ap, ◌∙◌, subst, arith, Option, Some, None}
use Rattle.std.proofs.lemmas.Bool.{and_parts, cond_both}
use Rattle.cell_model.proofs.Units.{filter-stays}
use Rattle.core_model.specs.CoreState.{UnitNo, GrainId, nobody, put, Member, Value, Write, Batch, Decision, CoreState}
use Rattle.core_model.specs.declared.phases.Phase.TheVariants.{Running, Finished}
use Rattle.core_model.specs.declared.phases.Verdict.{Verdict}
use Rattle.core_model.specs.declared.phases.Verdict.TheVariants.{Open, Aborted}
use Rattle.core_model.specs.Tests.{is_bad}
use Rattle.core_laws.proofs.Puts.{put-same, put-other}
use Rattle.core_laws.proofs.Invariant.{Inv, loadless-of}
use Rattle.std.specs.Prelude.{⊤}
use Rattle.std.proofs.Common.{map, filter, length-drop}
use Rattle.cell_model.specs.declared.outcomes.Decision.TheVariants as decision
use Rattle.cell_model.specs.Units.{oldest}
use Rattle.cell_model.specs.Decisions.{by_cause, decision, all_decided, and_itself}
use Rattle.cell_model.proofs.Decisions.{none-dead, some-dead}
use Rattle.cell_model.proofs.Units.{oldest-some}
use Rattle.core_model.specs.CoreState.{Prepared}
use Rattle.core_model.specs.Tests.{members, waiting, failed_in}
use Rattle.core_model.specs.Changes.{finished, voted, verdict_of, judged, decisions_of, swept, swept_by}
use Rattle.core_model.specs.Events.{applies, can, does, step, is_allowed}
use Rattle.core_model.specs.declared.events.CoreEvent.{CoreEvent}
use Rattle.core_laws.proofs.EventCases.{Change, bad, begin, lock, raise, refuse, finish, end_plain, end_snapshot, release, take_batch, vote, decide_some, decide_none, seal_batch, spoil_batch, doubt_batch, learn, emit, halt_run, want, load, decode}
use Rattle.core_laws.proofs.Orders.{judged-other, at_part, take_length, Member-at, in_part, members-open, take-drop-push}
use Rattle.core_laws.proofs.KeptBatch.{prepare, dead-agrees}
use Rattle.core_laws.proofs.Dependencies.{Depends}
use Rattle.core_laws.proofs.Consistency.{depends-earlier}
use Rattle.core_laws.proofs.KeptInvariant.{Kept, inv-open, size-open}

-- what a decision says of the unit's files and dependencies
abbrev pub Reason : List (GrainId × Bool) → List Write → List UnitNo → (UnitNo → Verdict) → Decision → Type 0
Reason votes writes deps verdict decision.Commit = (failed_in votes writes ≡ None) × ((d : UnitNo) → Member d deps → is_bad (verdict d) ≡ false)
Reason votes writes deps verdict (decision.Vote g) = failed_in votes writes ≡ Some g
Reason votes writes deps verdict (decision.Dependency on) =
    (failed_in votes writes ≡ None) × Member on deps × (is_bad (verdict on) ≡ true) × ((d : UnitNo) → Member d deps → is_bad (verdict d) ≡ true → on.0 ≤ d.0)

-- each unit has its decision, with the reason
abbrev pub Reasons : List (GrainId × Bool) → (UnitNo → List Write) → (UnitNo → List UnitNo) → (UnitNo → Verdict) → List UnitNo → List Decision → Type 0
Reasons votes writes deps verdict [] [] = ⊤
Reasons votes writes deps verdict [] (d ∷ ds) = ⊥
Reasons votes writes deps verdict (u ∷ us) [] = ⊥
Reasons votes writes deps verdict (u ∷ us) (d ∷ ds) = (verdict u ≡ verdict_of d) × Reason votes (writes u) (deps u) verdict d × Reasons votes writes deps verdict us ds

reason-same : (votes : List (GrainId × Bool)) (ws ws' : List Write) (ds ds' : List UnitNo) (v v' : UnitNo → Verdict) → ws' ≡ ws → ds' ≡ ds → ((d : UnitNo) → Member d ds → v' d ≡ v d) → (d : Decision) → Reason votes ws ds v d → Reason votes ws' ds' v' d
reason-same votes ws ws' ds ds' v v' p q r decision.Commit t =
    (ap (failed_in votes) p ∙ t.0, λ d m. (let n = subst (Member d) q m in ap is_bad (r d n) ∙ t.1 d n))
reason-same votes ws ws' ds ds' v v' p q r (decision.Vote g) t = ap (failed_in votes) p ∙ t
reason-same votes ws ws' ds ds' v v' p q r (decision.Dependency on) t =
    (ap (failed_in votes) p ∙ t.0, subst (Member on) (sym q) t.1, ap is_bad (r on t.1) ∙ t.2, λ d m b. (let n = subst (Member d) q m in t.3 d n (ap is_bad (sym (r d n)) ∙ b)))

pub reasons-same : (votes : List (GrainId × Bool)) (ws ws' : UnitNo → List Write) (ds ds' : UnitNo → List UnitNo) (v v' : UnitNo → Verdict) (us : List UnitNo) (cs : List Decision) →
    ((u : UnitNo) → Member u us → (ws' u ≡ ws u) × (ds' u ≡ ds u) × (v' u ≡ v u) × ((d : UnitNo) → Member d (ds u) → v' d ≡ v d)) → Reasons votes ws ds v us cs → Reasons votes ws' ds' v' us cs
reasons-same votes ws ws' ds ds' v v' [] [] same r = tt
reasons-same votes ws ws' ds ds' v v' [] (c ∷ cs) same r = r
reasons-same votes ws ws' ds ds' v v' (u ∷ us) [] same r = r
reasons-same votes ws ws' ds ds' v v' (u ∷ us) (c ∷ cs) same r =
    let t = same u (inl refl) in
    (t.2 ∙ r.0, reason-same votes (ws u) (ws' u) (ds u) (ds' u) v v' t.0 t.1 t.3 c r.1, reasons-same votes ws ws' ds ds' v v' us cs (λ x m. same x (inr m)) r.2)

-- each unit stands once, after its dependencies
abbrev pub Ordered : (UnitNo → List UnitNo) → List UnitNo → Type 0
Ordered deps [] = ⊤
Ordered deps (u ∷ us) = (Member u us → ⊥) × ((d : UnitNo) → Member d (deps u) → Member d (u ∷ us) → ⊥) × Ordered deps us

decision-reason : (votes : List (GrainId × Bool)) (ws : List Write) (ds : List UnitNo) (v : UnitNo → Verdict) (dead : UnitNo → Bool) → ((d : UnitNo) → Member d ds → dead d ≡ is_bad (v d)) →
    (f : Option GrainId) → failed_in votes ws ≡ f → (o : Option UnitNo) → oldest (filter dead ds) ≡ o → Reason votes ws ds v (by_cause f o)
decision-reason votes ws ds v dead agree (Some g) p o q = p
decision-reason votes ws ds v dead agree None p None q = (p, λ d m. sym (agree d m) ∙ none-dead dead ds q d m)
decision-reason votes ws ds v dead agree None p (Some on) q =
    let t = some-dead dead ds on q in
    (p, t.0, sym (agree on t.0) ∙ t.1, λ d m b. (oldest-some (filter dead ds) on q).1 d (filter-stays dead ds d m (agree d m ∙ b)))

-- the decisions of a batch have their reasons in the verdicts that they make
pub reasons-decide : (votes : List (GrainId × Bool)) (writes : UnitNo → List Write) (deps : UnitNo → List UnitNo) (us : List UnitNo) (dead : UnitNo → Bool) (v : UnitNo → Verdict) →
    ((x : UnitNo) → dead x ≡ is_bad (v x)) → ((u : UnitNo) → Member u us → v u ≡ Open) → Ordered deps us →
    Reasons votes writes deps (judged us (all_decided dead (map (prepare (λ u. failed_in votes (writes u)) deps) us)) v) us (all_decided dead (map (prepare (λ u. failed_in votes (writes u)) deps) us))
reasons-decide votes writes deps [] dead v agree opens ordered = tt
reasons-decide votes writes deps (u ∷ us) dead v agree opens ordered =
    let p : Prepared = prepare (λ x. failed_in votes (writes x)) deps u in
    let c : Decision = decision dead p in
    let rest : List Decision = all_decided (and_itself dead p) (map (prepare (λ x. failed_in votes (writes x)) deps) us) in
    let mine : judged us rest (put v u (verdict_of c)) u ≡ verdict_of c = judged-other us rest (put v u (verdict_of c)) u ordered.0 ∙ put-same v u (verdict_of c) in (
      mine,
      decision-reason votes (writes u) (deps u) (judged us rest (put v u (verdict_of c))) dead
          (λ d m. agree d ∙ ap is_bad (sym (judged-other us rest (put v u (verdict_of c)) d (λ n. ordered.1 d m (inr n)) ∙ put-other v u (verdict_of c) d (λ n. ordered.1 d m (inl n)))))
          (failed_in votes (writes u)) refl (oldest (filter dead (deps u))) refl,
      reasons-decide votes writes deps us (and_itself dead p) (put v u (verdict_of c))
          (dead-agrees dead v p agree (opens u (inl refl)))
          (λ x m. put-other v u (verdict_of c) x (λ q. ordered.0 (subst (λ z. Member z us) q m)) ∙ opens x (inr m))
          ordered.2,
    )

-- the units of an open batch are ordered so
ordered-from : (opening : GrainId → List Value) (n : ℕ) (w : CoreState) → Inv opening n w → Depends w → (us : List UnitNo) (k : ℕ) →
    ((j : ℕ) → j < length us → (k + j < length w.manager.order) × (get_or us j nobody ≡ get_or w.manager.order (k + j) nobody)) → Ordered w.units.deps us
ordered-from opening n w i s [] k at = tt
ordered-from opening n w i s (u ∷ us) k at = (
  (λ m. (let t = later u m in omega (arith, t, here.1))),
  (λ d m o. (let e = (depends-earlier opening n w i s u d here.0 m).1 in elim o [
    | inl q ↦ omega (arith, e, ap w.manager.place q)
    | inr q ↦ (let t = later d q in omega (arith, e, t, here.1))
  ])),
  ordered-from opening n w i s us (k + 1) rest,
)
  where
    here : (w.units.phase u ≡ Finished) × (w.manager.place u ≡ k + 1)
    here =
        let a = at 0 (omega arith) in
        subst (λ x. (w.units.phase x ≡ Finished) × (w.manager.place x ≡ k + 1)) (sym (a.1 ∙ ap (λ j. get_or w.manager.order j nobody) (omega arith))) (i.listed k (omega (arith, a.0)))

    rest : (j : ℕ) → j < length us → (k + 1 + j < length w.manager.order) × (get_or us j nobody ≡ get_or w.manager.order (k + 1 + j) nobody)
    rest j h =
        let b = at (suc j) (omega arith) in
        let e : k + suc j ≡ k + 1 + j = omega arith in
        (omega (arith, b.0), b.1 ∙ ap (λ x. get_or w.manager.order x nobody) e)

    later : (x : UnitNo) → Member x us → k + 1 < w.manager.place x
    later x m =
        let t = Member-at x us m in
        let r = rest t.0 t.1 in
        let l = i.listed (k + 1 + t.0) r.0 in
        subst (λ z. k + 1 < w.manager.place z) (sym r.1 ∙ t.2) (omega (arith, l.1))

-- a decided open batch has its reasons
abbrev pub Argued : CoreState → Type 0
Argued w = (b : Batch) (ds : List Decision) → w.manager.batch ≡ Some b → b.decisions ≡ Some ds → Reasons b.votes w.manager.writes w.units.deps w.manager.verdict (members w b) ds

none-some : {A : Type 0} (o : Option A) (x : A) → o ≡ None → o ≡ Some x → ⊥
none-some o x n s = (let t : None ≡ Some x = sym n ∙ s in cc)

pub argued-decided : (opening : GrainId → List Value) (w : CoreState) (b : Batch) → Kept opening w → Depends w → w.manager.batch ≡ Some b → b.decisions ≡ None →
    Reasons b.votes w.manager.writes w.units.deps (judged (members w b) (decisions_of w b) w.manager.verdict) (members w b) (decisions_of w b)
argued-decided opening w b k s q d =
    let i = inv-open opening w b k q d in
    let le = size-open opening w b k q in
    let l : length (members w b) ≡ b.size = take_length b.size (waiting w) (omega (arith, length-drop w.manager.closed w.manager.order, le)) in
    reasons-decide b.votes w.manager.writes w.units.deps (members w b) (λ u. is_bad (w.manager.verdict u)) w.manager.verdict (λ x. refl)
    (λ u m. (members-open w b (loadless-of opening _ w i) u m).1)
    (ordered-from opening w.manager.closed w i s (members w b) w.manager.closed (λ j h. (omega (arith, l, h, le), at_part b.size w.manager.closed w.manager.order j (omega (arith, l, h)))))

-- a member of the open batch has finished
pub member-finished : (opening : GrainId → List Value) (w : CoreState) (b : Batch) → Kept opening w → (u : UnitNo) → Member u (members w b) → w.units.phase u ≡ Finished
member-finished opening w b k u m = (in_part _ w (loadless-of opening _ w k.0) w.manager.closed b.size u m).0

some-is : {A : Type 0} (x y : A) → Some x ≡ Some y → x ≡ y
some-is x y e = cc

decisions-of-new : (w : CoreState) (b c : Batch) → Some b ≡ Some c → b.decisions ≡ None → c.decisions ≡ None
decisions-of-new w b c e n = ap (λ (t : Batch). t.decisions) (sym (some-is b c e)) ∙ n

pub argued-change : (opening : GrainId → List Value) (w : CoreState) (e : CoreEvent) (w' : CoreState) → Change w e w' → applies w e ≡ true → Kept opening w → Depends w → Argued w → Argued w'
argued-change opening w e w' (bad line why q) a k dep s = s
argued-change opening w e w' (begin origin call plain c) a k dep s = s
argued-change opening w e w' (lock u g mode running free first here) a k dep s =
    λ b ds z y. reasons-same b.votes w.manager.writes w.manager.writes w.units.deps _ w.manager.verdict w.manager.verdict (members w b) ds
    (λ x m. (refl, put-other w.units.deps u _ x (λ q. (let t : Finished ≡ Running = sym (member-finished opening w b k x m) ∙ ap w.units.phase q ∙ running in cc)), refl, λ d n. refl))
    (s b ds z y)
argued-change opening w e w' (raise u g mode running free held here uncovered) a k dep s = s
argued-change opening w e w' (refuse u g mode why running q) a k dep s =
    λ b ds z y. reasons-same b.votes w.manager.writes w.manager.writes w.units.deps w.units.deps w.manager.verdict _ (members w b) ds
    (λ x m. (
      refl,
      refl,
      put-other w.manager.verdict u Aborted x (λ j. (let t : Finished ≡ Running = sym (member-finished opening w b k x m) ∙ ap w.units.phase j ∙ running in cc)),
      λ d n. put-other w.manager.verdict u Aborted d (λ j. (let t : Finished ≡ Running = sym (depends-earlier opening _ w k.0 dep x d (member-finished opening w b k x m) n).0 ∙ ap w.units.phase j ∙ running in cc)),
    ))
    (s b ds z y)
argued-change opening w e w' (finish u effect running plain of_call reads alone) a k dep s =
    λ b ds z y.
    let same : members (finished w u effect) b ≡ members w b = take-drop-push b.size w.manager.closed w.manager.order u (size-open opening w b k z) in
    subst (λ us. Reasons b.votes (put w.manager.writes u effect.writes) w.units.deps w.manager.verdict us ds) (sym same)
    (reasons-same b.votes w.manager.writes (put w.manager.writes u effect.writes) w.units.deps w.units.deps w.manager.verdict w.manager.verdict (members w b) ds
    (λ x m. (put-other w.manager.writes u effect.writes x (λ j. (let t : Finished ≡ Running = sym (member-finished opening w b k x m) ∙ ap w.units.phase j ∙ running in cc)), refl, refl, λ d n. refl))
    (s b ds z y))
argued-change opening w e w' (end_plain u effect running plain of_call bare) a k dep s = s
argued-change opening w e w' (end_snapshot u at outcome running plain kids answer) a k dep s = s
argued-change opening w e w' (release u g over held) a k dep s = s
argued-change opening w e w' (take_batch none some) a k dep s = λ b ds z y. absurd (none-some b.decisions ds (decisions-of-new w _ b z refl) y)
argued-change opening w e w' (vote n g kept b q number d planned fresh) a k dep s = λ c ds z y. absurd (none-some c.decisions ds (ap (λ (t : Batch). t.decisions) (sym (some-is _ c z)) ∙ d) y)
argued-change opening w e w' (decide_some n b q number d voted some) a k dep s =
    λ c ds z y.
    let same : record b { decisions = Some (decisions_of w b) } ≡ c = some-is _ c z in
    let all : decisions_of w b ≡ ds = some-is _ ds (ap (λ (t : Batch). t.decisions) same ∙ y) in
    subst (λ (t : Batch). Reasons t.votes w.manager.writes w.units.deps (judged (members w b) (decisions_of w b) w.manager.verdict) (members w t) ds) same
    (subst (λ cs. Reasons b.votes w.manager.writes w.units.deps (judged (members w b) (decisions_of w b) w.manager.verdict) (members w b) cs) all (argued-decided opening w b k dep q d))
argued-change opening w e w' (decide_none n b q number d voted none) a k dep s = λ c ds z y. (let t : None ≡ Some c = z in cc)
argued-change opening w e w' (seal_batch n b ds q number d) a k dep s = λ c cs z y. (let t : None ≡ Some c = z in cc)
argued-change opening w e w' (spoil_batch n b ds q number d) a k dep s = λ c cs z y. (let t : None ≡ Some c = z in cc)
argued-change opening w e w' (doubt_batch n b ds q number d) a k dep s = λ c cs z y. (let t : None ≡ Some c = z in cc)
argued-change opening w e w' (learn u g wrote final fresh) a k dep s = s
argued-change opening w e w' (emit q) a k dep s = s
argued-change opening w e w' (halt_run q) a k dep s = s
argued-change opening w e w' (want u g running free fresh) a k dep s = s
argued-change opening w e w' (load g u state gone wanted) a k dep s = s

pub argued-step : (opening : GrainId → List Value) (w : CoreState) (e : CoreEvent) → Kept opening w → Depends w → Argued w → Argued (step w e)
argued-step opening w e k dep s = cond_both (applies w e) (swept (does w e)) w Argued
    (λ a. swept-argued (does w e) (argued-change opening w e (does w e) (decode w e (and_parts (is_allowed w e) (can w e) a).1) a k dep s))
    (λ a. s)
  where
    swept-argued : (w : CoreState) → Argued w → Argued (swept w)
    swept-argued w s = go w.cells.capacity
      where
        go : (c : Option ℕ) → Argued (swept_by w c)
        go None = s
        go (Some m) = s
