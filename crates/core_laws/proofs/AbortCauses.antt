-- Who is aborted was aborted by an event, with a cause.
use Rattle.std.proofs.Common.{◌≡◌, ℕ, ◌+◌, ◌-◌, ◌<◌, ◌≤◌, List, [], ◌∷◌, ◌++◌, length, get_or, Bool, true, false, ◌⊎◌, inl, inr, refl, sym, ap, ◌∙◌, subst, arith, Option, Some, None, length-drop}
use Rattle.std.proofs.lemmas.Bool.{and_parts, cond-true, cond-false, cases_lt}
use Rattle.base_types.specs.declared.entries.Settled.{Settled}
use Rattle.base_types.specs.declared.entries.Settled.TheVariants as settled
use Rattle.cell_model.specs.declared.outcomes.Decision.TheVariants as decision
use Rattle.core_model.specs.CoreState.{UnitNo, GrainId, nobody, put, Member, Value, Mode, Write, Batch, Decision, CoreState}
use Rattle.core_model.specs.declared.effects.Effect.{Effect}
use Rattle.core_model.specs.declared.phases.Phase.TheVariants.{Running, Finished}
use Rattle.core_model.specs.declared.phases.Verdict.{Verdict}
use Rattle.core_model.specs.declared.phases.Verdict.TheVariants.{Open, Chosen, Condemned, Committed, Aborted}
use Rattle.core_model.specs.declared.events.CoreEvent.{CoreEvent}
use Rattle.core_model.specs.declared.events.CoreEvent.TheVariants.{Refuse, Decide, Sealed, NotSealed, Doubt}
use Rattle.core_model.specs.Tests.{ask_answer, is_final, members, waiting}
use Rattle.core_model.specs.Changes.{refusal, verdict_of, judged, decisions_of, with_decisions, seal, spoil, leave, swept, swept_by}
use Rattle.core_model.specs.Events.{applies, can, does, step, run, is_allowed}
use Rattle.core_model.specs.SerialOrder.{AllLoadsTrue, batch_begin}
use Rattle.core_model.specs.LegalRuns.{Run, IsLegal, begins, ends}
use Rattle.core_model.specs.Causes.{IsAbort, IsVotedDown, DependsOnDead, CanCommit, AtDecision, HasCause}
use Rattle.core_laws.proofs.Puts.{put-from}
use Rattle.core_laws.proofs.Invariant.{Inv}
use Rattle.core_laws.proofs.EventCases.{Change, bad, begin, lock, raise, refuse, finish, end_plain, end_snapshot, release, take_batch, vote, decide_some, decide_none, seal_batch, spoil_batch, doubt_batch, learn, emit, halt_run, want, load, decode, ask-refused}
use Rattle.core_laws.proofs.Orders.{at_part, take_length, judged-other, Member-get}
use Rattle.core_laws.proofs.KeptInvariant.{Kept, kept-step, inv-open, inv-judged, inv-decided, size-open}
use Rattle.core_laws.proofs.CommitOrder.{Split, begin_of, no_doubt, split-step}
use Rattle.core_laws.proofs.Dependencies.{Depends, depends-step}
use Rattle.core_laws.proofs.Reasons.{Reason, Reasons, Argued, argued-decided, argued-step}
use Rattle.core_laws.proofs.Verdicts.{Turned, turned-step, member-or-not}
use Rattle.core_laws.proofs.EntryCauses.{voted-down, depends-on, can-commit, refused-cause}
use Rattle.core_laws.proofs.Ends.{kept-begins}
use Rattle.core_laws.proofs.LoadlessKept.{loadless-kept}

-- the event aborts the unit, with a cause
abbrev pub Stopped : CoreState → CoreEvent → CoreState → UnitNo → Type 0
Stopped w e next u = (why : Settled) × IsAbort why × HasCause w e next u why

-- a member of a decided batch has its decision, with the reason
reason-of : (votes : List (GrainId × Bool)) (writes : UnitNo → List Write) (deps : UnitNo → List UnitNo) (verdict : UnitNo → Verdict) (us : List UnitNo) (ds : List Decision) (u : UnitNo)
    → Reasons votes writes deps verdict us ds → Member u us → (d : Decision) × (verdict u ≡ verdict_of d) × Reason votes (writes u) (deps u) verdict d
reason-of votes writes deps verdict [] ds u r m = absurd m
reason-of votes writes deps verdict (x ∷ us) [] u r m = absurd r
reason-of votes writes deps verdict (x ∷ us) (d ∷ ds) u r (inl q) =
    (d, ap verdict q ∙ r.0, subst (λ z. Reason votes (writes z) (deps z) verdict d) (sym q) r.1)
reason-of votes writes deps verdict (x ∷ us) (d ∷ ds) u r (inr m) = reason-of votes writes deps verdict us ds u r.2 m

-- a decision aborts nobody yet
pub judged-aborted : (us : List UnitNo) (ds : List Decision) (v : UnitNo → Verdict) (x : UnitNo) → judged us ds v x ≡ Aborted → v x ≡ Aborted
judged-aborted [] ds v x e = e
judged-aborted (u ∷ us) [] v x e = e
judged-aborted (u ∷ us) (d ∷ ds) v x e =
    put-from v u (verdict_of d) (λ z. z ≡ Aborted) (v x ≡ Aborted) x (λ q h. absurd (never d h)) (λ q h. h)
    (judged-aborted us ds (put v u (verdict_of d)) x e)
  where
    never : (d : Decision) → verdict_of d ≡ Aborted → ⊥
    never decision.Commit h = absurd cc
    never (decision.Vote g) h = absurd cc
    never (decision.Dependency on) h = absurd cc

-- who is to commit or to abort has finished, and stands behind the closed batches, among those that are judged
pending : (opening : GrainId → List Value) (n : ℕ) (w : CoreState) → Inv opening n w → Split w → w.manager.doubt ≡ None → Turned w → (u : UnitNo) → (w.manager.verdict u ≡ Open → ⊥) → is_final (w.manager.verdict u) ≡ false
    → (w.units.phase u ≡ Finished) × (w.manager.closed < w.manager.place u) × (w.manager.place u ≤ n)
pending opening n w i s none t u fixed final =
    let done : w.units.phase u ≡ Finished = elim (t.0 u fixed) [
      | inl f ↦ f
      | inr f ↦ (let z : true ≡ false = sym (ap is_final (t.1 u f)) ∙ final in cc)
    ] in
    let at : begin_of w ≡ w.manager.closed = ap (λ o. batch_begin o w.manager.closed) none in (
      done,
      elim (cases_lt w.manager.closed (w.manager.place u)) [
        | inl lt ↦ lt
        | inr le ↦ (let z : true ≡ false = sym (s.0 u done (omega (arith, le, at))) ∙ final in cc)
      ],
      elim (cases_lt n (w.manager.place u)) [
        | inl lt ↦ absurd (fixed (i.late u done lt))
        | inr le ↦ le
      ],
    )

-- such a unit is one of the open batch
in_batch : (opening : GrainId → List Value) (n : ℕ) (w : CoreState) (b : Batch) → Inv opening n w → w.manager.closed + b.size ≤ length w.manager.order → (u : UnitNo) → w.units.phase u ≡ Finished → w.manager.closed < w.manager.place u → w.manager.place u ≤ w.manager.closed + b.size
    → Member u (members w b)
in_batch opening n w b i le u f new old =
    let len : length (members w b) ≡ b.size = take_length b.size (waiting w) (omega (arith, length-drop w.manager.closed w.manager.order, le)) in
    let t = i.placed u f in
    let j : ℕ = t.0 - w.manager.closed in
    let at : w.manager.closed + j ≡ t.0 = omega (arith, t.2, new) in
    let lt : j < b.size = omega (arith, t.2, new, old) in
    subst (λ z. Member z (members w b))
    (at_part b.size w.manager.closed w.manager.order j lt ∙ ap (λ z. get_or w.manager.order z nobody) at ∙ t.3)
    (Member-get (members w b) j (omega (arith, len, lt)))

-- Who is aborted as a batch closes, decided in the state v, was so before, or is told of it by its decision.
close-stops : (w v : CoreState) (f : Verdict → Verdict) (b : Batch) (ds : List Decision) (u : UnitNo) (IsTold : Type 0)
    → f Open ≡ Open → f Committed ≡ Committed → Reasons b.votes v.manager.writes v.units.deps v.manager.verdict (members v b) ds
    → (v.manager.verdict u ≡ Aborted → w.manager.verdict u ≡ Aborted) → ((v.manager.verdict u ≡ Open → ⊥) → is_final (v.manager.verdict u) ≡ false → Member u (members v b))
    → ((d : Decision) → Member u (members v b) → v.manager.verdict u ≡ verdict_of d → f (v.manager.verdict u) ≡ Aborted → Reason b.votes (v.manager.writes u) (v.units.deps u) v.manager.verdict d → IsTold)
    → f (v.manager.verdict u) ≡ Aborted → (w.manager.verdict u ≡ Aborted) ⊎ IsTold
close-stops w v f b ds u IsTold still sure reasons before within tells = from (v.manager.verdict u) refl
  where
    caused : Member u (members v b) → f (v.manager.verdict u) ≡ Aborted → IsTold
    caused m h =
        let t = reason-of b.votes v.manager.writes v.units.deps v.manager.verdict (members v b) ds u reasons m in
        tells t.0 m t.1 h t.2

    member : (x : Verdict) → v.manager.verdict u ≡ x → (x ≡ Open → ⊥) → is_final x ≡ false → Member u (members v b)
    member x q n final = within (λ z. n (sym q ∙ z)) (ap is_final q ∙ final)

    from : (x : Verdict) → v.manager.verdict u ≡ x → f (v.manager.verdict u) ≡ Aborted → (w.manager.verdict u ≡ Aborted) ⊎ IsTold
    from Open q h = (let z : Open ≡ Aborted = sym (ap f q ∙ still) ∙ h in absurd cc)
    from Chosen q h = inr (caused (member Chosen q (λ z. absurd cc) refl) h)
    from Condemned q h = inr (caused (member Condemned q (λ z. absurd cc) refl) h)
    from Committed q h = (let z : Committed ≡ Aborted = sym (ap f q ∙ sure) ∙ h in absurd cc)
    from Aborted q h = inl (before q)

-- the same where the event decides the batch
pub decided-stops : (opening : GrainId → List Value) (w : CoreState) (b : Batch) (u : UnitNo) (IsTold : Type 0) → Kept opening w → Depends w → Split w → Turned w → w.manager.doubt ≡ None → w.manager.batch ≡ Some b → b.decisions ≡ None
    → ((d : Decision) → Member u (members w b) → judged (members w b) (decisions_of w b) w.manager.verdict u ≡ verdict_of d → seal (judged (members w b) (decisions_of w b) w.manager.verdict u) ≡ Aborted
    → Reason b.votes (w.manager.writes u) (w.units.deps u) (judged (members w b) (decisions_of w b) w.manager.verdict) d → IsTold)
    → seal (judged (members w b) (decisions_of w b) w.manager.verdict u) ≡ Aborted → (w.manager.verdict u ≡ Aborted) ⊎ IsTold
decided-stops opening w b u IsTold k dep s t none q d tells =
    close-stops w (with_decisions w b (decisions_of w b)) seal b (decisions_of w b) u IsTold refl refl (argued-decided opening w b k dep q d) (judged-aborted (members w b) (decisions_of w b) w.manager.verdict u)
    (λ fixed final. elim (member-or-not u (members w b)) [
      | inl m ↦ m
      | inr m ↦ (let same : judged (members w b) (decisions_of w b) w.manager.verdict u ≡ w.manager.verdict u = judged-other (members w b) (decisions_of w b) w.manager.verdict u m in
          let p = pending opening w.manager.closed w (inv-open opening w b k q d) s none t u (λ z. fixed (same ∙ z)) (ap is_final (sym same) ∙ final) in
          absurd (omega (arith, p.1, p.2)))
    ])
    tells

-- and where it ends a decided one
pub ended-stops : (opening : GrainId → List Value) (w : CoreState) (f : Verdict → Verdict) (b : Batch) (ds : List Decision) (u : UnitNo) (IsTold : Type 0) → f Open ≡ Open → f Committed ≡ Committed
    → Kept opening w → Argued w → Split w → Turned w → w.manager.doubt ≡ None → w.manager.batch ≡ Some b → b.decisions ≡ Some ds
    → ((d : Decision) → Member u (members w b) → w.manager.verdict u ≡ verdict_of d → f (w.manager.verdict u) ≡ Aborted → Reason b.votes (w.manager.writes u) (w.units.deps u) w.manager.verdict d → IsTold)
    → f (w.manager.verdict u) ≡ Aborted → (w.manager.verdict u ≡ Aborted) ⊎ IsTold
ended-stops opening w f b ds u IsTold still sure k arg s t none q d tells =
    let i = inv-judged opening w b ds k q d in
    close-stops w w f b ds u IsTold still sure (arg b ds q d) (λ z. z)
    (λ fixed final. (let p = pending opening _ w i s none t u fixed final in in_batch opening _ w b i (size-open opening w b k q) u p.0 p.1 p.2))
    tells

-- where a batch comes to disk, who could commit isn't aborted; nor where nobody knows
pub seal-commit : (v : Verdict) → v ≡ Chosen → seal v ≡ Aborted → ⊥
seal-commit v q h = (let z : Committed ≡ Aborted = sym (ap seal q) ∙ h in absurd cc)

pub leave-commit : (v : Verdict) → v ≡ Chosen → leave v ≡ Aborted → ⊥
leave-commit v q h = (let z : Chosen ≡ Aborted = sym (ap leave q) ∙ h in absurd cc)

-- the cause of a member of a batch, by its reason
by-reason : (opening : GrainId → List Value) (w v : CoreState) (e : CoreEvent) (next : CoreState) (b : Batch) (u : UnitNo) → Inv opening (v.manager.closed + b.size) v → Depends v → Member u (members v b)
    → ((Holds : CoreState → Batch → Type 0) → Holds v b → AtDecision w e u Holds)
    → (d : Decision) → Reason b.votes (v.manager.writes u) (v.units.deps u) v.manager.verdict d → (d ≡ decision.Commit → CanCommit v b u → Stopped w e next u) → Stopped w e next u
by-reason opening w v e next b u i s m at decision.Commit r commit = commit refl (can-commit opening v b i s u m r)
by-reason opening w v e next b u i s m at (decision.Vote g) r commit = (settled.Vote g, tt, at (λ v b. IsVotedDown v b u g) (voted-down v b u g r))
by-reason opening w v e next b u i s m at (decision.Dependency on) r commit =
    (settled.Dependency on, tt, inr (at (λ v b. DependsOnDead v b u on) (depends-on opening v b i s u on m r)))

-- who is refused is aborted for it
refuse-stops : (opening : GrainId → List Value) (w : CoreState) (u : UnitNo) (g : GrainId) (mode : Mode) (why : Settled) (next : CoreState) → Kept opening w → w.units.phase u ≡ Running → refusal g (ask_answer w u g mode) ≡ Some why → Stopped w (Refuse u g mode) next u
refuse-stops opening w u g mode why next k running q = (
  why,
  elim (ask-refused w u g mode why q).1 [
    | inl d ↦ subst IsAbort (sym d.2) tt
    | inr d ↦ subst IsAbort (sym d.3) tt
  ],
  (refused-cause opening w u g mode why next k running q).0,
)

-- who is aborted after an event was so before, or the event did it
stops-change : (opening : GrainId → List Value) (w : CoreState) (e : CoreEvent) (w' : CoreState) → Change w e w' → applies w e ≡ true → Kept opening w → Depends w → Argued w → Split w → Turned w → (next : CoreState) → (u : UnitNo) → w'.manager.verdict u ≡ Aborted
    → (w.manager.verdict u ≡ Aborted) ⊎ Stopped w e next u
stops-change opening w e w' (bad line why q) a k dep arg s t next x h = inl h
stops-change opening w e w' (begin origin call plain c) a k dep arg s t next x h = inl h
stops-change opening w e w' (lock u g mode running free first here) a k dep arg s t next x h = inl h
stops-change opening w e w' (raise u g mode running free held here uncovered) a k dep arg s t next x h = inl h
stops-change opening w e w' (refuse u g mode why running q) a k dep arg s t next x h =
    put-from w.manager.verdict u Aborted (λ z. z ≡ Aborted) ((w.manager.verdict x ≡ Aborted) ⊎ Stopped w (Refuse u g mode) next x) x
    (λ z y. inr (subst (λ j. Stopped w (Refuse u g mode) next j) (sym z) (refuse-stops opening w u g mode why next k running q)))
    (λ z y. inl y)
    h
stops-change opening w e w' (finish u effect running plain of_call reads alone) a k dep arg s t next x h = inl h
stops-change opening w e w' (end_plain u effect running plain of_call bare) a k dep arg s t next x h = inl h
stops-change opening w e w' (end_snapshot u at outcome running plain kids answer) a k dep arg s t next x h = inl h
stops-change opening w e w' (release u g over held) a k dep arg s t next x h = inl h
stops-change opening w e w' (take_batch none some) a k dep arg s t next x h = inl h
stops-change opening w e w' (vote n g kept b q number d planned fresh) a k dep arg s t next x h = inl h
stops-change opening w e w' (decide_some n b q number d voted some) a k dep arg s t next x h = inl (judged-aborted (members w b) (decisions_of w b) w.manager.verdict x h)
stops-change opening w e w' (decide_none n b q number d voted none) a k dep arg s t next x h =
    decided-stops opening w b x (Stopped w (Decide n) next x) k dep s t (no_doubt w (Decide n) a refl) q d
    (λ c m v y r. by-reason opening w (with_decisions w b (decisions_of w b)) (Decide n) next b x (inv-decided opening w b k q d) dep m (λ Holds z. (b, q, sym number, m, z)) c r
    (λ is can. absurd (seal-commit (judged (members w b) (decisions_of w b) w.manager.verdict x) (v ∙ ap verdict_of is) y)))
    h
stops-change opening w e w' (seal_batch n b ds q number d) a k dep arg s t next x h =
    ended-stops opening w seal b ds x (Stopped w (Sealed n) next x) refl refl k arg s t (no_doubt w (Sealed n) a refl) q d
    (λ c m v y r. by-reason opening w w (Sealed n) next b x (inv-judged opening w b ds k q d) dep m (λ Holds z. (b, q, sym number, m, z)) c r
    (λ is can. absurd (seal-commit (w.manager.verdict x) (v ∙ ap verdict_of is) y)))
    h
stops-change opening w e w' (spoil_batch n b ds q number d) a k dep arg s t next x h =
    ended-stops opening w spoil b ds x (Stopped w (NotSealed n) next x) refl refl k arg s t (no_doubt w (NotSealed n) a refl) q d
    (λ c m v y r. by-reason opening w w (NotSealed n) next b x (inv-judged opening w b ds k q d) dep m (λ Holds z. (b, q, sym number, m, z)) c r
    (λ is can. (settled.Disk, tt, ((n, refl), (b, q, sym number, m, can)))))
    h
stops-change opening w e w' (doubt_batch n b ds q number d) a k dep arg s t next x h =
    ended-stops opening w leave b ds x (Stopped w (Doubt n) next x) refl refl k arg s t (no_doubt w (Doubt n) a refl) q d
    (λ c m v y r. by-reason opening w w (Doubt n) next b x (inv-judged opening w b ds k q d) dep m (λ Holds z. (b, q, sym number, m, z)) c r
    (λ is can. absurd (leave-commit (w.manager.verdict x) (v ∙ ap verdict_of is) y)))
    h
stops-change opening w e w' (learn u g wrote final fresh) a k dep arg s t next x h = inl h
stops-change opening w e w' (emit q) a k dep arg s t next x h = inl h
stops-change opening w e w' (halt_run q) a k dep arg s t next x h = inl h
stops-change opening w e w' (want u g running free fresh) a k dep arg s t next x h = inl h
stops-change opening w e w' (load g u state gone wanted) a k dep arg s t next x h = inl h

stops-step : (opening : GrainId → List Value) (w : CoreState) (e : CoreEvent) → Kept opening w → Depends w → Argued w → Split w → Turned w → (u : UnitNo) → (step w e).manager.verdict u ≡ Aborted
    → (w.manager.verdict u ≡ Aborted) ⊎ ((applies w e ≡ true) × Stopped w e (step w e) u)
stops-step opening w e k dep arg s t u = by_test (applies w e) refl
  where
    swept-verdict : (v : CoreState) → (swept v).manager.verdict u ≡ v.manager.verdict u
    swept-verdict v = go v.cells.capacity
      where
        go : (c : Option ℕ) → (swept_by v c).manager.verdict u ≡ v.manager.verdict u
        go None = refl
        go (Some m) = refl

    by_test : (b : Bool) → applies w e ≡ b → (step w e).manager.verdict u ≡ Aborted → (w.manager.verdict u ≡ Aborted) ⊎ ((applies w e ≡ true) × Stopped w e (step w e) u)
    by_test false a h = inl (sym (ap (λ (v : CoreState). v.manager.verdict u) (cond-false (applies w e) (swept (does w e)) w a)) ∙ h)
    by_test true a h =
        let is : step w e ≡ swept (does w e) = cond-true (applies w e) (swept (does w e)) w a in
        let now : (does w e).manager.verdict u ≡ Aborted = sym (ap (λ (v : CoreState). v.manager.verdict u) is ∙ swept-verdict (does w e)) ∙ h in
        elim (stops-change opening w e (does w e) (decode w e (and_parts (is_allowed w e) (can w e) a).1) a k dep arg s t (step w e) u now) [
          | inl y ↦ inl y
          | inr y ↦ inr (a, y)
        ]

-- an event of the list aborted the unit
abbrev pub StoppedFrom : CoreState → List CoreEvent → UnitNo → Type 0
StoppedFrom w es u = (before : List CoreEvent) × ((e : CoreEvent) × ((later : List CoreEvent) × (es ≡ before ++ (e ∷ later)) × (applies (run w before) e ≡ true) × Stopped (run w before) e (step (run w before) e) u))

stops-run : (opening : GrainId → List Value) (es : List CoreEvent) (w : CoreState) → AllLoadsTrue opening w es → Kept opening w → Depends w → Argued w → Split w → Turned w → (u : UnitNo) → (run w es).manager.verdict u ≡ Aborted
    → (w.manager.verdict u ≡ Aborted) ⊎ StoppedFrom w es u
stops-run opening [] w l k dep arg s t u h = inl h
stops-run opening (e ∷ es) w l k dep arg s t u h =
    elim (stops-run opening es (step w e) l.1 (kept-step opening w e l.0 k) (depends-step opening w e l.0 k dep) (argued-step opening w e k dep arg) (split-step w e (loadless-kept opening w k) s) (turned-step w e (loadless-kept opening w k) t) u h) [
      | inl y ↦ elim (stops-step opening w e k dep arg s t u y) [
        | inl z ↦ inl z
        | inr z ↦ inr ([], (e, (es, refl, z.0, z.1)))
      ]
      | inr c ↦ inr (e ∷ c.0, (c.1.0, (c.1.1.0, ap (λ t. e ∷ t) c.1.1.1, c.1.1.2, c.1.1.3)))
    ]

pub stops-ends : (plays : Effect → Bool) (r : Run) → IsLegal plays r → (u : UnitNo) → (ends r).manager.verdict u ≡ Aborted → StoppedFrom (begins r) r.events u
stops-ends plays r l u h =
    elim (stops-run r.opening r.events (begins r) l.loads (kept-begins plays r l) ((λ u. tt), (λ u d n. absurd n)) (λ b ds q. cc) ((λ u f. cc), (λ u f. cc), omega arith) ((λ u n. absurd (n refl)), (λ u f. cc)) u h) [
      | inl z ↦ (let y : Open ≡ Aborted = z in absurd cc)
      | inr c ↦ c
    ]
