-- Each settled entry has its cause.
use Rattle.std.proofs.Common.{◌≡◌, ℕ, ◌+◌, List, [], ◌∷◌, ◌++◌, Bool, true, false, ◌⊎◌, inl, inr, refl, sym, ap, ◌∙◌, subst, arith, Option, Some, None}
use Rattle.std.proofs.lemmas.Bool.{and_parts, cases_Bool, cond-true, cond-false, not-true, or_parts}
use Rattle.cell_model.proofs.Units.{same_unit-false, Member-append, filter-member, filter-stays}
use Rattle.core_model.specs.CoreState.{UnitNo, GrainId, nobody, Member, Value, Origin, Write, Mode, Settled, Batch, Decision, CoreState}
use Rattle.core_model.specs.declared.phases.Phase.TheVariants.{Running, Finished, Ended}
use Rattle.core_model.specs.declared.phases.Verdict.{Verdict}
use Rattle.core_model.specs.declared.phases.Verdict.TheVariants.{Chosen}
use Rattle.core_model.specs.declared.effects.Read.{Read}
use Rattle.core_model.specs.declared.effects.Effect.{Effect}
use Rattle.core_model.specs.Tests.{any, is_bad}
use Rattle.cell_model.specs.Decisions.{is_commit}
use Rattle.core_model.specs.DeadUnits.{Dead, itself}
use Rattle.core_laws.proofs.Puts.{put-same}
use Rattle.core_laws.proofs.Basics.{good_from}
use Rattle.core_laws.proofs.Invariant.{Inv, loadless-of}
use Rattle.std.proofs.Common.{map, filter}
use Rattle.base_types.specs.declared.calls.Origin.TheVariants.{Line, Child}
use Rattle.base_types.specs.declared.entries.Settled.TheVariants as settled
use Rattle.cell_model.specs.declared.outcomes.Decision.TheVariants as decision
use Rattle.cell_model.proofs.Units.{oldest-some}
use Rattle.cell_model.proofs.LockAnswers.{ask-die}
use Rattle.core_model.specs.CoreState.{Entry, Outcome}
use Rattle.cell_model.specs.Locks as locks
use Rattle.cell_model.specs.declared.locks.Ask.TheVariants.{MustDie}
use Rattle.core_model.specs.Tests.{doomed_by, members, outcome_of, outcome_in, is_gone, ask_answer}
use Rattle.core_model.specs.Changes.{entry_for, told, entries_in, result_told, refusal, after_end, verdict_of, decisions_of, with_decisions, seal, swept, swept_by}
use Rattle.core_model.specs.Causes.{IsVotedDown, DependsOnDead, CanCommit, EndsWith, IsRefusedFor, IsRefusedLock, AtDecision, HasCause, HasLine, IsCaused}
use Rattle.core_model.specs.LegalRuns.{Run, IsLegal, begins, ends}
use Rattle.core_model.specs.Events.{applies, can, does, step, run, is_allowed}
use Rattle.core_model.specs.declared.events.CoreEvent.{CoreEvent}
use Rattle.core_model.specs.declared.events.CoreEvent.TheVariants.{Bad, Refuse, EndPlain, EndSnapshot, Decide, Sealed, NotSealed, Doubt}
use Rattle.core_model.specs.SerialOrder.{AllLoadsTrue}
use Rattle.core_laws.proofs.EventCases.{Change, bad, begin, lock, raise, refuse, finish, end_plain, end_snapshot, release, take_batch, vote, decide_some, decide_none, seal_batch, spoil_batch, doubt_batch, learn, emit, halt_run, want, load, decode}
use Rattle.core_laws.proofs.EventCases.{ask-refused}
use Rattle.core_laws.proofs.Orders.{member-place}
use Rattle.core_laws.proofs.Alive.{good-alive}
use Rattle.core_laws.proofs.Failures.{failed-some, failed-none}
use Rattle.core_laws.proofs.Dependencies.{Depends, depends-step}
use Rattle.core_laws.proofs.Consistency.{depends-earlier}
use Rattle.core_laws.proofs.Reasons.{Reason, Reasons, Argued, argued-decided, argued-step}
use Rattle.core_laws.proofs.Ends.{kept-begins}
use Rattle.core_laws.proofs.KeptInvariant.{Kept, kept-step, inv-judged, inv-decided}

-- an entry has its cause and its line
abbrev pub Told : CoreState → CoreEvent → CoreState → Entry → Type 0
Told w e next x = HasCause w e next x.unit x.what × HasLine w x x.what

told-from : (w : CoreState) (e : CoreEvent) (next : CoreState) (x : Entry) (u : UnitNo) (what : Settled) → x.unit ≡ u → x.what ≡ what → HasCause w e next u what → HasLine w x what → Told w e next x
told-from w e next x u what p q cause line = (
  subst (λ z. HasCause w e next z x.what) (sym p) (subst (HasCause w e next u) (sym q) cause),
  subst (HasLine w x) (sym q) line,
)

-- the entry of a unit
pub entry-parts : (w : CoreState) (u : UnitNo) (what : Settled) (x : Entry) → Member x (entry_for (w.units.origin u) u what) → (x.unit ≡ u) × (x.what ≡ what) × (w.units.origin u ≡ Line x.line)
entry-parts w u what x = go (w.units.origin u) refl
  where
    go : (o : Origin) → w.units.origin u ≡ o → Member x (entry_for o u what) → (x.unit ≡ u) × (x.what ≡ what) × (w.units.origin u ≡ Line x.line)
    go (Line n) q m = elim m [
      | inl h ↦ (ap (λ (z : Entry). z.unit) h, ap (λ (z : Entry). z.what) h, q ∙ ap Line (sym (ap (λ (z : Entry). z.line) h)))
      | inr h ↦ absurd h
    ]
    go (Child p i d) q m = absurd m

-- the entries of a batch
pub entries-parts : (w : CoreState) (answer : UnitNo → Settled) (votes : List (GrainId × Bool)) (verdict : UnitNo → Verdict) (us : List UnitNo) (ds : List Decision) (x : Entry) →
    Reasons votes w.manager.writes w.units.deps verdict us ds → Member x (entries_in w answer us ds) →
    (u : UnitNo) × ((d : Decision) × Member u us × (verdict u ≡ verdict_of d) × Reason votes (w.manager.writes u) (w.units.deps u) verdict d × (x.unit ≡ u) × (x.what ≡ told (answer u) d) × (w.units.origin u ≡ Line x.line))
entries-parts w answer votes verdict [] [] x r m = absurd m
entries-parts w answer votes verdict [] (d ∷ ds) x r m = absurd m
entries-parts w answer votes verdict (u ∷ us) [] x r m = absurd m
entries-parts w answer votes verdict (u ∷ us) (d ∷ ds) x r m =
    elim (Member-append x (entry_for (w.units.origin u) u (told (answer u) d)) (entries_in w answer us ds) m) [
      | inl h ↦ (let t = entry-parts w u (told (answer u) d) x h in (u, (d, inl refl, r.0, r.1, t.0, t.1, t.2)))
      | inr h ↦ (let t = entries-parts w answer votes verdict us ds x r.2 h in (t.0, (t.1.0, inr t.1.1, t.1.2, t.1.3, t.1.4, t.1.5, t.1.6)))
    ]

-- in a decided batch a dependency that is dead is aborted, or to abort
pub dead-bad : (opening : GrainId → List Value) (v : CoreState) (b : Batch) → Inv opening (v.manager.closed + b.size) v → Depends v → (u : UnitNo) → Member u (members v b) → (d : UnitNo) → Member d (v.units.deps u) →
    Dead v.manager.verdict v.units.reads d → is_bad (v.manager.verdict d) ≡ true
dead-bad opening v b i s u m d n dead =
    let p = member-place _ v b (loadless-of opening _ v i) u m in
    let t = depends-earlier opening _ v i s u d p.0 n in
    elim (cases_Bool (is_bad (v.manager.verdict d))) [
      | inl e ↦ e
      | inr e ↦ absurd (good-alive opening _ v i d (good_from (v.manager.verdict d) (i.early d t.0 (omega (arith, t.1, p.1))) e) dead)
    ]

-- what a reason says in terms of the dead
pub voted-down : (v : CoreState) (b : Batch) (u : UnitNo) (g : GrainId) → Reason b.votes (v.manager.writes u) (v.units.deps u) v.manager.verdict (decision.Vote g) → IsVotedDown v b u g
voted-down v b u g r = (let t = failed-some b.votes (v.manager.writes u) g r in record { wrote = t.0; failed = t.1; first = t.2 })

pub depends-on : (opening : GrainId → List Value) (v : CoreState) (b : Batch) → Inv opening (v.manager.closed + b.size) v → Depends v → (u on : UnitNo) → Member u (members v b) →
    Reason b.votes (v.manager.writes u) (v.units.deps u) v.manager.verdict (decision.Dependency on) → DependsOnDead v b u on
depends-on opening v b i s u on m r = record {
  written = failed-none b.votes (v.manager.writes u) r.0;
  source = r.1;
  dead = itself r.2;
  oldest = λ d n dead. r.3 d n (dead-bad opening v b i s u m d n dead);
}

pub can-commit : (opening : GrainId → List Value) (v : CoreState) (b : Batch) → Inv opening (v.manager.closed + b.size) v → Depends v → (u : UnitNo) → Member u (members v b) →
    Reason b.votes (v.manager.writes u) (v.units.deps u) v.manager.verdict decision.Commit → CanCommit v b u
can-commit opening v b i s u m r = record {
  written = failed-none b.votes (v.manager.writes u) r.0;
  alive = λ d n dead. (let t : true ≡ false = sym (dead-bad opening v b i s u m d n dead) ∙ r.1 d n in cc);
}

-- the entries of a batch that an event closes, decided in the state v
batch-told : (opening : GrainId → List Value) (w v : CoreState) (e : CoreEvent) (next : CoreState) (answer : UnitNo → Settled) (b : Batch) (ds : List Decision) →
    Inv opening (v.manager.closed + b.size) v → Depends v → w.manager.batch ≡ Some b → members v b ≡ members w b → v.units.origin ≡ w.units.origin →
    ((u : UnitNo) (Holds : CoreState → Batch → Type 0) → Member u (members w b) → Holds v b → AtDecision w e u Holds) →
    Reasons b.votes v.manager.writes v.units.deps v.manager.verdict (members v b) ds →
    ((u : UnitNo) → Member u (members v b) → v.units.phase u ≡ Finished → v.manager.verdict u ≡ Chosen → CanCommit v b u → HasCause w e next u (answer u) × ((x : Entry) → w.units.origin x.unit ≡ Line x.line → HasLine w x (answer u))) →
    (x : Entry) → Member x (entries_in v answer (members v b) ds) → Told w e next x
batch-told opening w v e next answer b ds i s q same origin at reasons commits x m = go t.1.0 refl
  where
    t : (u : UnitNo) × ((d : Decision) × Member u (members v b) × (v.manager.verdict u ≡ verdict_of d) × Reason b.votes (v.manager.writes u) (v.units.deps u) v.manager.verdict d × (x.unit ≡ u) × (x.what ≡ told (answer u) d) × (v.units.origin u ≡ Line x.line))
    t = entries-parts v answer b.votes v.manager.verdict (members v b) ds x reasons m

    line : w.units.origin x.unit ≡ Line x.line
    line = ap w.units.origin t.1.4 ∙ (λ j. sym origin j t.0) ∙ t.1.6

    go : (d : Decision) → t.1.0 ≡ d → Told w e next x
    go decision.Commit p =
        let r = subst (Reason b.votes (v.manager.writes t.0) (v.units.deps t.0) v.manager.verdict) p t.1.3 in
        let c = commits t.0 t.1.1 (member-place _ v b (loadless-of opening _ v i) t.0 t.1.1).0 (t.1.2 ∙ ap verdict_of p) (can-commit opening v b i s t.0 t.1.1 r) in
        told-from w e next x t.0 (answer t.0) t.1.4 (t.1.5 ∙ ap (told (answer t.0)) p) c.0 (c.1 x line)
    go (decision.Vote g) p =
        let r = subst (Reason b.votes (v.manager.writes t.0) (v.units.deps t.0) v.manager.verdict) p t.1.3 in
        told-from w e next x t.0 (settled.Vote g) t.1.4 (t.1.5 ∙ ap (told (answer t.0)) p)
        (at t.0 (λ v b. IsVotedDown v b t.0 g) (subst (Member t.0) same t.1.1) (voted-down v b t.0 g r)) line
    go (decision.Dependency on) p =
        let r = subst (Reason b.votes (v.manager.writes t.0) (v.units.deps t.0) v.manager.verdict) p t.1.3 in
        told-from w e next x t.0 (settled.Dependency on) t.1.4 (t.1.5 ∙ ap (told (answer t.0)) p)
        (inr (at t.0 (λ v b. DependsOnDead v b t.0 on) (subst (Member t.0) same t.1.1) (depends-on opening v b i s t.0 on t.1.1 r))) line

-- a unit to commit has its result where the batch is sealed
sealed-outcome : (v : CoreState) (u : UnitNo) → v.units.phase u ≡ Finished → v.manager.verdict u ≡ Chosen → outcome_in (v.units.phase u) (seal (v.manager.verdict u)) (v.manager.result u) ≡ Some (v.manager.result u)
sealed-outcome v u p q = λ i. outcome_in (p i) (seal (q i)) (v.manager.result u)

-- a refusal's cause
pub refused-cause : (opening : GrainId → List Value) (w : CoreState) (u : UnitNo) (g : GrainId) (mode : Mode) (why : Settled) (next : CoreState) → Kept opening w → w.units.phase u ≡ Running → refusal g (ask_answer w u g mode) ≡ Some why →
    HasCause w (Refuse u g mode) next u why × ((x : Entry) → w.units.origin x.unit ≡ Line x.line → HasLine w x why)
refused-cause opening w u g mode why next k running q = elim (ask-refused w u g mode why q).1 [
  | inl d ↦ (
    subst (HasCause w (Refuse u g mode) next u) (sym d.2) (inl (doomed d.0 d.1)),
    λ x l. subst (HasLine w x) (sym d.2) l,
  )
  | inr d ↦ (
    subst (HasCause w (Refuse u g mode) next u) (sym d.3) (locked d.0 d.2),
    λ x l. subst (HasLine w x) (sym d.3) l,
  )
]
  where
    locked : (by : UnitNo) → locks.ask (w.cells.holds g) u mode ≡ MustDie by → IsRefusedLock w (Refuse u g mode) u by g
    locked by e = (let t = ask-die (w.cells.holds g) u mode by e in record { mode = mode; refused = refl; rival = t.1; older = t.2 })

    sources : (rs : List Read) (s : UnitNo) → Member s (map (λ r. r.source) rs) → (r : Read) × Member r rs × (r.source ≡ s)
    sources [] s m = absurd m
    sources (r ∷ rs) s (inl h) = (r, inl refl, sym h)
    sources (r ∷ rs) s (inr h) = (let t = sources rs s h in (t.0, inr t.1, t.2))

    source-of : (rs : List Read) (r : Read) → Member r rs → Member r.source (map (λ r. r.source) rs)
    source-of [] r m = absurd m
    source-of (y ∷ ys) r (inl h) = inl (ap (λ (z : Read). z.source) h)
    source-of (y ∷ ys) r (inr h) = inr (source-of ys r h)

    doomed : (on : UnitNo) → doomed_by w u ≡ Some on → IsRefusedFor w (Refuse u g mode) u on
    doomed on e =
        let t = oldest-some (map (λ r. r.source) (filter (is_gone w) (w.units.reads u))) on e in
        let s = sources (filter (is_gone w) (w.units.reads u)) on t.0 in
        let f = filter-member (is_gone w) (w.units.reads u) s.0 s.1 in
        record {
          refused = (g, (mode, refl));
          gone = (s.0, f.0, s.2, f.1);
          dead = subst (Dead w.manager.verdict w.units.reads) s.2 (elim (k.0.sees u s.0 running f.0) [
            | inl a ↦ absurd (same_unit-false _ _ (not-true _ f.1) (sym a))
            | inr d ↦ d
          ]);
          oldest = λ r m h. t.1 r.source (source-of (filter (is_gone w) (w.units.reads u)) r (filter-stays (is_gone w) (w.units.reads u) r m h));
        }

-- where none is decided to commit, none is to commit
no-commit : (votes : List (GrainId × Bool)) (writes : UnitNo → List Write) (deps : UnitNo → List UnitNo) (verdict : UnitNo → Verdict) (us : List UnitNo) (ds : List Decision) →
    Reasons votes writes deps verdict us ds → any is_commit ds ≡ false → (u : UnitNo) → Member u us → verdict u ≡ Chosen → ⊥
no-commit votes writes deps verdict [] ds r none u m c = m
no-commit votes writes deps verdict (y ∷ us) [] r none u m c = r
no-commit votes writes deps verdict (y ∷ us) (d ∷ ds) r none u (inl q) c = judged_so d (or_parts (is_commit d) (any is_commit ds) none).0 (sym r.0 ∙ ap verdict (sym q) ∙ c)
  where
    judged_so : (d : Decision) → is_commit d ≡ false → verdict_of d ≡ Chosen → ⊥
    judged_so decision.Commit n e = cc
    judged_so (decision.Vote g) n e = cc
    judged_so (decision.Dependency on) n e = cc
no-commit votes writes deps verdict (y ∷ us) (d ∷ ds) r none u (inr m) c = no-commit votes writes deps verdict us ds r.2 (or_parts (is_commit d) (any is_commit ds) none).1 u m c

ended-cause : (w : CoreState) (e : CoreEvent) (next : CoreState) (u : UnitNo) (answers : List Outcome) (result : Outcome) (at : Option ℕ) → EndsWith w e u result → ((x : UnitNo) → outcome_of next x ≡ outcome_of (after_end w u answers result at) x) →
    (x : Entry) → Member x (w.manager.settled ++ entry_for (w.units.origin u) u (settled.Done result)) → Member x w.manager.settled ⊎ Told w e next x
ended-cause w e next u answers result at end same x m = elim (Member-append x w.manager.settled (entry_for (w.units.origin u) u (settled.Done result)) m) [
  | inl h ↦ inl h
  | inr h ↦ (let t = entry-parts w u (settled.Done result) x h in
      inr (told-from w e next x u (settled.Done result) t.0 t.1
      (same u ∙ (λ i. outcome_in (put-same w.units.phase u Ended i) (w.manager.verdict u) (put-same w.manager.result u result i)), end)
      (ap w.units.origin t.0 ∙ t.2)))
]

pub caused-change : (opening : GrainId → List Value) (w : CoreState) (e : CoreEvent) (w' : CoreState) → Change w e w' → Kept opening w → Depends w → Argued w → (next : CoreState) → ((u : UnitNo) → outcome_of next u ≡ outcome_of w' u) →
    (x : Entry) → Member x w'.manager.settled → Member x w.manager.settled ⊎ Told w e next x
caused-change opening w e w' (bad line why q) k dep s next same x m =
    elim (Member-append x w.manager.settled (record { line = line; unit = nobody; what = settled.Bad why } ∷ []) m) [
      | inl h ↦ inl h
      | inr h ↦ elim h [
        | inl z ↦ inr (told-from w (Bad line why) next x nobody (settled.Bad why) (ap (λ (y : Entry). y.unit) z) (ap (λ (y : Entry). y.what) z) (line, refl) (ap (λ (y : Entry). y.unit) z, ap (λ (y : Entry). y.line) z ∙ q))
        | inr z ↦ absurd z
      ]
    ]
caused-change opening w e w' (begin origin call plain c) k dep s next same x m = inl m
caused-change opening w e w' (lock u g mode running free first here) k dep s next same x m = inl m
caused-change opening w e w' (raise u g mode running free held here uncovered) k dep s next same x m = inl m
caused-change opening w e w' (refuse u g mode why running q) k dep s next same x m =
    elim (Member-append x w.manager.settled (entry_for (w.units.origin u) u why) m) [
      | inl h ↦ inl h
      | inr h ↦ (let t = entry-parts w u why x h in
          let c = refused-cause opening w u g mode why next k running q in
          inr (told-from w (Refuse u g mode) next x u why t.0 t.1 c.0 (c.1 x (ap w.units.origin t.0 ∙ t.2))))
    ]
caused-change opening w e w' (finish u effect running plain of_call reads alone) k dep s next same x m = inl m
caused-change opening w e w' (end_plain u effect running plain of_call bare) k dep s next same x m = ended-cause w (EndPlain u effect) next u effect.answers effect.result None (refl, refl) same x m
caused-change opening w e w' (end_snapshot u at outcome running plain kids answer) k dep s next same x m = ended-cause w (EndSnapshot u at outcome) next u [] outcome (Some at) (refl, refl) same x m
caused-change opening w e w' (release u g over held) k dep s next same x m = inl m
caused-change opening w e w' (take_batch none some) k dep s next same x m = inl m
caused-change opening w e w' (vote n g kept b q number d planned fresh) k dep s next same x m = inl m
caused-change opening w e w' (decide_some n b q number d voted some) k dep s next same x m = inl m
caused-change opening w e w' (decide_none n b q number d voted none) k dep s next same x m =
    (let v : CoreState = with_decisions w b (decisions_of w b) in
    elim (Member-append x w.manager.settled (entries_in v (result_told v) (members w b) (decisions_of w b)) m) [
      | inl h ↦ inl h
      | inr h ↦ inr (batch-told opening w v (Decide n) next (result_told v) b (decisions_of w b) (inv-decided opening w b k q d) dep q refl refl
          (λ u Holds mem h. (b, q, sym number, mem, h)) (argued-decided opening w b k dep q d)
          (λ u mem f c can. absurd (no-commit b.votes v.manager.writes v.units.deps v.manager.verdict (members w b) (decisions_of w b) (argued-decided opening w b k dep q d) none u mem c)) x h)
    ])
caused-change opening w e w' (seal_batch n b ds q number d) k dep s next same x m =
    elim (Member-append x w.manager.settled (entries_in w (result_told w) (members w b) ds) m) [
      | inl h ↦ inl h
      | inr h ↦ inr (batch-told opening w w (Sealed n) next (result_told w) b ds (inv-judged opening w b ds k q d) dep q refl refl
          (λ u Holds mem h. (b, q, sym number, mem, h)) (s b ds q d)
          (λ u mem f c can. ((same u ∙ sealed-outcome w u f c, (refl, (b, q, sym number, mem, can))), λ y l. l)) x h)
    ]
caused-change opening w e w' (spoil_batch n b ds q number d) k dep s next same x m =
    elim (Member-append x w.manager.settled (entries_in w (λ u. settled.Disk) (members w b) ds) m) [
      | inl h ↦ inl h
      | inr h ↦ inr (batch-told opening w w (NotSealed n) next (λ u. settled.Disk) b ds (inv-judged opening w b ds k q d) dep q refl refl
          (λ u Holds mem h. (b, q, sym number, mem, h)) (s b ds q d)
          (λ u mem f c can. (((n, refl), (b, q, sym number, mem, can)), λ y l. l)) x h)
    ]
caused-change opening w e w' (doubt_batch n b ds q number d) k dep s next same x m =
    elim (Member-append x w.manager.settled (entries_in w (λ u. settled.InDoubt) (members w b) ds) m) [
      | inl h ↦ inl h
      | inr h ↦ inr (batch-told opening w w (Doubt n) next (λ u. settled.InDoubt) b ds (inv-judged opening w b ds k q d) dep q refl refl
          (λ u Holds mem h. (b, q, sym number, mem, h)) (s b ds q d)
          (λ u mem f c can. (((n, refl), (b, q, sym number, mem, can)), λ y l. l)) x h)
    ]
caused-change opening w e w' (learn u g wrote final fresh) k dep s next same x m = inl m
caused-change opening w e w' (emit q) k dep s next same x m = inl m
caused-change opening w e w' (halt_run q) k dep s next same x m = inl m
caused-change opening w e w' (want u g running free fresh) k dep s next same x m = inl m
caused-change opening w e w' (load g u state gone wanted) k dep s next same x m = inl m

caused-step : (opening : GrainId → List Value) (w : CoreState) (e : CoreEvent) → Kept opening w → Depends w → Argued w → (x : Entry) → Member x (step w e).manager.settled →
    Member x w.manager.settled ⊎ ((applies w e ≡ true) × Told w e (step w e) x)
caused-step opening w e k dep s x = by_test (applies w e) refl
  where
    swept-outcome : (v : CoreState) (u : UnitNo) → outcome_of (swept v) u ≡ outcome_of v u
    swept-outcome v u = go v.cells.capacity
      where
        go : (c : Option ℕ) → outcome_of (swept_by v c) u ≡ outcome_of v u
        go None = refl
        go (Some m) = refl

    swept-settled : (v : CoreState) → (swept v).manager.settled ≡ v.manager.settled
    swept-settled v = go v.cells.capacity
      where
        go : (c : Option ℕ) → (swept_by v c).manager.settled ≡ v.manager.settled
        go None = refl
        go (Some m) = refl

    by_test : (t : Bool) → applies w e ≡ t → Member x (step w e).manager.settled → Member x w.manager.settled ⊎ ((applies w e ≡ true) × Told w e (step w e) x)
    by_test false a m = inl (subst (λ (v : CoreState). Member x v.manager.settled) (cond-false (applies w e) (swept (does w e)) w a) m)
    by_test true a m =
        let is : step w e ≡ swept (does w e) = cond-true (applies w e) (swept (does w e)) w a in
        let n = subst (Member x) (ap (λ (v : CoreState). v.manager.settled) is ∙ swept-settled (does w e)) m in
        elim (caused-change opening w e (does w e) (decode w e (and_parts (is_allowed w e) (can w e) a).1) k dep s (step w e) (λ u. ap (λ v. outcome_of v u) is ∙ swept-outcome (does w e) u) x n) [
          | inl h ↦ inl h
          | inr h ↦ inr (a, h)
        ]

-- an event of the list settled the entry
abbrev CausedFrom : CoreState → List CoreEvent → Entry → Type 0
CausedFrom w es x = (before : List CoreEvent) × ((e : CoreEvent) × ((later : List CoreEvent) × (es ≡ before ++ e ∷ later) × (applies (run w before) e ≡ true) × Told (run w before) e (step (run w before) e) x))

caused-run : (opening : GrainId → List Value) (es : List CoreEvent) (w : CoreState) → AllLoadsTrue opening w es → Kept opening w → Depends w → Argued w → (x : Entry) → Member x (run w es).manager.settled → Member x w.manager.settled ⊎ CausedFrom w es x
caused-run opening [] w l k dep s x m = inl m
caused-run opening (e ∷ es) w l k dep s x m =
    elim (caused-run opening es (step w e) l.1 (kept-step opening w e l.0 k) (depends-step opening w e l.0 k dep) (argued-step opening w e k dep s) x m) [
      | inl h ↦ elim (caused-step opening w e k dep s x h) [
        | inl n ↦ inl n
        | inr t ↦ inr ([], (e, (es, refl, t.0, t.1)))
      ]
      | inr c ↦ inr (e ∷ c.0, (c.1.0, (c.1.1.0, ap (λ t. e ∷ t) c.1.1.1, c.1.1.2, c.1.1.3)))
    ]

pub caused-ends : (plays : Effect → Bool) (r : Run) → IsLegal plays r → (x : Entry) → Member x (ends r).manager.settled → IsCaused r x
caused-ends plays r l x m =
    elim (caused-run r.opening r.events (begins r) l.loads (kept-begins plays r l) ((λ u. tt), (λ u d n. absurd n)) (λ b ds q. cc) x m) [
      | inl n ↦ absurd n
      | inr c ↦ record {
        before = c.0;
        event = c.1.0;
        later = c.1.1.0;
        split = c.1.1.1;
        applied = c.1.1.2;
        cause = c.1.1.3.0;
        line = c.1.1.3.1;
      }
    ]
