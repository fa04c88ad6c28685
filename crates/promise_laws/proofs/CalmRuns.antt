-- Where no count rises, nothing is aborted for a fault.
use Rattle.std.proofs.Common.{◌≡◌, ◌<◌, ◌⊎◌, ℕ, zero, suc, Some, List, [], ◌∷◌, ◌++◌, Bool, true, false, ◌&&◌, ◌||◌, not, Option, None, inl, inr, refl, sym, ap, ◌∙◌, subst, arith, map, filter}
use Rattle.std.specs.Prelude.{⊤, ◌^◌, ◌-◌, take, slice_get}
use Rattle.std.proofs.lemmas.Bool.{and_parts, and_right, cond_both, cases_Bool, not-true, not_from_true}
use Rattle.base_types.specs.declared.entries.Entry.{Entry}
use Rattle.base_types.specs.declared.entries.Settled.TheVariants as settled
use Rattle.cell_model.specs.declared.outcomes.Decision.TheVariants as decision
use Rattle.cell_model.specs.Decisions.{is_commit, decision, all_decided, and_itself}
use Rattle.cell_model.proofs.Decisions.{commits-exactly}
use Rattle.cell_model.proofs.Units.{same_unit-false, same_grain-is, cases_unit, Member-append, any-none, filter-member, oldest-some}
use Rattle.host_trait.specs.declared.channels.Channel.TheVariants.{File}
use Rattle.host_trait.specs.declared.channels.FileId.TheVariants.{Manager, Grain}
use Rattle.core_model.specs.declared.phases.Phase.{Phase}
use Rattle.core_model.specs.declared.phases.Phase.TheVariants.{Unborn, Running, Finished, Refused, Ended}
use Rattle.core_model.specs.declared.phases.Verdict.{Verdict}
use Rattle.core_model.specs.declared.phases.Verdict.TheVariants.{Open, Chosen, Condemned, Committed, Aborted}
use Rattle.core_model.specs.declared.effects.Read.{Read}
use Rattle.core_model.specs.CoreState.{UnitNo, GrainId, nobody, put, Member, Value, Settled, Write, Mode, Prepared, Decision, Batch, CoreState}
use Rattle.core_model.specs.Tests.{is_bad, is_gone, is_vote_on, has_failed, failed_in, first_grain, prepared, doomed_by, ask_answer, members}
use Rattle.core_model.specs.DeadUnits.{Dead}
use Rattle.core_model.specs.Changes.{entry_for, entries_in, told, result_told, decisions_of, with_decisions, judged, verdict_of, closed, seal, swept, swept_by, refusal, new_unit}
use Rattle.core_model.specs.declared.events.CoreEvent.{CoreEvent}
use Rattle.core_model.specs.declared.events.CoreEvent.TheVariants.{Vote, NotSealed, Doubt}
use Rattle.core_model.specs.Events.{applies, can, does, step, run, is_allowed}
use Rattle.core_model.specs.SerialOrder.{IsTrueLoad, AllLoadsTrue}
use Rattle.core_model.specs.LegalRuns.{begins}
use Rattle.core_laws.proofs.Basics.{Dead-not}
use Rattle.core_laws.proofs.Puts.{put-at, put-from, put-is, put-other}
use Rattle.core_laws.proofs.Invariant.{Inv}
use Rattle.core_laws.proofs.EventCases.{Change, bad, begin, lock, raise, refuse, finish, end_plain, end_snapshot, release, take_batch, vote, decide_some, decide_none, seal_batch, spoil_batch, doubt_batch, learn, emit, halt_run, want, load, decode, ask-refused}
use Rattle.core_laws.proofs.EntryCauses.{entry-parts}
use Rattle.core_laws.proofs.Dependencies.{Depends, depends-step}
use Rattle.core_laws.proofs.KeptInvariant.{Kept, kept-start, kept-step}
use Rattle.promise_spec.specs.Programs.{Program}
use Rattle.promise_spec.specs.Cores.{AppliesAt, how_many, state_before}
use Rattle.promise_spec.specs.UnitAnswers.{got_from}
use Rattle.promise_spec.specs.UnitRule.{IsDue}
use Rattle.promise_spec.specs.Causes.{NoneRose, RoseBy, is_no, is_unsealed, RunHasDoubt}
use Rattle.promise_spec.specs.Courses.{Observed, Course, basis, core_run, core_end}
use Rattle.promise_spec.specs.Explanation.{IsExplained}
use Rattle.promise_spec.specs.Promise.{IsUndisturbed}
use Rattle.promise_spec.proofs.Lists.{none_at, some_is}
use Rattle.promise_laws.proofs.SerialRecords.{above_entries}
use Rattle.promise_laws.proofs.AppliedEvents.{AllFit, keeps-run, none-applies}

-- the event shows no fault
abbrev IsQuiet : CoreEvent → Type 0
IsQuiet (Vote number g kept) = kept ≡ true
IsQuiet (NotSealed number) = ⊥
IsQuiet (Doubt number) = ⊥
IsQuiet _ = ⊤

-- each unit of the batch commits
abbrev AllCommit : List Decision → Type 0
AllCommit ds = (d : Decision) → Member d ds → d ≡ decision.Commit

-- A unit that is aborted, or to abort, was refused. The open batch has votes of yes alone, and decisions to commit.
-- No entry tells of a fault.
record Calm (phase : UnitNo → Phase) (verdict : UnitNo → Verdict) (batch : Option Batch) (settled : List Entry) : Type 0 where
  refused : (u : UnitNo) → is_bad (verdict u) ≡ true → phase u ≡ Refused
  votes : (b : Batch) (v : GrainId × Bool) → batch ≡ Some b → Member v b.votes → v.1 ≡ true
  commits : (b : Batch) (ds : List Decision) → batch ≡ Some b → b.decisions ≡ Some ds → AllCommit ds
  undisturbed : (x : Entry) → Member x settled → IsUndisturbed x.what

-- that of a state
abbrev IsCalm : CoreState → Type 0
IsCalm w = Calm w.units.phase w.manager.verdict w.manager.batch w.manager.settled

-- who has finished, or is nobody, isn't dead
source-alive : (opening : GrainId → List Value) (n : ℕ) (w : CoreState) → Inv opening n w → IsCalm w → (u : UnitNo) → (w.units.phase u ≡ Finished) ⊎ (u ≡ nobody) → Dead w.manager.verdict w.units.reads u → ⊥
source-alive opening n w i s u o d =
    Dead-not w.manager.verdict w.units.reads (λ x. (w.units.phase x ≡ Finished) ⊎ (x ≡ nobody))
    (λ x o b. elim o [
      | inl f ↦ (let t : Finished ≡ Refused = sym f ∙ s.refused x b in cc)
      | inr q ↦ (let t : Unborn ≡ Refused = sym i.outside ∙ ap w.units.phase (sym q) ∙ s.refused x b in cc)
    ])
    (λ x r o m. elim (i.source x r m) [ inl a ↦ inr a.0 | inr a ↦ inl a.0 ])
    u d o

-- nor is any dependency bad
dependency-fine : (opening : GrainId → List Value) (n : ℕ) (w : CoreState) → Inv opening n w → Depends w → IsCalm w → (u d : UnitNo) → Member d (w.units.deps u) → is_bad (w.manager.verdict d) ≡ false
dependency-fine opening n w i dep s u d m = elim (cases_Bool (is_bad (w.manager.verdict d))) [
  | inl b ↦ (let t = dep.1 u d m in
      elim (i.source u t.0 t.1) [
        | inl a ↦ absurd (t.3 (sym t.2 ∙ a.0))
        | inr a ↦ (let q : Finished ≡ Refused = sym a.0 ∙ ap w.units.phase t.2 ∙ s.refused d b in cc)
      ])
  | inr b ↦ b
]

-- no file failed where all votes are of yes
none-failed : (votes : List (GrainId × Bool)) (g : GrainId) → ((v : GrainId × Bool) → Member v votes → v.1 ≡ true) → has_failed votes g ≡ false
none-failed votes g kept = any-none (λ v. is_vote_on g v && not v.1) votes (λ v m. and_right (is_vote_on g v) (not v.1) (not_from_true v.1 (kept v m)))

none-kept : {A : Type 0} (p : A → Bool) (xs : List A) → ((x : A) → p x ≡ false) → filter p xs ≡ []
none-kept p [] none = refl
none-kept p (x ∷ xs) none = cond_both (p x) (x ∷ filter p xs) (filter p xs) (λ t. t ≡ []) (λ e. (let t : true ≡ false = sym e ∙ none x in cc)) (λ e. none-kept p xs none)

no-failure : (votes : List (GrainId × Bool)) (writes : List Write) → ((v : GrainId × Bool) → Member v votes → v.1 ≡ true) → failed_in votes writes ≡ None
no-failure votes writes kept = ap first_grain (none-kept (has_failed votes) (map (λ (x : Write). x.0) writes) (λ g. none-failed votes g kept))

-- where no file failed and no dependency is dead, all commit
all-commit : (dead : UnitNo → Bool) (ps : List Prepared) → ((p : Prepared) → Member p ps → (p.failed ≡ None) × ((d : UnitNo) → Member d p.deps → dead d ≡ false)) → AllCommit (all_decided dead ps)
all-commit dead [] fine d m = absurd m
all-commit dead (p ∷ ps) fine d (inl q) = q ∙ (commits-exactly dead p).1 (fine p (inl refl))
all-commit dead (p ∷ ps) fine d (inr m) =
    let first : is_commit (decision dead p) ≡ true = ap is_commit ((commits-exactly dead p).1 (fine p (inl refl))) in
    all-commit (and_itself dead p) ps
    (λ x n. (let t = fine x (inr n) in
    (t.0, λ u k. ap (λ b. b || dead u) (and_right _ (not (is_commit (decision dead p))) (not_from_true _ first)) ∙ t.1 u k)))
    d m

prepared-of : (w : CoreState) (b : Batch) (us : List UnitNo) (p : Prepared) → Member p (map (prepared w b) us) → (u : UnitNo) × Member u us × (p ≡ prepared w b u)
prepared-of w b [] p m = absurd m
prepared-of w b (u ∷ us) p (inl q) = (u, inl refl, q)
prepared-of w b (u ∷ us) p (inr m) = (let t = prepared-of w b us p m in (t.0, inr t.1, t.2))

decisions-commit : (opening : GrainId → List Value) (n : ℕ) (w : CoreState) (b : Batch) → Inv opening n w → Depends w → IsCalm w → w.manager.batch ≡ Some b → AllCommit (decisions_of w b)
decisions-commit opening n w b i dep s q =
    all-commit (λ u. is_bad (w.manager.verdict u)) (map (prepared w b) (members w b))
    (λ p m. (let t = prepared-of w b (members w b) p m in (
      ap (λ (z : Prepared). z.failed) t.2 ∙ no-failure b.votes (w.manager.writes t.0) (λ v k. s.votes b v q k),
      λ d k. dependency-fine opening n w i dep s t.0 d (subst (λ (z : Prepared). Member d z.deps) t.2 k),
    )))

-- decisions to commit make nobody bad
judged-fine : (us : List UnitNo) (ds : List Decision) (v : UnitNo → Verdict) → AllCommit ds → (x : UnitNo) → is_bad (judged us ds v x) ≡ true → is_bad (v x) ≡ true
judged-fine [] ds v all x e = e
judged-fine (u ∷ us) [] v all x e = e
judged-fine (u ∷ us) (d ∷ ds) v all x e =
    put-from v u (verdict_of d) (λ z. is_bad z ≡ true) (is_bad (v x) ≡ true) x
    (λ q b. (let t : false ≡ true = sym (ap (λ c. is_bad (verdict_of c)) (all d (inl refl))) ∙ b in cc))
    (λ q b. b)
    (judged-fine us ds (put v u (verdict_of d)) (λ c m. all c (inr m)) x e)

seal-fine : (v : Verdict) → is_bad (seal v) ≡ true → is_bad v ≡ true
seal-fine Open e = e
seal-fine Chosen e = cc
seal-fine Condemned e = refl
seal-fine Committed e = e
seal-fine Aborted e = e

-- the entry of a unit, and those of a batch that commits
entry-fine : (w : CoreState) (u : UnitNo) (what : Settled) → IsUndisturbed what → (x : Entry) → Member x (entry_for (w.units.origin u) u what) → IsUndisturbed x.what
entry-fine w u what fine x m = subst IsUndisturbed (sym (entry-parts w u what x m).1) fine

entries-fine : (w : CoreState) (us : List UnitNo) (ds : List Decision) → AllCommit ds → (x : Entry) → Member x (entries_in w (result_told w) us ds) → IsUndisturbed x.what
entries-fine w [] ds all x m = absurd m
entries-fine w (u ∷ us) [] all x m = absurd m
entries-fine w (u ∷ us) (d ∷ ds) all x m =
    elim (Member-append x (entry_for (w.units.origin u) u (told (result_told w u) d)) (entries_in w (result_told w) us ds) m) [
      | inl h ↦ entry-fine w u (told (result_told w u) d) (subst (λ c. IsUndisturbed (told (result_told w u) c)) (sym (all d (inl refl))) tt) x h
      | inr h ↦ entries-fine w us ds (λ c n. all c (inr n)) x h
    ]

-- more entries
more-fine : (old new : List Entry) → ((x : Entry) → Member x old → IsUndisturbed x.what) → ((x : Entry) → Member x new → IsUndisturbed x.what) → (x : Entry) → Member x (old ++ new) → IsUndisturbed x.what
more-fine old new a b x m = elim (Member-append x old new m) [ inl h ↦ a x h | inr h ↦ b x h ]

-- a unit that wasn't bad is in another phase
calm-phase : (w : CoreState) (u : UnitNo) (end : Phase) → w.manager.verdict u ≡ Open → IsCalm w → (x : UnitNo) → is_bad (w.manager.verdict x) ≡ true → put w.units.phase u end x ≡ Refused
calm-phase w u end open_u s x b = put-at w.units.phase u end (λ z. z ≡ Refused) x
    (λ q. (let t : false ≡ true = sym (ap is_bad (ap w.manager.verdict q ∙ open_u)) ∙ b in cc))
    (λ q. s.refused x b)

-- the batch is closed, and commits
calm-sealed : (w : CoreState) (b : Batch) (ds : List Decision) → AllCommit ds → IsCalm w → IsCalm (closed w seal (result_told w) b ds)
calm-sealed w b ds all s = record {
  refused = λ u e. s.refused u (seal-fine (w.manager.verdict u) e);
  votes = λ c v q m. cc;
  commits = λ c cs q e. cc;
  undisturbed = more-fine w.manager.settled (entries_in w (result_told w) (members w b) ds) s.undisturbed (entries-fine w (members w b) ds all);
}

-- the open batch is decided
calm-decided : (w : CoreState) (b : Batch) (ds : List Decision) → AllCommit ds → w.manager.batch ≡ Some b → IsCalm w → IsCalm (with_decisions w b ds)
calm-decided w b ds all q s = record {
  refused = λ u e. s.refused u (judged-fine (members w b) ds w.manager.verdict all u e);
  votes = λ c v e m. s.votes b v q (subst (λ (z : Batch). Member v z.votes) (sym (some_is _ c e)) m);
  commits = λ c cs e f. subst AllCommit (some_is ds cs (ap (λ (z : Batch). z.decisions) (some_is _ c e) ∙ f)) all;
  undisturbed = s.undisturbed;
}

-- nobody is doomed, so a refusal is for a lock
refusal-fine : (opening : GrainId → List Value) (n : ℕ) (w : CoreState) (u : UnitNo) (g : GrainId) (mode : Mode) (why : Settled) → Inv opening n w → IsCalm w → w.units.phase u ≡ Running → refusal g (ask_answer w u g mode) ≡ Some why → IsUndisturbed why
refusal-fine opening n w u g mode why i s running q = elim (ask-refused w u g mode why q).1 [
  | inl d ↦ absurd (doomed d.0 d.1)
  | inr d ↦ subst IsUndisturbed (sym d.3) tt
]
  where
    read-of : (rs : List Read) (on : UnitNo) → Member on (map (λ (r : Read). r.source) rs) → (r : Read) × Member r rs
    read-of [] on m = absurd m
    read-of (r ∷ rs) on (inl e) = (r, inl refl)
    read-of (r ∷ rs) on (inr m) = (let t = read-of rs on m in (t.0, inr t.1))

    doomed : (on : UnitNo) → doomed_by w u ≡ Some on → ⊥
    doomed on e =
        let gone : List Read = filter (is_gone w) (w.units.reads u) in
        let t = read-of gone on (oldest-some (map (λ (r : Read). r.source) gone) on e).0 in
        let f = filter-member (is_gone w) (w.units.reads u) t.0 t.1 in
        elim (i.sees u t.0 running f.0) [
          | inl a ↦ same_unit-false _ _ (not-true _ f.1) (sym a)
          | inr d ↦ source-alive opening n w i s t.0.source (elim (i.source u t.0 f.0) [ inl a ↦ inr a.0 | inr a ↦ inl a.0 ]) d
        ]

calm-change : (opening : GrainId → List Value) (w : CoreState) (e : CoreEvent) (w' : CoreState) → Change w e w' → IsQuiet e → Kept opening w → Depends w → IsCalm w → IsCalm w'
calm-change opening w e w' (bad line why q) quiet k dep s = record {
  refused = s.refused;
  votes = s.votes;
  commits = s.commits;
  undisturbed = more-fine w.manager.settled (record { line = line; unit = nobody; what = settled.Bad why } ∷ []) s.undisturbed
      (λ x m. elim m [ inl h ↦ subst IsUndisturbed (sym (ap (λ (z : Entry). z.what) h)) tt | inr h ↦ absurd h ]);
}
calm-change opening w e w' (begin origin call plain c) quiet k dep s = record {
  refused = calm-phase w (new_unit w) Running (k.0.undecided (new_unit w) (inl (k.0.unborn (new_unit w) (omega arith)))) s;
  votes = s.votes;
  commits = s.commits;
  undisturbed = s.undisturbed;
}
calm-change opening w e w' (lock u g mode running free first here) quiet k dep s = s
calm-change opening w e w' (raise u g mode running free held here uncovered) quiet k dep s = s
calm-change opening w e w' (refuse u g mode why running q) quiet k dep s = record {
  refused = λ x b. elim (cases_unit x u) [
    | inl z ↦ put-is w.units.phase u Refused x z
    | inr z ↦ put-other w.units.phase u Refused x z ∙ s.refused x (ap is_bad (sym (put-other w.manager.verdict u Aborted x z)) ∙ b)
  ];
  votes = s.votes;
  commits = s.commits;
  undisturbed = more-fine w.manager.settled (entry_for (w.units.origin u) u why) s.undisturbed (entry-fine w u why (refusal-fine opening _ w u g mode why k.0 s running q));
}
calm-change opening w e w' (finish u effect running plain of_call reads alone) quiet k dep s = record {
  refused = calm-phase w u Finished (k.0.undecided u (inr running)) s;
  votes = s.votes;
  commits = s.commits;
  undisturbed = s.undisturbed;
}
calm-change opening w e w' (end_plain u effect running plain of_call bare) quiet k dep s = record {
  refused = calm-phase w u Ended (k.0.undecided u (inr running)) s;
  votes = s.votes;
  commits = s.commits;
  undisturbed = more-fine w.manager.settled (entry_for (w.units.origin u) u (settled.Done effect.result)) s.undisturbed (entry-fine w u (settled.Done effect.result) tt);
}
calm-change opening w e w' (end_snapshot u at outcome running plain kids answer) quiet k dep s = record {
  refused = calm-phase w u Ended (k.0.undecided u (inr running)) s;
  votes = s.votes;
  commits = s.commits;
  undisturbed = more-fine w.manager.settled (entry_for (w.units.origin u) u (settled.Done outcome)) s.undisturbed (entry-fine w u (settled.Done outcome) tt);
}
calm-change opening w e w' (release u g over held) quiet k dep s = s
calm-change opening w e w' (take_batch none some) quiet k dep s = record {
  refused = s.refused;
  votes = λ b v e m. absurd (subst (λ (z : Batch). Member v z.votes) (sym (some_is _ b e)) m);
  commits = λ b ds e f. (let t : None ≡ Some ds = ap (λ (z : Batch). z.decisions) (some_is _ b e) ∙ f in cc);
  undisturbed = s.undisturbed;
}
calm-change opening w e w' (vote n g kept b q number d planned fresh) quiet k dep s = record {
  refused = s.refused;
  votes = λ c v e m. elim (Member-append v b.votes ((g, kept) ∷ []) (subst (λ (z : Batch). Member v z.votes) (sym (some_is _ c e)) m)) [
    | inl h ↦ s.votes b v q h
    | inr h ↦ elim h [ inl z ↦ ap (λ (z : GrainId × Bool). z.1) z ∙ quiet | inr z ↦ absurd z ]
  ];
  commits = λ c ds e f. s.commits b ds q (ap (λ (z : Batch). z.decisions) (some_is _ c e) ∙ f);
  undisturbed = s.undisturbed;
}
calm-change opening w e w' (decide_some n b q number d voted some) quiet k dep s = calm-decided w b (decisions_of w b) (decisions-commit opening _ w b k.0 dep s q) q s
calm-change opening w e w' (decide_none n b q number d voted none) quiet k dep s =
    let all : AllCommit (decisions_of w b) = decisions-commit opening _ w b k.0 dep s q in
    calm-sealed (with_decisions w b (decisions_of w b)) b (decisions_of w b) all (calm-decided w b (decisions_of w b) all q s)
calm-change opening w e w' (seal_batch n b ds q number d) quiet k dep s = calm-sealed w b ds (s.commits b ds q d) s
calm-change opening w e w' (spoil_batch n b ds q number d) quiet k dep s = absurd quiet
calm-change opening w e w' (doubt_batch n b ds q number d) quiet k dep s = absurd quiet
calm-change opening w e w' (learn u g wrote final fresh) quiet k dep s = s
calm-change opening w e w' (emit q) quiet k dep s = s
calm-change opening w e w' (halt_run q) quiet k dep s = s
calm-change opening w e w' (want u g running free fresh) quiet k dep s = s
calm-change opening w e w' (load g u state gone wanted) quiet k dep s = s

swept-calm : (w : CoreState) → IsCalm w → IsCalm (swept w)
swept-calm w s = go w.cells.capacity
  where
    go : (c : Option ℕ) → IsCalm (swept_by w c)
    go None = s
    go (Some m) = s

-- a calm state, with the core's invariant
abbrev KeepsCalm : (GrainId → List Value) → CoreState → Type 0
KeepsCalm opening w = Kept opening w × Depends w × IsCalm w

calm-step : (opening : GrainId → List Value) (w : CoreState) (e : CoreEvent) → applies w e ≡ true → IsQuiet e × IsTrueLoad opening w e → KeepsCalm opening w → KeepsCalm opening (step w e)
calm-step opening w e a fits k = (
  kept-step opening w e fits.1 k.0,
  depends-step opening w e fits.1 k.0 k.1,
  cond_both (applies w e) (swept (does w e)) w IsCalm
      (λ b. swept-calm (does w e) (calm-change opening w e (does w e) (decode w e (and_parts (is_allowed w e) (can w e) b).1) fits.0 k.0 k.1 k.2))
      (λ b. k.2),
)

-- a count that doesn't rise counts nothing
none-rose : (n old new : ℕ) → RoseBy n old new → (new ≡ old) × (old < 2 ^ 64 - 1) → n ≡ 0
none-rose n old new rose none = omega (arith, rose, none.0, none.1)

-- so no event that applies shows a fault
quiet-events : (p : Program) (r : Observed) (c : Course) → IsExplained p r c → NoneRose r.faults_before r.faults_after → AllFit (λ w e. IsQuiet e) (begins (core_run p c)) c.events
quiet-events p r c is none at e there a = quiet e (record { there = there; applied = a }) (is.units at e (record { there = there; applied = a }))
  where
    no_vote : (g : GrainId) → how_many (is_no g) (core_run p c) ≡ 0
    no_vote g = none-rose _ _ _ (is.faults.votes g) (none (File (Grain c.live g)))

    all_sealed : how_many is_unsealed (core_run p c) ≡ 0
    all_sealed = none-rose _ _ _ is.faults.seals (none (File (Manager c.live)))

    quiet : (e : CoreEvent) → AppliesAt (core_run p c) at e → IsDue (basis p r c) (state_before (core_run p c) at) (got_from (begins (core_run p c)) (take at c.events)) e → IsQuiet e
    quiet (Vote number g true) applied due = refl
    quiet (Vote number g false) applied due = absurd (none-applies (is_no g) (core_run p c) (no_vote g) at (Vote number g false) applied (ap (λ b. b && true) (same_grain-is g g refl)))
    quiet (NotSealed number) applied due = none-applies is_unsealed (core_run p c) all_sealed at (NotSealed number) applied refl
    quiet (Doubt number) applied due = none-applies is_unsealed (core_run p c) all_sealed at (Doubt number) applied refl
    quiet _ applied due = tt

-- each load that a list holds is true at its place
true-at : (opening : GrainId → List Value) (events : List CoreEvent) (w : CoreState) → AllLoadsTrue opening w events → (at : ℕ) (e : CoreEvent) → slice_get events at ≡ Some e → IsTrueLoad opening (run w (take at events)) e
true-at opening [] w all at e there = absurd (none_at at e there)
true-at opening (x ∷ events) w all zero e there = subst (IsTrueLoad opening w) (some_is x e there) all.0
true-at opening (x ∷ events) w all (suc at) e there = true-at opening events (step w x) all.1 at e there

pub calm_undisturbed : (p : Program) (r : Observed) (c : Course) → 0 < c.opening.base.next → IsExplained p r c → NoneRose r.faults_before r.faults_after
    → (e : Entry) → Member e (core_end p c).manager.settled → IsUndisturbed e.what
calm_undisturbed p r c based is none =
    let opening : GrainId → List Value = (core_run p c).opening in
    (keeps-run (λ w e. IsQuiet e × IsTrueLoad opening w e) (KeepsCalm opening) (calm-step opening) c.events (begins (core_run p c))
    (λ at e there a. (quiet-events p r c is none at e there a, true-at opening c.events (begins (core_run p c)) is.loads at e there)) (
      kept-start (core_run p c).base (core_run p c).kinds (core_run p c).capacity opening (above_entries c.opening.base c.opening.entries based),
      ((λ u. tt), (λ u d m. absurd m)),
      record {
        refused = λ u b. cc;
        votes = λ b v q m. cc;
        commits = λ b ds q e. cc;
        undisturbed = λ x m. absurd m;
      },
    )).2.undisturbed

pub calm_no_doubt : (p : Program) (r : Observed) (c : Course) → IsExplained p r c → NoneRose r.faults_before r.faults_after → RunHasDoubt (core_run p c) → ⊥
calm_no_doubt p r c is none d = quiet-events p r c is none d.at (Doubt d.number) d.doubt.there d.doubt.applied
