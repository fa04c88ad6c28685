-- What each settled entry tells of its unit, or of its line.
use Rattle.std.proofs.Common.{◌≡◌, ℕ, List, [], ◌∷◌, ◌++◌, Bool, true, ◌⊎◌, inl, inr, refl, sym, ap, ◌∙◌, subst, Option, Some, None}
use Rattle.std.proofs.lemmas.Bool.{and_parts, cond_both}
use Rattle.base_types.specs.declared.calls.Origin.TheVariants.{Line}
use Rattle.base_types.specs.declared.entries.Entry.{Entry}
use Rattle.base_types.specs.declared.entries.Settled.{Settled}
use Rattle.base_types.specs.declared.entries.Settled.TheVariants as settled
use Rattle.cell_model.specs.declared.outcomes.Decision.TheVariants as decision
use Rattle.cell_model.proofs.Units.{Member-append}
use Rattle.core_model.specs.declared.effects.Effect.{Effect}
use Rattle.core_model.specs.declared.events.CoreEvent.{CoreEvent}
use Rattle.core_model.specs.declared.phases.Phase.TheVariants.{Finished, Ended}
use Rattle.core_model.specs.declared.phases.Verdict.{Verdict}
use Rattle.core_model.specs.declared.phases.Verdict.TheVariants.{Chosen, Condemned, Committed, Aborted}
use Rattle.core_model.specs.CoreState.{UnitNo, GrainId, nobody, Member, Mode, Value, Outcome, Batch, Decision, CoreState}
use Rattle.core_model.specs.Tests.{is_over, is_final, ask_answer, members}
use Rattle.core_model.specs.Changes.{entry_for, told, entries_in, result_told, refusal, after_refusal, after_end, verdict_of, decisions_of, with_decisions, closed, seal, spoil, leave, swept, swept_by}
use Rattle.core_model.specs.Events.{applies, can, does, step, run, is_allowed}
use Rattle.core_model.specs.SerialOrder.{AllLoadsTrue}
use Rattle.core_model.specs.LegalRuns.{Run, IsLegal, begins, ends}
use Rattle.core_laws.proofs.Puts.{put-is}
use Rattle.core_laws.proofs.Invariant.{Inv, loadless-of}
use Rattle.core_laws.proofs.EventCases.{Change, bad, begin, lock, raise, refuse, finish, end_plain, end_snapshot, release, take_batch, vote, decide_some, decide_none, seal_batch, spoil_batch, doubt_batch, learn, emit, halt_run, want, load, decode, ask-refused}
use Rattle.core_laws.proofs.KeptInvariant.{Kept, kept-step, inv-judged, inv-decided}
use Rattle.core_laws.proofs.Growth.{Grows, grows-change}
use Rattle.core_laws.proofs.Dependencies.{Depends, depends-step}
use Rattle.core_laws.proofs.Reasons.{Reason, Reasons, Argued, argued-decided, argued-step}
use Rattle.core_laws.proofs.EntryCauses.{entry-parts, entries-parts}
use Rattle.core_laws.proofs.Ends.{kept-begins}
use Rattle.script_tree.specs.Programs.{ProgramTree}
use Rattle.promise_spec.specs.Lines.{IsBadLine}
use Rattle.promise_laws.proofs.UnitsByRule.{Says, AllSaid}
use Rattle.core_laws.proofs.LoadlessKept.{loadless-kept}
use Rattle.core_laws.proofs.Orders.{member-place}

-- Who is told an outcome ended as a plain run, or is committed, with that result; who is told an abort is aborted; who is in
-- doubt has finished; and a bad line reads so.
abbrev pub Tells : ProgramTree → List (List ℕ) → CoreState → Entry → Settled → Type 0
Tells types lines w x (settled.Done outcome) =
    ((w.units.phase x.unit ≡ Ended) ⊎ ((w.units.phase x.unit ≡ Finished) × (w.manager.verdict x.unit ≡ Committed))) × (w.manager.result x.unit ≡ outcome)
Tells types lines w x (settled.Lock by grain) = w.manager.verdict x.unit ≡ Aborted
Tells types lines w x (settled.Vote grain) = w.manager.verdict x.unit ≡ Aborted
Tells types lines w x (settled.Dependency on) = w.manager.verdict x.unit ≡ Aborted
Tells types lines w x settled.Disk = w.manager.verdict x.unit ≡ Aborted
Tells types lines w x settled.InDoubt = w.units.phase x.unit ≡ Finished
Tells types lines w x (settled.Bad why) = IsBadLine types lines x.line why

-- each settled entry does
abbrev pub Telling : ProgramTree → List (List ℕ) → CoreState → Type 0
Telling types lines w = (x : Entry) → Member x w.manager.settled → Tells types lines w x x.what

-- what is told stays true
grows-tells : (types : ProgramTree) (lines : List (List ℕ)) (w w' : CoreState) → Grows w w' → (x : Entry) (what : Settled) → Tells types lines w x what → Tells types lines w' x what
grows-tells types lines w w' g x (settled.Done outcome) t = elim t.0 [
  | inl f ↦ (let o = g.3 x.unit (ap is_over f) in (inl (o.0 ∙ f), o.1 ∙ t.1))
  | inr f ↦ (let o = g.3 x.unit (ap is_over f.0) in (inr (o.0 ∙ f.0, g.1 x.unit (ap is_final f.1) ∙ f.1), o.1 ∙ t.1))
]
grows-tells types lines w w' g x (settled.Lock by grain) t = g.1 x.unit (ap is_final t) ∙ t
grows-tells types lines w w' g x (settled.Vote grain) t = g.1 x.unit (ap is_final t) ∙ t
grows-tells types lines w w' g x (settled.Dependency on) t = g.1 x.unit (ap is_final t) ∙ t
grows-tells types lines w w' g x settled.Disk t = g.1 x.unit (ap is_final t) ∙ t
grows-tells types lines w w' g x settled.InDoubt t = (g.3 x.unit (ap is_over t)).0 ∙ t
grows-tells types lines w w' g x (settled.Bad why) t = t

telling-same : (types : ProgramTree) (lines : List (List ℕ)) (w w' : CoreState) → Grows w w' → w'.manager.settled ≡ w.manager.settled → Telling types lines w → Telling types lines w'
telling-same types lines w w' g same s x m = grows-tells types lines w w' g x x.what (s x (subst (Member x) same m))

telling-more : (types : ProgramTree) (lines : List (List ℕ)) (w w' : CoreState) (new : List Entry) → Grows w w' → w'.manager.settled ≡ w.manager.settled ++ new → ((x : Entry) → Member x new → Tells types lines w' x x.what)
    → Telling types lines w → Telling types lines w'
telling-more types lines w w' new g same tells s x m = elim (Member-append x w.manager.settled new (subst (Member x) same m)) [
  | inl h ↦ grows-tells types lines w w' g x x.what (s x h)
  | inr h ↦ tells x h
]

tells-from : (types : ProgramTree) (lines : List (List ℕ)) (w : CoreState) (x : Entry) (what : Settled) → x.what ≡ what → Tells types lines w x what → Tells types lines w x x.what
tells-from types lines w x what q t = subst (Tells types lines w x) (sym q) t

-- who is refused is told an abort
refused-tells : (types : ProgramTree) (lines : List (List ℕ)) (w : CoreState) (u : UnitNo) (g : GrainId) (mode : Mode) (why : Settled) → refusal g (ask_answer w u g mode) ≡ Some why
    → (x : Entry) → Member x (entry_for (w.units.origin u) u why) → Tells types lines (after_refusal w u why) x x.what
refused-tells types lines w u g mode why q x m =
    let t = entry-parts w u why x m in
    let dead = put-is w.manager.verdict u Aborted x.unit t.0 in
    tells-from types lines (after_refusal w u why) x why t.1 (elim (ask-refused w u g mode why q).1 [
      | inl d ↦ subst (Tells types lines (after_refusal w u why) x) (sym d.2) dead
      | inr d ↦ subst (Tells types lines (after_refusal w u why) x) (sym d.3) dead
    ])

-- who ends as a plain run is told its result
ended-tells : (types : ProgramTree) (lines : List (List ℕ)) (w : CoreState) (u : UnitNo) (answers : List Outcome) (result : Outcome) (at : Option ℕ)
    → (x : Entry) → Member x (entry_for (w.units.origin u) u (settled.Done result)) → Tells types lines (after_end w u answers result at) x x.what
ended-tells types lines w u answers result at x m =
    let t = entry-parts w u (settled.Done result) x m in
    tells-from types lines (after_end w u answers result at) x (settled.Done result) t.1
    (inl (put-is w.units.phase u Ended x.unit t.0), put-is w.manager.result u result x.unit t.0)

-- the entries of a batch that closes
batch-tells : (types : ProgramTree) (lines : List (List ℕ)) (opening : GrainId → List Value) (n : ℕ) (v : CoreState) (f : Verdict → Verdict) (answer : UnitNo → Settled) (b : Batch) (ds : List Decision)
    → Inv opening n v → Reasons b.votes v.manager.writes v.units.deps v.manager.verdict (members v b) ds → f Condemned ≡ Aborted
    → ((x : Entry) (u : UnitNo) → x.unit ≡ u → v.units.phase u ≡ Finished → v.manager.verdict u ≡ Chosen → Tells types lines (closed v f answer b ds) x (answer u))
    → (x : Entry) → Member x (entries_in v answer (members v b) ds) → Tells types lines (closed v f answer b ds) x x.what
batch-tells types lines opening n v f answer b ds i reasons dooms commits x m = go t.1.0 refl
  where
    t : (u : UnitNo) × ((d : Decision) × Member u (members v b) × (v.manager.verdict u ≡ verdict_of d) × Reason b.votes (v.manager.writes u) (v.units.deps u) v.manager.verdict d × (x.unit ≡ u) × (x.what ≡ told (answer u) d) × (v.units.origin u ≡ Line x.line))
    t = entries-parts v answer b.votes v.manager.verdict (members v b) ds x reasons m

    doomed : (d : Decision) → t.1.0 ≡ d → verdict_of d ≡ Condemned → f (v.manager.verdict x.unit) ≡ Aborted
    doomed d p q = ap f (ap v.manager.verdict t.1.4 ∙ t.1.2 ∙ ap verdict_of p ∙ q) ∙ dooms

    go : (d : Decision) → t.1.0 ≡ d → Tells types lines (closed v f answer b ds) x x.what
    go decision.Commit p =
        tells-from types lines (closed v f answer b ds) x (answer t.0) (t.1.5 ∙ ap (told (answer t.0)) p)
        (commits x t.0 t.1.4 (member-place n v b (loadless-of opening n v i) t.0 t.1.1).0 (t.1.2 ∙ ap verdict_of p))
    go (decision.Vote g) p = tells-from types lines (closed v f answer b ds) x (settled.Vote g) (t.1.5 ∙ ap (told (answer t.0)) p) (doomed (decision.Vote g) p refl)
    go (decision.Dependency on) p = tells-from types lines (closed v f answer b ds) x (settled.Dependency on) (t.1.5 ∙ ap (told (answer t.0)) p) (doomed (decision.Dependency on) p refl)

-- who is committed now is told its result
sealed-tells : (types : ProgramTree) (lines : List (List ℕ)) (v : CoreState) (b : Batch) (ds : List Decision) (x : Entry) (u : UnitNo) → x.unit ≡ u → v.units.phase u ≡ Finished → v.manager.verdict u ≡ Chosen
    → Tells types lines (closed v seal (result_told v) b ds) x (result_told v u)
sealed-tells types lines v b ds x u q f c = (inr (ap v.units.phase q ∙ f, ap seal (ap v.manager.verdict q ∙ c)), ap v.manager.result q)

telling-change : (types : ProgramTree) (lines : List (List ℕ)) (opening : GrainId → List Value) (w : CoreState) (e : CoreEvent) (w' : CoreState) → Change w e w' → applies w e ≡ true → Says types lines e → Kept opening w → Depends w → Argued w → Grows w w'
    → Telling types lines w → Telling types lines w'
telling-change types lines opening w e w' (bad line why q) a d k dep arg g s =
    telling-more types lines w w' (record { line = line; unit = nobody; what = settled.Bad why } ∷ []) g refl
    (λ x m. elim m [
      | inl z ↦ (let line_is : x.line ≡ line = ap (λ (y : Entry). y.line) z in
          tells-from types lines w' x (settled.Bad why) (ap (λ (y : Entry). y.what) z) (subst (λ j. IsBadLine types lines j why) (sym line_is) d))
      | inr z ↦ absurd z
    ])
    s
telling-change types lines opening w e w' (begin origin call plain c) a d k dep arg g s = telling-same types lines w w' g refl s
telling-change types lines opening w e w' (lock u grain mode running free first here) a d k dep arg g s = telling-same types lines w w' g refl s
telling-change types lines opening w e w' (raise u grain mode running free held here uncovered) a d k dep arg g s = telling-same types lines w w' g refl s
telling-change types lines opening w e w' (refuse u grain mode why running q) a d k dep arg g s =
    telling-more types lines w w' (entry_for (w.units.origin u) u why) g refl (refused-tells types lines w u grain mode why q) s
telling-change types lines opening w e w' (finish u effect running plain of_call reads alone) a d k dep arg g s = telling-same types lines w w' g refl s
telling-change types lines opening w e w' (end_plain u effect running plain of_call bare) a d k dep arg g s =
    telling-more types lines w w' (entry_for (w.units.origin u) u (settled.Done effect.result)) g refl (ended-tells types lines w u effect.answers effect.result None) s
telling-change types lines opening w e w' (end_snapshot u at outcome running plain kids answer) a d k dep arg g s =
    telling-more types lines w w' (entry_for (w.units.origin u) u (settled.Done outcome)) g refl (ended-tells types lines w u [] outcome (Some at)) s
telling-change types lines opening w e w' (release u grain over held) a d k dep arg g s = telling-same types lines w w' g refl s
telling-change types lines opening w e w' (take_batch none some) a d k dep arg g s = telling-same types lines w w' g refl s
telling-change types lines opening w e w' (vote n grain kept b q number un planned fresh) a d k dep arg g s = telling-same types lines w w' g refl s
telling-change types lines opening w e w' (decide_some n b q number un voted some) a d k dep arg g s = telling-same types lines w w' g refl s
telling-change types lines opening w e w' (decide_none n b q number un voted none) a d k dep arg g s =
    let v : CoreState = with_decisions w b (decisions_of w b) in
    telling-more types lines w w' (entries_in v (result_told v) (members v b) (decisions_of w b)) g refl
    (batch-tells types lines opening _ v seal (result_told v) b (decisions_of w b) (inv-decided opening w b k q un) (argued-decided opening w b k dep q un) refl (sealed-tells types lines v b (decisions_of w b)))
    s
telling-change types lines opening w e w' (seal_batch n b ds q number un) a d k dep arg g s =
    telling-more types lines w w' (entries_in w (result_told w) (members w b) ds) g refl
    (batch-tells types lines opening _ w seal (result_told w) b ds (inv-judged opening w b ds k q un) (arg b ds q un) refl (sealed-tells types lines w b ds))
    s
telling-change types lines opening w e w' (spoil_batch n b ds q number un) a d k dep arg g s =
    telling-more types lines w w' (entries_in w (λ u. settled.Disk) (members w b) ds) g refl
    (batch-tells types lines opening _ w spoil (λ u. settled.Disk) b ds (inv-judged opening w b ds k q un) (arg b ds q un) refl (λ x u same f c. ap spoil (ap w.manager.verdict same ∙ c)))
    s
telling-change types lines opening w e w' (doubt_batch n b ds q number un) a d k dep arg g s =
    telling-more types lines w w' (entries_in w (λ u. settled.InDoubt) (members w b) ds) g refl
    (batch-tells types lines opening _ w leave (λ u. settled.InDoubt) b ds (inv-judged opening w b ds k q un) (arg b ds q un) refl (λ x u same f c. ap w.units.phase same ∙ f))
    s
telling-change types lines opening w e w' (learn u grain wrote final fresh) a d k dep arg g s = telling-same types lines w w' g refl s
telling-change types lines opening w e w' (emit q) a d k dep arg g s = telling-same types lines w w' g refl s
telling-change types lines opening w e w' (halt_run q) a d k dep arg g s = telling-same types lines w w' g refl s
telling-change types lines opening w e w' (want u grain running free fresh) a d k dep arg g s = telling-same types lines w w' g refl s
telling-change types lines opening w e w' (load grain u state gone wanted) a d k dep arg g s = telling-same types lines w w' g refl s

telling-step : (types : ProgramTree) (lines : List (List ℕ)) (opening : GrainId → List Value) (w : CoreState) (e : CoreEvent) → Says types lines e → Kept opening w → Depends w → Argued w
    → Telling types lines w → Telling types lines (step w e)
telling-step types lines opening w e d k dep arg s = cond_both (applies w e) (swept (does w e)) w (Telling types lines)
    (λ a. (let c : Change w e (does w e) = decode w e (and_parts (is_allowed w e) (can w e) a).1 in
    swept-telling (does w e) (telling-change types lines opening w e (does w e) c a d k dep arg (grows-change w e (does w e) c a (loadless-kept opening w k)) s)))
    (λ a. s)
  where
    swept-telling : (w : CoreState) → Telling types lines w → Telling types lines (swept w)
    swept-telling w s = go w.cells.capacity
      where
        go : (c : Option ℕ) → Telling types lines (swept_by w c)
        go None = s
        go (Some m) = s

telling-run : (types : ProgramTree) (lines : List (List ℕ)) (opening : GrainId → List Value) (es : List CoreEvent) (w : CoreState) → AllLoadsTrue opening w es → AllSaid types lines es → Kept opening w → Depends w → Argued w
    → Telling types lines w → Telling types lines (run w es)
telling-run types lines opening [] w l said k dep arg s = s
telling-run types lines opening (e ∷ es) w l said k dep arg s =
    telling-run types lines opening es (step w e) l.1 said.1 (kept-step opening w e l.0 k) (depends-step opening w e l.0 k dep) (argued-step opening w e k dep arg) (telling-step types lines opening w e said.0 k dep arg s)

pub telling-ends : (plays : Effect → Bool) (types : ProgramTree) (lines : List (List ℕ)) (r : Run) → IsLegal plays r → AllSaid types lines r.events → Telling types lines (ends r)
telling-ends plays types lines r l said =
    telling-run types lines r.opening r.events (begins r) l.loads said (kept-begins plays r l) ((λ u. tt), (λ u d n. absurd n)) (λ b ds q. absurd cc) (λ x m. absurd m)
