-- What each settled entry says of its unit, whatever was loaded.
use Rattle.std.proofs.Common.{◌≡◌, ℕ, ◌<◌, List, [], ◌∷◌, ◌++◌, true, ◌⊎◌, inl, inr, refl, sym, ap, ◌∙◌, subst, Option, Some, None, le_refl}
use Rattle.base_types.specs.declared.entries.Settled.TheVariants as settled
use Rattle.cell_model.specs.declared.outcomes.Decision.TheVariants as decision
use Rattle.cell_model.proofs.Units.{Member-append}
use Rattle.cell_model.proofs.LockAnswers.{ask-die}
use Rattle.core_model.specs.CoreState.{UnitNo, GrainId, nobody, put, Member, Mode, Write, Outcome, Entry, Settled, Batch, Decision, CoreState}
use Rattle.core_model.specs.declared.phases.Phase.TheVariants.{Finished, Refused, Ended}
use Rattle.core_model.specs.declared.phases.Verdict.{Verdict}
use Rattle.core_model.specs.declared.phases.Verdict.TheVariants.{Chosen, Committed}
use Rattle.core_model.specs.Chains.{WroteGrain}
use Rattle.core_model.specs.Tests.{ask_answer, is_final, is_over, members}
use Rattle.core_model.specs.Changes.{entry_for, told, entries_in, result_told, refusal, after_refusal, after_end, verdict_of, decisions_of, with_decisions, closed, seal, spoil, leave}
use Rattle.core_model.specs.Events.{applies}
use Rattle.core_model.specs.declared.events.CoreEvent.{CoreEvent}
use Rattle.core_model.specs.LegalRuns.{Run, begins, ends}
use Rattle.core_laws.proofs.Puts.{put-same}
use Rattle.core_laws.proofs.EventCases.{Change, bad, begin, lock, raise, refuse, finish, end_plain, end_snapshot, release, take_batch, vote, decide_some, decide_none, seal_batch, spoil_batch, doubt_batch, learn, emit, halt_run, want, load, ask-refused}
use Rattle.core_laws.proofs.Orders.{in_part}
use Rattle.core_laws.proofs.AnyEvents.{run-keeps}
use Rattle.core_laws.proofs.Growth.{Grows, grows-change}
use Rattle.core_laws.proofs.Numbers.{InKinds, in-kinds-change, grown-change}
use Rattle.core_laws.proofs.EntryCauses.{entry-parts}
use Rattle.core_laws.proofs.JudgedUnits.{Judges, BatchJudges, judges-decided, batch-judges-change}
use Rattle.core_laws.proofs.LoadlessKept.{LoadlessKept, loadless-change, loadless-begins}

-- Who is told an outcome ended as a plain run, or is committed, with that result. Every other unit with an entry is over: who is
-- told a lock or a vote is told a grain of the program's types, and an older holder. A bad line has nobody's unit.
abbrev pub Says : CoreState → UnitNo → Settled → Type 0
Says w u (settled.Done result) = ((w.units.phase u ≡ Ended) ⊎ ((w.units.phase u ≡ Finished) × (w.manager.verdict u ≡ Committed))) × (w.manager.result u ≡ result)
Says w u (settled.Lock by g) = (is_over (w.units.phase u) ≡ true) × (by.0 < u.0) × (g.kind < w.units.kinds)
Says w u (settled.Vote g) = (is_over (w.units.phase u) ≡ true) × (g.kind < w.units.kinds)
Says w u (settled.Dependency on) = is_over (w.units.phase u) ≡ true
Says w u settled.Disk = is_over (w.units.phase u) ≡ true
Says w u settled.InDoubt = is_over (w.units.phase u) ≡ true
Says w u (settled.Bad why) = u ≡ nobody

-- each settled entry does
abbrev pub AllSay : CoreState → Type 0
AllSay w = (x : Entry) → Member x w.manager.settled → Says w x.unit x.what

-- what is said stays so
grows-says : (w w' : CoreState) → Grows w w' → w'.units.kinds ≡ w.units.kinds → (u : UnitNo) (what : Settled) → Says w u what → Says w' u what
grows-says w w' g kinds u (settled.Done result) s = elim s.0 [
  | inl f ↦ (let o = g.3 u (ap is_over f) in (inl (o.0 ∙ f), o.1 ∙ s.1))
  | inr f ↦ (let o = g.3 u (ap is_over f.0) in (inr (o.0 ∙ f.0, g.1 u (ap is_final f.1) ∙ f.1), o.1 ∙ s.1))
]
grows-says w w' g kinds u (settled.Lock by h) s = (ap is_over (g.3 u s.0).0 ∙ s.0, s.1, subst (λ n. h.kind < n) (sym kinds) s.2)
grows-says w w' g kinds u (settled.Vote h) s = (ap is_over (g.3 u s.0).0 ∙ s.0, subst (λ n. h.kind < n) (sym kinds) s.1)
grows-says w w' g kinds u (settled.Dependency on) s = ap is_over (g.3 u s).0 ∙ s
grows-says w w' g kinds u settled.Disk s = ap is_over (g.3 u s).0 ∙ s
grows-says w w' g kinds u settled.InDoubt s = ap is_over (g.3 u s).0 ∙ s
grows-says w w' g kinds u (settled.Bad why) s = s

-- an entry of that unit, with those words
says-from : (w : CoreState) (x : Entry) (u : UnitNo) (what : Settled) → x.unit ≡ u → x.what ≡ what → Says w u what → Says w x.unit x.what
says-from w x u what p q s = subst (λ z. Says w z x.what) (sym p) (subst (Says w u) (sym q) s)

-- a refusal's
refused-says : (w : CoreState) (u : UnitNo) (g : GrainId) (mode : Mode) (why : Settled) → InKinds w → refusal g (ask_answer w u g mode) ≡ Some why → Says (after_refusal w u why) u why
refused-says w u g mode why kinds q = elim (ask-refused w u g mode why q).1 [
  | inl d ↦ subst (Says (after_refusal w u why) u) (sym d.2) over
  | inr d ↦
      (let t = ask-die (w.cells.holds g) u mode d.0 d.2 in
      subst (Says (after_refusal w u why) u) (sym d.3) (over, t.2, kinds.0 g t.1.rival.0 t.1.rival.1))
]
  where
    over : is_over (put w.units.phase u Refused u) ≡ true
    over = ap is_over (put-same w.units.phase u Refused)

-- that of the end of a plain run
ended-says : (w : CoreState) (u : UnitNo) (answers : List Outcome) (result : Outcome) (at : Option ℕ) → Says (after_end w u answers result at) u (settled.Done result)
ended-says w u answers result at = (inl (put-same w.units.phase u Ended), put-same w.manager.result u result)

-- an entry of a batch is one of its units', with what its decision tells
entries-judged : (w : CoreState) (answer : UnitNo → Settled) (writes : UnitNo → List Write) (verdict : UnitNo → Verdict) (us : List UnitNo) (ds : List Decision) (x : Entry) → Judges writes verdict us ds → Member x (entries_in w answer us ds) →
    (u : UnitNo) × ((d : Decision) × Member u us × (verdict u ≡ verdict_of d) × ((g : GrainId) → d ≡ decision.Vote g → WroteGrain writes u g) × (x.unit ≡ u) × (x.what ≡ told (answer u) d))
entries-judged w answer writes verdict [] [] x j m = absurd m
entries-judged w answer writes verdict [] (d ∷ ds) x j m = absurd m
entries-judged w answer writes verdict (u ∷ us) [] x j m = absurd m
entries-judged w answer writes verdict (u ∷ us) (d ∷ ds) x j m =
    elim (Member-append x (entry_for (w.units.origin u) u (told (answer u) d)) (entries_in w answer us ds) m) [
      | inl h ↦ (let t = entry-parts w u (told (answer u) d) x h in (u, (d, inl refl, j.0, j.1, t.0, t.1)))
      | inr h ↦ (let t = entries-judged w answer writes verdict us ds x j.2 h in (t.0, (t.1.0, inr t.1.1, t.1.2, t.1.3, t.1.4, t.1.5)))
    ]

-- those of a batch that is closed
closed-says : (v : CoreState) (f : Verdict → Verdict) (answer : UnitNo → Settled) (b : Batch) (ds : List Decision) → ((u : UnitNo) → Member u (members v b) → v.units.phase u ≡ Finished) → InKinds v → Judges v.manager.writes v.manager.verdict (members v b) ds →
    ((u : UnitNo) → v.units.phase u ≡ Finished → v.manager.verdict u ≡ Chosen → Says (closed v f answer b ds) u (answer u)) →
    (x : Entry) → Member x (entries_in v answer (members v b) ds) → Says (closed v f answer b ds) x.unit x.what
closed-says v f answer b ds over kinds judged commits x m = go t.1.0 refl
  where
    t : (u : UnitNo) × ((d : Decision) × Member u (members v b) × (v.manager.verdict u ≡ verdict_of d) × ((g : GrainId) → d ≡ decision.Vote g → WroteGrain v.manager.writes u g) × (x.unit ≡ u) × (x.what ≡ told (answer u) d))
    t = entries-judged v answer v.manager.writes v.manager.verdict (members v b) ds x judged m

    done : v.units.phase t.0 ≡ Finished
    done = over t.0 t.1.1

    go : (d : Decision) → t.1.0 ≡ d → Says (closed v f answer b ds) x.unit x.what
    go decision.Commit p =
        says-from (closed v f answer b ds) x t.0 (answer t.0) t.1.4 (t.1.5 ∙ ap (told (answer t.0)) p) (commits t.0 done (t.1.2 ∙ ap verdict_of p))
    go (decision.Vote g) p =
        says-from (closed v f answer b ds) x t.0 (settled.Vote g) t.1.4 (t.1.5 ∙ ap (told (answer t.0)) p) (ap is_over done, kinds.1 t.0 g (t.1.3 g p))
    go (decision.Dependency on) p =
        says-from (closed v f answer b ds) x t.0 (settled.Dependency on) t.1.4 (t.1.5 ∙ ap (told (answer t.0)) p) (ap is_over done)

-- a unit to commit is committed where its batch is on disk
sealed-says : (v : CoreState) (b : Batch) (ds : List Decision) (u : UnitNo) → v.units.phase u ≡ Finished → v.manager.verdict u ≡ Chosen → Says (closed v seal (result_told v) b ds) u (result_told v u)
sealed-says v b ds u done chosen = (inr (done, ap seal chosen), refl)

-- what holds along with it
abbrev pub SaysAll : CoreState → Type 0
SaysAll w = LoadlessKept w × InKinds w × BatchJudges w × AllSay w

-- an entry that is new, or was settled before
new-or-old : (w w' : CoreState) (new : List Entry) → Grows w w' → w'.units.kinds ≡ w.units.kinds → AllSay w → ((x : Entry) → Member x new → Says w' x.unit x.what) →
    (x : Entry) → Member x (w.manager.settled ++ new) → Says w' x.unit x.what
new-or-old w w' new g kinds s fresh x m = elim (Member-append x w.manager.settled new m) [
  | inl h ↦ grows-says w w' g kinds x.unit x.what (s x h)
  | inr h ↦ fresh x h
]

-- the types stay
kinds-stay : (w : CoreState) (e : CoreEvent) (w' : CoreState) → Change w e w' → applies w e ≡ true → w'.units.kinds ≡ w.units.kinds
kinds-stay w e w' c a = (grown-change w.units.next w.units.kinds w e w' c a (le_refl w.units.next, refl)).1

-- members of the open batch have finished
batch-over : (w : CoreState) (b : Batch) → LoadlessKept w → (u : UnitNo) → Member u (members w b) → w.units.phase u ≡ Finished
batch-over w b k u m = (in_part _ w k.0 w.manager.closed b.size u m).0

-- every event keeps it
says-change : (w : CoreState) (e : CoreEvent) (w' : CoreState) → Change w e w' → applies w e ≡ true → Grows w w' → w'.units.kinds ≡ w.units.kinds → SaysAll w → AllSay w'
says-change w e w' (bad line why q) a g n s =
    new-or-old w w' (record { line = line; unit = nobody; what = settled.Bad why } ∷ []) g n s.3
    (λ x m. elim m [
      | inl z ↦ says-from w' x nobody (settled.Bad why) (ap (λ (y : Entry). y.unit) z) (ap (λ (y : Entry). y.what) z) refl
      | inr z ↦ absurd z
    ])
says-change w e w' (begin origin call plain c) a g n s = λ x m. grows-says w w' g n x.unit x.what (s.3 x m)
says-change w e w' (lock u h mode running free first here) a g n s = λ x m. grows-says w w' g n x.unit x.what (s.3 x m)
says-change w e w' (raise u h mode running free held here uncovered) a g n s = λ x m. grows-says w w' g n x.unit x.what (s.3 x m)
says-change w e w' (refuse u h mode why running q) a g n s =
    new-or-old w w' (entry_for (w.units.origin u) u why) g n s.3
    (λ x m. (let t = entry-parts w u why x m in says-from w' x u why t.0 t.1 (refused-says w u h mode why s.1 q)))
says-change w e w' (finish u effect running plain of_call reads alone) a g n s = λ x m. grows-says w w' g n x.unit x.what (s.3 x m)
says-change w e w' (end_plain u effect running plain of_call bare) a g n s =
    new-or-old w w' (entry_for (w.units.origin u) u (settled.Done effect.result)) g n s.3
    (λ x m. (let t = entry-parts w u (settled.Done effect.result) x m in says-from w' x u (settled.Done effect.result) t.0 t.1 (ended-says w u effect.answers effect.result None)))
says-change w e w' (end_snapshot u at outcome running plain kids answer) a g n s =
    new-or-old w w' (entry_for (w.units.origin u) u (settled.Done outcome)) g n s.3
    (λ x m. (let t = entry-parts w u (settled.Done outcome) x m in says-from w' x u (settled.Done outcome) t.0 t.1 (ended-says w u [] outcome (Some at))))
says-change w e w' (release u h over held) a g n s = λ x m. grows-says w w' g n x.unit x.what (s.3 x m)
says-change w e w' (take_batch none some) a g n s = λ x m. grows-says w w' g n x.unit x.what (s.3 x m)
says-change w e w' (vote i h kept b q number d planned fresh) a g n s = λ x m. grows-says w w' g n x.unit x.what (s.3 x m)
says-change w e w' (decide_some i b q number d voted some) a g n s = λ x m. grows-says w w' g n x.unit x.what (s.3 x m)
says-change w e w' (decide_none i b q number d voted none) a g n s =
    let v : CoreState = with_decisions w b (decisions_of w b) in
    new-or-old w w' (entries_in v (result_told v) (members w b) (decisions_of w b)) g n s.3
    (closed-says v seal (result_told v) b (decisions_of w b) (batch-over w b s.0) s.1 (judges-decided w b s.0 q d) (sealed-says v b (decisions_of w b)))
says-change w e w' (seal_batch i b ds q number d) a g n s =
    new-or-old w w' (entries_in w (result_told w) (members w b) ds) g n s.3
    (closed-says w seal (result_told w) b ds (batch-over w b s.0) s.1 (s.2 b ds q d) (sealed-says w b ds))
says-change w e w' (spoil_batch i b ds q number d) a g n s =
    new-or-old w w' (entries_in w (λ u. settled.Disk) (members w b) ds) g n s.3
    (closed-says w spoil (λ u. settled.Disk) b ds (batch-over w b s.0) s.1 (s.2 b ds q d) (λ u done chosen. ap is_over done))
says-change w e w' (doubt_batch i b ds q number d) a g n s =
    new-or-old w w' (entries_in w (λ u. settled.InDoubt) (members w b) ds) g n s.3
    (closed-says w leave (λ u. settled.InDoubt) b ds (batch-over w b s.0) s.1 (s.2 b ds q d) (λ u done chosen. ap is_over done))
says-change w e w' (learn u h wrote final fresh) a g n s = λ x m. grows-says w w' g n x.unit x.what (s.3 x m)
says-change w e w' (emit q) a g n s = λ x m. grows-says w w' g n x.unit x.what (s.3 x m)
says-change w e w' (halt_run q) a g n s = λ x m. grows-says w w' g n x.unit x.what (s.3 x m)
says-change w e w' (want u h running free fresh) a g n s = λ x m. grows-says w w' g n x.unit x.what (s.3 x m)
says-change w e w' (load h u state gone wanted) a g n s = λ x m. grows-says w w' g n x.unit x.what (s.3 x m)

all-change : (w : CoreState) (e : CoreEvent) (w' : CoreState) → Change w e w' → applies w e ≡ true → SaysAll w → SaysAll w'
all-change w e w' c a s = (
  loadless-change w e w' c a s.0,
  in-kinds-change w e w' c a s.1,
  batch-judges-change w e w' c a s.0 s.2,
  says-change w e w' c a (grows-change w e w' c a s.0) (kinds-stay w e w' c a) s,
)

-- so it holds after every list of events
pub says-ends : (r : Run) → 0 < r.base → AllSay (ends r)
says-ends r above =
    (run-keeps SaysAll all-change (λ w here s. s) r.events (begins r)
    (loadless-begins r above, ((λ g h m. absurd m), (λ u g wrote. (let z = wrote.1 in cc))), (λ b ds q. cc), λ x m. absurd m)).3
