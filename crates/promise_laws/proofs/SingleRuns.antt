-- Where one line at a time is in flight, and no unit asks for another, nothing meets a lock.
use Rattle.std.proofs.Common.{◌≡◌, ◌+◌, ◌-◌, ◌<◌, ◌≤◌, ℕ, zero, suc, List, [], ◌∷◌, ◌++◌, true, false, ◌&&◌, ◌||◌, not, Option, Some, None, inl, inr, refl, sym, ap, ◌∙◌, subst, arith, nat_lt, is_none}
use Rattle.std.specs.Prelude.{⊤, get_or, take}
use Rattle.std.proofs.lemmas.Bool.{and_parts, or_parts, cond_both, cases_Bool, not-true, not-false, ltb-true, cases_lt}
use Rattle.base_types.specs.declared.calls.Origin.{Origin}
use Rattle.base_types.specs.declared.calls.Origin.TheVariants.{Line, Child}
use Rattle.base_types.specs.declared.entries.Entry.{Entry}
use Rattle.base_types.specs.declared.entries.Settled.TheVariants as settled
use Rattle.cell_model.specs.declared.outcomes.Decision.TheVariants as decision
use Rattle.cell_model.specs.Locks.{is_hold_of, holds_lock, dropped}
use Rattle.cell_model.specs.Locks as locks
use Rattle.cell_model.proofs.LockAnswers.{ask-die, granted-member, dropped-member}
use Rattle.cell_model.proofs.Units.{same_unit-true, same_unit-false, same_unit-is, Member-append, any-true, any-member, all-true}
use Rattle.core_model.specs.declared.phases.Phase.{Phase}
use Rattle.core_model.specs.declared.phases.Phase.TheVariants.{Unborn, Running, Finished, Refused, Ended}
use Rattle.core_model.specs.declared.effects.Read.{Read}
use Rattle.core_model.specs.CoreState.{UnitNo, GrainId, nobody, same_unit, put, put_grain, Member, Settled, Hold, Mode, Decision, CoreState}
use Rattle.core_model.specs.Tests.{ask_answer, is_free, members}
use Rattle.core_model.specs.Changes.{entry_for, entries_in, told, result_told, decisions_of, refusal, with_decisions, new_unit, swept, swept_by}
use Rattle.core_model.specs.declared.events.CoreEvent.{CoreEvent}
use Rattle.core_model.specs.declared.events.CoreEvent.TheVariants.{Begin}
use Rattle.core_model.specs.Events.{applies, can, does, step, is_allowed}
use Rattle.core_model.specs.LegalRuns.{Run, begins}
use Rattle.core_laws.proofs.Puts.{put-at, put-from, grain-from}
use Rattle.core_laws.proofs.EventCases.{Change, bad, begin, lock, raise, refuse, finish, end_plain, end_snapshot, release, take_batch, vote, decide_some, decide_none, seal_batch, spoil_batch, doubt_batch, learn, emit, halt_run, want, load, decode, ask-refused}
use Rattle.core_laws.proofs.EntryCauses.{entry-parts}
use Rattle.core_laws.proofs.LineEntries.{Once, once-change}
use Rattle.promise_spec.specs.Programs.{Program}
use Rattle.promise_spec.specs.Cores.{AppliesAt, applied_from, state_before}
use Rattle.promise_spec.specs.UnitAnswers.{got_from}
use Rattle.promise_spec.specs.UnitRule.{IsDue}
use Rattle.promise_spec.specs.TurnRule.{and_wish, grain_due, is_line, is_settled, in_flight, line_can_begin, lock_asked, movers, next_wish, passed, picks_used, units_from, units_of}
use Rattle.promise_spec.proofs.PickedMovers.{line-begins, movers-take}
use Rattle.promise_spec.specs.Courses.{Observed, Course, basis, core_run, core_end}
use Rattle.promise_spec.specs.Explanation.{IsExplained}
use Rattle.promise_spec.specs.Promise.{HasNoChild, IsNoLock}
use Rattle.promise_laws.proofs.SerialRecords.{above_entries}
use Rattle.promise_laws.proofs.AppliedEvents.{AllFit, keeps-run, counts}
use Rattle.core_laws.proofs.LoadlessKept.{LoadlessKept, loadless-begins, loadless-step}
use Rattle.core_laws.proofs.Loadless.{LoadlessAt}
use Rattle.core_model.specs.LoadlessLaws.{EachIsDecided}
use Rattle.core_laws.proofs.EachDecided.{each-step}

-- a line begins only where none is in flight, and no child begins
abbrev IsSingle : Run → CoreState → CoreEvent → Type 0
IsSingle r w (Begin (Line n) call plain) = in_flight r w ≡ 0
IsSingle r w (Begin (Child parent index depth) call plain) = ⊥
IsSingle r w _ = ⊤

-- Each unit that has begun is a line's, and has a number of the run. Who runs, or has a lock, has the last one. No
-- entry tells of a lock.
record Alone (base next : ℕ) (phase : UnitNo → Phase) (origin : UnitNo → Origin) (holds : GrainId → List Hold) (settled : List Entry) : Type 0 where
  above : base ≤ next
  begun : (u : UnitNo) → (phase u ≡ Unborn → ⊥) → (base ≤ u.0) × (is_line (origin u) ≡ true)
  running : (u : UnitNo) → phase u ≡ Running → u.0 + 1 ≡ next
  holder : (g : GrainId) (h : Hold) → Member h (holds g) → h.unit.0 + 1 ≡ next
  unlocked : (x : Entry) → Member x settled → IsNoLock x.what

-- that of a state
abbrev IsAlone : ℕ → CoreState → Type 0
IsAlone base w = Alone base w.units.next w.units.phase w.units.origin w.cells.holds w.manager.settled

-- ---- what in-flight says

among_units : (n base : ℕ) (u : UnitNo) → base ≤ u.0 → u.0 < base + n → Member u (units_from n base)
among_units zero base u low high = absurd (omega (arith, low, high))
among_units (suc n) base u low high = elim (cases_Bool (same_unit u (record { 0 = base }))) [
  | inl e ↦ inl (same_unit-true u (record { 0 = base }) e)
  | inr e ↦ (let apart : u.0 ≡ base → ⊥ = λ q. same_unit-false u (record { 0 = base }) e (λ i. record { 0 = q i }) in
      inr (among_units n (base + 1) u (omega (arith, low, apart)) (omega (arith, high))))
]

-- where no line is in flight, each unit that has begun is settled and free
at_rest : (r : Run) (n : ℕ) (w : CoreState) → LoadlessAt n w → IsAlone r.base w → in_flight r w ≡ 0 → (u : UnitNo) → (w.units.phase u ≡ Unborn → ⊥) → (is_settled w u ≡ true) × (is_free w u ≡ true)
at_rest r n w i s none u born = elim (cases_Bool (is_line (w.units.origin u) && (not (is_settled w u) || not (is_free w u)))) [
  | inl e ↦ absurd (counts (λ v. is_line (w.units.origin v) && (not (is_settled w v) || not (is_free w v))) (units_of r w) u there e none)
  | inr e ↦ (let t = or_parts (not (is_settled w u)) (not (is_free w u)) (sym (ap (λ b. b && (not (is_settled w u) || not (is_free w u))) known.1) ∙ e) in
      (not-false _ t.0, not-false _ t.1))
]
  where
    known : (r.base ≤ u.0) × (is_line (w.units.origin u) ≡ true)
    known = s.begun u born

    below : u.0 < w.units.next
    below = elim (cases_lt u.0 w.units.next) [ inl l ↦ l | inr l ↦ absurd (born (i.unborn u l)) ]

    there : Member u (units_of r w)
    there = among_units (w.units.next - r.base) r.base u known.0 (omega (arith, below, s.above))

-- an entry isn't of a unit that runs
entry-over : (n : ℕ) (w : CoreState) → LoadlessAt n w → Once w → (x : Entry) → Member x w.manager.settled → w.units.phase x.unit ≡ Running → ⊥
entry-over n w i once x m p = elim (once.3 x m).2 [
  | inl o ↦ (let t : Unborn ≡ Running = sym i.outside ∙ ap w.units.phase (sym o.0) ∙ p in cc)
  | inr o ↦ elim o.1 [
    | inl f ↦ (let t : Refused ≡ Running = sym f ∙ p in cc)
    | inr f ↦ elim f [
      | inl z ↦ (let t : Ended ≡ Running = sym z ∙ p in cc)
      | inr z ↦ (let t : Finished ≡ Running = sym z.0 ∙ p in cc)
    ]
  ]
]

-- so nobody runs
nobody_runs : (r : Run) (n : ℕ) (w : CoreState) → LoadlessAt n w → Once w → IsAlone r.base w → in_flight r w ≡ 0 → (u : UnitNo) → w.units.phase u ≡ Running → ⊥
nobody_runs r n w i once s none u p =
    let rest = at_rest r n w i s none u (λ q. (let t : Unborn ≡ Running = sym q ∙ p in cc)) in
    let t = any-true (λ (x : Entry). same_unit x.unit u) w.manager.settled rest.0 in
    entry-over n w i once t.0 t.1 (ap w.units.phase (same_unit-true t.0.unit u t.2) ∙ p)

-- and nobody has a lock
nobody_holds : (r : Run) (n : ℕ) (w : CoreState) → LoadlessAt n w → IsAlone r.base w → in_flight r w ≡ 0 → (g : GrainId) (h : Hold) → Member h (w.cells.holds g) → ⊥
nobody_holds r n w i s none g h m =
    let t = i.told g h m in
    let seen = i.seen g t.0 t.1 in
    let there : Member seen.0 (w.units.reads h.unit) = subst (λ u. Member seen.0 (w.units.reads u)) t.2 seen.1 in
    let rest = at_rest r n w i s none h.unit (λ q. subst (Member seen.0) (i.blank h.unit q) there) in
    let gone : holds_lock h.unit (w.cells.holds seen.0.grain) ≡ false = not-true _ (all-true (λ (x : Read). not (holds_lock h.unit (w.cells.holds x.grain))) (w.units.reads h.unit) rest.1 seen.0 there) in
    let held : holds_lock h.unit (w.cells.holds g) ≡ true = any-member (is_hold_of h.unit) (w.cells.holds g) h m (same_unit-is h.unit h.unit refl) in
    let z : true ≡ false = sym held ∙ ap (λ k. holds_lock h.unit (w.cells.holds k)) (sym seen.2) ∙ gone in
    cc

-- ---- entries

entry-free : (w : CoreState) (u : UnitNo) (what : Settled) → IsNoLock what → (x : Entry) → Member x (entry_for (w.units.origin u) u what) → IsNoLock x.what
entry-free w u what free x m = subst IsNoLock (sym (entry-parts w u what x m).1) free

told-free : (what : Settled) (d : Decision) → IsNoLock what → IsNoLock (told what d)
told-free what decision.Commit free = free
told-free what (decision.Vote g) free = tt
told-free what (decision.Dependency on) free = tt

entries-free : (w : CoreState) (answer : UnitNo → Settled) → ((u : UnitNo) → IsNoLock (answer u)) → (us : List UnitNo) (ds : List Decision) (x : Entry) → Member x (entries_in w answer us ds) → IsNoLock x.what
entries-free w answer free [] ds x m = absurd m
entries-free w answer free (u ∷ us) [] x m = absurd m
entries-free w answer free (u ∷ us) (d ∷ ds) x m =
    elim (Member-append x (entry_for (w.units.origin u) u (told (answer u) d)) (entries_in w answer us ds) m) [
      | inl h ↦ entry-free w u (told (answer u) d) (told-free (answer u) d (free u)) x h
      | inr h ↦ entries-free w answer free us ds x h
    ]

-- more entries
more-free : (old new : List Entry) → ((x : Entry) → Member x old → IsNoLock x.what) → ((x : Entry) → Member x new → IsNoLock x.what) → (x : Entry) → Member x (old ++ new) → IsNoLock x.what
more-free old new a b x m = elim (Member-append x old new m) [ inl h ↦ a x h | inr h ↦ b x h ]

-- the unit that runs is the last, so whoever holds a lock is no older
refusal-free : (base : ℕ) (w : CoreState) (u : UnitNo) (g : GrainId) (mode : Mode) (why : Settled) → IsAlone base w → w.units.phase u ≡ Running → refusal g (ask_answer w u g mode) ≡ Some why → IsNoLock why
refusal-free base w u g mode why s running q = elim (ask-refused w u g mode why q).1 [
  | inl d ↦ subst IsNoLock (sym d.2) tt
  | inr d ↦ (let t = ask-die (w.cells.holds g) u mode d.0 d.2 in
      let last = s.holder g t.1.rival.0 t.1.rival.1 in
      let mine = s.running u running in
      absurd (omega (arith, last, mine, t.2, ap (λ (z : UnitNo). z.0) t.1.rival.3)))
]

-- ---- events

-- a unit that has begun goes on to another phase, and its line is settled
alone-over : (base : ℕ) (w : CoreState) (u : UnitNo) (end : Phase) (new : List Entry) → w.units.phase u ≡ Running → (end ≡ Running → ⊥) → IsAlone base w → ((x : Entry) → Member x new → IsNoLock x.what)
    → Alone base w.units.next (put w.units.phase u end) w.units.origin w.cells.holds (w.manager.settled ++ new)
alone-over base w u end new running over s free = record {
  above = s.above;
  begun = λ x. put-from w.units.phase u end (λ p. p ≡ Unborn → ⊥) ((base ≤ x.0) × (is_line (w.units.origin x) ≡ true)) x
      (λ q n. s.begun x (λ z. (let t : Unborn ≡ Running = sym z ∙ ap w.units.phase q ∙ running in cc)))
      (λ q n. s.begun x n);
  running = λ x. put-from w.units.phase u end (λ p. p ≡ Running) (x.0 + 1 ≡ w.units.next) x (λ q n. absurd (over n)) (λ q n. s.running x n);
  holder = s.holder;
  unlocked = more-free w.manager.settled new s.unlocked free;
}

-- a line begins
alone-begun : (r : Run) (n : ℕ) (w : CoreState) (line : ℕ) → LoadlessAt n w → Once w → in_flight r w ≡ 0 → IsAlone r.base w
    → Alone r.base (w.units.next + 1) (put w.units.phase (new_unit w) Running) (put w.units.origin (new_unit w) (Line line)) w.cells.holds w.manager.settled
alone-begun r n w line i once none s = record {
  above = omega (arith, s.above);
  begun = λ x. put-from w.units.phase (new_unit w) Running (λ p. p ≡ Unborn → ⊥) ((r.base ≤ x.0) × (is_line (put w.units.origin (new_unit w) (Line line) x) ≡ true)) x
      (λ q born. (omega (arith, s.above, ap (λ (z : UnitNo). z.0) q), put-at w.units.origin (new_unit w) (Line line) (λ o. is_line o ≡ true) x (λ z. refl) (λ z. absurd (z q))))
      (λ q born. (let t = s.begun x born in (t.0, put-at w.units.origin (new_unit w) (Line line) (λ o. is_line o ≡ true) x (λ z. refl) (λ z. t.1))));
  running = λ x. put-from w.units.phase (new_unit w) Running (λ p. p ≡ Running) (x.0 + 1 ≡ w.units.next + 1) x
      (λ q p. ap (λ (z : UnitNo). z.0 + 1) q)
      (λ q p. absurd (nobody_runs r n w i once s none x p));
  holder = λ g h m. absurd (nobody_holds r n w i s none g h m);
  unlocked = s.unlocked;
}

-- a lock is granted
holder-granted : (base : ℕ) (w : CoreState) (u : UnitNo) (g : GrainId) (mode : Mode) → w.units.phase u ≡ Running → IsAlone base w → (k : GrainId) (h : Hold) → Member h (put_grain w.cells.holds g (locks.granted (w.cells.holds g) u mode) k) → h.unit.0 + 1 ≡ w.units.next
holder-granted base w u g mode running s k h = grain-from w.cells.holds g (locks.granted (w.cells.holds g) u mode) (Member h) (h.unit.0 + 1 ≡ w.units.next) k
    (λ q m. elim (granted-member (w.cells.holds g) u mode h m) [
      | inl o ↦ s.holder g h o.0
      | inr o ↦ ap (λ (z : Hold). z.unit.0 + 1) o ∙ s.running u running
    ])
    (λ q m. s.holder k h m)

-- more is settled
alone-more : (base : ℕ) (w : CoreState) (new : List Entry) → IsAlone base w → ((x : Entry) → Member x new → IsNoLock x.what) → Alone base w.units.next w.units.phase w.units.origin w.cells.holds (w.manager.settled ++ new)
alone-more base w new s free = record {
  above = s.above;
  begun = s.begun;
  running = s.running;
  holder = s.holder;
  unlocked = more-free w.manager.settled new s.unlocked free;
}

alone-held : (base : ℕ) (w : CoreState) (holds : GrainId → List Hold) → IsAlone base w → ((g : GrainId) (h : Hold) → Member h (holds g) → h.unit.0 + 1 ≡ w.units.next) → Alone base w.units.next w.units.phase w.units.origin holds w.manager.settled
alone-held base w holds s held = record { above = s.above; begun = s.begun; running = s.running; holder = held; unlocked = s.unlocked }

alone-change : (r : Run) (w : CoreState) (e : CoreEvent) (w' : CoreState) → Change w e w' → IsSingle r w e → LoadlessKept w → Once w → IsAlone r.base w → IsAlone r.base w'
alone-change r w e w' (bad line why q) single k once s =
    alone-more r.base w (record { line = line; unit = nobody; what = settled.Bad why } ∷ []) s (λ x m. elim m [ inl h ↦ subst IsNoLock (sym (ap (λ (z : Entry). z.what) h)) tt | inr h ↦ absurd h ])
alone-change r w e w' (begin (Line n) call plain c) single k once s = alone-begun r _ w n k.0 once single s
alone-change r w e w' (begin (Child parent index depth) call plain c) single k once s = absurd single
alone-change r w e w' (lock u g mode running free first here) single k once s = alone-held r.base w _ s (holder-granted r.base w u g mode running s)
alone-change r w e w' (raise u g mode running free held here uncovered) single k once s = alone-held r.base w _ s (holder-granted r.base w u g mode running s)
alone-change r w e w' (refuse u g mode why running q) single k once s =
    alone-over r.base w u Refused (entry_for (w.units.origin u) u why) running (λ z. cc) s (entry-free w u why (refusal-free r.base w u g mode why s running q))
alone-change r w e w' (finish u effect running plain of_call reads alone) single k once s =
    (let t = alone-over r.base w u Finished [] running (λ z. cc) s (λ x m. absurd m) in record { above = t.above; begun = t.begun; running = t.running; holder = t.holder; unlocked = s.unlocked })
alone-change r w e w' (end_plain u effect running plain of_call bare) single k once s =
    alone-over r.base w u Ended (entry_for (w.units.origin u) u (settled.Done effect.result)) running (λ z. cc) s (entry-free w u (settled.Done effect.result) tt)
alone-change r w e w' (end_snapshot u at outcome running plain kids answer) single k once s =
    alone-over r.base w u Ended (entry_for (w.units.origin u) u (settled.Done outcome)) running (λ z. cc) s (entry-free w u (settled.Done outcome) tt)
alone-change r w e w' (release u g over held) single k once s =
    alone-held r.base w _ s (λ j h. grain-from w.cells.holds g (dropped (w.cells.holds g) u) (Member h) (h.unit.0 + 1 ≡ w.units.next) j (λ q m. s.holder g h (dropped-member u (w.cells.holds g) h m).0) (λ q m. s.holder j h m))
alone-change r w e w' (take_batch none some) single k once s = s
alone-change r w e w' (vote n g kept b q number d planned fresh) single k once s = s
alone-change r w e w' (decide_some n b q number d voted some) single k once s = s
alone-change r w e w' (decide_none n b q number d voted none) single k once s =
    (let v : CoreState = with_decisions w b (decisions_of w b) in
    alone-more r.base w (entries_in v (result_told v) (members v b) (decisions_of w b)) s (entries-free v (result_told v) (λ u. tt) (members v b) (decisions_of w b)))
alone-change r w e w' (seal_batch n b ds q number d) single k once s = alone-more r.base w (entries_in w (result_told w) (members w b) ds) s (entries-free w (result_told w) (λ u. tt) (members w b) ds)
alone-change r w e w' (spoil_batch n b ds q number d) single k once s = alone-more r.base w (entries_in w (λ u. settled.Disk) (members w b) ds) s (entries-free w (λ u. settled.Disk) (λ u. tt) (members w b) ds)
alone-change r w e w' (doubt_batch n b ds q number d) single k once s = alone-more r.base w (entries_in w (λ u. settled.InDoubt) (members w b) ds) s (entries-free w (λ u. settled.InDoubt) (λ u. tt) (members w b) ds)
alone-change r w e w' (learn u g wrote final fresh) single k once s = s
alone-change r w e w' (emit q) single k once s = s
alone-change r w e w' (halt_run q) single k once s = s
alone-change r w e w' (want u g running free fresh) single k once s = s
alone-change r w e w' (load g u state gone wanted) single k once s = s

swept-alone : (base : ℕ) (w : CoreState) → IsAlone base w → IsAlone base (swept w)
swept-alone base w s = go w.cells.capacity
  where
    go : (c : Option ℕ) → IsAlone base (swept_by w c)
    go None = s
    go (Some m) = s

swept-once : (w : CoreState) → Once w → Once (swept w)
swept-once w s = go w.cells.capacity
  where
    go : (c : Option ℕ) → Once (swept_by w c)
    go None = s
    go (Some m) = s

-- one unit alone, with what the core keeps whatever is loaded
abbrev KeepsAlone : Run → CoreState → Type 0
KeepsAlone r w = LoadlessKept w × EachIsDecided w × Once w × IsAlone r.base w

alone-step : (r : Run) (w : CoreState) (e : CoreEvent) → applies w e ≡ true → IsSingle r w e → KeepsAlone r w → KeepsAlone r (step w e)
alone-step r w e a single k = (
  loadless-step w e k.0,
  each-step w e k.0 k.1,
  cond_both (applies w e) (swept (does w e)) w Once (λ b. swept-once (does w e) (once-change w e (does w e) (change b) b k.0 k.1 k.2)) (λ b. k.2),
  cond_both (applies w e) (swept (does w e)) w (IsAlone r.base) (λ b. swept-alone r.base (does w e) (alone-change r w e (does w e) (change b) single k.0 k.2 k.3)) (λ b. k.3),
)
  where
    change : applies w e ≡ true → Change w e (does w e)
    change b = decode w e (and_parts (is_allowed w e) (can w e) b).1

-- each event that applies is such
single-events : (p : Program) (r : Observed) (c : Course) → IsExplained p r c → r.manner.threaded ≡ false → r.manner.width ≡ 1 → HasNoChild p c → AllFit (IsSingle (core_run p c)) (begins (core_run p c)) c.events
single-events p r c is unthreaded one none at e there a = single e (record { there = there; applied = a }) (is.units at e (record { there = there; applied = a }))
  where
    w : CoreState
    w = state_before (core_run p c) at

    single : (e : CoreEvent) → AppliesAt (core_run p c) at e → IsDue (basis p r c) w (got_from (begins (core_run p c)) (take at c.events)) e → IsSingle (core_run p c) w e
    single (Begin (Line n) call plain) applied due =
        let got = got_from (begins (core_run p c)) (take at c.events) in
        let ms = movers p.types (core_run p c) w got in
        let wish = next_wish w (units_of (core_run p c) w) (lock_asked p.types w got) (passed (applied_from (begins (core_run p c)) (take at c.events))) in
        let can : line_can_begin r.windowed r.manner.width c.allowed (core_run p c) w (and_wish wish ms) ≡ true =
        line-begins ms (get_or r.manner.picks (picks_used (core_run p c) at) 0) (movers-take p.types (core_run p c) w got) (grain_due w) (line_can_begin r.windowed r.manner.width c.allowed (core_run p c) w (and_wish wish ms)) wish
        (is.turns unthreaded at (Begin (Line n) call plain) applied).whose in
        let t = and_parts (is_none w.manager.doubt) _ can in
        let few = ltb-true _ _ (and_parts (nat_lt (in_flight (core_run p c) w) r.manner.width) _ t.1).0 in
        omega (arith, few, one)
    single (Begin (Child parent index depth) call plain) applied due = none at parent index depth call (subst (λ b. AppliesAt (core_run p c) at (Begin (Child parent index depth) call b)) due.1 applied)
    single _ applied due = tt

pub single_unlocked : (p : Program) (r : Observed) (c : Course) → 0 < c.opening.base.next → IsExplained p r c → r.manner.threaded ≡ false → r.manner.width ≡ 1
    → HasNoChild p c → (e : Entry) → Member e (core_end p c).manager.settled → IsNoLock e.what
single_unlocked p r c based is unthreaded one none =
    let first : Run = core_run p c in
    (keeps-run (IsSingle first) (KeepsAlone first) (alone-step first) c.events (begins first) (single-events p r c is unthreaded one none) (
      loadless-begins first (above_entries c.opening.base c.opening.entries based),
      (λ b ds q. cc),
      ((λ u n b. absurd (b.0 refl)), (λ u v n a b. absurd (a.0 refl)), tt, (λ x m. absurd m), (λ u n b. absurd (b.0 refl)), tt, omega arith),
      record {
        above = omega arith;
        begun = λ u n. absurd (n refl);
        running = λ u q. cc;
        holder = λ g h m. absurd m;
        unlocked = λ x m. absurd m;
      },
    )).3.unlocked
