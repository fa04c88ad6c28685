-- What holds of every run: its units are numbered without a gap, what a unit got has its children, and each line that
-- was taken has its unit or its entry.
use Rattle.std.proofs.Common.{◌≡◌, ℕ, ◌+◌, ◌≤◌, ◌<◌, Option, Some, None, List, [], ◌∷◌, ◌++◌, Bool, true, false, ◌⊎◌, inl, inr, refl, sym, ap, ◌∙◌, subst, arith, append-nil, append_assoc, eqb-true, le_refl}
use Rattle.std.specs.Prelude.{if◌then◌else◌}
use Rattle.std.proofs.lemmas.Bool.{and_parts, cond_both, cases_Bool, cases_lt}
use Rattle.base_types.specs.declared.calls.Origin.TheVariants.{Line, Child}
use Rattle.base_types.specs.declared.entries.Entry.{Entry}
use Rattle.cell_model.specs.Locks.{holds_lock}
use Rattle.cell_model.proofs.Units.{same_unit-true, same_unit-is, cases_unit, Member-left, Member-last}
use Rattle.core_model.specs.CoreState.{UnitNo, GrainId, nobody, top, Mode, Call, Origin, Member, same_unit, put, CoreState}
use Rattle.core_model.specs.declared.phases.Phase.{Phase}
use Rattle.core_model.specs.declared.phases.Phase.TheVariants.{Unborn, Running, Finished, Refused, Ended}
use Rattle.core_model.specs.Changes.{new_unit, begun, cleaned, lines_with, kids_with, swept, swept_by}
use Rattle.core_model.specs.declared.events.CoreEvent.{CoreEvent}
use Rattle.core_model.specs.declared.events.CoreEvent.TheVariants.{Begin, Grant}
use Rattle.core_model.specs.Events.{applies, can, does, step, run, is_allowed}
use Rattle.core_model.specs.LegalRuns.{Run, begins, ends}
use Rattle.base_types.specs.declared.entries.Settled.TheVariants.{Bad as Wrong}
use Rattle.core_laws.proofs.Puts.{put-is, put-other, put-same}
use Rattle.core_laws.proofs.EventCases.{Change, bad, begin, lock, raise, refuse, finish, end_plain, end_snapshot, release, take_batch, vote, decide_some, decide_none, seal_batch, spoil_batch, doubt_batch, learn, emit, halt_run, want, load, decode}
use Rattle.promise_spec.specs.UnitAnswers.{Got, GotLock, GotRaise, GotChild, got_lock, got_by, got_from, got_in, kids_got}
use Rattle.turn_rules.specs.RunCounts.{IsCounted}
use Rattle.core_laws.proofs.LoadlessKept.{LoadlessKept, loadless-begins, loadless-step}

-- the children of two lists
kids_got-append : (xs ys : List Got) → kids_got (xs ++ ys) ≡ kids_got xs ++ kids_got ys
kids_got-append [] ys = refl
kids_got-append (GotLock g mode state ∷ xs) ys = kids_got-append xs ys
kids_got-append (GotRaise g ∷ xs) ys = kids_got-append xs ys
kids_got-append (GotChild call depth child ∷ xs) ys = ap (λ (l : List UnitNo). child ∷ l) (kids_got-append xs ys)

-- what gives no child adds none
kids_got-with : (got : List Got) (x : Got) → kids_got (x ∷ []) ≡ [] → kids_got (got ++ (x ∷ [])) ≡ kids_got got
kids_got-with got x e = kids_got-append got (x ∷ []) ∙ ap (λ (l : List UnitNo). kids_got got ++ l) e ∙ append-nil (kids_got got)

-- nobody begins, and no child is got
steady : (base : ℕ) (w w' : CoreState) (got got' : UnitNo → List Got) → w'.units.next ≡ w.units.next → w'.units.lines ≡ w.units.lines → w'.units.origin ≡ w.units.origin → w'.units.kids ≡ w.units.kids →
    ((u : UnitNo) → w'.units.phase u ≡ Unborn → w.units.phase u ≡ Unborn) → ((u : UnitNo) → w.units.phase u ≡ Unborn → w'.units.phase u ≡ Unborn) →
    ((x : Entry) → Member x w.manager.settled → Member x w'.manager.settled) → ((u : UnitNo) → kids_got (got' u) ≡ kids_got (got u)) →
    IsCounted base w got → IsCounted base w' got'
steady base w w' got got' next lines origin kids back on more same c = record {
  above = subst (λ (n : ℕ). base ≤ n) (sym next) c.above;
  numbered = λ u b. c.numbered u (λ e. b (on u e));
  born = λ u low high e. c.born u low (subst (λ (n : ℕ). u.0 < n) next high) (back u e);
  kids = λ u. same u ∙ c.kids u ∙ sym (ap (λ (f : UnitNo → List UnitNo). f u) kids);
  taken = λ n one le. elim (c.taken n one (subst (λ (m : ℕ). n ≤ m) lines le)) [
    | inl t ↦ inl (t.0, (λ e. t.1 (back t.0 e)), ap (λ (f : UnitNo → Origin). f t.0) origin ∙ t.2)
    | inr t ↦ inr (t.0, more t.0 t.1, t.2)
  ];
}

-- a unit that ends had begun
phase-back : (w : CoreState) (u : UnitNo) (end : Phase) → w.units.phase u ≡ Running → (end ≡ Unborn → ⊥) → (v : UnitNo) → put w.units.phase u end v ≡ Unborn → w.units.phase v ≡ Unborn
phase-back w u end running n v e = elim (cases_unit v u) [
  | inl q ↦ absurd (n (sym (put-is w.units.phase u end v q) ∙ e))
  | inr q ↦ sym (put-other w.units.phase u end v q) ∙ e
]

-- and others are as they were
phase-on : (w : CoreState) (u : UnitNo) (end : Phase) → w.units.phase u ≡ Running → (v : UnitNo) → w.units.phase v ≡ Unborn → put w.units.phase u end v ≡ Unborn
phase-on w u end running v e = elim (cases_unit v u) [
  | inl q ↦ (let t : Unborn ≡ Running = sym e ∙ ap w.units.phase q ∙ running in absurd cc)
  | inr q ↦ put-other w.units.phase u end v q ∙ e
]

-- nothing that was got adds no child
none-got : (got : UnitNo → List Got) (u : UnitNo) → kids_got (got u ++ []) ≡ kids_got (got u)
none-got got u = ap kids_got (append-nil (got u))

-- a unit begins
begun-phase : (w : CoreState) (origin : Origin) (call : Call) (plain : Bool) (u : UnitNo) → (u ≡ new_unit w → ⊥) → (begun w origin call plain).units.phase u ≡ w.units.phase u
begun-phase w origin call plain u n = put-other w.units.phase (new_unit w) Running u n

-- and has begun
begun-new : (w : CoreState) (origin : Origin) (call : Call) (plain : Bool) (u : UnitNo) → u ≡ new_unit w → (begun w origin call plain).units.phase u ≡ Unborn → ⊥
begun-new w origin call plain u q e = (let t : Running ≡ Unborn = sym (put-is w.units.phase (new_unit w) Running u q) ∙ e in absurd cc)

-- a unit that begins is the next
began : (base : ℕ) (w : CoreState) (origin : Origin) (call : Call) (plain : Bool) (got got' : UnitNo → List Got) →
    ((u : UnitNo) → w.units.next ≤ u.0 → w.units.phase u ≡ Unborn) →
    ((u : UnitNo) → kids_got (got' u) ≡ kids_with w.units.kids origin (new_unit w) u) →
    ((n : ℕ) → 1 ≤ n → n ≤ lines_with w.units.lines origin → (n ≤ w.units.lines) ⊎ (origin ≡ Line n)) →
    IsCounted base w got → IsCounted base (begun w origin call plain) got'
began base w origin call plain got got' fresh kids line c = record {
  above = (let a = c.above in omega (arith, a));
  numbered = λ u b. elim (cases_unit u (new_unit w)) [
    | inl q ↦ (let a = c.above in let e : u.0 ≡ w.units.next = ap (λ (x : UnitNo). x.0) q in omega (arith, a, e))
    | inr q ↦ c.numbered u (λ e. b (begun-phase w origin call plain u q ∙ e))
  ];
  born = λ u low high e. elim (cases_unit u (new_unit w)) [
    | inl q ↦ begun-new w origin call plain u q e
    | inr q ↦ elim (cases_lt u.0 w.units.next) [
      | inl less ↦ c.born u low less (sym (begun-phase w origin call plain u q) ∙ e)
      | inr le ↦ (let same : u.0 ≡ w.units.next = omega (arith, le, high) in absurd (q (ap (λ (z : ℕ). record { 0 = z }) same)))
    ]
  ];
  kids = kids;
  taken = λ n one le. elim (line n one le) [
    | inl old ↦ elim (c.taken n one old) [
      | inl t ↦
          let n : t.0 ≡ new_unit w → ⊥ = λ q. t.1 (fresh t.0 (subst (λ (x : UnitNo). w.units.next ≤ x.0) (sym q) (le_refl w.units.next))) in
          inl (t.0, (λ e. t.1 (sym (begun-phase w origin call plain t.0 n) ∙ e)), put-other w.units.origin (new_unit w) origin t.0 n ∙ t.2)
      | inr t ↦ inr t
    ]
    | inr new ↦ inl (new_unit w, begun-new w origin call plain (new_unit w) refl, put-same w.units.origin (new_unit w) origin ∙ new)
  ];
}

-- one more child
kids-child : (w : CoreState) (got : UnitNo → List Got) (p : UnitNo) (i d : ℕ) (call : Call) (u : UnitNo) → kids_got (got u) ≡ w.units.kids u →
    kids_got (got u ++ (if same_unit p u then GotChild call d (new_unit w) ∷ [] else [])) ≡ put w.units.kids p (w.units.kids p ++ new_unit w ∷ []) u
kids-child w got p i d call u e = by (cases_Bool (same_unit p u))
  where
    by : (same_unit p u ≡ true) ⊎ (same_unit p u ≡ false) → kids_got (got u ++ (if same_unit p u then GotChild call d (new_unit w) ∷ [] else [])) ≡ put w.units.kids p (w.units.kids p ++ new_unit w ∷ []) u
    by (inl a) =
        ap (λ (t : Bool). kids_got (got u ++ (if t then GotChild call d (new_unit w) ∷ [] else []))) a
        ∙ kids_got-append (got u) (GotChild call d (new_unit w) ∷ [])
        ∙ ap (λ (l : List UnitNo). l ++ new_unit w ∷ []) (e ∙ ap w.units.kids (sym (same_unit-true p u a)))
        ∙ sym (put-is w.units.kids p (w.units.kids p ++ new_unit w ∷ []) u (sym (same_unit-true p u a)))
    by (inr a) =
        ap (λ (t : Bool). kids_got (got u ++ (if t then GotChild call d (new_unit w) ∷ [] else []))) a
        ∙ none-got got u ∙ e
        ∙ sym (put-other w.units.kids p (w.units.kids p ++ new_unit w ∷ []) u (λ q. (let t : true ≡ false = sym (same_unit-is p u (sym q)) ∙ a in cc)))

-- a lock is no child
lock-none : (w : CoreState) (v : UnitNo) (g : GrainId) (mode : Mode) → kids_got (got_lock w v g mode ∷ []) ≡ []
lock-none w v g mode = cond_both (holds_lock v (w.cells.holds g)) (GotRaise g) (GotLock g mode (top (cleaned w g)).state) (λ (x : Got). kids_got (x ∷ []) ≡ []) (λ e. refl) (λ e. refl)

-- so a lock adds none
kids-lock : (w : CoreState) (got : UnitNo → List Got) (v : UnitNo) (g : GrainId) (mode : Mode) (u : UnitNo) → kids_got (got u ++ (if same_unit v u then got_lock w u g mode ∷ [] else [])) ≡ kids_got (got u)
kids-lock w got v g mode u = cond_both (same_unit v u) (got_lock w u g mode ∷ []) [] (λ (l : List Got). kids_got (got u ++ l) ≡ kids_got (got u))
    (λ e. kids_got-with (got u) (got_lock w u g mode) (lock-none w u g mode))
    (λ e. none-got got u)

-- by an event that applies
counted-change : (base : ℕ) (w : CoreState) (got : UnitNo → List Got) (e : CoreEvent) (w' : CoreState) → Change w e w' → ((u : UnitNo) → w.units.next ≤ u.0 → w.units.phase u ≡ Unborn) →
    IsCounted base w got → IsCounted base w' (λ u. got u ++ got_by w u e)
counted-change base w got e w' (bad line why q) fresh c = record {
  above = c.above;
  numbered = c.numbered;
  born = c.born;
  kids = λ u. none-got got u ∙ c.kids u;
  taken = λ n one le. elim (cases_lt w.units.lines n) [
    | inl new ↦ (let here : line ≡ n = omega (arith, q, new, le) in
        inr (record { line = line; unit = nobody; what = Wrong why }, Member-last (record { line = line; unit = nobody; what = Wrong why }) w.manager.settled, here))
    | inr old ↦ elim (c.taken n one old) [
      | inl t ↦ inl t
      | inr t ↦ inr (t.0, Member-left t.0 w.manager.settled (record { line = line; unit = nobody; what = Wrong why } ∷ []) t.1, t.2)
    ]
  ];
}
counted-change base w got e w' (begin (Line m) call plain t) fresh c =
    began base w (Line m) call plain got (λ u. got u ++ []) fresh (λ u. none-got got u ∙ c.kids u)
    (λ n one le. elim (cases_lt w.units.lines n) [
      | inl new ↦ (let at : m ≡ w.units.lines + 1 = eqb-true m (w.units.lines + 1) t in let here : m ≡ n = omega (arith, at, new, le) in inr (ap Line here))
      | inr old ↦ inl old
    ]) c
counted-change base w got e w' (begin (Child p i d) call plain t) fresh c =
    began base w (Child p i d) call plain got (λ u. got u ++ got_by w u (Begin (Child p i d) call plain)) fresh
    (λ u. kids-child w got p i d call u (c.kids u)) (λ n one le. inl le) c
counted-change base w got e w' (lock v g mode running free first here) fresh c =
    steady base w w' got (λ u. got u ++ got_by w u (Grant v g mode)) refl refl refl refl (λ u q. q) (λ u q. q) (λ x m. m) (λ u. kids-lock w got v g mode u) c
counted-change base w got e w' (raise v g mode running free held here uncovered) fresh c =
    steady base w w' got (λ u. got u ++ got_by w u (Grant v g mode)) refl refl refl refl (λ u q. q) (λ u q. q) (λ x m. m) (λ u. kids-lock w got v g mode u) c
counted-change base w got e w' (refuse v g mode why running q) fresh c =
    steady base w w' got (λ u. got u ++ []) refl refl refl refl (phase-back w v Refused running (λ q. absurd cc)) (phase-on w v Refused running) (λ x m. Member-left x w.manager.settled _ m) (none-got got) c
counted-change base w got e w' (finish v effect running plain of_call reads alone) fresh c =
    steady base w w' got (λ u. got u ++ []) refl refl refl refl (phase-back w v Finished running (λ q. absurd cc)) (phase-on w v Finished running) (λ x m. m) (none-got got) c
counted-change base w got e w' (end_plain v effect running plain of_call bare) fresh c =
    steady base w w' got (λ u. got u ++ []) refl refl refl refl (phase-back w v Ended running (λ q. absurd cc)) (phase-on w v Ended running) (λ x m. Member-left x w.manager.settled _ m) (none-got got) c
counted-change base w got e w' (end_snapshot v at outcome running plain kids answer) fresh c =
    steady base w w' got (λ u. got u ++ []) refl refl refl refl (phase-back w v Ended running (λ q. absurd cc)) (phase-on w v Ended running) (λ x m. Member-left x w.manager.settled _ m) (none-got got) c
counted-change base w got e w' (release v g over held) fresh c = steady base w w' got (λ u. got u ++ []) refl refl refl refl (λ u q. q) (λ u q. q) (λ x m. m) (none-got got) c
counted-change base w got e w' (take_batch n some) fresh c = steady base w w' got (λ u. got u ++ []) refl refl refl refl (λ u q. q) (λ u q. q) (λ x m. m) (none-got got) c
counted-change base w got e w' (vote n g kept b q number un planned free) fresh c = steady base w w' got (λ u. got u ++ []) refl refl refl refl (λ u q. q) (λ u q. q) (λ x m. m) (none-got got) c
counted-change base w got e w' (decide_some n b q number un voted some) fresh c = steady base w w' got (λ u. got u ++ []) refl refl refl refl (λ u q. q) (λ u q. q) (λ x m. m) (none-got got) c
counted-change base w got e w' (decide_none n b q number un voted not_one) fresh c = steady base w w' got (λ u. got u ++ []) refl refl refl refl (λ u q. q) (λ u q. q) (λ x m. Member-left x w.manager.settled _ m) (none-got got) c
counted-change base w got e w' (seal_batch n b ds q number un) fresh c = steady base w w' got (λ u. got u ++ []) refl refl refl refl (λ u q. q) (λ u q. q) (λ x m. Member-left x w.manager.settled _ m) (none-got got) c
counted-change base w got e w' (spoil_batch n b ds q number un) fresh c = steady base w w' got (λ u. got u ++ []) refl refl refl refl (λ u q. q) (λ u q. q) (λ x m. Member-left x w.manager.settled _ m) (none-got got) c
counted-change base w got e w' (doubt_batch n b ds q number un) fresh c = steady base w w' got (λ u. got u ++ []) refl refl refl refl (λ u q. q) (λ u q. q) (λ x m. Member-left x w.manager.settled _ m) (none-got got) c
counted-change base w got e w' (learn v g wrote final free) fresh c = steady base w w' got (λ u. got u ++ []) refl refl refl refl (λ u q. q) (λ u q. q) (λ x m. m) (none-got got) c
counted-change base w got e w' (emit q) fresh c = steady base w w' got (λ u. got u ++ []) refl refl refl refl (λ u q. q) (λ u q. q) (λ x m. m) (none-got got) c
counted-change base w got e w' (halt_run q) fresh c = steady base w w' got (λ u. got u ++ []) refl refl refl refl (λ u q. q) (λ u q. q) (λ x m. m) (none-got got) c
counted-change base w got e w' (want v g running free free2) fresh c = steady base w w' got (λ u. got u ++ []) refl refl refl refl (λ u q. q) (λ u q. q) (λ x m. m) (none-got got) c
counted-change base w got e w' (load g v state gone wanted) fresh c = steady base w w' got (λ u. got u ++ []) refl refl refl refl (λ u q. q) (λ u q. q) (λ x m. m) (none-got got) c

-- grains that leave memory change nothing of it
counted-swept : (base : ℕ) (w : CoreState) (got : UnitNo → List Got) → IsCounted base w got → IsCounted base (swept w) got
counted-swept base w got c = go w.cells.capacity
  where
    go : (o : Option ℕ) → IsCounted base (swept_by w o) got
    go None = c
    go (Some m) = steady base w (swept_by w (Some m)) got got refl refl refl refl (λ u q. q) (λ u q. q) (λ x m. m) (λ u. refl) c

-- one event, whether it applies or not
pub counted-step : (base : ℕ) (w : CoreState) (got : UnitNo → List Got) (e : CoreEvent) → LoadlessKept w → IsCounted base w got →
    IsCounted base (step w e) (λ u. got u ++ (if applies w e then got_by w u e else []))
counted-step base w got e k c = by (applies w e) refl
  where
    by : (b : Bool) → applies w e ≡ b → IsCounted base (if b then swept (does w e) else w) (λ u. got u ++ (if b then got_by w u e else []))
    by true a = counted-swept base (does w e) (λ u. got u ++ got_by w u e) (counted-change base w got e (does w e) (decode w e (and_parts (is_allowed w e) (can w e) a).1) k.0.unborn c)
    by false a = subst (λ (h : UnitNo → List Got). IsCounted base w h) (λ i u. sym (append-nil (got u)) i) c

-- by a list of events
counted-run : (base : ℕ) (es : List CoreEvent) (w : CoreState) (got : UnitNo → List Got) → LoadlessKept w → IsCounted base w got →
    IsCounted base (run w es) (λ u. got u ++ got_from w es u)
counted-run base [] w got k c = subst (λ (h : UnitNo → List Got). IsCounted base w h) (λ i u. sym (append-nil (got u)) i) c
counted-run base (e ∷ es) w got k c =
    subst (λ (h : UnitNo → List Got). IsCounted base (run (step w e) es) h)
    (λ i u. append_assoc (got u) (if applies w e then got_by w u e else []) (got_from (step w e) es u) i)
    (counted-run base es (step w e) (λ u. got u ++ (if applies w e then got_by w u e else [])) (loadless-step w e k) (counted-step base w got e k c))

-- every run
pub counted-ends : (r : Run) → 0 < r.base → IsCounted r.base (ends r) (got_in r)
counted-ends r above =
    counted-run r.base r.events (begins r) (λ u. []) (loadless-begins r above) record {
      above = le_refl r.base;
      numbered = λ u b. absurd (b refl);
      born = λ u low high e. absurd (omega (arith, low, high));
      kids = λ u. refl;
      taken = λ n one le. absurd (omega (arith, one, le));
    }
