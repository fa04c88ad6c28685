-- Within a window a line can begin where it has a place, and each turn stays within it.
use Rattle.std.proofs.Common.{◌≡◌, ◌⊎◌, inl, inr, ℕ, zero, suc, ◌+◌, ◌-◌, ◌<◌, ◌≤◌, Bool, true, false, true≢false, List, [], ◌∷◌, ◌++◌, map, Option, Some, None, refl, sym, ap, subst, ◌∙◌, arith, eqb, eqb-true, append-nil, is_none}
use Rattle.std.specs.Prelude.{◌↔◌, ◌%◌, ◌&&◌, ◌||◌, not, nat_lt, filter, take, get_or, count_by, slice_get, if◌then◌else◌}
use Rattle.std.proofs.Math.Seq.{take-length}
use Rattle.std.proofs.lemmas.Bool.{and_parts, cases_Bool, cases_lt, cond_both, cond-false, ltb-true}
use Rattle.base_types.specs.declared.calls.Origin.TheVariants.{Line, Child}
use Rattle.core_model.specs.CoreState.{UnitNo, CoreState}
use Rattle.core_model.specs.Changes.{swept, swept_by}
use Rattle.core_model.specs.declared.events.CoreEvent.{CoreEvent}
use Rattle.core_model.specs.Events.{applies, can, does, is_allowed, step, run}
use Rattle.core_model.specs.LegalRuns.{Run, begins, ends}
use Rattle.core_model.specs.Settler.{has_step, settler_step}
use Rattle.core_laws.proofs.EventCases.{Change, bad, begin, lock, raise, refuse, finish, end_plain, end_snapshot, release, take_batch, vote, decide_some, decide_none, seal_batch, spoil_batch, doubt_batch, learn, emit, halt_run, want, load, decode}
use Rattle.core_laws.proofs.Replies.{no-change}
use Rattle.script_tree.specs.Programs.{ProgramTree}
use Rattle.promise_spec.specs.Cores.{AppliesAt, applied_from}
use Rattle.promise_spec.specs.UnitAnswers.{Got, got_from, got_in, got_by}
use Rattle.promise_spec.specs.Windows.{window_lines}
use Rattle.promise_spec.specs.TurnRule.{Mover, OfLine, OfWant, OfLoad, OfUnit, OfSettler, IsTurn, IsTurnOf, KeepsTurnRule, and_wish, at_seam, can_move, grain_due, in_flight, is_nobody, line_can_begin, lock_asked, movers, mover_of, next_wish, picked, takes_pick, units_from, units_of}
use Rattle.turn_rules.specs.NextEvent.{with_event, IsNext, NobodyGoes, movers_in, next_pick, line_has_place, wish_in}
use Rattle.turn_rules.specs.Windows.{InWindow}
use Rattle.turn_rules.proofs.Growth.{ends-more, got-event}
use Rattle.turn_rules.proofs.TurnChoices.{none-due, other-turn}
use Rattle.turn_rules.proofs.Passes.{passed-still}

-- ---- how many lines have begun

-- a line's event counts one
abbrev lines_by : Mover → ℕ
lines_by OfLine = 1
lines_by (OfWant u) = 0
lines_by OfLoad = 0
lines_by (OfUnit u) = 0
lines_by OfSettler = 0

same_count : (n : ℕ) → n ≡ n + 0
same_count n = omega arith

lines-change : (w : CoreState) (e : CoreEvent) (w' : CoreState) → Change w e w' → w'.units.lines ≡ w.units.lines + lines_by (mover_of e)
lines-change w e w' (bad line why q) = refl
lines-change w e w' (begin (Line n) call plain c) = refl
lines-change w e w' (begin (Child parent index depth) call plain c) = same_count w.units.lines
lines-change w e w' (lock u g mode running free first here) = same_count w.units.lines
lines-change w e w' (raise u g mode running free held here uncovered) = same_count w.units.lines
lines-change w e w' (refuse u g mode why running q) = same_count w.units.lines
lines-change w e w' (finish u effect running plain of_call reads alone) = same_count w.units.lines
lines-change w e w' (end_plain u effect running plain of_call bare) = same_count w.units.lines
lines-change w e w' (end_snapshot u at outcome running plain kids answer) = same_count w.units.lines
lines-change w e w' (release u g over held) = same_count w.units.lines
lines-change w e w' (take_batch none some) = same_count w.units.lines
lines-change w e w' (vote n g kept b q number un planned fresh) = same_count w.units.lines
lines-change w e w' (decide_some n b q number un voted some) = same_count w.units.lines
lines-change w e w' (decide_none n b q number un voted none) = same_count w.units.lines
lines-change w e w' (seal_batch n b ds q number un) = same_count w.units.lines
lines-change w e w' (spoil_batch n b ds q number un) = same_count w.units.lines
lines-change w e w' (doubt_batch n b ds q number un) = same_count w.units.lines
lines-change w e w' (learn u g wrote final fresh) = same_count w.units.lines
lines-change w e w' (emit q) = same_count w.units.lines
lines-change w e w' (halt_run q) = same_count w.units.lines
lines-change w e w' (want u g running free fresh) = same_count w.units.lines
lines-change w e w' (load g u state gone wanted) = same_count w.units.lines

-- so does one event that applies
lines-step : (w : CoreState) (e : CoreEvent) → applies w e ≡ true → (step w e).units.lines ≡ w.units.lines + lines_by (mover_of e)
lines-step w e a = cond_both (applies w e) (swept (does w e)) w (λ (x : CoreState). x.units.lines ≡ w.units.lines + lines_by (mover_of e))
    (λ b. sweep (does w e) ∙ lines-change w e (does w e) (decode w e (and_parts (is_allowed w e) (can w e) b).1))
    (λ b. absurd (true≢false (sym a ∙ b)))
  where
    sweep : (x : CoreState) → (swept x).units.lines ≡ x.units.lines
    sweep x = go x.cells.capacity
      where
        go : (c : Option ℕ) → (swept_by x c).units.lines ≡ x.units.lines
        go None = refl
        go (Some m) = refl

lines-next : (r : Run) (e : CoreEvent) → applies (ends r) e ≡ true → (ends (with_event r e)).units.lines ≡ (ends r).units.lines + lines_by (mover_of e)
lines-next r e a = ap (λ (w : CoreState). w.units.lines) (ends-more r e) ∙ lines-step (ends r) e a

-- an event that doesn't apply leaves the movers too
movers-still : (types : ProgramTree) (r : Run) (e : CoreEvent) → applies (ends r) e ≡ false → movers_in types (with_event r e) ≡ movers_in types r
movers-still types r e a = (λ i. movers types r (same i) (got i))
  where
    same : ends (with_event r e) ≡ ends r
    same = ends-more r e ∙ no-change (ends r) e a

    got_same : (u : UnitNo) → got_in (with_event r e) u ≡ got_in r u
    got_same u = got-event r e u ∙ ap (λ (l : List Got). got_in r u ++ l) (cond-false (applies (ends r) e) (got_by (ends r) u e) [] a) ∙ append-nil (got_in r u)

    got : got_in (with_event r e) ≡ got_in r
    got = (λ i u. got_same u i)

-- and so nobody goes where nobody went
goes-still : (types : ProgramTree) (r : Run) (e : CoreEvent) → applies (ends r) e ≡ false → NobodyGoes types r → NobodyGoes types (with_event r e)
goes-still types r e a n = (
  movers-still types r e a ∙ n.0,
  (λ i. next_wish (same i) (units_of r (same i)) (lock_asked types (same i) (got i)) (passed-still r e a i)) ∙ n.1,
  ap grain_due same ∙ n.2,
)
  where
    same : ends (with_event r e) ≡ ends r
    same = ends-more r e ∙ no-change (ends r) e a

    got_same : (u : UnitNo) → got_in (with_event r e) u ≡ got_in r u
    got_same u = got-event r e u ∙ ap (λ (l : List Got). got_in r u ++ l) (cond-false (applies (ends r) e) (got_by (ends r) u e) [] a) ∙ append-nil (got_in r u)

    got : got_in (with_event r e) ≡ got_in r
    got = (λ i u. got_same u i)

-- ---- tests

-- a mover that is picked is there
none-picked : (ms : List Mover) (pick : ℕ) (m : Mover) → picked ms pick ≡ Some m → ms ≡ [] → ⊥
none-picked [] pick m p e = cc
none-picked (n ∷ ms) pick m p e = absurd cc

empty-nobody : (ms : List Mover) → ms ≡ [] → is_nobody ms ≡ true
empty-nobody [] e = refl
empty-nobody (m ∷ ms) e = absurd cc

-- nobody goes where nobody can move or wants a grain
nobody-goes : (types : ProgramTree) (r : Run) → NobodyGoes types r → is_nobody (and_wish (wish_in types r) (movers_in types r)) ≡ true
nobody-goes types r n = ap (λ (o : Option UnitNo). is_nobody (and_wish o (movers_in types r))) n.1 ∙ empty-nobody (movers_in types r) n.0

or-right : (a b : Bool) → b ≡ true → (a || b) ≡ true
or-right true b e = refl
or-right false b e = e

and-true : (b : Bool) → (b && true) ≡ b
and-true true = refl
and-true false = refl

-- where a line is left, no window ends here, or nobody can move or wants a grain
opens : (types : ProgramTree) (windowed : Bool) (lines : ℕ) (r : Run) → InWindow types windowed lines r → (ends r).units.lines < lines
    → (not (at_seam windowed (ends r).units.lines) || is_nobody (and_wish (wish_in types r) (movers_in types r))) ≡ true
opens types windowed lines r w less = elim (cases_lt w.start (ends r).units.lines) [
  | inl later ↦ ap (λ (b : Bool). not b || is_nobody (and_wish (wish_in types r) (movers_in types r))) (w.inner (ends r).units.lines later less)
  | inr not_later ↦
      let from = w.from in
      let same : (ends r).units.lines ≡ w.start = omega (arith, from, not_later) in
      elim (cases_Bool (at_seam windowed w.start)) [
        | inl seam ↦ or-right (not (at_seam windowed (ends r).units.lines)) (is_nobody (and_wish (wish_in types r) (movers_in types r)))
            (nobody-goes types r (w.first seam same (omega (arith, same, less))))
        | inr inner ↦ ap (λ (b : Bool). not b || is_nobody (and_wish (wish_in types r) (movers_in types r))) (ap (at_seam windowed) same ∙ inner)
      ]
]

-- within a window a line can begin where it has a place
pub tests : (types : ProgramTree) (windowed : Bool) (width lines : ℕ) (r : Run) → InWindow types windowed lines r
    → line_can_begin windowed width lines r (ends r) (and_wish (wish_in types r) (movers_in types r)) ≡ line_has_place width lines r
tests types windowed width lines r w =
    ap (λ (b : Bool). is_none (ends r).manager.doubt && (nat_lt (in_flight r (ends r)) width && b))
    (elim (cases_Bool (nat_lt (ends r).units.lines lines)) [
      | inl less ↦ rw (less, opens types windowed lines r w (ltb-true _ _ less)) refl
      | inr fails ↦ rw fails refl
    ])

-- where nobody can move it can begin there too, within a window or not
pub nobody-tests : (windowed : Bool) (width lines : ℕ) (r : Run) (ms : List Mover) → ms ≡ [] → line_can_begin windowed width lines r (ends r) ms ≡ line_has_place width lines r
nobody-tests windowed width lines r ms none =
    ap (λ (b : Bool). is_none (ends r).manager.doubt && (nat_lt (in_flight r (ends r)) width && (nat_lt (ends r).units.lines lines && b)))
    (or-right (not (at_seam windowed (ends r).units.lines)) (is_nobody ms) (empty-nobody ms none))
    ∙ ap (λ (b : Bool). is_none (ends r).manager.doubt && (nat_lt (in_flight r (ends r)) width && b)) (and-true (nat_lt (ends r).units.lines lines))

-- ---- turns

-- each turn stays within it
pub stays : (types : ProgramTree) (windowed : Bool) (lines width : ℕ) (picks : List ℕ) (r : Run) (e : CoreEvent) → InWindow types windowed lines r → IsNext types windowed lines width picks r e
    → InWindow types windowed lines (with_event r e)
stays types windowed lines width picks r e w next = elim (cases_Bool (applies (ends r) e)) [
  | inl a ↦ by (mover_of e) refl (lines-next r e a) (next a)
  | inr fails ↦
      let same : ends (with_event r e) ≡ ends r = ends-more r e ∙ no-change (ends r) e fails in
      let count : (ends (with_event r e)).units.lines ≡ (ends r).units.lines = ap (λ (x : CoreState). x.units.lines) same in
      let from = w.from in
      record {
        start = w.start;
        from = omega (arith, count, from);
        inner = w.inner;
        first = λ seam q less. goes-still types r e fails (w.first seam (sym count ∙ q) less);
      }
]
  where
    -- by a move that no line makes
    moved : (m : Mover) → (m ≡ OfLine → ⊥) → mover_of e ≡ m → (ends (with_event r e)).units.lines ≡ (ends r).units.lines + 0 → IsTurnOf windowed lines width r (ends r) (wish_in types r) (movers_in types r) (next_pick picks r) e
        → InWindow types windowed lines (with_event r e)
    moved m other is count turn =
        let from = w.from in
        record {
          start = w.start;
          from = omega (arith, count, from);
          inner = w.inner;
          first = λ seam q less. absurd (
              let none = w.first seam (omega (arith, count, q)) less in
              elim (other-turn types windowed lines width r (next_pick picks r) e m other turn is) [
                | inl due ↦ due none.2
                | inr rest ↦ elim rest [ inl wish ↦ wish none.1 | inr pick ↦ none-picked (movers_in types r) (next_pick picks r) m pick none.0 ]
              ]);
        }

    by : (m : Mover) → mover_of e ≡ m → (ends (with_event r e)).units.lines ≡ (ends r).units.lines + lines_by (mover_of e)
        → IsTurnOf windowed lines width r (ends r) (wish_in types r) (movers_in types r) (next_pick picks r) e → InWindow types windowed lines (with_event r e)
    by OfLine is count turn =
        (let from = w.from in
        let one : (ends (with_event r e)).units.lines ≡ (ends r).units.lines + 1 = count ∙ ap (λ (m : Mover). (ends r).units.lines + lines_by m) is in
        record {
          start = w.start;
          from = omega (arith, one, from);
          inner = w.inner;
          first = λ seam q less. absurd (omega (arith, one, from, q));
        })
    by (OfUnit u) is count turn = moved (OfUnit u) (λ q. absurd cc) is (count ∙ ap (λ (m : Mover). (ends r).units.lines + lines_by m) is) turn
    by OfSettler is count turn = moved OfSettler (λ q. absurd cc) is (count ∙ ap (λ (m : Mover). (ends r).units.lines + lines_by m) is) turn
    by (OfWant u) is count turn = moved (OfWant u) (λ q. absurd cc) is (count ∙ ap (λ (m : Mover). (ends r).units.lines + lines_by m) is) turn
    by OfLoad is count turn = moved OfLoad (λ q. absurd cc) is (count ∙ ap (λ (m : Mover). (ends r).units.lines + lines_by m) is) turn

-- ---- where a window begins

-- an input without windows is one
pub plain : (types : ProgramTree) (lines : ℕ) (r : Run) → InWindow types false lines r
plain types lines r = record { start = 0; from = omega arith; inner = λ n low high. refl; first = λ seam q less. absurd (true≢false (sym seam)) }

-- no window ends within the 4096 lines behind another one's end
inside : (s n : ℕ) → s % 4096 ≡ 0 → s < n → n < s + 4096 → eqb (n % 4096) 0 ≡ false
inside s n z low high = elim (cases_Bool (eqb (n % 4096) 0)) [
  | inr fails ↦ fails
  | inl holds ↦ absurd (let q : n % 4096 ≡ 0 = eqb-true _ _ holds in omega (arith, q, z, low, high))
]

-- where a window ended and nobody goes on the next one begins
pub begins-window : (types : ProgramTree) (lines : ℕ) (r : Run) → (ends r).units.lines % window_lines ≡ 0 → lines ≤ (ends r).units.lines + window_lines → NobodyGoes types r
    → InWindow types true lines r
begins-window types lines r whole few none = record {
  start = (ends r).units.lines;
  from = omega arith;
  inner = λ n low high. inside (ends r).units.lines n whole low (omega (arith, high, few));
  first = λ seam q less. none;
}

-- in a run without events nobody can move or wants a grain
pub nobody-fresh : (types : ProgramTree) (r : Run) → r.events ≡ [] → NobodyGoes types r
nobody-fresh types r none = subst (λ (l : List CoreEvent). NobodyGoes types (record r { events = l })) (sym none) (fresh, wish, none-due (begins r) refl)
  where
    no_units : (n : ℕ) → n - n ≡ 0
    no_units n = omega arith

    wish : wish_in types (record r { events = [] }) ≡ None
    wish = ap (λ (n : ℕ). next_wish (begins r) (units_from n r.base) (lock_asked types (begins r) (λ u. [])) 0) (no_units r.base)

    fresh : movers_in types (record r { events = [] }) ≡ []
    fresh = ap (λ (n : ℕ). map OfUnit (filter (can_move types (begins r) (λ u. [])) (units_from n r.base)) ++ (if has_step (settler_step (begins r)) then OfSettler ∷ [] else [])) (no_units r.base)

-- so the first window of a run begins there
pub begins-fresh : (types : ProgramTree) (windowed : Bool) (lines : ℕ) (r : Run) → r.events ≡ [] → (windowed ≡ true → lines ≤ window_lines) → InWindow types windowed lines r
begins-fresh types false lines r none few = plain types lines r
begins-fresh types true lines r none few =
    let zero_lines : (ends r).units.lines ≡ 0 = ap (λ (l : List CoreEvent). (run (begins r) l).units.lines) none in
    let le : lines ≤ window_lines = few refl in
    begins-window types lines r (ap (λ (n : ℕ). n % 4096) zero_lines) (omega (arith, zero_lines, le)) (nobody-fresh types r none)

-- ---- an input of one window

-- the front of a list with one item more
next-front : {A : Type 0} (xs : List A) (at : ℕ) → ((x : A) × (slice_get xs at ≡ Some x) × (take (suc at) xs ≡ take at xs ++ (x ∷ []))) ⊎ (take (suc at) xs ≡ take at xs)
next-front [] zero = inr refl
next-front [] (suc at) = inr refl
next-front (x ∷ xs) zero = inl (x, refl, refl)
next-front (x ∷ xs) (suc at) = elim (next-front xs at) [
  | inl p ↦ inl (p.0, p.1, ap (λ (l : List _). x ∷ l) p.2)
  | inr p ↦ inr (ap (λ (l : List _). x ∷ l) p)
]

-- a first part of the run
abbrev front_of : Run → List CoreEvent → Run
front_of r events = record r { events = events }

module _ (types : ProgramTree) (lines width : ℕ) (picks : List ℕ) (r : Run) (few : lines ≤ window_lines) where
  -- a line begins behind these events
  abbrev begins_line : Bool → List CoreEvent → Bool
  begins_line windowed es = line_can_begin windowed width lines r (run (begins r) es) (and_wish (wish_in types (front_of r es)) (movers types r (run (begins r) es) (got_from (begins r) es)))

  -- within the first window it is the same with windows and without
  same-test : (windowed : Bool) (es : List CoreEvent) → InWindow types true lines (front_of r es) → begins_line windowed es ≡ begins_line true es
  same-test true es w = refl
  same-test false es w = tests types false width lines (front_of r es) (plain types lines (front_of r es)) ∙ sym (tests types true width lines (front_of r es) w)

  -- the pick behind these events
  abbrev pick_behind : List CoreEvent → ℕ
  pick_behind es = get_or picks (count_by (λ x. takes_pick (mover_of x)) (applied_from (begins r) es)) 0

  -- whose turn it is behind them
  abbrev TurnBehind : Bool → List CoreEvent → ℕ → CoreEvent → Type 0
  TurnBehind windowed es pick e = IsTurnOf windowed lines width r (run (begins r) es) (wish_in types (front_of r es)) (movers types r (run (begins r) es) (got_from (begins r) es)) pick e

  -- with windows or without it is the same turn within the first window
  same-turn : (one other : Bool) (es : List CoreEvent) (pick : ℕ) (e : CoreEvent) → begins_line one es ≡ begins_line other es → TurnBehind one es pick e → TurnBehind other es pick e
  same-turn one other es pick e same t =
      subst (λ (b : Bool). IsTurn b (wish_in types (front_of r es)) (picked (movers types r (run (begins r) es) (got_from (begins r) es)) pick) (run (begins r) es) e) same t

  module _ (windowed : Bool) (keeps : KeepsTurnRule types windowed lines width picks r) where
    -- an event that keeps one rule there keeps the other
    next-turn : (at : ℕ) (e : CoreEvent) → InWindow types true lines (front_of r (take at r.events)) → AppliesAt r at e → TurnBehind true (take at r.events) (pick_behind (take at r.events)) e
    next-turn at e w a = same-turn windowed true (take at r.events) (pick_behind (take at r.events)) e (same-test windowed (take at r.events) w) (keeps at e a)

    -- so each first part of the run is within the first window
    all-within : (at : ℕ) → InWindow types true lines (front_of r (take at r.events))
    all-within zero = begins-fresh types true lines (front_of r []) refl (λ is. few)
    all-within (suc at) = elim (next-front r.events at) [
      | inr same ↦ subst (λ (l : List CoreEvent). InWindow types true lines (front_of r l)) (sym same) (all-within at)
      | inl p ↦
          let w = all-within at in
          subst (λ (l : List CoreEvent). InWindow types true lines (front_of r l)) (sym p.2)
          (stays types true lines width picks (front_of r (take at r.events)) p.0 w
          (λ a. subst (λ (l : List CoreEvent). TurnBehind true (take at r.events) (pick_behind l) p.0)
          (sym (take-length (take at r.events))) (next-turn at p.0 w (record { there = p.1; applied = a }))))
    ]

    with-windows : KeepsTurnRule types true lines width picks r
    with-windows at e a = next-turn at e (all-within at) a

  without-windows : KeepsTurnRule types true lines width picks r → KeepsTurnRule types false lines width picks r
  without-windows keeps at e a =
      same-turn true false (take at r.events) (pick_behind (take at r.events)) e (sym (same-test false (take at r.events) (all-within true keeps at))) (keeps at e a)

  pub one-window : KeepsTurnRule types true lines width picks r ↔ KeepsTurnRule types false lines width picks r
  one-window = (without-windows, with-windows false)
