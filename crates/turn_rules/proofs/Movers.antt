-- The movers and the lines in flight are those among the units that are looked at; and these stay so.
use Rattle.std.proofs.Common.{◌≡◌, ℕ, suc, ◌+◌, ◌-◌, ◌≤◌, ◌<◌, List, [], ◌∷◌, ◌++◌, length, map, Bool, true, false, ◌⊎◌, inl, inr, refl, sym, ap, ◌∙◌, subst, arith, nat_lt, is_some, is_none}
use Rattle.std.specs.Prelude.{filter, not, ◌&&◌, ◌||◌, if◌then◌else◌}
use Rattle.std.proofs.lemmas.List.Elements.{filter-append}
use Rattle.std.proofs.lemmas.List.Sums.{length-filter}
use Rattle.std.proofs.lemmas.Bool.{and_parts, cond_both, cases_Bool, or_parts, or_from, not-false}
use Rattle.base_types.specs.declared.entries.Entry.{Entry}
use Rattle.cell_model.specs.Locks.{holds_lock, is_hold_of}
use Rattle.cell_model.proofs.Units.{same_unit-true, any-true, any-member, Member-left, Member-append, filter-member}
use Rattle.core_model.specs.CoreState.{UnitNo, GrainId, Call, Origin, Member, same_unit, CoreState}
use Rattle.core_model.specs.declared.effects.Read.{Read}
use Rattle.core_model.specs.declared.phases.Phase.{Phase}
use Rattle.core_model.specs.declared.phases.Phase.TheVariants.{Unborn, Running, Finished, Refused, Ended}
use Rattle.core_model.specs.Tests.{all, is_running, is_over, is_free}
use Rattle.core_model.specs.Changes.{new_unit, swept}
use Rattle.core_model.specs.declared.events.CoreEvent.{CoreEvent}
use Rattle.core_model.specs.declared.events.CoreEvent.TheVariants.{Begin}
use Rattle.base_types.specs.declared.calls.Origin.TheVariants.{Line, Child}
use Rattle.core_model.specs.Events.{applies, can, does, step, is_allowed}
use Rattle.core_model.specs.LegalRuns.{Run, ends}
use Rattle.core_model.specs.Laws.{HoldsNothing}
use Rattle.core_laws.proofs.Basics.{is_running-true}
use Rattle.core_laws.proofs.Replies.{extends-ends}
use Rattle.core_laws.proofs.BatchPrefix.{free-holds}
use Rattle.core_laws.proofs.EventCases.{Change, bad, begin, lock, raise, refuse, finish, end_plain, end_snapshot, release, take_batch, vote, decide_some, decide_none, seal_batch, spoil_batch, doubt_batch, learn, emit, halt_run, want, load, decode}
use Rattle.script_tree.specs.Programs.{ProgramTree}
use Rattle.promise_spec.specs.UnitAnswers.{Got, wanted_by, got_in}
use Rattle.core_model.specs.Settler.{has_step, settler_step}
use Rattle.promise_spec.specs.TurnRule.{OfUnit, OfSettler, can_move, in_flight, is_line, is_settled, is_unhindered, units_of, units_from}
use Rattle.turn_rules.specs.NextEvent.{with_event, is_begin, is_own, movers_in, line_has_place}
use Rattle.turn_rules.specs.UnitFrame.{IsStill}
use Rattle.turn_rules.specs.CarriedUnits.{is_live, is_flying, is_kept, AreKept, movers_of, can_begin_by}
use Rattle.turn_rules.proofs.ListTests.{any-filter, filter-agree, filter-among, filter-stronger, or-left, or-right, some_of}
use Rattle.turn_rules.proofs.Growth.{ends-more}
use Rattle.turn_rules.proofs.Numbers.{next-begun, next-stays, units-below, units-last}
use Rattle.turn_rules.proofs.Frame.{still-event, still-same}
use Rattle.core_laws.proofs.LoadlessKept.{LoadlessKept}

-- ---- movers and lines in flight

-- who can move is to be looked at
pub moves-live : (types : ProgramTree) (w : CoreState) (got : UnitNo → List Got) (u : UnitNo) → can_move types w got u ≡ true → is_kept w u ≡ true
moves-live types w got u e = by (cases_Bool (is_running (w.units.phase u)))
  where
    by : (is_running (w.units.phase u) ≡ true) ⊎ (is_running (w.units.phase u) ≡ false) → is_kept w u ≡ true
    by (inl a) = or-left (is_live w u) (is_flying w u) (or-left (is_running (w.units.phase u)) (is_over (w.units.phase u) && not (is_free w u)) a)
    by (inr a) = or-left (is_live w u) (is_flying w u) (or-right (is_running (w.units.phase u)) (is_over (w.units.phase u) && not (is_free w u)) (over a))
      where
        over : is_running (w.units.phase u) ≡ false → (is_over (w.units.phase u) && not (is_free w u)) ≡ true
        over b = subst (λ (t : Bool). (if t then is_unhindered w u (wanted_by types w u (got u)) else is_over (w.units.phase u) && not (is_free w u)) ≡ true → (is_over (w.units.phase u) && not (is_free w u)) ≡ true) (sym b) (λ h. h) e

-- the movers are those among the units that are looked at
pub movers-kept : (types : ProgramTree) (r : Run) (units : List UnitNo) → AreKept r units → movers_in types r ≡ movers_of types r units
movers-kept types r units kept =
    ap (λ (us : List UnitNo). (if is_some (ends r).manager.doubt then [] else map OfUnit us) ++ (if has_step (settler_step (ends r)) then OfSettler ∷ [] else []))
    (filter-stronger (can_move types (ends r) (got_in r)) (is_kept (ends r)) (moves-live types (ends r) (got_in r)) (units_of r (ends r)) units (sym kept.kept))

-- so are the lines in flight
pub flying-kept : (r : Run) (units : List UnitNo) → AreKept r units → in_flight r (ends r) ≡ length (filter (is_flying (ends r)) units)
flying-kept r units kept =
    sym (length-filter (is_flying (ends r)) (units_of r (ends r)))
    ∙ ap length (filter-stronger (is_flying (ends r)) (is_kept (ends r)) (λ u e. or-right (is_live (ends r) u) (is_flying (ends r) u) e) (units_of r (ends r)) units (sym kept.kept))

-- so is whether a line has a place
pub begins-kept : (width lines : ℕ) (r : Run) (units : List UnitNo) → AreKept r units → line_has_place width lines r ≡ can_begin_by width lines r units
begins-kept width lines r units kept = ap (λ (n : ℕ). is_none (ends r).manager.doubt && (nat_lt n width && nat_lt (ends r).units.lines lines)) (flying-kept r units kept)

-- units that are no more to be looked at may go
pub drop-kept : (r : Run) (units : List UnitNo) (stays : UnitNo → Bool) → ((u : UnitNo) → is_kept (ends r) u ≡ true → stays u ≡ true) → AreKept r units → AreKept r (filter stays units)
drop-kept r units stays weak kept = record {
  kept = filter-among (is_kept (ends r)) stays units (λ u m. weak u) ∙ kept.kept;
  below = λ u m. kept.below u (filter-member stays units u m).0;
}

-- ---- they stay so

-- a unit that doesn't run and is free is left alone by each event
holds-none : (u : UnitNo) (w : CoreState) → HoldsNothing w u → (g : GrainId) → holds_lock u (w.cells.holds g) ≡ true → ⊥
holds-none u w none g e = (let t = any-true (is_hold_of u) (w.cells.holds g) e in none g t.0 t.1 (same_unit-true t.0.unit u t.2))

-- who runs isn't one that doesn't
not-running : (u v : UnitNo) (w : CoreState) → is_running (w.units.phase u) ≡ false → w.units.phase v ≡ Running → same_unit v u ≡ true → ⊥
not-running u v w idle running same =
    let t : true ≡ false = sym (ap is_running running) ∙ ap (λ (x : UnitNo). is_running (w.units.phase x)) (same_unit-true v u same) ∙ idle in cc

-- so no event of its own applies
no-own : (u : UnitNo) (w : CoreState) (e : CoreEvent) (w' : CoreState) → Change w e w' → is_running (w.units.phase u) ≡ false → HoldsNothing w u → is_own u e ≡ true → ⊥
no-own u w e w' (bad line why q) idle none o = (let t : true ≡ false = sym o in cc)
no-own u w e w' (begin (Line n) call plain c) idle none o = (let t : true ≡ false = sym o in cc)
no-own u w e w' (begin (Child p i d) call plain c) idle none o = not-running u p w idle (is_running-true (w.units.phase p) (and_parts (is_running (w.units.phase p)) _ c).0) o
no-own u w e w' (lock v g mode running free first here) idle none o = not-running u v w idle running o
no-own u w e w' (raise v g mode running free held here uncovered) idle none o = not-running u v w idle running o
no-own u w e w' (refuse v g mode why running q) idle none o = not-running u v w idle running o
no-own u w e w' (finish v effect running plain of_call reads alone) idle none o = not-running u v w idle running o
no-own u w e w' (end_plain v effect running plain of_call bare) idle none o = not-running u v w idle running o
no-own u w e w' (end_snapshot v at outcome running plain kids answer) idle none o = not-running u v w idle running o
no-own u w e w' (release v g over held) idle none o =
    holds-none u w none g (subst (λ (x : UnitNo). holds_lock x (w.cells.holds g) ≡ true) (same_unit-true v u o) held)
no-own u w e w' (take_batch n some) idle none o = (let t : true ≡ false = sym o in cc)
no-own u w e w' (vote n g kept b q number un planned fresh) idle none o = (let t : true ≡ false = sym o in cc)
no-own u w e w' (decide_some n b q number un voted some) idle none o = (let t : true ≡ false = sym o in cc)
no-own u w e w' (decide_none n b q number un voted not_one) idle none o = (let t : true ≡ false = sym o in cc)
no-own u w e w' (seal_batch n b ds q number un) idle none o = (let t : true ≡ false = sym o in cc)
no-own u w e w' (spoil_batch n b ds q number un) idle none o = (let t : true ≡ false = sym o in cc)
no-own u w e w' (doubt_batch n b ds q number un) idle none o = (let t : true ≡ false = sym o in cc)
no-own u w e w' (learn v g wrote final fresh) idle none o = (let t : true ≡ false = sym o in cc)
no-own u w e w' (emit q) idle none o = (let t : true ≡ false = sym o in cc)
no-own u w e w' (halt_run q) idle none o = (let t : true ≡ false = sym o in cc)
no-own u w e w' (want v g running free fresh) idle none o = not-running u v w idle running o
no-own u w e w' (load g v state gone wanted) idle none o = (let t : true ≡ false = sym o in cc)

-- and each event leaves it as it was
rest-still : (u : UnitNo) (w : CoreState) (e : CoreEvent) → (is_begin e ≡ true → u ≡ new_unit w → ⊥) → is_running (w.units.phase u) ≡ false → HoldsNothing w u → IsStill u w (step w e)
rest-still u w e new idle none = elim (cases_Bool (is_own u e)) [
  | inl o ↦ cond_both (applies w e) (swept (does w e)) w (IsStill u w)
      (λ a. absurd (no-own u w e (does w e) (decode w e (and_parts (is_allowed w e) (can w e) a).1) idle none o))
      (λ a. still-same u w)
  | inr o ↦ still-event u w e new o
]

-- what locks a unit that is as it was has
pub still-locks : (u : UnitNo) (w w' : CoreState) → IsStill u w w' → (g : GrainId) → holds_lock u (w'.cells.holds g) ≡ holds_lock u (w.cells.holds g)
still-locks u w w' s g = any-filter (is_hold_of u) (w'.cells.holds g) ∙ ap some_of (s.own g) ∙ sym (any-filter (is_hold_of u) (w.cells.holds g))

-- and whether it has any
pub still-free : (u : UnitNo) (w w' : CoreState) → IsStill u w w' → is_free w' u ≡ is_free w u
still-free u w w' s = λ i. all (λ (r : Read). not (still-locks u w w' s r.grain i)) (s.reads i)

-- what is settled stays settled
pub settled-stays : (r : Run) (e : CoreEvent) (u : UnitNo) → is_settled (ends r) u ≡ true → is_settled (ends (with_event r e)) u ≡ true
settled-stays r e u s =
    let t = any-true (λ (x : Entry). same_unit x.unit u) (ends r).manager.settled s in
    let more = (extends-ends r (e ∷ [])).settled in
    any-member (λ (x : Entry). same_unit x.unit u) (ends (with_event r e)).manager.settled t.0
    (subst (Member t.0) (sym more.1) (Member-left t.0 (ends r).manager.settled more.0 t.1)) t.2

-- who isn't looked at has no lock, and doesn't run
idle-free : (w : CoreState) (u : UnitNo) → LoadlessKept w → is_live w u ≡ false → (is_running (w.units.phase u) ≡ false) × (is_free w u ≡ true)
idle-free w u k e =
    let p = or_parts (is_running (w.units.phase u)) (is_over (w.units.phase u) && not (is_free w u)) e in
    (p.0, by (w.units.phase u) refl p.0 p.1)
  where
    over : (t : Bool) → (true && not t) ≡ false → t ≡ true
    over t h = not-false t h

    by : (x : Phase) → w.units.phase u ≡ x → is_running (w.units.phase u) ≡ false → (is_over (w.units.phase u) && not (is_free w u)) ≡ false → is_free w u ≡ true
    by Unborn q a b = ap (λ (l : List Read). all (λ (r : Read). not (holds_lock u (w.cells.holds r.grain))) l) (k.0.blank u q)
    by Running q a b = (let t : true ≡ false = sym (ap is_running q) ∙ a in cc)
    by Finished q a b = over (is_free w u) (subst (λ (x : Phase). (is_over x && not (is_free w u)) ≡ false) q b)
    by Refused q a b = over (is_free w u) (subst (λ (x : Phase). (is_over x && not (is_free w u)) ≡ false) q b)
    by Ended q a b = over (is_free w u) (subst (λ (x : Phase). (is_over x && not (is_free w u)) ≡ false) q b)

-- and isn't looked at after any event
pub gone-stays : (r : Run) (e : CoreEvent) (u : UnitNo) → LoadlessKept (ends r) → (is_begin e ≡ true → u ≡ new_unit (ends r) → ⊥) →
    is_kept (ends (with_event r e)) u ≡ true → is_kept (ends r) u ≡ true
gone-stays r e u k new later = elim (cases_Bool (is_kept (ends r) u)) [
  | inl a ↦ a
  | inr a ↦ (let t : true ≡ false = sym later ∙ stays a in cc)
]
  where
    w : CoreState
    w = ends r

    w' : CoreState
    w' = ends (with_event r e)

    not-line : (l s f : Bool) → (l && (not s || not f)) ≡ false → (l ≡ false) ⊎ ((s ≡ true) × (f ≡ true))
    not-line false s f h = inl refl
    not-line true true true h = inr (refl, refl)
    not-line true true false h = cc
    not-line true false f h = cc

    line-not : (l s f : Bool) → (l ≡ false) ⊎ ((s ≡ true) × (f ≡ true)) → (l && (not s || not f)) ≡ false
    line-not l s f (inl h) = subst (λ (t : Bool). (t && (not s || not f)) ≡ false) (sym h) refl
    line-not l s f (inr h) = subst (λ (t : Bool). (l && (not t || not f)) ≡ false) (sym h.0) (subst (λ (t : Bool). (l && (false || not t)) ≡ false) (sym h.1) (none l))
      where
        none : (l : Bool) → (l && (false || false)) ≡ false
        none true = refl
        none false = refl

    live-not : (a o f : Bool) → a ≡ false → f ≡ true → (a || (o && not f)) ≡ false
    live-not a o f h q = subst (λ (t : Bool). (t || (o && not f)) ≡ false) (sym h) (subst (λ (t : Bool). (o && not t) ≡ false) (sym q) (none o))
      where
        none : (o : Bool) → (o && false) ≡ false
        none true = refl
        none false = refl

    stays : is_kept w u ≡ false → is_kept w' u ≡ false
    stays a =
        let p = or_parts (is_live w u) (is_flying w u) a in
        let q = idle-free w u k p.0 in
        let s : IsStill u w w' = subst (IsStill u w) (sym (ends-more r e)) (rest-still u w e new q.0 (free-holds _ w k.0 u q.1)) in
        let free : is_free w' u ≡ true = still-free u w w' s ∙ q.1 in
        or_from (is_live w' u) (is_flying w' u)
        (live-not (is_running (w'.units.phase u)) (is_over (w'.units.phase u)) (is_free w' u) (ap is_running s.phase ∙ q.0) free)
        (line-not (is_line (w'.units.origin u)) (is_settled w' u) (is_free w' u)
        (elim (not-line (is_line (w.units.origin u)) (is_settled w u) (is_free w u) p.1) [
          | inl l ↦ inl (ap is_line s.origin ∙ l)
          | inr b ↦ inr (settled-stays r e u b.0, free)
        ]))

-- ---- the units that are looked at

-- an event by which no unit begins
pub kept-on : (r : Run) (e : CoreEvent) (units : List UnitNo) → LoadlessKept (ends r) → is_begin e ≡ false → AreKept r units → AreKept (with_event r e) units
kept-on r e units k o kept =
    let same : (ends (with_event r e)).units.next ≡ (ends r).units.next = ap (λ (x : CoreState). x.units.next) (ends-more r e) ∙ next-stays (ends r) e o in
    let weak : (u : UnitNo) → is_kept (ends (with_event r e)) u ≡ true → is_kept (ends r) u ≡ true = λ u later. gone-stays r e u k (λ b. (let t : true ≡ false = sym b ∙ o in cc)) later in
    record {
      kept = filter-stronger (is_kept (ends (with_event r e))) (is_kept (ends r)) weak units (units_of r (ends r)) kept.kept
          ∙ ap (λ (n : ℕ). filter (is_kept (ends (with_event r e))) (units_from (n - r.base) r.base)) (sym same);
      below = λ u m. subst (λ (n : ℕ). u.0 < n) (sym same) (kept.below u m);
    }

-- a unit that begins comes last
pub kept-begun : (r : Run) (origin : Origin) (call : Call) (plain : Bool) (units : List UnitNo) → LoadlessKept (ends r) → r.base ≤ (ends r).units.next →
    applies (ends r) (Begin origin call plain) ≡ true → AreKept r units → AreKept (with_event r (Begin origin call plain)) (units ++ (new_unit (ends r) ∷ []))
kept-begun r origin call plain units k above a kept =
    record {
      kept = filter-append later units (new_unit (ends r) ∷ [])
          ∙ ap (λ (l : List UnitNo). l ++ filter later (new_unit (ends r) ∷ [])) (filter-agree later (is_kept (ends r)) units (units_of r (ends r)) weak kept.kept)
          ∙ sym (filter-append later (units_of r (ends r)) (new_unit (ends r) ∷ []))
          ∙ ap (filter later) (sym all_units);
      below = λ u m. elim (Member-append u units (new_unit (ends r) ∷ []) m) [
        | inl old ↦ (let less = kept.below u old in subst (λ (n : ℕ). u.0 < n) (sym more) (omega (arith, less)))
        | inr new ↦ elim new [
          | inl q ↦ (let e : u.0 ≡ (ends r).units.next = ap (λ (x : UnitNo). x.0) q in subst (λ (n : ℕ). u.0 < n) (sym more) (omega (arith, e)))
          | inr none ↦ absurd none
        ]
      ];
    }
  where
    event : CoreEvent
    event = Begin origin call plain

    later : UnitNo → Bool
    later = is_kept (ends (with_event r (Begin origin call plain)))

    more : (ends (with_event r (Begin origin call plain))).units.next ≡ (ends r).units.next + 1
    more = ap (λ (x : CoreState). x.units.next) (ends-more r (Begin origin call plain)) ∙ next-begun (ends r) origin call plain a

    size : ℕ
    size = (ends r).units.next - r.base

    all_units : units_of (with_event r (Begin origin call plain)) (ends (with_event r (Begin origin call plain))) ≡ units_of r (ends r) ++ (new_unit (ends r) ∷ [])
    all_units =
        let e : (ends r).units.next + 1 - r.base ≡ suc ((ends r).units.next - r.base) = omega (arith, above) in
        let f : r.base + ((ends r).units.next - r.base) ≡ (ends r).units.next = omega (arith, above) in
        ap (λ (n : ℕ). units_from (n - r.base) r.base) more
        ∙ ap (λ (n : ℕ). units_from n r.base) e
        ∙ units-last ((ends r).units.next - r.base) r.base
        ∙ ap (λ (n : ℕ). units_of r (ends r) ++ (record { 0 = n } ∷ [])) f

    weak : (u : UnitNo) → Member u units ⊎ Member u (units_of r (ends r)) → is_kept (ends (with_event r (Begin origin call plain))) u ≡ true → is_kept (ends r) u ≡ true
    weak u m = gone-stays r (Begin origin call plain) u k (λ b q. old u m (ap (λ (x : UnitNo). x.0) q))
      where
        old : (u : UnitNo) → Member u units ⊎ Member u (units_of r (ends r)) → u.0 ≡ (ends r).units.next → ⊥
        old u (inl n) q = (let less = kept.below u n in omega (arith, less, q))
        old u (inr n) q = (let less = units-below ((ends r).units.next - r.base) r.base u n in omega (arith, less, q, above))
