-- Without a mover every line is settled, where nobody waits for a grain to be brought into memory: each wait goes from an older unit to a younger one.
use Rattle.std.proofs.Common.{◌≡◌, ℕ, zero, suc, ◌+◌, ◌-◌, ◌≤◌, ◌<◌, Option, Some, None, List, [], ◌∷◌, length, Bool, true, false, inl, inr, refl, sym, ap, ◌∙◌, subst, arith, nat_lt, is_some, is_none}
use Rattle.std.specs.Prelude.{filter, not, ◌&&◌, ◌||◌, if◌then◌else◌, drop, take}
use Rattle.std.proofs.lemmas.List.{length-drop}
use Rattle.std.proofs.lemmas.List.Sums.{length-filter}
use Rattle.std.proofs.lemmas.Bool.{and_from, and_cases, cases_Bool, cases_lt, not-false, ltb-false, lt-ltb}
use Rattle.base_types.specs.declared.calls.Origin.TheVariants.{Line, Child}
use Rattle.base_types.specs.declared.calls.Outcome.TheVariants.{Aborted as Aborts}
use Rattle.base_types.specs.declared.entries.Entry.{Entry}
use Rattle.cell_model.specs.Locks.{holds_lock}
use Rattle.cell_model.proofs.Units.{same_unit-is, any-member}
use Rattle.core_model.specs.CoreState.{UnitNo, GrainId, Hold, Origin, Outcome, Member, same_unit, CoreState}
use Rattle.core_model.specs.declared.effects.Read.{Read}
use Rattle.core_model.specs.declared.phases.Phase.{Phase}
use Rattle.core_model.specs.declared.phases.Phase.TheVariants.{Unborn, Running, Finished, Refused, Ended}
use Rattle.core_model.specs.Tests.{all, is_running, is_over, is_free, is_final, outcome_of, outcome_in, waiting, free_prefix}
use Rattle.core_model.specs.declared.events.CoreEvent.TheVariants.{Take}
use Rattle.core_model.specs.Events.{applies, is_allowed, batch_size}
use Rattle.core_model.specs.LegalRuns.{Run, ends}
use Rattle.core_model.specs.Laws.{HoldsNothing}
use Rattle.core_model.specs.SerialOrder.{batch_begin}
use Rattle.core_model.specs.Lines.{IsSettled}
use Rattle.core_laws.proofs.Basics.{is_final-cases}
use Rattle.core_laws.proofs.Orders.{in_drop, Member-at}
use Rattle.core_laws.proofs.LineEntries.{once-ends}
use Rattle.core_laws.proofs.BatchPrefix.{free-holds, unfree-holds}
use Rattle.script_tree.specs.Programs.{ProgramTree}
use Rattle.promise_spec.specs.UnitAnswers.{Got, wanted_by, got_in, kids_got}
use Rattle.core_model.specs.Settler.{has_step, settler_step}
use Rattle.promise_spec.specs.TurnRule.{OfSettler, can_move, in_flight, is_line, is_settled, is_unhindered, units_of}
use Rattle.turn_rules.specs.NextEvent.{movers_in, line_has_place, NobodyWaitsForLoad}
use Rattle.turn_rules.specs.RunCounts.{IsCounted, HasEntry}
use Rattle.turn_rules.specs.QuietRun.{IsQuiet, HasRun}
use Rattle.turn_rules.proofs.SettlerRest.{Rested, no-doubt-list, no-step, rested}
use Rattle.turn_rules.proofs.RunCounts.{counted-ends}
use Rattle.turn_rules.proofs.ListTests.{filter-none, none-passes}
use Rattle.turn_rules.proofs.Numbers.{units-member, units-within}
use Rattle.turn_rules.proofs.Waits.{waiting-cases}
use Rattle.core_laws.proofs.LoadlessKept.{LoadlessKept, loadless-ends}
use Rattle.core_laws.proofs.LoadlessRuns.{prefix-ends, children-ends}

-- ---- all is settled

-- without a doubt or a stop each event is allowed
allowed : (d : Option ℕ) (h : Bool) → d ≡ None → h ≡ false → ((is_none d || false) && (not h || false)) ≡ true
allowed d h p q = subst (λ (o : Option ℕ). ((is_none o || false) && (not h || false)) ≡ true) (sym p) (subst (λ (b : Bool). (not b || false) ≡ true) (sym q) refl)

-- a batch can be taken where units wait for one
take-applies : (w : CoreState) → w.manager.doubt ≡ None → w.units.halt ≡ false → w.manager.batch ≡ None → 0 < batch_size w → applies w Take ≡ true
take-applies w d h n size =
    and_from (is_allowed w Take) (is_none w.manager.batch && nat_lt 0 (batch_size w)) (allowed w.manager.doubt w.units.halt d h)
    (and_from (is_none w.manager.batch) (nat_lt 0 (batch_size w)) (ap is_none n) (lt-ltb 0 (batch_size w) size))

-- who is over and can't move has no lock
over-moves : (types : ProgramTree) (w : CoreState) (got : UnitNo → List Got) (u : UnitNo) → is_over (w.units.phase u) ≡ true → is_running (w.units.phase u) ≡ false → can_move types w got u ≡ false → is_free w u ≡ true
over-moves types w got u o n c = not-false (is_free w u) (subst (λ (t : Bool). (t && not (is_free w u)) ≡ false) o
    (subst (λ (t : Bool). (if t then is_unhindered w u (wanted_by types w u (got u)) else is_over (w.units.phase u) && not (is_free w u)) ≡ false) n c))

-- who runs and can't move waits
runs-moves : (types : ProgramTree) (w : CoreState) (got : UnitNo → List Got) (u : UnitNo) → w.units.phase u ≡ Running → can_move types w got u ≡ false → is_unhindered w u (wanted_by types w u (got u)) ≡ false
runs-moves types w got u q c =
    subst (λ (t : Bool). (if t then is_unhindered w u (wanted_by types w u (got u)) else is_over (w.units.phase u) && not (is_free w u)) ≡ false) (ap is_running q) c

-- a free unit is the first of a batch
first-free : (w : CoreState) (x : UnitNo) (xs : List UnitNo) → is_free w x ≡ true → 0 < free_prefix w (x ∷ xs)
first-free w x xs e = subst (λ (t : Bool). 0 < (if t then free_prefix w xs + 1 else 0)) (sym e) (omega arith)

module _ (types : ProgramTree) (r : Run) (above : 0 < r.base)
    (kids : (u : UnitNo) → kids_got (got_in r u) ≡ (ends r).units.kids u)
    (numbered : (u : UnitNo) → ((ends r).units.phase u ≡ Unborn → ⊥) → r.base ≤ u.0)
    (born : (u : UnitNo) → r.base ≤ u.0 → u.0 < (ends r).units.next → (ends r).units.phase u ≡ Unborn → ⊥)
    (doubt : (ends r).manager.doubt ≡ None) (halt : (ends r).units.halt ≡ false) (calm : NobodyWaitsForLoad types r) (none : movers_in types r ≡ []) where
  kept : LoadlessKept (ends r)
  kept = loadless-ends r above

  parted : (filter (can_move types (ends r) (got_in r)) (units_of r (ends r)) ≡ []) × ((if has_step (settler_step (ends r)) then OfSettler ∷ [] else []) ≡ [])
  parted = no-doubt-list (ends r) (filter (can_move types (ends r) (got_in r)) (units_of r (ends r))) (if has_step (settler_step (ends r)) then OfSettler ∷ [] else []) doubt none

  rest : Rested (ends r)
  rest = rested (ends r) (ap is_some doubt) (no-step (settler_step (ends r)) parted.1)

  below : (u : UnitNo) → ((ends r).units.phase u ≡ Unborn → ⊥) → u.0 < (ends r).units.next
  below u b = elim (cases_lt u.0 (ends r).units.next) [ inl less ↦ less | inr le ↦ absurd (b (kept.0.unborn u le)) ]

  idle : (u : UnitNo) → ((ends r).units.phase u ≡ Unborn → ⊥) → can_move types (ends r) (got_in r) u ≡ false
  idle u b =
      let low = numbered u b in
      let high = below u b in
      none-passes (can_move types (ends r) (got_in r)) (units_of r (ends r)) parted.0 u (units-member ((ends r).units.next - r.base) r.base u low (omega (arith, low, high)))

  not-unborn : (p : Phase) (u : UnitNo) → (ends r).units.phase u ≡ p → (p ≡ Unborn → ⊥) → (ends r).units.phase u ≡ Unborn → ⊥
  not-unborn p u q n e = n (sym q ∙ e)

  over-free : (u : UnitNo) (p : Phase) → (ends r).units.phase u ≡ p → is_over p ≡ true → is_running p ≡ false → (p ≡ Unborn → ⊥) → is_free (ends r) u ≡ true
  over-free u p q o n b = over-moves types (ends r) (got_in r) u (ap is_over q ∙ o) (ap is_running q ∙ n) (idle u (not-unborn p u q b))

  finished-free : (u : UnitNo) → (ends r).units.phase u ≡ Finished → is_free (ends r) u ≡ true
  finished-free u q = over-free u Finished q refl refl (λ e. absurd cc)

  empties : (u : UnitNo) → is_free (ends r) u ≡ true → HoldsNothing (ends r) u
  empties u f = free-holds _ (ends r) kept.0 u f

  no-waiting : waiting (ends r) ≡ []
  no-waiting = by (waiting (ends r)) refl
    where
      by : (us : List UnitNo) → waiting (ends r) ≡ us → waiting (ends r) ≡ []
      by [] q = q
      by (x ∷ us) q =
          let f = in_drop _ (ends r) kept.0 (ends r).manager.closed x (subst (Member x) (sym q) (inl refl)) in
          let size : 0 < batch_size (ends r) = subst (λ (l : List UnitNo). 0 < free_prefix (ends r) (take 64 l)) (sym q) (first-free (ends r) x (take 63 us) (finished-free x f.0)) in
          let t : true ≡ false = sym (take-applies (ends r) doubt halt rest.none size) ∙ rest.untaken in absurd cc

  all-closed : (u : UnitNo) → (ends r).units.phase u ≡ Finished → (ends r).manager.place u ≤ (ends r).manager.closed
  all-closed u q =
      let p = kept.0.placed u q in
      let size : length (drop (ends r).manager.closed (ends r).manager.order) ≡ 0 = ap length no-waiting in
      let less = p.1 in let place = p.2 in
      let l : length (drop (ends r).manager.closed (ends r).manager.order) ≡ length (ends r).manager.order - (ends r).manager.closed = length-drop (ends r).manager.closed (ends r).manager.order in
      omega (arith, less, place, size, l)

  known : (u : UnitNo) (p : Phase) → (ends r).units.phase u ≡ p → (p ≡ Unborn → ⊥) → (p ≡ Running → ⊥) → (o : Outcome) × (outcome_of (ends r) u ≡ Some o)
  known u Unborn q b n = absurd (b refl)
  known u Running q b n = absurd (n refl)
  known u Refused q b n = (Aborts, ap (λ (p : Phase). outcome_in p ((ends r).manager.verdict u) ((ends r).manager.result u)) q)
  known u Ended q b n = ((ends r).manager.result u, ap (λ (p : Phase). outcome_in p ((ends r).manager.verdict u) ((ends r).manager.result u)) q)
  known u Finished q b n =
      elim (is_final-cases ((ends r).manager.verdict u) (final u q)) [
        | inl c ↦ ((ends r).manager.result u, (λ i. outcome_in (q i) (c i) ((ends r).manager.result u)))
        | inr a ↦ (Aborts, (λ i. outcome_in (q i) (a i) ((ends r).manager.result u)))
      ]
    where
      final : (u : UnitNo) → (ends r).units.phase u ≡ Finished → is_final ((ends r).manager.verdict u) ≡ true
      final u q = (prefix-ends r above).decided u q
          (subst (λ (o : Option ℕ). (ends r).manager.place u ≤ batch_begin o (ends r).manager.closed) (sym doubt) (all-closed u q))

  unborn-free : (u : UnitNo) → (ends r).units.phase u ≡ Unborn → is_free (ends r) u ≡ true
  unborn-free u q = ap (λ (l : List Read). all (λ (x : Read). not (holds_lock u ((ends r).cells.holds x.grain))) l) (kept.0.blank u q)

  still : (n : ℕ) (u : UnitNo) → (ends r).units.next ≤ u.0 + n → (ends r).units.phase u ≡ Running → ⊥
  still zero u le q = (let t : Unborn ≡ Running = sym (kept.0.unborn u (omega (arith, le))) ∙ q in absurd cc)
  still (suc n) u le q = elim (waiting-cases types (ends r) u (got_in r u) (runs-moves types (ends r) (got_in r) u q (idle u (not-unborn Running u q (λ e. absurd cc)))) (calm u)) [
    | inl t ↦ holder t.0 t.1 t.2 (λ run. still n t.0.unit (let less = t.3 in omega (arith, le, less)) run) ((ends r).units.phase t.0.unit) refl
    | inr t ↦
        let m : Member t.0 ((ends r).units.kids u) = subst (Member t.0) (kids u) t.1 in
        let less = (children-ends r above).younger u t.0 m in
        child t.0 (kid-born u t.0 m) t.2 (λ run. still n t.0 (omega (arith, le, less)) run)
  ]
    where
      holder : (h : Hold) (g : GrainId) → Member h ((ends r).cells.holds g) → ((ends r).units.phase h.unit ≡ Running → ⊥) → (p : Phase) → (ends r).units.phase h.unit ≡ p → ⊥
      holder h g m n Unborn e = empties h.unit (unborn-free h.unit e) g h m refl
      holder h g m n Running e = n e
      holder h g m n Finished e = empties h.unit (finished-free h.unit e) g h m refl
      holder h g m n Refused e = empties h.unit (over-free h.unit Refused e refl refl (λ q. absurd cc)) g h m refl
      holder h g m n Ended e = empties h.unit (over-free h.unit Ended e refl refl (λ q. absurd cc)) g h m refl

      child : (c : UnitNo) → ((ends r).units.phase c ≡ Unborn → ⊥) → outcome_of (ends r) c ≡ None → ((ends r).units.phase c ≡ Running → ⊥) → ⊥
      child c b o n = (let t = known c ((ends r).units.phase c) refl b n in let z : Some t.0 ≡ None = sym t.1 ∙ o in absurd cc)

      kid-born : (u c : UnitNo) → Member c ((ends r).units.kids u) → (ends r).units.phase c ≡ Unborn → ⊥
      kid-born u c m =
          let at = Member-at c ((ends r).units.kids u) m in
          let o = (children-ends r above).origin u at.0 at.1 in
          subst (λ (x : UnitNo). (ends r).units.phase x ≡ Unborn → ⊥) at.2 o.2

  no-runner : (u : UnitNo) → (ends r).units.phase u ≡ Running → ⊥
  no-runner u q = still (ends r).units.next u (omega arith) q

  pub all-quiet : IsQuiet (ends r)
  all-quiet = record {
    settled = λ u b. settled u ((ends r).units.phase u) refl b;
    free = λ u. empties u (free u ((ends r).units.phase u) refl);
    none = rest.none;
    written = rest.written;
  }
    where
      settled : (u : UnitNo) (p : Phase) → (ends r).units.phase u ≡ p → ((ends r).units.phase u ≡ Unborn → ⊥) → IsSettled (ends r) u
      settled u Unborn q b = absurd (b q)
      settled u Running q b = absurd (no-runner u q)
      settled u Refused q b = inl q
      settled u Ended q b = inr (inl q)
      settled u Finished q b = inr (inr (q, all-closed u q))

      free : (u : UnitNo) (p : Phase) → (ends r).units.phase u ≡ p → is_free (ends r) u ≡ true
      free u Unborn q = unborn-free u q
      free u Running q = absurd (no-runner u q)
      free u Refused q = over-free u Refused q refl refl (λ e. absurd cc)
      free u Ended q = over-free u Ended q refl refl (λ e. absurd cc)
      free u Finished q = finished-free u q

-- ---- each line has its entry

-- Where nobody moves or waits for a grain to be brought into memory, and no line can begin, all is quiet and each line has its entry.
pub without-mover : (types : ProgramTree) (r : Run) (width count : ℕ) → 0 < r.base → (ends r).manager.doubt ≡ None → (ends r).units.halt ≡ false → NobodyWaitsForLoad types r → movers_in types r ≡ [] →
    0 < width → line_has_place width count r ≡ false → HasRun count (ends r)
without-mover types r width count above doubt halt calm none some over = record { quiet = quiet; answered = answered }
  where
    counted : IsCounted r.base (ends r) (got_in r)
    counted = counted-ends r above

    quiet : IsQuiet (ends r)
    quiet = all-quiet types r above (counted-ends r above).kids (counted-ends r above).numbered (counted-ends r above).born doubt halt calm none

    entry : (u : UnitNo) (n : ℕ) → ((ends r).units.phase u ≡ Unborn → ⊥) → (ends r).units.origin u ≡ Line n → (x : Entry) × Member x (ends r).manager.settled × (x.unit ≡ u) × (x.line ≡ n)
    entry u n b o = (once-ends r above).complete u n (b, o) (quiet.settled u b)

    settled-line : (u : UnitNo) → ((ends r).units.phase u ≡ Unborn → ⊥) → (o : Origin) → (ends r).units.origin u ≡ o → is_free (ends r) u ≡ true → (is_line o && (not (is_settled (ends r) u) || not (is_free (ends r) u))) ≡ false
    settled-line u b (Child p i d) q f = refl
    settled-line u b (Line n) q f =
        let t = entry u n b q in
        let s : is_settled (ends r) u ≡ true = any-member (λ (x : Entry). same_unit x.unit u) (ends r).manager.settled t.0 t.1 (same_unit-is t.0.unit u t.2) in
        subst (λ (z : Bool). (not z || not (is_free (ends r) u)) ≡ false) (sym s) (ap not f)

    free : (u : UnitNo) → is_free (ends r) u ≡ true
    free u = elim (cases_Bool (is_free (ends r) u)) [
      | inl a ↦ a
      | inr a ↦ (let t = unfree-holds (ends r) u a in absurd (quiet.free u t.0 t.1.0 t.1.1 t.1.2))
    ]

    landed : (u : UnitNo) → Member u (units_of r (ends r)) → (is_line ((ends r).units.origin u) && (not (is_settled (ends r) u) || not (is_free (ends r) u))) ≡ false
    landed u m =
        let t = units-within ((ends r).units.next - r.base) r.base u m in
        let a = counted.above in
        settled-line u (counted.born u t.0 (let less = t.1 in omega (arith, less, a))) ((ends r).units.origin u) refl (free u)

    none_fly : in_flight r (ends r) ≡ 0
    none_fly =
        sym (length-filter (λ u. is_line ((ends r).units.origin u) && (not (is_settled (ends r) u) || not (is_free (ends r) u))) (units_of r (ends r)))
        ∙ ap length (filter-none (λ u. is_line ((ends r).units.origin u) && (not (is_settled (ends r) u) || not (is_free (ends r) u))) (units_of r (ends r)) landed)

    all_taken : count ≤ (ends r).units.lines
    all_taken = elim (and_cases (is_none (ends r).manager.doubt) (nat_lt (in_flight r (ends r)) width && nat_lt (ends r).units.lines count) over) [
      | inl a ↦ (let t : true ≡ false = sym (ap is_none doubt) ∙ a in cc)
      | inr b ↦ elim (and_cases (nat_lt (in_flight r (ends r)) width) (nat_lt (ends r).units.lines count) b) [
        | inl a ↦ (let le = ltb-false (in_flight r (ends r)) width a in let z = none_fly in absurd (omega (arith, le, z, some)))
        | inr c ↦ ltb-false (ends r).units.lines count c
      ]
    ]

    answered : (n : ℕ) → 1 ≤ n → n ≤ count → HasEntry (ends r) n
    answered n one le = elim (counted.taken n one (let t = all_taken in omega (arith, le, t))) [
      | inl t ↦ (let x = entry t.0 n t.1 t.2 in (x.0, x.1, x.3))
      | inr t ↦ t
    ]
