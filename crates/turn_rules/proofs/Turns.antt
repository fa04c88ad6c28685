-- One turn of the loop: the pass of wishes and loads, and then a line or the mover at the pick.
use Rattle.std.proofs.Common.{◌≡◌, ◌⊎◌, inl, inr, ℕ, ◌+◌, ◌-◌, ◌<◌, ◌≤◌, Option, Some, None, List, [], length, get_or, Bool, true, false, true≢false, refl, sym, ap, ◌∙◌, subst, arith, is_some}
use Rattle.std.specs.Prelude.{filter, take, slice_get, count_by}
use Rattle.std.proofs.lemmas.Bool.{cases_Bool, cases_lt}
use Rattle.base_types.specs.declared.calls.Origin.TheVariants.{Line, Child}
use Rattle.core_model.specs.CoreState.{UnitNo, GrainId, Call, Mode, Member, CoreState}
use Rattle.core_model.specs.declared.events.CoreEvent.{CoreEvent}
use Rattle.core_model.specs.declared.events.CoreEvent.TheVariants.{Begin, Halt, Want}
use Rattle.core_model.specs.Changes.{new_unit}
use Rattle.core_model.specs.Events.{applies, can, run, step}
use Rattle.core_model.specs.LegalRuns.{Run, begins, ends}
use Rattle.core_model.specs.Tests.{is_running}
use Rattle.core_model.specs.WantedGrains.{next_wanted}
use Rattle.core_laws.proofs.Replies.{no-change}
use Rattle.promise_spec.specs.Cores.{applied_from, applied_in}
use Rattle.promise_spec.specs.UnitAnswers.{got_in}
use Rattle.promise_spec.specs.UnitRule.{Basis}
use Rattle.promise_spec.specs.Windows.{window_lines}
use Rattle.core_model.specs.Settler.{IsLoadOf, MakesEvent, settler_step}
use Rattle.promise_spec.specs.TurnRule.{Mover, OfLine, OfWant, OfLoad, OfUnit, OfSettler, IsMadeBy, LoadsWanted, can_move, lock_asked, mover_of, passed, passed_by, picked, takes_pick, units_from, units_of, waits_for_load}
use Rattle.turn_rules.specs.NextEvent.{with_event, is_begin, MayCome, IsNext, NobodyGoes, NobodyWaitsForLoad, movers_in, next_pick, wish_in}
use Rattle.turn_rules.specs.CarriedUnits.{AreKept, movers_of, is_kept}
use Rattle.turn_rules.specs.QuietRun.{HasRun}
use Rattle.turn_rules.specs.Windows.{InWindow}
use Rattle.turn_rules.specs.TurnLoop.{TurnLoop, HasWished, IsPassing, IsPicked, IsThrough, IsTurning, MissesOnly, has_room, no_pass, passed_on, turned, waits_in, with_new}
use Rattle.turn_rules.proofs.Movers.{begins-kept, drop-kept, kept-begun, kept-on, movers-kept}
use Rattle.turn_rules.proofs.RunCounts.{counted-ends}
use Rattle.turn_rules.proofs.Growth.{ends-more, turn-grows, unit-grows}
use Rattle.turn_rules.proofs.WithinWindows.{tests, stays, begins-fresh}
use Rattle.turn_rules.proofs.Settlers.{going-by, settlers, settlers-due, settlers-go}
use Rattle.turn_rules.proofs.Numbers.{older-filter, older-last, units-within}
use Rattle.turn_rules.proofs.Picks.{used-none, used-one, used-unapplied}
use Rattle.turn_rules.proofs.WaitOrder.{without-mover}
use Rattle.turn_rules.proofs.WantedHere.{load-misses, no-load-step, none-step, wish-misses}
use Rattle.turn_rules.proofs.TurnChoices.{begins_line, doubt-wish, line-turn, load-turn, none-due, none-wish, picked-turn, some-due, some-wish, wish-turn}
use Rattle.turn_rules.proofs.Passes.{asks-moves, ends-pass, is_pass, load-brings, moves_pass, no-pass, nobody-moves, pass-asked, pass-holds, pass-runs, passed-on, passed-still, still-got, there-had, waiting-carried, waits-free, waits-run}
use Rattle.core_laws.proofs.LoadlessKept.{LoadlessKept, loadless-ends}

-- ---- the turns

module _ (l : TurnLoop) (t : IsTurning l) where
  held : LoadlessKept (ends l.run)
  held = loadless-ends l.run t.first

  -- a mover's event is no stop, where a stop isn't the mover's
  no_stop : (e : CoreEvent) (m : Mover) → mover_of e ≡ m → (OfSettler ≡ m → ⊥) → e ≡ Halt → ⊥
  no_stop e m is other q = other (sym (ap mover_of q) ∙ is)

  -- where the run is of turns alone, a line can begin where there is room
  can-begin : l.ruled ≡ true → begins_line l.basis.types l.windowed (length l.basis.lines) l.width l.run ≡ has_room l
  can-begin ruled = tests l.basis.types l.windowed l.width (length l.basis.lines) l.run (t.within ruled) ∙ begins-kept l.width (length l.basis.lines) l.run l.units t.kept

  -- and it stays within its window by an event that keeps the turn rule
  window-stays : (e : CoreEvent) → (l.ruled ≡ true → IsNext l.basis.types l.windowed (length l.basis.lines) l.width l.picks l.run e) → l.ruled ≡ true → InWindow l.basis.types l.windowed (length l.basis.lines) (with_event l.run e)
  window-stays e next ruled = stays l.basis.types l.windowed (length l.basis.lines) l.width l.picks l.run e (t.within ruled) (next ruled)

  -- none is missing, where none is due
  missing-none : l.pass.due ≡ None → next_wanted (ends l.run) ≡ None
  missing-none none = subst (λ (o : Option GrainId). MissesOnly o (ends l.run)) none t.passing.missing

  -- behind an event that ends the pass none has begun
  before-pass : (e : CoreEvent) → l.pass.due ≡ None → is_pass e ≡ false → applies (ends l.run) e ≡ true → IsPassing l.basis.types l.ruled (with_event l.run e) no_pass
  before-pass e none plain a = record {
    missing = subst (λ (w : CoreState). next_wanted w ≡ None) (sym (ends-more l.run e)) (none-step (ends l.run) e (ends-pass e plain).0 (missing-none none));
    asked = λ u low high. absurd (omega (arith, high));
    wished = inl refl;
    after = omega arith;
    still = λ some. absurd (true≢false (sym some));
    reached = λ ruled. passed-on l.run e a ∙ (ends-pass e plain).1 (passed (applied_in l.run));
  }

  -- ---- the pass

  -- a unit that waits for its grain is carried, and isn't one that the pass has asked
  waiting : (u : UnitNo) → waits_in l.basis.types l.run u ≡ true → Member u l.units × (l.run.base ≤ u.0) × (u.0 < (ends l.run).units.next)
  waiting u waits = waiting-carried l.basis.types l.run l.units t.first t.kept u waits

  calm : (n : ℕ) → ((u : UnitNo) → Member u l.units → l.pass.before ≤ u.0 → u.0 < n → waits_in l.basis.types l.run u ≡ false) → (u : UnitNo) → l.pass.last ≤ u.0 → u.0 < n → waits_in l.basis.types l.run u ≡ false
  calm n more u low high = elim (cases_Bool (waits_in l.basis.types l.run u)) [
    | inr free ↦ free
    | inl waits ↦ elim (cases_lt u.0 l.pass.before) [
      | inl less ↦ t.passing.asked u low less
      | inr le ↦ more u (waiting u waits).0 le high
    ]
  ]

  -- units of it were asked, and wait for none
  pub pass-looks : (n : ℕ) → l.pass.due ≡ None → l.pass.before ≤ n → ((u : UnitNo) → Member u l.units → l.pass.before ≤ u.0 → u.0 < n → waits_in l.basis.types l.run u ≡ false)
      → IsTurning (record l { pass = record l.pass { before = n } })
  pass-looks n none more calm_ones = record {
    first = t.first;
    passing = record {
      missing = t.passing.missing;
      asked = calm n calm_ones;
      wished = t.passing.wished;
      after = (let a = t.passing.after in omega (arith, a, more));
      still = λ some. absurd (true≢false (sym some ∙ ap is_some none));
      reached = t.passing.reached;
    };
    unit_rule = t.unit_rule;
    unstopped = t.unstopped;
    turn_rule = t.turn_rule;
    within = t.within;
    kept = t.kept;
    older = t.older;
    count = t.count;
  }

  -- a unit that waits for its grain wants it
  pub pass-wishes : (u : UnitNo) (g : GrainId) (mode : Mode) → has_room l ≡ false → (ends l.run).manager.doubt ≡ None → l.pass.due ≡ None → l.pass.before ≤ u.0
      → ((v : UnitNo) → Member v l.units → l.pass.before ≤ v.0 → v.0 < u.0 → waits_in l.basis.types l.run v ≡ false)
      → lock_asked l.basis.types (ends l.run) (got_in l.run) u ≡ Some (g, mode) → waits_in l.basis.types l.run u ≡ true → MayCome l.basis l.run (Want u g) → applies (ends l.run) (Want u g) ≡ true
      → IsTurning (passed_on l (Want u g) (record { before = u.0 + 1; last = u.0 + 1; due = Some g }))
  pass-wishes u g mode cannot sure none from between asks waits may a =
      let free = waits-free l.run u g mode (ap (waits_for_load (ends l.run) u) (sym asks) ∙ waits) in
      let runs : is_running ((ends l.run).units.phase u) ≡ true = waits-run (ends l.run) u (lock_asked l.basis.types (ends l.run) (got_in l.run) u) waits in
      let next : l.ruled ≡ true → IsNext l.basis.types l.windowed (length l.basis.lines) l.width l.picks l.run (Want u g) = λ ruled. λ applied.
      wish-turn l.basis.types l.windowed (length l.basis.lines) l.width l.run (next_pick l.picks l.run) (Want u g) u refl (none-due (ends l.run) (missing-none none)) (can-begin ruled ∙ cannot) (its-wish ruled) in
      record {
        first = t.first;
        passing = record {
          missing = subst (MissesOnly (Some g)) (sym (ends-more l.run (Want u g))) (wish-misses (ends l.run) u g free.0 (missing-none none) a);
          asked = λ v low high. absurd (omega (arith, low, high));
          wished = inr (
            u,
            mode,
            pass-runs l.run (Want u g) refl u ∙ runs,
            pass-asked l.run (Want u g) refl l.basis.types u ∙ asks,
            ap (λ (w : CoreState). w.cells.holds g) (ends-more l.run (Want u g)) ∙ pass-holds (ends l.run) (Want u g) refl g ∙ free.1,
          );
          after = omega arith;
          still = λ some. omega arith;
          reached = λ ruled. passed-on l.run (Want u g) a;
        };
        unit_rule = unit-grows l.basis l.run (Want u g) t.unit_rule may;
        unstopped = going-by l.run (Want u g) (no_stop (Want u g) (OfWant u) refl (λ q. absurd cc)) t.unstopped;
        turn_rule = λ ruled. turn-grows l.basis.types l.windowed (length l.basis.lines) l.width l.picks l.run (Want u g) (t.turn_rule ruled) (next ruled);
        within = window-stays (Want u g) next;
        kept = kept-on l.run (Want u g) l.units held refl t.kept;
        older = t.older;
        count = λ ruled. used-none l.run (Want u g) l.used (t.count ruled) refl;
      }
    where
      its-wish : l.ruled ≡ true → wish_in l.basis.types l.run ≡ Some u
      its-wish ruled =
          let place = waiting u waits in
          let above = (counted-ends l.run t.first).above in
          let after = t.passing.after in
          let reached = t.passing.reached ruled in
          let high = place.2 in
          some-wish (ends l.run) ((ends l.run).units.next - l.run.base) l.run.base (lock_asked l.basis.types (ends l.run) (got_in l.run)) (passed (applied_in l.run)) u sure t.unstopped place.1
          (omega (arith, high, above)) (omega (arith, reached, after, from)) waits
          (λ v low come below. calm u.0 between v (omega (arith, come, reached)) below)

  -- the grain that is due is brought into memory
  pub pass-loads : (g : GrainId) (e : CoreEvent) → l.pass.due ≡ Some g → (ends l.run).manager.doubt ≡ None → IsLoadOf g e → MayCome l.basis l.run e → applies (ends l.run) e ≡ true
      → IsTurning (passed_on l e (record l.pass { due = None }))
  pass-loads g e due sure (v, state, is) may a =
      let misses : MissesOnly (Some g) (ends l.run) = subst (λ (o : Option GrainId). MissesOnly o (ends l.run)) due t.passing.missing in
      let m : mover_of e ≡ OfLoad = ap mover_of is in
      let next : l.ruled ≡ true → IsNext l.basis.types l.windowed (length l.basis.lines) l.width l.picks l.run e = λ ruled. λ applied.
      load-turn l.basis.types l.windowed (length l.basis.lines) l.width l.run (next_pick l.picks l.run) e g m (some-due (ends l.run) g sure t.unstopped misses.0)
      (subst (λ (o : Option GrainId). LoadsWanted o e) (sym (some-due (ends l.run) g sure t.unstopped misses.0)) (v, state, is)) in
      record {
        first = t.first;
        passing = record {
          missing = subst (λ (w : CoreState). next_wanted w ≡ None) (sym (ends-more l.run e))
              (subst (λ (x : CoreEvent). next_wanted (step (ends l.run) x) ≡ None) (sym is) (load-misses (ends l.run) g v state misses (subst (λ (x : CoreEvent). applies (ends l.run) x ≡ true) is a)));
          asked = λ u low high. (let s = t.passing.still (ap is_some due) in absurd (omega (arith, low, high, s)));
          wished = elim t.passing.wished [
            | inl none ↦ inl none
            | inr some ↦ inr (had (subst (HasWished l.basis.types l.run) due some))
          ];
          after = t.passing.after;
          still = λ some. absurd (true≢false (sym some));
          reached = λ ruled. passed-on l.run e a ∙ ap (passed_by (passed (applied_in l.run))) is ∙ t.passing.reached ruled;
        };
        unit_rule = unit-grows l.basis l.run e t.unit_rule may;
        unstopped = going-by l.run e (no_stop e OfLoad m (λ q. absurd cc)) t.unstopped;
        turn_rule = λ ruled. turn-grows l.basis.types l.windowed (length l.basis.lines) l.width l.picks l.run e (t.turn_rule ruled) (next ruled);
        within = window-stays e next;
        kept = kept-on l.run e l.units held (ap is_begin is) t.kept;
        older = t.older;
        count = λ ruled. used-none l.run e l.used (t.count ruled) (ap takes_pick m);
      }
    where
      had : HasWished l.basis.types l.run (Some g) → HasWished l.basis.types (with_event l.run e) None
      had (u, mode, runs, asks, free) =
          let p : is_pass e ≡ true = ap is_pass is in (
            u,
            asks-moves l.basis.types (ends (with_event l.run e)) (got_in (with_event l.run e)) u g mode (pass-runs l.run e p u ∙ runs) (pass-asked l.run e p l.basis.types u ∙ asks)
                (there-had (ends (with_event l.run e)) u g mode
                (ap (λ (w : CoreState). w.cells.here g) (ends-more l.run e) ∙ ap (λ (x : CoreEvent). (step (ends l.run) x).cells.here g) is ∙ load-brings (ends l.run) g v state (subst (λ (x : CoreEvent). applies (ends l.run) x ≡ true) is a))
                (ap (λ (w : CoreState). w.cells.holds g) (ends-more l.run e) ∙ pass-holds (ends l.run) e p g ∙ free)),
          )

  -- ---- a turn

  -- an event that doesn't apply
  pub turn-unapplied : (e : CoreEvent) → applies (ends l.run) e ≡ false → IsTurning (passed_on l e l.pass)
  turn-unapplied e a = record {
    first = t.first;
    passing = record {
      missing = subst (MissesOnly l.pass.due) (sym same) t.passing.missing;
      asked = λ u low high. same_waits u ∙ t.passing.asked u low high;
      wished = elim t.passing.wished [ inl none ↦ inl none | inr some ↦ inr (same_wished l.pass.due some) ];
      after = t.passing.after;
      still = t.passing.still;
      reached = λ ruled. passed-still l.run e a ∙ t.passing.reached ruled;
    };
    unit_rule = unit-grows l.basis l.run e t.unit_rule (λ b. not_both b);
    unstopped = ap (λ (w : CoreState). w.units.halt) same ∙ t.unstopped;
    turn_rule = λ ruled. turn-grows l.basis.types l.windowed (length l.basis.lines) l.width l.picks l.run e (t.turn_rule ruled) (λ b. not_both b);
    within = window-stays e (λ ruled b. not_both b);
    kept = same_kept;
    older = t.older;
    count = λ ruled. used-unapplied l.run e l.used (t.count ruled) a;
  }
    where
      not_both : {A : Type 0} → applies (ends l.run) e ≡ true → A
      not_both b = absurd (let z : true ≡ false = sym b ∙ a in cc)

      same : ends (with_event l.run e) ≡ ends l.run
      same = ends-more l.run e ∙ no-change (ends l.run) e a

      same_got : got_in (with_event l.run e) ≡ got_in l.run
      same_got = (λ i u. still-got l.run e u a i)

      same_waits : (u : UnitNo) → waits_in l.basis.types (with_event l.run e) u ≡ waits_in l.basis.types l.run u
      same_waits u = (λ i. waits_for_load (same i) u (lock_asked l.basis.types (same i) (same_got i) u))

      same_wished : (o : Option GrainId) → HasWished l.basis.types l.run o → HasWished l.basis.types (with_event l.run e) o
      same_wished None (u, moves) = (u, (λ i. can_move l.basis.types (same i) (same_got i) u) ∙ moves)
      same_wished (Some g) (u, mode, runs, asks, free) = (
        u,
        mode,
        ap (λ (w : CoreState). is_running (w.units.phase u)) same ∙ runs,
        (λ i. lock_asked l.basis.types (same i) (same_got i) u) ∙ asks,
        ap (λ (w : CoreState). w.cells.holds g) same ∙ free,
      )

      same_kept : AreKept (with_event l.run e) l.units
      same_kept = record {
        kept = subst (λ (w : CoreState). filter (is_kept w) l.units ≡ filter (is_kept w) (units_of l.run w)) (sym same) t.kept.kept;
        below = λ u m. subst (λ (w : CoreState). u.0 < w.units.next) (sym same) (t.kept.below u m);
      }

  -- a line's event is that of the turn
  pub lines-next : (e : CoreEvent) → l.pass.due ≡ None → mover_of e ≡ OfLine → has_room l ≡ true → l.ruled ≡ true → IsNext l.basis.types l.windowed (length l.basis.lines) l.width l.picks l.run e
  lines-next e none m can ruled applied =
      line-turn l.basis.types l.windowed (length l.basis.lines) l.width l.run (next_pick l.picks l.run) e m (none-due (ends l.run) (missing-none none)) (can-begin ruled ∙ can)

  -- a line that is bad
  pub turn-bad : (e : CoreEvent) → l.pass.due ≡ None → is_begin e ≡ false → mover_of e ≡ OfLine → has_room l ≡ true → MayCome l.basis l.run e → applies (ends l.run) e ≡ true → IsTurning (turned l e l.units l.used)
  turn-bad e none b m can may a = record {
    first = t.first;
    passing = before-pass e none (no-pass e (ap moves_pass m)) a;
    unit_rule = unit-grows l.basis l.run e t.unit_rule may;
    unstopped = going-by l.run e (no_stop e OfLine m (λ q. absurd cc)) t.unstopped;
    turn_rule = λ ruled. turn-grows l.basis.types l.windowed (length l.basis.lines) l.width l.picks l.run e (t.turn_rule ruled) (lines-next e none m can ruled);
    within = window-stays e (lines-next e none m can);
    kept = kept-on l.run e l.units held b t.kept;
    older = t.older;
    count = λ ruled. used-none l.run e l.used (t.count ruled) (ap takes_pick m);
  }

  -- a line that begins
  pub turn-line : (n : ℕ) (call : Call) (plain : Bool) → l.pass.due ≡ None → has_room l ≡ true → MayCome l.basis l.run (Begin (Line n) call plain) → applies (ends l.run) (Begin (Line n) call plain) ≡ true →
      IsTurning (turned l (Begin (Line n) call plain) (with_new l) l.used)
  turn-line n call plain none can may a = record {
    first = t.first;
    passing = before-pass (Begin (Line n) call plain) none refl a;
    unit_rule = unit-grows l.basis l.run (Begin (Line n) call plain) t.unit_rule may;
    unstopped = going-by l.run (Begin (Line n) call plain) (no_stop (Begin (Line n) call plain) OfLine refl (λ q. absurd cc)) t.unstopped;
    turn_rule = λ ruled. turn-grows l.basis.types l.windowed (length l.basis.lines) l.width l.picks l.run (Begin (Line n) call plain) (t.turn_rule ruled) (lines-next (Begin (Line n) call plain) none refl can ruled);
    within = window-stays (Begin (Line n) call plain) (lines-next (Begin (Line n) call plain) none refl can);
    kept = kept-begun l.run (Line n) call plain l.units held (counted-ends l.run t.first).above a t.kept;
    older = older-last l.units (new_unit (ends l.run)) (λ v m. t.kept.below v m) t.older;
    count = λ ruled. used-none l.run (Begin (Line n) call plain) l.used (t.count ruled) refl;
  }

  -- nobody wants a grain where the pass has come to its end
  no-wish : IsThrough l → l.ruled ≡ true → wish_in l.basis.types l.run ≡ None
  no-wish through ruled = elim through.all [
    | inl doubted ↦ doubt-wish (ends l.run) (units_of l.run (ends l.run)) (lock_asked l.basis.types (ends l.run) (got_in l.run)) (passed (applied_in l.run)) doubted
    | inr all ↦ none-wish (ends l.run) (units_of l.run (ends l.run)) (lock_asked l.basis.types (ends l.run) (got_in l.run)) (passed (applied_in l.run))
        (λ u m from. (let reached = t.passing.reached ruled in
        let above = (counted-ends l.run t.first).above in
        let high = (units-within ((ends l.run).units.next - l.run.base) l.run.base u m).1 in
        t.passing.asked u (omega (arith, reached, from)) (omega (arith, high, above, all))))
  ]

  -- the mover that was picked, among those that are looked at
  chosen : l.ruled ≡ true → (m : Mover) → picked (movers_of l.basis.types l.run l.units) (get_or l.picks l.used 0) ≡ Some m → picked (movers_in l.basis.types l.run) (next_pick l.picks l.run) ≡ Some m
  chosen ruled m pick =
      ap (λ (ms : List Mover). picked ms (next_pick l.picks l.run)) (movers-kept l.basis.types l.run l.units t.kept) ∙ ap (λ (n : ℕ). picked (movers_of l.basis.types l.run l.units) (get_or l.picks n 0)) (sym (t.count ruled)) ∙ pick

  -- its event is that of the turn
  pub picks-next : (m : Mover) (e : CoreEvent) → IsPicked l m → mover_of e ≡ m → IsMadeBy (ends l.run) e m → l.ruled ≡ true → IsNext l.basis.types l.windowed (length l.basis.lines) l.width l.picks l.run e
  picks-next m e turn is made ruled applied =
      picked-turn l.basis.types l.windowed (length l.basis.lines) l.width l.run (next_pick l.picks l.run) e m is (none-due (ends l.run) (missing-none turn.through.none_due)) (can-begin ruled ∙ turn.none)
      (no-wish turn.through ruled) (chosen ruled m turn.pick) made

  -- the settler's step
  pub turn-settler : (e : CoreEvent) → IsPicked l OfSettler → MakesEvent (settler_step (ends l.run)) e → applies (ends l.run) e ≡ true → IsTurning (turned l e l.units (l.used + 1))
  turn-settler e turn makes a =
      let stays_there = no-load-step l.run t.unstopped (missing-none turn.through.none_due) in
      let s = settlers (settler_step (ends l.run)) e stays_there makes in
      record {
        first = t.first;
        passing = before-pass e turn.through.none_due (no-pass e (ap moves_pass s.0)) a;
        unit_rule = unit-grows l.basis l.run e t.unit_rule (λ b. settlers-due l.basis (ends l.run) (got_in l.run) (settler_step (ends l.run)) e stays_there makes);
        unstopped = going-by l.run e (settlers-go (settler_step (ends l.run)) e makes) t.unstopped;
        turn_rule = λ ruled. turn-grows l.basis.types l.windowed (length l.basis.lines) l.width l.picks l.run e (t.turn_rule ruled) (picks-next OfSettler e turn s.0 makes ruled);
        within = window-stays e (picks-next OfSettler e turn s.0 makes);
        kept = kept-on l.run e l.units held s.1 t.kept;
        older = t.older;
        count = λ ruled. used-one l.run e l.used (t.count ruled) a (ap takes_pick s.0);
      }

  -- an event of the unit whose turn it is
  pub turn-unit : (u : UnitNo) (e : CoreEvent) → IsPicked l (OfUnit u) → mover_of e ≡ OfUnit u → is_begin e ≡ false → MayCome l.basis l.run e → applies (ends l.run) e ≡ true →
      IsTurning (turned l e l.units (l.used + 1))
  turn-unit u e turn is b may a = record {
    first = t.first;
    passing = before-pass e turn.through.none_due (no-pass e (ap moves_pass is)) a;
    unit_rule = unit-grows l.basis l.run e t.unit_rule may;
    unstopped = going-by l.run e (no_stop e (OfUnit u) is (λ q. absurd cc)) t.unstopped;
    turn_rule = λ ruled. turn-grows l.basis.types l.windowed (length l.basis.lines) l.width l.picks l.run e (t.turn_rule ruled) (picks-next (OfUnit u) e turn is tt ruled);
    within = window-stays e (picks-next (OfUnit u) e turn is tt);
    kept = kept-on l.run e l.units held b t.kept;
    older = t.older;
    count = λ ruled. used-one l.run e l.used (t.count ruled) a (ap takes_pick is);
  }

  -- a child that it begins
  pub turn-child : (u : UnitNo) (index depth : ℕ) (call : Call) → IsPicked l (OfUnit u) → MayCome l.basis l.run (Begin (Child u index depth) call false) →
      applies (ends l.run) (Begin (Child u index depth) call false) ≡ true → IsTurning (turned l (Begin (Child u index depth) call false) (with_new l) (l.used + 1))
  turn-child u index depth call turn may a = record {
    first = t.first;
    passing = before-pass (Begin (Child u index depth) call false) turn.through.none_due refl a;
    unit_rule = unit-grows l.basis l.run (Begin (Child u index depth) call false) t.unit_rule may;
    unstopped = going-by l.run (Begin (Child u index depth) call false) (no_stop (Begin (Child u index depth) call false) (OfUnit u) refl (λ q. absurd cc)) t.unstopped;
    turn_rule = λ ruled. turn-grows l.basis.types l.windowed (length l.basis.lines) l.width l.picks l.run (Begin (Child u index depth) call false) (t.turn_rule ruled) (picks-next (OfUnit u) (Begin (Child u index depth) call false) turn refl tt ruled);
    within = window-stays (Begin (Child u index depth) call false) (picks-next (OfUnit u) (Begin (Child u index depth) call false) turn refl tt);
    kept = kept-begun l.run (Child u index depth) call false l.units held (counted-ends l.run t.first).above a t.kept;
    older = older-last l.units (new_unit (ends l.run)) (λ v m. t.kept.below v m) t.older;
    count = λ ruled. used-one l.run (Begin (Child u index depth) call false) l.used (t.count ruled) a refl;
  }

  -- agents that are no more to be looked at go
  pub turn-dropped : (stays : UnitNo → Bool) → ((u : UnitNo) → is_kept (ends l.run) u ≡ true → stays u ≡ true) → IsTurning (record l { units = filter stays l.units })
  turn-dropped stays weak = record {
    first = t.first;
    passing = t.passing;
    unit_rule = t.unit_rule;
    unstopped = t.unstopped;
    turn_rule = t.turn_rule;
    within = t.within;
    kept = drop-kept l.run l.units stays weak t.kept;
    older = older-filter stays l.units t.older;
    count = t.count;
  }

  -- where nobody moves behind the pass, nobody waits for a grain
  calm-there : (ends l.run).manager.doubt ≡ None → movers_in l.basis.types l.run ≡ [] → IsThrough l → NobodyWaitsForLoad l.basis.types l.run
  calm-there doubt none through u = elim (cases_Bool (waits_in l.basis.types l.run u)) [
    | inr free ↦ free
    | inl waits ↦ absurd (by t.passing.wished (waiting u waits) waits)
  ]
    where
      by : (l.pass.last ≡ 0) ⊎ HasWished l.basis.types l.run l.pass.due → Member u l.units × (l.run.base ≤ u.0) × (u.0 < (ends l.run).units.next) → waits_in l.basis.types l.run u ≡ true → ⊥
      by (inr some) place waits = (let one = subst (HasWished l.basis.types l.run) through.none_due some in nobody-moves l.basis.types l.run t.first doubt none one.0 one.1)
      by (inl zero_last) place waits = elim through.all [
        | inl doubted ↦ true≢false (sym doubted ∙ ap is_some doubt)
        | inr all ↦ (let high = place.2 in true≢false (sym waits ∙ t.passing.asked u (omega (arith, zero_last)) (omega (arith, high, all))))
      ]

  -- nobody moves behind the pass, and no line begins
  pub turn-ended : (ends l.run).manager.doubt ≡ None → movers_of l.basis.types l.run l.units ≡ [] → IsThrough l → 0 < l.width → has_room l ≡ false →
      HasRun (length l.basis.lines) (ends l.run) × NobodyGoes l.basis.types l.run
  turn-ended doubt none through some cannot =
      let nobody : movers_in l.basis.types l.run ≡ [] = movers-kept l.basis.types l.run l.units t.kept ∙ none in
      let there = calm-there doubt nobody through in (
        without-mover l.basis.types l.run l.width (length l.basis.lines) t.first doubt t.unstopped there nobody some (begins-kept l.width (length l.basis.lines) l.run l.units t.kept ∙ cannot),
        (
          nobody,
          none-wish (ends l.run) (units_of l.run (ends l.run)) (lock_asked l.basis.types (ends l.run) (got_in l.run)) (passed (applied_in l.run)) (λ u m from. there u),
          none-due (ends l.run) (missing-none through.none_due),
        ),
      )

-- ---- the start

-- a run without events
pub turning-begins : (around : Basis) (windowed ruled : Bool) (width : ℕ) (picks : List ℕ) (r : Run) → r.events ≡ [] → 0 < r.base → (windowed ≡ true → length around.lines ≤ window_lines)
    → IsTurning (record { basis = around; windowed = windowed; ruled = ruled; width = width; picks = picks; run = r; units = []; used = 0; pass = no_pass })
turning-begins around windowed ruled width picks r none first few = record {
  first = first;
  passing = record {
    missing = ap (λ (l : List CoreEvent). next_wanted (run (begins r) l)) none;
    asked = λ u low high. absurd (omega (arith, high));
    wished = inl refl;
    after = omega arith;
    still = λ some. absurd (true≢false (sym some));
    reached = λ is. ap (λ (l : List CoreEvent). passed (applied_from (begins r) l)) none;
  };
  unit_rule = λ at e a. absurd (nothing at e a.there);
  unstopped = ap (λ (l : List CoreEvent). (run (begins r) l).units.halt) none;
  turn_rule = λ is at e a. absurd (nothing at e a.there);
  within = λ is. begins-fresh around.types windowed (length around.lines) r none few;
  kept = record { kept = kept; below = λ u m. absurd m };
  older = tt;
  count = λ is. sym (ap (λ (l : List CoreEvent). count_by (λ e. takes_pick (mover_of e)) (applied_from (begins r) (take (length l) l))) none);
}
  where
    nothing : (at : ℕ) (e : CoreEvent) → slice_get r.events at ≡ Some e → ⊥
    nothing at e there = (let t : slice_get [] at ≡ Some e = subst (λ (l : List CoreEvent). slice_get l at ≡ Some e) none there in cc t)

    kept : filter (is_kept (ends r)) [] ≡ filter (is_kept (ends r)) (units_of r (ends r))
    kept =
        let same : (ends r).units.next - r.base ≡ 0 = ap (λ (l : List CoreEvent). (run (begins r) l).units.next - r.base) none ∙ itself r.base in
        ap (λ (n : ℕ). filter (is_kept (ends r)) (units_from n r.base)) (sym same)
      where
        itself : (n : ℕ) → n - n ≡ 0
        itself n = omega arith
