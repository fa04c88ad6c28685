-- The pass of a turn: each unit that waits for a grain wants it, and the grain is brought into memory right behind the wish.
use Rattle.std.proofs.Common.{◌≡◌, inl, inr, ℕ, ◌+◌, ◌<◌, ◌≤◌, ◌^◌, Option, Some, None, List, length, Bool, true, false, true≢false, refl, sym, ap, ◌∙◌, subst, arith}
use Rattle.std.specs.Prelude.{filter, slice_get, is_none, nat_lt, ◌&&◌, Ok, Err}
use Rattle.std.proofs.lemmas.Bool.{cases_Bool, cases_lt, cond_both}
use Rattle.request_wire.specs.declared.requests.Line.{Line}
use Rattle.cell_model.specs.Units.{UnitsAscend}
use Rattle.core_model.specs.CoreState.{UnitNo, GrainId, Member, Mode, CoreState}
use Rattle.core_model.specs.Changes.{swept, swept_by}
use Rattle.core_model.specs.Events.{applies, does, step}
use Rattle.core_model.specs.LegalRuns.{Run, ends}
use Rattle.core_model.specs.Settler.{IsLoadOf, MakesEvent}
use Rattle.core_model.specs.declared.events.CoreEvent.{CoreEvent}
use Rattle.core_model.specs.declared.events.CoreEvent.TheVariants.{Bad, Begin, Grant, Refuse, Finish, EndPlain, EndSnapshot, Release, Take, Vote, Decide, Sealed, NotSealed, Doubt, Learn, Emitted, Halt, Want, Load}
use Rattle.promise_spec.specs.TurnRule.{OfLine, OfLoad, OfWant, lock_asked, mover_of}
use Rattle.promise_spec.specs.UnitAnswers.{got_in}
use Rattle.turn_rules.specs.CarriedUnits.{is_flying}
use Rattle.turn_rules.specs.NextEvent.{is_begin, with_event, MayCome}
use Rattle.turn_rules.specs.TurnLoop.{IsTurning, MissesOnly, Pass, TurnLoop, passed_on, waits_in}
use Rattle.turn_rules.proofs.Growth.{ends-more}
use Rattle.turn_rules.proofs.Numbers.{next-stays}
use Rattle.turn_rules.proofs.Passes.{is_pass}
use Rattle.turn_rules.proofs.Turns.{pass-loads, pass-looks, pass-wishes, turn-unapplied}
use Rattle.settle_loop.specs.SettlerStep.{load_of, wanted_step}
use Rattle.txn_agent.specs.declared.agent.Agent.{Agent}
use Rattle.txn_agent.specs.Wishes.{GoesByWish}
use Rattle.unit_carrier.specs.CarriedUnits.{units_carried}
use Rattle.run_books.specs.declared.faults.RunFault.{RunFault}
use Rattle.run_books.specs.declared.faults.RunFault.TheVariants.{Memory}
use Rattle.run_books.specs.Beginnings.{Outset, basis_of}
use Rattle.run_books.specs.Books.{Books}
use Rattle.run_books.specs.Stages.{Stage, stage_by}
use Rattle.run_books.proofs.BooksStated.{OthersKeep}
use Rattle.run_books.proofs.LoadSteps.{load-applies}
use Rattle.interleaver.specs.Flights.{loop_at}
use Rattle.interleaver.specs.Turns.{TurnsGoOn as RecordGoesOn}
use Rattle.interleaver.specs.TurnStages.{TurnStage, IsAsking, HasReached, IsUnderWay, LoadsBy, LoadsOne, SettledOn, WentOn}
use Rattle.interleaver.proofs.RunningTurns.{way-unstopped}
use Rattle.interleaver.proofs.AskedUnits.{none-between, reached-at, reached-next}
use Rattle.interleaver.proofs.OtherTurns.{event-went, loop-into, settled-ends, settled-went, still-went}
use Rattle.interleaver.proofs.SettlerTurns.{steps-due}
use Rattle.interleaver.proofs.TurnSequence.{ends-then, out-then, went-then}

-- ---- no line may begin still

-- a line may begin, by the state
abbrev roomy : ℕ → ℕ → List UnitNo → CoreState → Bool
roomy width lines units w = is_none w.manager.doubt && (nat_lt (length (filter (is_flying w) units)) width && nat_lt w.units.lines lines)

pass-roomy : (width lines : ℕ) (units : List UnitNo) (w : CoreState) (e : CoreEvent) → is_pass e ≡ true → roomy width lines units (step w e) ≡ roomy width lines units w
pass-roomy width lines units w e p = cond_both (applies w e) (swept (does w e)) w (λ (x : CoreState). roomy width lines units x ≡ roomy width lines units w)
    (λ a. sweep (does w e) ∙ by e p)
    (λ a. refl)
  where
    sweep : (x : CoreState) → roomy width lines units (swept x) ≡ roomy width lines units x
    sweep x = go x.cells.capacity
      where
        go : (c : Option ℕ) → roomy width lines units (swept_by x c) ≡ roomy width lines units x
        go None = refl
        go (Some n) = refl

    by : (e : CoreEvent) → is_pass e ≡ true → roomy width lines units (does w e) ≡ roomy width lines units w
    by (Want u g) q = refl
    by (Load g u state) q = refl
    by (Bad line why) q = absurd (true≢false (sym q))
    by (Begin origin call plain) q = absurd (true≢false (sym q))
    by (Grant v g mode) q = absurd (true≢false (sym q))
    by (Refuse v g mode) q = absurd (true≢false (sym q))
    by (Finish v effect) q = absurd (true≢false (sym q))
    by (EndPlain v effect) q = absurd (true≢false (sym q))
    by (EndSnapshot v at outcome) q = absurd (true≢false (sym q))
    by (Release v g) q = absurd (true≢false (sym q))
    by Take q = absurd (true≢false (sym q))
    by (Vote n g kept) q = absurd (true≢false (sym q))
    by (Decide n) q = absurd (true≢false (sym q))
    by (Sealed n) q = absurd (true≢false (sym q))
    by (NotSealed n) q = absurd (true≢false (sym q))
    by (Doubt n) q = absurd (true≢false (sym q))
    by (Learn v g) q = absurd (true≢false (sym q))
    by Emitted q = absurd (true≢false (sym q))
    by Halt q = absurd (true≢false (sym q))

-- a wish or a load begins no line, and lets none begin
pass-room : (o : Outset) (r r' : Run) (us us' : List UnitNo) (e : CoreEvent) → is_pass e ≡ true → r' ≡ with_event r e → us' ≡ us
    → roomy o.width (length o.asked) us (ends r) ≡ false → roomy o.width (length o.asked) us' (ends r') ≡ false
pass-room o r r' us us' e p run units full =
    ap (λ (x : Run). roomy o.width (length o.asked) us' (ends x)) run ∙ ap (λ (w : CoreState). roomy o.width (length o.asked) us' w) (ends-more r e)
    ∙ pass-roomy o.width (length o.asked) us' (ends r) e p ∙ ap (λ (v : List UnitNo). roomy o.width (length o.asked) v (ends r)) units ∙ full

-- ---- a unit that is asked

-- the number of the unit and the unit are one
same-number : (u v : UnitNo) → u.0 ≡ v.0 → u ≡ v
same-number u v q = (λ i. record { 0 = q i })

module _ (keeps : OthersKeep) (tells : Bool) (o : Outset) (lines : List Line) (b : Books) (s : TurnStage) (index : ℕ) (u : UnitNo)
    (way : IsUnderWay tells o o.program.types lines o.width o.picks b s) (sure : (ends s.at.run).manager.doubt ≡ None) (calm : s.at.settler.doubted ≡ false) (asking : IsAsking o s index)
    (at : slice_get (units_carried s.agents) index ≡ Some u) where
  abbrev l : TurnLoop
  l = loop_at o s.at.run s.agents s.used s.pass

  abbrev Went : TurnStage → Type 0
  Went s' = WentOn tells o o.program.types lines o.width o.picks b s s'

  older : UnitsAscend (units_carried s.agents)
  older = way.turning.older

  from : s.pass.before ≤ u.0
  from = reached-at (units_carried s.agents) index s.pass.before u asking.reached at

  none-before : {A : Type 0} → (v : UnitNo) → Member v (units_carried s.agents) → s.pass.before ≤ v.0 → v.0 < u.0 → A
  none-before v m low high = absurd (none-between (units_carried s.agents) older index s.pass.before u asking.reached at v m low high)

  reached-on : (agents' : List Agent) → units_carried agents' ≡ units_carried s.agents → HasReached (units_carried agents') (index + 1) (u.0 + 1)
  reached-on agents' same = subst (λ (v : List UnitNo). HasReached v (index + 1) (u.0 + 1)) (sym same) (reached-next (units_carried s.agents) older index u at)

  -- it waits for no grain, and the pass goes past it
  module _ (s' : TurnStage) (run : s'.at.run ≡ s.at.run) (units : units_carried s'.agents ≡ units_carried s.agents) (used : s'.used ≡ s.used) (begun : s'.begun ≡ s.begun) (settler : s'.at.settler ≡ s.at.settler)
      (counts : s'.at.faults ≡ s.at.faults) (world : s'.at.world ≡ s.at.world) where
    abbrev behind : Pass
    behind = record s.pass { before = u.0 + 1 }

    abbrev end : TurnStage
    end = record s' { pass = behind }

    pub looked-past : waits_in o.program.types s.at.run u ≡ false → Went end × IsAsking o end (index + 1)
    looked-past rests = (
      still-went tells o lines b s end way begun settler counts world run
          (loop-into o s.at.run s'.at.run (units_carried s.agents) (units_carried s'.agents) s.used s'.used behind behind run units used refl
          (pass-looks l way.turning (u.0 + 1) asking.none_due (omega (arith, from)) (λ v m low high. elim (cases_lt v.0 u.0) [
            | inl less ↦ none-before v m low less
            | inr le ↦ subst (λ (x : UnitNo). waits_in o.program.types s.at.run x ≡ false) (same-number u v (omega (arith, high, le))) rests
          ]))),
      record {
        full = ap (λ (x : Run). roomy o.width (length o.asked) (units_carried s'.agents) (ends x)) run ∙ ap (λ (v : List UnitNo). roomy o.width (length o.asked) v (ends s.at.run)) units ∙ asking.full;
        none_due = asking.none_due;
        reached = reached-on s'.agents units;
      },
    )

  -- it wants the grain for which it waits
  module _ (s' : TurnStage) (w : GoesByWish o.program.types u s.at.run s'.at.run) (units : units_carried s'.agents ≡ units_carried s.agents) (used : s'.used ≡ s.used) (begun : s'.begun ≡ s.begun)
      (settler : s'.at.settler ≡ s.at.settler) (counts : s'.at.faults ≡ s.at.faults) (world : s'.at.world ≡ s.at.world) where
    abbrev wished : Pass
    wished = record { before = u.0 + 1; last = u.0 + 1; due = Some w.grain }

    abbrev mid : TurnStage
    mid = record s' { pass = wished }

    may : MayCome (basis_of o) s.at.run (Want u w.grain)
    may = λ a. (w.mode, w.asked)

    not-line : mover_of (Want u w.grain) ≡ OfLine → ⊥
    not-line q = absurd cc

    next : (ends s'.at.run).units.next ≤ 2 ^ 63
    next = subst (λ (k : ℕ). k ≤ 2 ^ 63)
        (sym (ap (λ (x : Run). (ends x).units.next) w.run ∙ ap (λ (x : CoreState). x.units.next) (ends-more s.at.run (Want u w.grain)) ∙ next-stays (ends s.at.run) (Want u w.grain) refl)) way.few

    pub has-wished : Went mid
    has-wished = event-went tells o lines b s mid way begun settler counts world keeps (Want u w.grain) w.run refl not-line
        (loop-into o (with_event s.at.run (Want u w.grain)) s'.at.run (units_carried s.agents) (units_carried s'.agents) s.used s'.used wished wished w.run units used refl
        (pass-wishes l way.turning u w.grain w.mode asking.full sure asking.none_due from (λ v m low high. none-before v m low high) w.asked w.waits may w.applied))
        calm next

    pub wished-full : roomy o.width (length o.asked) (units_carried s'.agents) (ends s'.at.run) ≡ false
    wished-full = pass-room o s.at.run s'.at.run (units_carried s.agents) (units_carried s'.agents) (Want u w.grain) refl w.run units asking.full

    pub wished-sure : (ends s'.at.run).manager.doubt ≡ None
    wished-sure = ap (λ (x : Run). (ends x).manager.doubt) w.run ∙ ap (λ (x : CoreState). x.manager.doubt) (ends-more s.at.run (Want u w.grain)) ∙ same ∙ sure
      where
        same : (step (ends s.at.run) (Want u w.grain)).manager.doubt ≡ (ends s.at.run).manager.doubt
        same = cond_both (applies (ends s.at.run) (Want u w.grain)) (swept (does (ends s.at.run) (Want u w.grain))) (ends s.at.run) (λ (x : CoreState). x.manager.doubt ≡ (ends s.at.run).manager.doubt)
            (λ a. sweep (does (ends s.at.run) (Want u w.grain))) (λ a. refl)
          where
            sweep : (x : CoreState) → (swept x).manager.doubt ≡ x.manager.doubt
            sweep x = go x.cells.capacity
              where
                go : (c : Option ℕ) → (swept_by x c).manager.doubt ≡ x.manager.doubt
                go None = refl
                go (Some n) = refl

    -- ---- the grain is brought

    pub misses : MissesOnly (Some w.grain) (ends s'.at.run)
    misses = has-wished.under_way.turning.passing.missing

    load-makes : (e : CoreEvent) → MakesEvent (wanted_step (ends s'.at.run)) e → IsLoadOf w.grain e
    load-makes e makes = subst (λ (g : Option GrainId). MakesEvent (load_of g) e) misses.0 makes

    abbrev lm : TurnLoop
    lm = loop_at o s'.at.run s'.agents s'.used wished

    load-turning : (e : CoreEvent) → IsLoadOf w.grain e → IsTurning (passed_on lm e (record wished { due = None }))
    load-turning e is =
        let applied : applies (ends s'.at.run) e ≡ true = subst (λ (x : CoreEvent). applies (ends s'.at.run) x ≡ true) (sym is.2) (load-applies (ends s'.at.run) w.grain is.0 is.1 (misses.0, wished-sure) (way-unstopped has-wished.under_way)) in
        pass-loads lm has-wished.under_way.turning w.grain e refl wished-sure is (λ a. steps-due (basis_of o) (ends s'.at.run) (got_in s'.at.run) (wanted_step (ends s'.at.run)) e (subst (λ (g : Option GrainId). MakesEvent (load_of g) e) (sym misses.0) is)) applied

    abbrev loaded : Pass
    loaded = record wished { due = None }

    -- and the pass goes on behind it
    pub has-loaded : {T : Type 0} (done : T) (s'' : TurnStage) → LoadsOne s'.at.run s''.at.run → SettledOn {T = T} tells o has-wished.books s'.at s''.at (Ok done)
        → units_carried s''.agents ≡ units_carried s'.agents → s''.used ≡ s'.used → s''.begun ≡ s'.begun
        → Went (record s'' { pass = loaded }) × IsAsking o (record s'' { pass = loaded }) (index + 1)
    has-loaded {T} done s'' x on units' used' begun' =
        let is = load-makes x.0 x.1 in
        let not-line' : mover_of x.0 ≡ OfLine → ⊥ = (λ q. apart (sym (ap mover_of is.2) ∙ q)) in
        let p : is_pass x.0 ≡ true = ap is_pass is.2 in (
          went-then tells o o.program.types lines o.width o.picks b s mid (record s'' { pass = loaded }) has-wished
              (settled-went tells o lines has-wished.books mid (record s'' { pass = loaded }) has-wished.under_way {T = T} done x.0 x.2 (ap is_begin is.2) not-line' on begun'
              (loop-into o (with_event s'.at.run x.0) s''.at.run (units_carried s'.agents) (units_carried s''.agents) s'.used s''.used loaded loaded x.2 units' used' refl (load-turning x.0 is))),
          record {
            full = pass-room o s'.at.run s''.at.run (units_carried s'.agents) (units_carried s''.agents) x.0 p x.2 units' wished-full;
            none_due = refl;
            reached = reached-on s''.agents (units' ∙ units);
          },
        )
      where
        apart : OfLoad ≡ OfLine → ⊥
        apart q = absurd cc

    -- or the run ends there
    pub load-ends : {T : Type 0} (at' : Stage) → LoadsBy s'.at.run at'.run → (fault : RunFault) → SettledOn {T = T} tells o has-wished.books s'.at at' (Err fault)
        → RecordGoesOn {T = Bool} tells o b s.at at' (Err fault)
    load-ends {T} at' by fault on =
        let s'' : TurnStage = record s' { at = at' } in
        ends-then tells o o.program.types lines o.width o.picks b s mid {T = Bool} s'' has-wished fault
        (settled-ends tells o lines has-wished.books mid s'' has-wished.under_way {T = T} wanted_step by fault on (λ e makes ruled. (load-turning e (load-makes e makes)).turn_rule ruled))

  -- the wish was put, and there was no memory behind it
  module _ (r' : Run) (g : GrainId) (mode : Mode) (run : r' ≡ with_event s.at.run (Want u g)) (asked : lock_asked o.program.types (ends s.at.run) (got_in s.at.run) u ≡ Some (g, mode))
      (waits : waits_in o.program.types s.at.run u ≡ true) where
    abbrev put : TurnStage
    put = record s { at = stage_by r' s.at.settler s.at.faults s.at.world }

    pub wish-lacks : RecordGoesOn {T = Bool} tells o b s.at put.at (Err Memory)
    wish-lacks = elim (cases_Bool (applies (ends s.at.run) (Want u g))) [
      | inl a ↦ (
          let w : GoesByWish o.program.types u s.at.run r' = record { grain = g; mode = mode; asked = asked; waits = waits; applied = a; run = run } in
          out-then tells o o.program.types lines o.width o.picks b s (record put { pass = record { before = u.0 + 1; last = u.0 + 1; due = Some g } }) {T = Bool} (has-wished put w refl refl refl refl refl refl))
      | inr a ↦
          out-then tells o o.program.types lines o.width o.picks b s put {T = Bool}
          (event-went tells o lines b s put way refl refl refl refl keeps (Want u g) run refl (λ q. absurd (apart q))
          (loop-into o (with_event s.at.run (Want u g)) r' (units_carried s.agents) (units_carried s.agents) s.used s.used s.pass s.pass run refl refl refl (turn-unapplied l way.turning (Want u g) a)) calm
          (subst (λ (k : ℕ). k ≤ 2 ^ 63) (sym (ap (λ (x : Run). (ends x).units.next) run ∙ ap (λ (x : CoreState). x.units.next) (ends-more s.at.run (Want u g)) ∙ next-stays (ends s.at.run) (Want u g) refl)) way.few))
    ]
      where
        apart : OfWant u ≡ OfLine → ⊥
        apart q = absurd cc
