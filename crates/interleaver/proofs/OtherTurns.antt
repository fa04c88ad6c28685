-- A turn of the settler that was picked, and of a line.
use Rattle.std.proofs.Common.{◌≡◌, ℕ, ◌+◌, ◌^◌, ◌≤◌, ◌<◌, Option, Some, None, List, length, Bool, true, false, true≢false, inl, inr, sym, ap, ◌∙◌, subst}
use Rattle.std.specs.Prelude.{slice_get, drop, Ok, Err, not, ◌||◌}
use Rattle.host_trait.specs.World.{World}
use Rattle.host_trait.specs.declared.channels.Channel.{Channel}
use Rattle.request_wire.specs.declared.requests.Line.{Line}
use Rattle.core_model.specs.CoreState.{UnitNo, GrainId, CoreState}
use Rattle.core_model.specs.WantedGrains.{next_wanted}
use Rattle.core_model.specs.declared.events.CoreEvent.{CoreEvent}
use Rattle.core_model.specs.Events.{applies, is_after_halt}
use Rattle.core_model.specs.LegalRuns.{Run, ends}
use Rattle.core_model.specs.Settler.{Step, settler_step, MakesEvent}
use Rattle.core_laws.proofs.SettlerSteps.{step-applies}
use Rattle.core_access.specs.SettlerEvents.{is_settling}
use Rattle.script_tree.specs.Programs.{ProgramTree}
use Rattle.promise_spec.specs.Lines.{ReadsLineAs}
use Rattle.promise_spec.specs.TurnRule.{OfLine, OfSettler, KeepsTurnRule, at_seam, mover_of}
use Rattle.promise_spec.specs.UnitRule.{KeepsUnitRule}
use Rattle.turn_rules.specs.NextEvent.{is_begin, with_event}
use Rattle.turn_rules.specs.TurnLoop.{IsTurning, IsPicked, MissesOnly, Pass, TurnLoop, no_pass}
use Rattle.turn_rules.proofs.Growth.{ends-more}
use Rattle.turn_rules.proofs.Numbers.{next-stays}
use Rattle.turn_rules.proofs.WantedHere.{no-load-step}
use Rattle.turn_rules.proofs.Settlers.{settlers}
use Rattle.turn_rules.proofs.Turns.{turn-settler}
use Rattle.unit_carrier.specs.CarriedUnits.{units_carried}
use Rattle.run_books.specs.declared.faults.RunFault.{RunFault}
use Rattle.run_books.specs.declared.faults.RunFault.TheVariants.{InDoubt, WriteFault, LoadFault, LoadDamaged, Memory}
use Rattle.run_books.specs.Beginnings.{Outset, IsOutset, GoUpFrom, basis_of}
use Rattle.run_books.specs.Books.{Books}
use Rattle.interleaver.specs.Flights.{loop_at}
use Rattle.run_books.specs.Images.{LastsSo}
use Rattle.run_books.specs.Records.{KeepsBooks, TurnsEndAs}
use Rattle.run_books.specs.BooksSteps.{AreEven}
use Rattle.run_books.proofs.BooksStated.{OthersKeep}
use Rattle.settle_loop.specs.SettlerStep.{has_unwritten}
use Rattle.settle_loop.specs.declared.settler.Settler.{Settler}
use Rattle.interleaver.specs.Turns.{TurnsGoOn as RecordGoesOn}
use Rattle.interleaver.specs.TurnStages.{TurnStage, GoesBy, IsUnderWay, WentOn, SettlesBy, SettledSays, SettledOn}
use Rattle.interleaver.proofs.RunningTurns.{way-unstopped}
use Rattle.interleaver.proofs.Frames.{lines-stay, settler-no-line}
use Rattle.interleaver.proofs.SettlerTurns.{goes-rule}
use Rattle.run_books.specs.Stages.{Stage, stage_by}

-- what the settler's answer says where it ends the run, the run's says
pub ends-so : (T : Type 0) (tells : Bool) (o : Outset) (b : Books) (s : Stage) (f : RunFault) → SettledSays {T = T} tells o b s (Err f) → TurnsEndAs tells o b s {T = Bool} (Err f)
ends-so T tells o b s InDoubt x = x
ends-so T tells o b s WriteFault x = x
ends-so T tells o b s (LoadFault file) x = x
ends-so T tells o b s (LoadDamaged file place) x = x
ends-so T tells o b s Memory x = x

-- what is left of the lines stays where no line is taken
pub outset-stays : (o : Outset) (types : ProgramTree) (r r' : Run) (lines : List Line) (width : ℕ) (picks : List ℕ) → r'.kinds ≡ r.kinds → (ends r').units.lines ≡ (ends r).units.lines
    → IsOutset o types r lines width picks → IsOutset o types r' lines width picks
outset-stays o types r r' lines width picks kinds same is = record {
  types_are = is.types_are;
  kinds = kinds ∙ is.kinds;
  width_is = is.width_is;
  wide = is.wide;
  picks_are = is.picks_are;
  all = is.all ∙ ap (λ (n : ℕ). n + length lines) (sym same);
  reads = subst (λ (k : ℕ). (at : ℕ) (line : Line) → slice_get lines at ≡ Some line → ReadsLineAs types o.asked (k + at + 1) line.what) (sym same) is.reads;
  inner = subst (λ (k : ℕ). (n : ℕ) → k < n → n < length o.asked → at_seam o.windowed n ≡ false) (sym same) is.inner;
}

-- the loop where it stands, by its parts
pub loop-into : (o : Outset) (r r' : Run) (us us' : List UnitNo) (used used' : ℕ) (p p' : Pass) → r' ≡ r → us' ≡ us → used' ≡ used → p' ≡ p
    → IsTurning (record { basis = basis_of o; windowed = o.windowed; ruled = o.ruled; width = o.width; picks = o.picks; run = r; units = us; used = used; pass = p })
    → IsTurning (record { basis = basis_of o; windowed = o.windowed; ruled = o.ruled; width = o.width; picks = o.picks; run = r'; units = us'; used = used'; pass = p' })
loop-into o r r' us us' used used' p p' on same many stands t =
    subst (λ (x : Run). IsTurning (record { basis = basis_of o; windowed = o.windowed; ruled = o.ruled; width = o.width; picks = o.picks; run = x; units = us'; used = used'; pass = p' })) (sym on)
    (subst (λ (v : List UnitNo). IsTurning (record { basis = basis_of o; windowed = o.windowed; ruled = o.ruled; width = o.width; picks = o.picks; run = r; units = v; used = used'; pass = p' })) (sym same)
    (subst (λ (k : ℕ). IsTurning (record { basis = basis_of o; windowed = o.windowed; ruled = o.ruled; width = o.width; picks = o.picks; run = r; units = us; used = k; pass = p' })) (sym many)
    (subst (λ (x : Pass). IsTurning (record { basis = basis_of o; windowed = o.windowed; ruled = o.ruled; width = o.width; picks = o.picks; run = r; units = us; used = used; pass = x })) (sym stands) t)))

module _ (tells : Bool) (o : Outset) (lines : List Line) (b : Books) (s s' : TurnStage) (way : IsUnderWay tells o o.program.types lines o.width o.picks b s)
    (begun : s'.begun ≡ s.begun) (settler : s'.at.settler ≡ s.at.settler) (counts : s'.at.faults ≡ s.at.faults) (world : s'.at.world ≡ s.at.world) where
  -- where the run is as it was, the turns are under way, however the pass stands
  pub still-went : s'.at.run ≡ s.at.run → IsTurning (loop_at o s'.at.run s'.agents s'.used s'.pass) → WentOn tells o o.program.types lines o.width o.picks b s s'
  still-went run turning = record {
    books = b;
    under_way = record {
      outset = subst (λ (n : ℕ). IsOutset o o.program.types s'.at.run (drop n lines) o.width o.picks) (sym begun) (subst (λ (x : Run). IsOutset o o.program.types x (drop s.begun lines) o.width o.picks) (sym run) way.outset);
      numbers = subst (λ (n : ℕ). GoUpFrom (ends s'.at.run).units.lines (drop n lines)) (sym begun) (subst (λ (x : Run). GoUpFrom (ends x).units.lines (drop s.begun lines)) (sym run) way.numbers);
      accepted = way.accepted;
      few = subst (λ (x : Run). (ends x).units.next ≤ 2 ^ 63) (sym run) way.few;
      room = subst (λ (x : Run). (ends x).units.lines < 2 ^ 32) (sym run) way.room;
      turning = turning;
      books = subst (λ (x : World). KeepsBooks tells o b (stage_by s'.at.run s'.at.settler s'.at.faults x)) (sym world)
          (subst (λ (x : Channel → ℕ). KeepsBooks tells o b (stage_by s'.at.run s'.at.settler x s.at.world)) (sym counts)
          (subst (λ (x : Settler). KeepsBooks tells o b (stage_by s'.at.run x s.at.faults s.at.world)) (sym settler)
          (subst (λ (x : Run). KeepsBooks tells o b (stage_by x s.at.settler s.at.faults s.at.world)) (sym run) way.books)));
      even = subst (λ (x : Settler). AreEven x.quiet b (ends s'.at.run)) (sym settler) (subst (λ (x : Run). AreEven s.at.settler.quiet b (ends x)) (sym run) way.even);
      left = subst (λ (x : Settler). x.doubted ≡ true → has_unwritten (ends s'.at.run) ≡ true) (sym settler) (subst (λ (x : Run). s.at.settler.doubted ≡ true → has_unwritten (ends x) ≡ true) (sym run) way.left);
    };
    lasts = λ t head was. subst (λ (x : World). LastsSo o head b s'.at.run s'.at.settler.writer x) (sym world)
        (subst (λ (x : Settler). LastsSo o head b s'.at.run x.writer s.at.world) (sym settler)
        (subst (λ (x : Run). LastsSo o head b x s.at.settler.writer s.at.world) (sym run) was));
  }

  -- where one event came that is a unit's own, or its wish, all goes on
  pub event-went : OthersKeep → (e : CoreEvent) → s'.at.run ≡ with_event s.at.run e → is_settling e ≡ false → (mover_of e ≡ OfLine → ⊥) → IsTurning (loop_at o s'.at.run s'.agents s'.used s'.pass)
      → s.at.settler.doubted ≡ false → (ends s'.at.run).units.next ≤ 2 ^ 63 → WentOn tells o o.program.types lines o.width o.picks b s s'
  event-went keeps e run other not-line turning sure few =
      let rule : KeepsUnitRule (basis_of o) (with_event s.at.run e) = subst (KeepsUnitRule (basis_of o)) run turning.unit_rule in
      let on = keeps tells o b s.at.run e s.at.settler s.at.faults s.at.world way.turning.first way.turning.unit_rule rule other way.even way.books in
      let same : (ends s'.at.run).units.lines ≡ (ends s.at.run).units.lines =
      ap (λ (x : Run). (ends x).units.lines) run ∙ ap (λ (x : CoreState). x.units.lines) (ends-more s.at.run e) ∙ lines-stay (ends s.at.run) e not-line in
      record {
        books = on.0.books;
        under_way = record {
          outset = subst (λ (n : ℕ). IsOutset o o.program.types s'.at.run (drop n lines) o.width o.picks) (sym begun)
              (outset-stays o o.program.types s.at.run s'.at.run (drop s.begun lines) o.width o.picks (ap (λ (x : Run). x.kinds) run) same way.outset);
          numbers = subst (λ (n : ℕ). GoUpFrom (ends s'.at.run).units.lines (drop n lines)) (sym begun) (subst (λ (k : ℕ). GoUpFrom k (drop s.begun lines)) (sym same) way.numbers);
          accepted = way.accepted;
          few = few;
          room = subst (λ (k : ℕ). k < 2 ^ 32) (sym same) way.room;
          turning = turning;
          books = subst (λ (x : World). KeepsBooks tells o on.0.books (stage_by s'.at.run s'.at.settler s'.at.faults x)) (sym world)
              (subst (λ (x : Channel → ℕ). KeepsBooks tells o on.0.books (stage_by s'.at.run s'.at.settler x s.at.world)) (sym counts)
              (subst (λ (x : Settler). KeepsBooks tells o on.0.books (stage_by s'.at.run x s.at.faults s.at.world)) (sym settler)
              (subst (λ (x : Run). KeepsBooks tells o on.0.books (stage_by x s.at.settler s.at.faults s.at.world)) (sym run) on.0.kept)));
          even = subst (λ (x : Settler). AreEven x.quiet on.0.books (ends s'.at.run)) (sym settler) (subst (λ (x : Run). AreEven s.at.settler.quiet on.0.books (ends x)) (sym run) on.1);
          left = λ d. absurd (true≢false (sym d ∙ ap (λ (x : Settler). x.doubted) settler ∙ sure));
        };
        lasts = λ t head was. subst (λ (x : World). LastsSo o head on.0.books s'.at.run s'.at.settler.writer x) (sym world)
            (subst (λ (x : Settler). LastsSo o head on.0.books s'.at.run x.writer s.at.world) (sym settler)
            (subst (λ (x : Run). LastsSo o head on.0.books x s.at.settler.writer s.at.world) (sym run) (on.0.lasts t head was)));
      }

module _ (tells : Bool) (o : Outset) (lines : List Line) (b : Books) (s s' : TurnStage) (way : IsUnderWay tells o o.program.types lines o.width o.picks b s) where
  abbrev l : TurnLoop
  l = loop_at o s.at.run s.agents s.used s.pass

  -- the settler's event applies
  settler-applies : (e : CoreEvent) → MakesEvent (settler_step (ends s.at.run)) e → applies (ends s.at.run) e ≡ true
  settler-applies e makes = step-applies s.at.run e makes ∙ ap (λ (h : Bool). not h || is_after_halt e) (way-unstopped way)

  -- an event of the settler's
  pub settled-went : {T : Type 0} (done : T) (e : CoreEvent) → s'.at.run ≡ with_event s.at.run e → is_begin e ≡ false → (mover_of e ≡ OfLine → ⊥) → SettledOn {T = T} tells o b s.at s'.at (Ok done) → s'.begun ≡ s.begun
      → IsTurning (loop_at o s'.at.run s'.agents s'.used s'.pass) → WentOn tells o o.program.types lines o.width o.picks b s s'
  settled-went done e run begins-none not-line on begun turning =
      let same : (ends s'.at.run).units.lines ≡ (ends s.at.run).units.lines =
      ap (λ (x : Run). (ends x).units.lines) run ∙ ap (λ (x : CoreState). x.units.lines) (ends-more s.at.run e) ∙ lines-stay (ends s.at.run) e not-line in
      let next : (ends s'.at.run).units.next ≡ (ends s.at.run).units.next =
      ap (λ (x : Run). (ends x).units.next) run ∙ ap (λ (x : CoreState). x.units.next) (ends-more s.at.run e) ∙ next-stays (ends s.at.run) e begins-none in
      record {
        books = on.on.books;
        under_way = record {
          outset = subst (λ (n : ℕ). IsOutset o o.program.types s'.at.run (drop n lines) o.width o.picks) (sym begun)
              (outset-stays o o.program.types s.at.run s'.at.run (drop s.begun lines) o.width o.picks (ap (λ (x : Run). x.kinds) run) same way.outset);
          numbers = subst (λ (n : ℕ). GoUpFrom (ends s'.at.run).units.lines (drop n lines)) (sym begun) (subst (λ (k : ℕ). GoUpFrom k (drop s.begun lines)) (sym same) way.numbers);
          accepted = way.accepted;
          few = subst (λ (k : ℕ). k ≤ 2 ^ 63) (sym next) way.few;
          room = subst (λ (k : ℕ). k < 2 ^ 32) (sym same) way.room;
          turning = turning;
          books = on.on.kept;
          even = on.says.0;
          left = on.says.1;
        };
        lasts = on.on.lasts;
      }

  -- a turn of the settler
  pub settler-went : {T : Type 0} (done : T) → IsPicked l OfSettler → (e : CoreEvent) → MakesEvent (settler_step (ends s.at.run)) e → s'.at.run ≡ with_event s.at.run e
      → SettledOn {T = T} tells o b s.at s'.at (Ok done)
      → units_carried s'.agents ≡ units_carried s.agents → s'.used ≡ s.used + 1 → s'.begun ≡ s.begun → s'.pass ≡ no_pass
      → WentOn tells o o.program.types lines o.width o.picks b s s'
  settler-went done pick e makes run on agents used begun fresh =
      let none : next_wanted (ends s.at.run) ≡ None = subst (λ (g : Option GrainId). MissesOnly g (ends s.at.run)) pick.through.none_due way.turning.passing.missing in
      let is = settlers (settler_step (ends s.at.run)) e (no-load-step s.at.run (way-unstopped way) none) makes in
      settled-went done e run is.1 (settler-no-line e is.0) on begun
      (loop-into o (with_event s.at.run e) s'.at.run (units_carried s.agents) (units_carried s'.agents) (s.used + 1) s'.used no_pass s'.pass run agents used fresh (turn-settler l way.turning e pick makes (settler-applies e makes)))

  -- one that ends the run, where the turn rule is kept by what it put
  pub settled-ends : {T : Type 0} (next : CoreState → Step) → GoesBy next s.at.run s'.at.run → (fault : RunFault) → SettledOn {T = T} tells o b s.at s'.at (Err fault)
      → ((e : CoreEvent) → MakesEvent (next (ends s.at.run)) e → o.ruled ≡ true → KeepsTurnRule o.program.types o.windowed (length o.asked) o.width o.picks (with_event s.at.run e))
      → RecordGoesOn {T = Bool} tells o b s.at s'.at (Err fault)
  settled-ends {T} next by fault on ruled-by = record {
    books = on.on.books;
    record_kept = record {
      above = above by;
      units = goes-rule o next s.at.run s'.at.run by way.turning.unit_rule;
      turns = turns by;
      books = on.on.kept;
    };
    lasts = on.on.lasts;
    ended = ends-so T tells o on.on.books s'.at fault on.says;
  }
    where
      above : GoesBy next s.at.run s'.at.run → 0 < s'.at.run.base
      above (inl q) = subst (λ (x : Run). 0 < x.base) (sym q) way.turning.first
      above (inr x) = subst (λ (x : Run). 0 < x.base) (sym x.2) way.turning.first

      turns : GoesBy next s.at.run s'.at.run → o.ruled ≡ true → KeepsTurnRule o.program.types o.windowed (length o.asked) o.width o.picks s'.at.run
      turns (inl q) ruled = subst (KeepsTurnRule o.program.types o.windowed (length o.asked) o.width o.picks) (sym q) (way.turning.turn_rule ruled)
      turns (inr x) ruled = subst (KeepsTurnRule o.program.types o.windowed (length o.asked) o.width o.picks) (sym x.2) (ruled-by x.0 x.1 ruled)

  -- and so a turn of the settler
  pub settler-ends : {T : Type 0} → IsPicked l OfSettler → SettlesBy s.at.run s'.at.run → (fault : RunFault) → SettledOn {T = T} tells o b s.at s'.at (Err fault)
      → RecordGoesOn {T = Bool} tells o b s.at s'.at (Err fault)
  settler-ends {T} pick by fault on = settled-ends {T = T} settler_step by fault on (λ e makes ruled. (turn-settler l way.turning e pick makes (settler-applies e makes)).turn_rule ruled)
