-- How a run ends where memory runs out in a turn.
use Rattle.std.proofs.Common.{◌≡◌, ◌⊎◌, ℕ, suc, ◌+◌, arith, Some, None, List, ◌∷◌, length, Bool, true, false, inl, inr, refl, sym, ap, ◌∙◌, subst}
use Rattle.std.specs.Prelude.{slice_get, drop, Err, Result, Ok}
use Rattle.base_types.specs.declared.entries.BadRequest.{BadRequest}
use Rattle.base_types.specs.declared.calls.Origin.TheVariants.{Line as OfLineOrigin}
use Rattle.request_wire.specs.declared.requests.Line.{Line}
use Rattle.core_model.specs.CoreState.{UnitNo, Call}
use Rattle.core_model.specs.declared.events.CoreEvent.{CoreEvent}
use Rattle.core_model.specs.declared.events.CoreEvent.TheVariants.{Bad, Begin, Halt}
use Rattle.core_model.specs.declared.events.CoreReply.{CoreReply}
use Rattle.core_model.specs.LegalRuns.{Run, ends}
use Rattle.core_access.specs.OneHolder.{none_comes, own_sight}
use Rattle.core_access.specs.SettlerEvents.{is_settling}
use Rattle.core_access.specs.Sights.{run_seen, saw, Looks, IsAlone}
use Rattle.core_access.proofs.OneHolder.{own-run, own-alone}
use Rattle.core_access.proofs.Sights.{looks-alone}
use Rattle.worker_rules.specs.UnitOwnership.{leaves_unit}
use Rattle.promise_spec.specs.Lines.{ReadsLineAs}
use Rattle.promise_spec.specs.UnitRule.{KeepsUnitRule}
use Rattle.promise_spec.specs.TurnRule.{OfUnit, OfLine, mover_of}
use Rattle.turn_rules.specs.NextEvent.{with_event, MayCome, IsNext}
use Rattle.turn_rules.specs.TurnLoop.{IsPicked, TurnLoop, has_room}
use Rattle.turn_rules.proofs.Growth.{unit-grows, turn-grows}
use Rattle.turn_rules.proofs.Turns.{lines-next, picks-next}
use Rattle.txn_agent.specs.AgentStep.{Acts}
use Rattle.unit_carrier.specs.Lines.{PutsLine, IsEventOf}
use Rattle.run_books.specs.declared.faults.RunFault.TheVariants.{Memory}
use Rattle.run_books.specs.Beginnings.{Outset, GoUpFrom, basis_of}
use Rattle.run_books.specs.Books.{Books}
use Rattle.interleaver.specs.Flights.{loop_at}
use Rattle.interleaver.specs.Turns.{TurnsGoOn as RecordGoesOn}
use Rattle.interleaver.specs.TurnStages.{TurnStage, IsUnderWay}
use Rattle.interleaver.proofs.LonePasses.{own-same, own-told}
use Rattle.run_books.proofs.BooksStated.{OthersKeep}
use Rattle.interleaver.proofs.Frames.{unit-others, unit-no-halt}
use Rattle.interleaver.proofs.LineTurns.{drop-at}
use Rattle.run_books.specs.Stages.{stage_by}

module _ (keeps : OthersKeep) (tells : Bool) (o : Outset) (lines : List Line) (b : Books) (s : TurnStage) (r' : Run) (way : IsUnderWay tells o o.program.types lines o.width o.picks b s) where
  abbrev l : TurnLoop
  l = loop_at o s.at.run s.agents s.used s.pass

  abbrev Ends : Run → Type 0
  Ends x = RecordGoesOn {T = Bool} tells o b s.at (stage_by x s.at.settler s.at.faults s.at.world) (Err Memory)

  -- nothing was put
  pub lacks-none : r' ≡ s.at.run → Ends r'
  lacks-none q = subst Ends (sym q) (record {
    books = b;
    record_kept = record { above = way.turning.first; units = way.turning.unit_rule; turns = way.turning.turn_rule; books = way.books };
    lasts = λ t head was. was;
    ended = way.even.rest;
  })

  -- an event was put that is the next
  lacks-event : (e : CoreEvent) → r' ≡ with_event s.at.run e → MayCome (basis_of o) s.at.run e → (o.ruled ≡ true → IsNext o.program.types o.windowed (length o.asked) o.width o.picks s.at.run e) → is_settling e ≡ false → (e ≡ Halt → ⊥) → Ends r'
  lacks-event e q may is_next other halt =
      let rule : KeepsUnitRule (basis_of o) (with_event s.at.run e) = unit-grows (basis_of o) s.at.run e way.turning.unit_rule may in
      let on = keeps tells o b s.at.run e s.at.settler s.at.faults s.at.world way.turning.first way.turning.unit_rule rule other way.even way.books in
      subst Ends (sym q) (record {
        books = on.0.books;
        record_kept = record {
          above = way.turning.first;
          units = rule;
          turns = λ ruled. turn-grows o.program.types o.windowed (length o.asked) o.width o.picks s.at.run e (way.turning.turn_rule ruled) (is_next ruled);
          books = on.0.kept;
        };
        lasts = on.0.lasts;
        ended = on.1.rest;
      })

  -- the picked unit's event is the next
  unit-next : o.ruled ≡ true → (u : UnitNo) → IsPicked l (OfUnit u) → (e : CoreEvent) → mover_of e ≡ OfUnit u → IsNext o.program.types o.windowed (length o.asked) o.width o.picks s.at.run e
  unit-next ruled u pick e own = picks-next l way.turning (OfUnit u) e pick own tt ruled

  -- and so is a line's, where no wanted grain is missing
  line-next : o.ruled ≡ true → s.pass.due ≡ None → has_room l ≡ true → (e : CoreEvent) → mover_of e ≡ OfLine → IsNext o.program.types o.windowed (length o.asked) o.width o.picks s.at.run e
  line-next ruled due room e own = lines-next l way.turning e due own room ruled

  -- a unit's step that had no memory
  pub unit-lacks : (u : UnitNo) → IsPicked l (OfUnit u) → Acts none_comes o.program.types u (own_sight s.at.run) (own_sight r') → Ends r'
  unit-lacks u pick (inl looked) = lacks-none (own-same s.at.run r' looked)
  unit-lacks u pick (inr (e, (y, p))) =
      let same : saw (own_sight s.at.run) p.told.rest ≡ own_sight s.at.run = looks-alone (own_sight s.at.run) (saw (own_sight s.at.run) p.told.rest) (record { rest = p.told.rest; others = p.told.others; sight = refl }) in
      let due : MayCome (basis_of o) s.at.run e =
      subst (λ (x : Run). MayCome (basis_of o) x e) (ap run_seen same ∙ own-run s.at.run) (p.due (subst (IsAlone (leaves_unit u)) (sym same) (own-alone (leaves_unit u) s.at.run)) (basis_of o) refl) in
      lacks-event e (own-told s.at.run r' e y p.told) due (λ ruled. unit-next ruled u pick e p.own) (unit-others u e p.own) (unit-no-halt u e p.own)

  -- a line's event that had none
  pub line-lacks : (line : Line) → slice_get lines s.begun ≡ Some line → s.pass.due ≡ None → has_room l ≡ true
      → Looks none_comes (own_sight s.at.run) (own_sight r') ⊎ ((y : CoreReply) × PutsLine none_comes o.program.types line.number line.what (own_sight s.at.run) (own_sight r') y) → Ends r'
  line-lacks line next due room (inl looked) = lacks-none (own-same s.at.run r' looked)
  line-lacks line next due room (inr (y, p)) = by line.what refl p.is
    where
      numbers : GoUpFrom (ends s.at.run).units.lines (line ∷ drop (suc s.begun) lines)
      numbers = subst (GoUpFrom (ends s.at.run).units.lines) (drop-at lines s.begun line next) way.numbers

      this-reads : ReadsLineAs o.program.types o.asked line.number line.what
      this-reads = subst (λ (k : ℕ). ReadsLineAs o.program.types o.asked k line.what) (let e : (ends s.at.run).units.lines + 0 + 1 ≡ (ends s.at.run).units.lines + 1 = omega arith in e ∙ sym numbers.0)
          (way.outset.reads 0 line (ap (λ (xs : List Line). slice_get xs 0) (drop-at lines s.begun line next)))

      run : r' ≡ with_event s.at.run p.e
      run = own-told s.at.run r' p.e y p.told

      by : (what : Result Call BadRequest) → line.what ≡ what → IsEventOf o.program.types line.number what p.e → Ends r'
      by (Ok call) q is =
          lacks-event (Begin (OfLineOrigin line.number) call is.0) (run ∙ ap (with_event s.at.run) is.1) (λ x. (subst (ReadsLineAs o.program.types o.asked line.number) q this-reads, is.2))
          (λ ruled. line-next ruled due room (Begin (OfLineOrigin line.number) call is.0) refl) refl (λ h. apart call is.0 h)
        where
          apart : (c : Call) (f : Bool) → Begin (OfLineOrigin line.number) c f ≡ Halt → ⊥
          apart c f t = absurd cc
      by (Err why) q is =
          lacks-event (Bad line.number why) (run ∙ ap (with_event s.at.run) is) (λ x. subst (ReadsLineAs o.program.types o.asked line.number) q this-reads)
          (λ ruled. line-next ruled due room (Bad line.number why) refl) refl (λ h. apart why h)
        where
          apart : (f : BadRequest) → Bad line.number f ≡ Halt → ⊥
          apart f t = absurd cc
