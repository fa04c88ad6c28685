-- A turn of a line: it begins, or is bad.
use Rattle.std.proofs.Common.{◌≡◌, ℕ, zero, suc, ◌+◌, ◌^◌, ◌≤◌, ◌<◌, Option, Some, None, List, [], ◌∷◌, length, Bool, true, false, true≢false, refl, sym, ap, ◌∙◌, subst, arith}
use Rattle.std.specs.Prelude.{is_none, slice_get, drop, Result, Ok, Err, not, ◌||◌, ◌&&◌, ◌==◌}
use Rattle.std.proofs.lemmas.Bool.{cond-true, and_parts}
use Rattle.host_trait.specs.World.{World}
use Rattle.host_trait.specs.declared.channels.Channel.{Channel}
use Rattle.base_types.specs.declared.entries.BadRequest.{BadRequest}
use Rattle.base_types.specs.declared.calls.Origin.TheVariants.{Line as OfLineOrigin}
use Rattle.request_wire.specs.declared.requests.Line.{Line}
use Rattle.core_model.specs.CoreState.{Call, CoreState}
use Rattle.core_model.specs.declared.events.CoreEvent.{CoreEvent}
use Rattle.core_model.specs.declared.events.CoreEvent.TheVariants.{Bad, Begin, Halt}
use Rattle.core_model.specs.Changes.{new_unit}
use Rattle.core_model.specs.Events.{applies, reply_to, reply_with, reply_without}
use Rattle.core_model.specs.LegalRuns.{Run, ends}
use Rattle.core_access.specs.OneHolder.{own_sight}
use Rattle.core_access.specs.SettlerEvents.{is_settling}
use Rattle.core_access.proofs.OneHolder.{own-run}
use Rattle.core_access.proofs.Sights.{reply-alone}
use Rattle.promise_spec.specs.Lines.{ReadsLineAs}
use Rattle.promise_spec.specs.UnitRule.{KeepsUnitRule}
use Rattle.turn_rules.specs.NextEvent.{with_event, MayCome}
use Rattle.turn_rules.specs.TurnLoop.{IsTurning, TurnLoop, has_room, no_pass, with_new}
use Rattle.turn_rules.proofs.Growth.{ends-more}
use Rattle.turn_rules.proofs.Turns.{turn-bad, turn-line}
use Rattle.txn_agent.specs.Replies.{began_by}
use Rattle.settle_loop.specs.declared.settler.Settler.{Settler}
use Rattle.unit_carrier.specs.CarriedUnits.{units_carried}
use Rattle.unit_carrier.specs.Lines.{IsEventOf, with_begun}
use Rattle.run_books.specs.Beginnings.{Outset, IsOutset, GoUpFrom, basis_of}
use Rattle.run_books.specs.Books.{Books}
use Rattle.interleaver.specs.Flights.{loop_at}
use Rattle.run_books.specs.Images.{LastsSo}
use Rattle.run_books.specs.Records.{KeepsBooks}
use Rattle.run_books.specs.BooksSteps.{AreEven}
use Rattle.interleaver.specs.TurnStages.{TurnStage, IsUnderWay, WentOn, BeganOn}
use Rattle.interleaver.proofs.RunningTurns.{way-unstopped}
use Rattle.interleaver.proofs.LonePasses.{own-told}
use Rattle.run_books.proofs.BooksStated.{OthersKeep}
use Rattle.interleaver.proofs.Frames.{lines-begun, lines-bad, same-number}
use Rattle.interleaver.proofs.OtherTurns.{loop-into}
use Rattle.run_books.specs.Stages.{stage_by}

-- the list behind an index
pub drop-at : {A : Type 0} (xs : List A) (i : ℕ) (x : A) → slice_get xs i ≡ Some x → drop i xs ≡ x ∷ drop (suc i) xs
drop-at [] i x q = absurd cc
drop-at {A} (y ∷ xs) zero x q = ap (λ (a : A). a ∷ xs) (same y x q)
  where
    same : (a b : A) → Some a ≡ Some b → a ≡ b
    same a b e = cc
drop-at (y ∷ xs) (suc i) x q = drop-at xs i x q

-- what a line's event needs
allowed-with : (d : Option ℕ) (h e : Bool) → is_none d ≡ true → h ≡ false → e ≡ true → (((is_none d || false) && (not h || false)) && e) ≡ true
allowed-with d h e p q t =
    ap (λ (a : Bool). ((a || false) && (not h || false)) && e) p ∙ ap (λ (a : Bool). ((true || false) && (not a || false)) && e) q ∙ t

module _ (keeps : OthersKeep) (tells : Bool) (o : Outset) (lines : List Line) (b : Books) (s s' : TurnStage) (way : IsUnderWay tells o o.program.types lines o.width o.picks b s)
    (line : Line) (next : slice_get lines s.begun ≡ Some line) (due : s.pass.due ≡ None) (room : has_room (loop_at o s.at.run s.agents s.used s.pass) ≡ true) where
  abbrev l : TurnLoop
  l = loop_at o s.at.run s.agents s.used s.pass

  abbrev rest : List Line
  rest = drop (suc s.begun) lines

  split : drop s.begun lines ≡ line ∷ rest
  split = drop-at lines s.begun line next

  numbers : GoUpFrom (ends s.at.run).units.lines (line ∷ rest)
  numbers = subst (GoUpFrom (ends s.at.run).units.lines) split way.numbers

  sure : is_none (ends s.at.run).manager.doubt ≡ true
  sure = (and_parts (is_none (ends s.at.run).manager.doubt) _ room).0

  all : length o.asked ≡ (ends s.at.run).units.lines + length (line ∷ rest)
  all = way.outset.all ∙ ap (λ (x : List Line). (ends s.at.run).units.lines + length x) split

  reads : (at : ℕ) (x : Line) → slice_get (line ∷ rest) at ≡ Some x → ReadsLineAs o.program.types o.asked ((ends s.at.run).units.lines + at + 1) x.what
  reads = subst (λ (xs : List Line). (at : ℕ) (x : Line) → slice_get xs at ≡ Some x → ReadsLineAs o.program.types o.asked ((ends s.at.run).units.lines + at + 1) x.what) split way.outset.reads

  this-reads : ReadsLineAs o.program.types o.asked line.number line.what
  this-reads = subst (λ (k : ℕ). ReadsLineAs o.program.types o.asked k line.what) (let e : (ends s.at.run).units.lines + 0 + 1 ≡ (ends s.at.run).units.lines + 1 = omega arith in e ∙ sym numbers.0) (reads 0 line refl)

  -- all goes on by the line's event
  line-on : (e : CoreEvent) → s'.at.run ≡ with_event s.at.run e → is_settling e ≡ false → (e ≡ Halt → ⊥) → (ends s'.at.run).units.lines ≡ (ends s.at.run).units.lines + 1 → (ends s'.at.run).units.next ≤ 2 ^ 63
      → line.number < 2 ^ 32 → IsTurning (loop_at o s'.at.run s'.agents s'.used s'.pass) → s'.begun ≡ s.begun + 1 → s'.at.settler ≡ s.at.settler → s'.at.faults ≡ s.at.faults → s'.at.world ≡ s.at.world → s.at.settler.doubted ≡ false
      → WentOn tells o o.program.types lines o.width o.picks b s s'
  line-on e run other halt more few small turning begun settler counts world calm =
      let rule : KeepsUnitRule (basis_of o) (with_event s.at.run e) = subst (KeepsUnitRule (basis_of o)) run turning.unit_rule in
      let on = keeps tells o b s.at.run e s.at.settler s.at.faults s.at.world way.turning.first way.turning.unit_rule rule other way.even way.books in
      let at : s'.begun ≡ suc s.begun = (let x : s.begun + 1 ≡ suc s.begun = omega arith in begun ∙ x) in
      record {
        books = on.0.books;
        under_way = record {
          outset = subst (λ (n : ℕ). IsOutset o o.program.types s'.at.run (drop n lines) o.width o.picks) (sym at) (record {
            types_are = refl;
            kinds = ap (λ (x : Run). x.kinds) run ∙ way.outset.kinds;
            width_is = refl;
            wide = way.outset.wide;
            picks_are = refl;
            all = (let x : (ends s.at.run).units.lines + length (line ∷ rest) ≡ (ends s'.at.run).units.lines + length rest = omega (arith, more) in all ∙ x);
            reads = λ i x q. subst (λ (k : ℕ). ReadsLineAs o.program.types o.asked k x.what)
                (let z : (ends s.at.run).units.lines + suc i + 1 ≡ (ends s'.at.run).units.lines + i + 1 = omega (arith, more) in z) (reads (suc i) x q);
            inner = λ n lo hi. way.outset.inner n (omega (arith, more, lo)) hi;
          });
          numbers = subst (λ (n : ℕ). GoUpFrom (ends s'.at.run).units.lines (drop n lines)) (sym at) (subst (λ (k : ℕ). GoUpFrom k rest) (sym more) numbers.1);
          accepted = way.accepted;
          few = few;
          room = (let is = numbers.0 in omega (arith, more, is, small));
          turning = turning;
          books = subst (λ (x : World). KeepsBooks tells o on.0.books (stage_by s'.at.run s'.at.settler s'.at.faults x)) (sym world)
              (subst (λ (x : Channel → ℕ). KeepsBooks tells o on.0.books (stage_by s'.at.run s'.at.settler x s.at.world)) (sym counts)
              (subst (λ (x : Settler). KeepsBooks tells o on.0.books (stage_by s'.at.run x s.at.faults s.at.world)) (sym settler)
              (subst (λ (x : Run). KeepsBooks tells o on.0.books (stage_by x s.at.settler s.at.faults s.at.world)) (sym run) on.0.kept)));
          even = subst (λ (x : Settler). AreEven x.quiet on.0.books (ends s'.at.run)) (sym settler) (subst (λ (x : Run). AreEven s.at.settler.quiet on.0.books (ends x)) (sym run) on.1);
          left = λ d. absurd (true≢false (sym d ∙ ap (λ (x : Settler). x.doubted) settler ∙ calm));
        };
        lasts = λ t head was. subst (λ (x : World). LastsSo o head on.0.books s'.at.run s'.at.settler.writer x) (sym world)
            (subst (λ (x : Settler). LastsSo o head on.0.books s'.at.run x.writer s.at.world) (sym settler)
            (subst (λ (x : Run). LastsSo o head on.0.books x s.at.settler.writer s.at.world) (sym run) (on.0.lasts t head was)));
      }

  -- a line's turn
  pub line-went : BeganOn o.program.types line s.at.run s'.at.run s.agents s'.agents → s'.used ≡ s.used → s'.pass ≡ no_pass → s'.begun ≡ s.begun + 1 → s'.at.settler ≡ s.at.settler → s'.at.faults ≡ s.at.faults → s'.at.world ≡ s.at.world
      → s.at.settler.doubted ≡ false → WentOn tells o o.program.types lines o.width o.picks b s s'
  line-went g used fresh begun settler counts world calm = by line.what refl g.on.put.is
    where
      e : CoreEvent
      e = g.on.put.e

      run : s'.at.run ≡ with_event s.at.run e
      run = own-told s.at.run s'.at.run e g.on.r g.on.put.told

      replied : g.on.r ≡ reply_to (ends s.at.run) e
      replied = reply-alone (own_sight s.at.run) (own_sight s'.at.run) e g.on.r g.on.put.told ∙ ap (λ (x : Run). reply_to (ends x) e) (own-run s.at.run)

      by : (what : Result Call BadRequest) → line.what ≡ what → IsEventOf o.program.types line.number what e → WentOn tells o o.program.types lines o.width o.picks b s s'
      by (Ok call) q is =
          let plain = is.0 in
          let ev : CoreEvent = Begin (OfLineOrigin line.number) call plain in
          let a : applies (ends s.at.run) ev ≡ true = allowed-with (ends s.at.run).manager.doubt (ends s.at.run).units.halt (line.number == (ends s.at.run).units.lines + 1) sure (way-unstopped way) (same-number line.number ((ends s.at.run).units.lines + 1) numbers.0) in
          let may : MayCome (basis_of o) s.at.run ev = (λ x. (subst (ReadsLineAs o.program.types o.asked line.number) q this-reads, is.2)) in
          let on : s'.at.run ≡ with_event s.at.run ev = run ∙ ap (with_event s.at.run) is.1 in
          let new : began_by g.on.r ≡ Some (new_unit (ends s.at.run)) =
          ap began_by (replied ∙ ap (reply_to (ends s.at.run)) is.1 ∙ cond-true (applies (ends s.at.run) ev) (reply_with (ends s.at.run) ev) (reply_without (ends s.at.run) ev) a) in
          let us : units_carried s'.agents ≡ with_new l = g.on.units ∙ ap (with_begun (units_carried s.agents)) (g.on.is ∙ new) in
          let more : (ends s'.at.run).units.lines ≡ (ends s.at.run).units.lines + 1 =
          ap (λ (x : Run). (ends x).units.lines) on ∙ ap (λ (x : CoreState). x.units.lines) (ends-more s.at.run ev) ∙ lines-begun (ends s.at.run) line.number call plain a in
          line-on ev on refl (λ h. apart call plain h) more g.few g.small
          (loop-into o (with_event s.at.run ev) s'.at.run (with_new l) (units_carried s'.agents) s.used s'.used no_pass s'.pass on us used fresh (turn-line l way.turning line.number call plain due room may a))
          begun settler counts world calm
        where
          apart : (c : Call) (p : Bool) → Begin (OfLineOrigin line.number) c p ≡ Halt → ⊥
          apart c p t = absurd cc
      by (Err why) q is =
          let ev : CoreEvent = Bad line.number why in
          let a : applies (ends s.at.run) ev ≡ true = allowed-with (ends s.at.run).manager.doubt (ends s.at.run).units.halt (line.number == (ends s.at.run).units.lines + 1) sure (way-unstopped way) (same-number line.number ((ends s.at.run).units.lines + 1) numbers.0) in
          let may : MayCome (basis_of o) s.at.run ev = (λ x. subst (ReadsLineAs o.program.types o.asked line.number) q this-reads) in
          let on : s'.at.run ≡ with_event s.at.run ev = run ∙ ap (with_event s.at.run) is in
          let none : began_by g.on.r ≡ None =
          ap began_by (replied ∙ ap (reply_to (ends s.at.run)) is ∙ cond-true (applies (ends s.at.run) ev) (reply_with (ends s.at.run) ev) (reply_without (ends s.at.run) ev) a) in
          let us : units_carried s'.agents ≡ units_carried s.agents = g.on.units ∙ ap (with_begun (units_carried s.agents)) (g.on.is ∙ none) in
          let more : (ends s'.at.run).units.lines ≡ (ends s.at.run).units.lines + 1 =
          ap (λ (x : Run). (ends x).units.lines) on ∙ ap (λ (x : CoreState). x.units.lines) (ends-more s.at.run ev) ∙ lines-bad (ends s.at.run) line.number why a in
          line-on ev on refl (λ h. apart why h) more g.few g.small
          (loop-into o (with_event s.at.run ev) s'.at.run (units_carried s.agents) (units_carried s'.agents) s.used s'.used no_pass s'.pass on us used fresh (turn-bad l way.turning ev due refl refl room may a))
          begun settler counts world calm
        where
          apart : (y : BadRequest) → Bad line.number y ≡ Halt → ⊥
          apart y t = absurd cc
