use Rattle.std.proofs.Common.{◌≡◌, ℕ, ◌+◌, ◌∙◌, refl, sym, ap, subst, arith, true, false, Bool, length}
use Rattle.std.specs.Prelude.{Result, Ok, Err}
use Rattle.core_model.specs.LegalRuns.{Run, ends}
use Rattle.core_model.specs.Settler.{has_step, settler_step}
use Rattle.settle_loop.specs.SettlerStep.{has_unwritten}
use Rattle.run_books.specs.declared.faults.RunFault.{RunFault}
use Rattle.run_books.specs.Records.{KeepsBooks}
use Rattle.run_books.specs.BooksSteps.{AreEven, CanSettle}
use Rattle.interleaver.proofs.RunEnds.{can-settle}
use Rattle.std.proofs.lemmas.Result.{err_from_is_err_and}
use Rattle.history_core.specs.Cores.{run_of}
use Rattle.script_tree.specs.Programs.{program_tree}
use Rattle.unit_carrier.specs.CarriedUnits.{unit_at, units_carried}
use Rattle.unit_carrier.proofs.Places.{units-same}
use Rattle.run_books.specs.declared.faults.RunFault.TheVariants.{Memory}
use Rattle.interleaver.specs.declared.movers.NextMover.{NextMover}
use Rattle.turn_rules.specs.TurnLoop.{no_pass}
use Rattle.interleaver.specs.Flights.{IsNextMover, MovesWithin}
use Rattle.run_books.specs.RecordFrame.{TurnsBeside}
use Rattle.interleaver.specs.TurnStages.{SettlesBy, SettlesOne, SettledOn, passing_stage}
use Rattle.interleaver.proofs.RunningTurns.{way-unstopped}
use Rattle.interleaver.proofs.RecordFrame.{acts-beside, beside-err, none-beside}
use Rattle.run_books.proofs.BooksOthers.{others-keep}
use Rattle.run_books.proofs.SettlerFrame.{beside-well}
use Rattle.interleaver.proofs.PickedTurns.{goes-known, none-out, nobody-says, says-lack, unit-says, unit-out-says, settler-says, settler-out-says}
use Rattle.interleaver.proofs.LastLook.{goes-looked, same-looked}
use Rattle.interleaver.proofs.SureUnits.{goes-sure, same-sure}
use Rattle.interleaver.proofs.turns.Turns.move_picked.Goals as goal
use Rattle.run_books.specs.Stages.{stage_of}

pub returns-in-Nobody-clause-units : goal.returns-in-Nobody-clause-units
returns-in-Nobody-clause-units g c = record {
  carried = c.in_ok-next_mover.ensures.carried;
  looked = same-looked c.args.self.now.looked (run_of c.args.core.now) (run_of c.next_mover.new.core) (units_carried c.args.self.now.agents.list.items) (units_carried c.next_mover.new.agents.list.items) c.next_mover.ensures.same
      (units-same c.next_mover.new.agents.list.items c.args.self.now.agents.list.items c.in_ok-next_mover.ensures.units) c.requires.units.looked;
  freed = c.in_ok-next_mover.ensures.freed;
  sure = same-sure (program_tree c.args.checked.now) (run_of c.args.core.now) (run_of c.next_mover.new.core) (units_carried c.args.self.now.agents.list.items) (units_carried c.next_mover.new.agents.list.items) c.args.self.now.sure c.args.self.now.moved c.next_mover.ensures.same
      (units-same c.next_mover.new.agents.list.items c.args.self.now.agents.list.items c.in_ok-next_mover.ensures.units) c.requires.units.sure;
}

pub returns-in_ok-settle-in-Settler-clause-units : goal.returns-in_ok-settle-in-Settler-clause-units
returns-in_ok-settle-in-Settler-clause-units g c = record {
  carried = goes-known (program_tree c.args.checked.now) c.next_mover.new.agents.list.items settler_step (run_of c.next_mover.new.core) (run_of c.settle.new.core) c.settle.ensures.settles c.in_ok-next_mover.ensures.carried;
  looked = goes-looked (program_tree c.args.checked.now) c.args.self.now.looked settler_step (run_of c.next_mover.new.core) (run_of c.settle.new.core) c.next_mover.new.agents.list.items c.in_ok-next_mover.ensures.carried c.settle.ensures.settles
      (same-looked c.args.self.now.looked (run_of c.args.core.now) (run_of c.next_mover.new.core) (units_carried c.args.self.now.agents.list.items) (units_carried c.next_mover.new.agents.list.items) c.next_mover.ensures.same
      (units-same c.next_mover.new.agents.list.items c.args.self.now.agents.list.items c.in_ok-next_mover.ensures.units) c.requires.units.looked);
  freed = c.in_ok-next_mover.ensures.freed;
  sure = goes-sure (program_tree c.args.checked.now) settler_step (run_of c.next_mover.new.core) (run_of c.settle.new.core) c.next_mover.new.agents.list.items c.args.self.now.sure c.args.self.now.moved c.in_ok-next_mover.ensures.carried
      c.in_ok-next_mover.ensures.carried.holds.above c.settle.ensures.settles
      (same-sure (program_tree c.args.checked.now) (run_of c.args.core.now) (run_of c.next_mover.new.core) (units_carried c.args.self.now.agents.list.items) (units_carried c.next_mover.new.agents.list.items) c.args.self.now.sure c.args.self.now.moved c.next_mover.ensures.same
      (units-same c.next_mover.new.agents.list.items c.args.self.now.agents.list.items c.in_ok-next_mover.ensures.units) c.requires.units.sure);
}

pub move_unit-requires-clause-units : goal.move_unit-requires-clause-units
move_unit-requires-clause-units g c = record {
  carried = c.in_ok-next_mover.ensures.carried;
  looked = same-looked c.args.self.now.looked (run_of c.args.core.now) (run_of c.next_mover.new.core) (units_carried c.args.self.now.agents.list.items) (units_carried c.next_mover.new.agents.list.items) c.next_mover.ensures.same
      (units-same c.next_mover.new.agents.list.items c.args.self.now.agents.list.items c.in_ok-next_mover.ensures.units) c.requires.units.looked;
  freed = c.in_ok-next_mover.ensures.freed;
  sure = same-sure (program_tree c.args.checked.now) (run_of c.args.core.now) (run_of c.next_mover.new.core) (units_carried c.args.self.now.agents.list.items) (units_carried c.next_mover.new.agents.list.items) c.args.self.now.sure c.args.self.now.moved c.next_mover.ensures.same
      (units-same c.next_mover.new.agents.list.items c.args.self.now.agents.list.items c.in_ok-next_mover.ensures.units) c.requires.units.sure;
}

pub next_mover-requires-clause-carried : goal.next_mover-requires-clause-carried
next_mover-requires-clause-carried g c = c.requires.units.carried

pub returns-in_err-next_mover-clause-turns : goal.returns-in_err-next_mover-clause-turns
returns-in_err-next_mover-clause-turns g c = record {
  says = λ o b lines width p way passed.
      let q = err_from_is_err_and c.from_residual.result c.from_residual.ensures.1 in
      says-lack g.H.Host.tells o (program_tree c.args.checked.now) lines width c.args.picks.now b (passing_stage (stage_of g.H.Host.world g.H.Host.faults (run_of c.args.core.now) c.args.settler.now c.args.host.now) c.args.self.now p) (record { at = stage_of g.H.Host.world g.H.Host.faults (run_of c.next_mover.new.core) c.args.settler.now c.args.host.now; agents = c.next_mover.new.agents.list.items; begun = c.args.self.now.begun; used = c.args.self.now.used; pass = no_pass }) c.from_residual.result Memory (q.1 ∙ ap Err q.2)
      (none-out others-keep g.H.Host.tells o (program_tree c.args.checked.now) lines width c.args.picks.now b (passing_stage (stage_of g.H.Host.world g.H.Host.faults (run_of c.args.core.now) c.args.settler.now c.args.host.now) c.args.self.now p) way passed (run_of c.next_mover.new.core) c.next_mover.ensures.same);
  beside = none-beside g.H.Host.tells (run_of c.args.core.now) (run_of c.next_mover.new.core) c.args.settler.now (g.H.Host.faults c.args.host.now) (g.H.Host.world c.args.host.now) c.from_residual.result c.next_mover.ensures.same;
}

pub returns-in-Nobody-clause-turns : goal.returns-in-Nobody-clause-turns
returns-in-Nobody-clause-turns g c = record {
  says = λ o b lines width p way passed.
      nobody-says others-keep g.H.Host.tells o (program_tree c.args.checked.now) lines width c.args.picks.now b (passing_stage (stage_of g.H.Host.world g.H.Host.faults (run_of c.args.core.now) c.args.settler.now c.args.host.now) c.args.self.now p) way passed (record { at = stage_of g.H.Host.world g.H.Host.faults (run_of c.next_mover.new.core) c.args.settler.now c.args.host.now; agents = c.next_mover.new.agents.list.items; begun = c.args.self.now.begun; used = c.args.self.now.used; pass = no_pass }) c.next_mover.ensures.same
      (units-same c.next_mover.new.agents.list.items c.args.self.now.agents.list.items c.in_ok-next_mover.ensures.units) refl refl refl refl refl
      (subst (IsNextMover (program_tree c.args.checked.now) (run_of c.args.core.now) (units_carried c.args.self.now.agents.list.items) c.pick_at-pick.result) c.in-Nobody.is (c.in_ok-next_mover.ensures.mover way.books.doubt (way-unstopped way)));
  beside = none-beside g.H.Host.tells (run_of c.args.core.now) (run_of c.next_mover.new.core) c.args.settler.now (g.H.Host.faults c.args.host.now) (g.H.Host.world c.args.host.now) (Ok false) c.next_mover.ensures.same;
}

pub returns-in_err-move_unit-in-Unit-clause-turns : goal.returns-in_err-move_unit-in-Unit-clause-turns
returns-in_err-move_unit-in-Unit-clause-turns g c = record {
  says = λ o b lines width p way passed.
      let q = err_from_is_err_and c.from_residual-in_err-move_unit-in-Unit.result c.from_residual-in_err-move_unit-in-Unit.ensures.1 in
      says-lack g.H.Host.tells o (program_tree c.args.checked.now) lines width c.args.picks.now b (passing_stage (stage_of g.H.Host.world g.H.Host.faults (run_of c.args.core.now) c.args.settler.now c.args.host.now) c.args.self.now p) (record { at = stage_of g.H.Host.world g.H.Host.faults (run_of c.move_unit.new.core) c.args.settler.now c.args.host.now; agents = c.move_unit.new.self.agents.list.items; begun = c.move_unit.new.self.begun; used = c.move_unit.new.self.used; pass = no_pass }) c.from_residual-in_err-move_unit-in-Unit.result Memory (q.1 ∙ ap Err (q.2 ∙ c.in_err-move_unit-in-Unit.ensures.memory))
      (unit-out-says others-keep g.H.Host.tells o (program_tree c.args.checked.now) lines width c.args.picks.now b (passing_stage (stage_of g.H.Host.world g.H.Host.faults (run_of c.args.core.now) c.args.settler.now c.args.host.now) c.args.self.now p) way passed (run_of c.move_unit.new.core) (run_of c.next_mover.new.core) c.next_mover.new.agents.list.items c.in-Unit.index c.pick_at-pick.result c.pick_at-pick.ensures
      (subst (IsNextMover (program_tree c.args.checked.now) (run_of c.args.core.now) (units_carried c.args.self.now.agents.list.items) c.pick_at-pick.result) c.in-Unit.is (c.in_ok-next_mover.ensures.mover way.books.doubt (way-unstopped way))) c.next_mover.ensures.same c.in_ok-next_mover.ensures.units c.move_unit.ensures.acts);
  beside = subst (λ (x : Run). TurnsBeside {T = Bool} g.H.Host.tells (stage_of g.H.Host.world g.H.Host.faults x c.args.settler.now c.args.host.now) (stage_of g.H.Host.world g.H.Host.faults (run_of c.move_unit.new.core) c.args.settler.now c.args.host.now) c.from_residual-in_err-move_unit-in-Unit.result) c.next_mover.ensures.same
      (acts-beside g.H.Host.tells (run_of c.next_mover.new.core) (run_of c.move_unit.new.core) c.args.settler.now (g.H.Host.faults c.args.host.now) (g.H.Host.world c.args.host.now) c.from_residual-in_err-move_unit-in-Unit.result (program_tree c.args.checked.now) (unit_at c.next_mover.new.agents.list.items c.in-Unit.index) c.move_unit.ensures.acts);
}

pub returns-in_ok-move_unit-in-Unit-clause-turns : goal.returns-in_ok-move_unit-in-Unit-clause-turns
returns-in_ok-move_unit-in-Unit-clause-turns g c = record {
  says = λ o b lines width p way passed.
      unit-says others-keep g.H.Host.tells o (program_tree c.args.checked.now) lines width c.args.picks.now b (passing_stage (stage_of g.H.Host.world g.H.Host.faults (run_of c.args.core.now) c.args.settler.now c.args.host.now) c.args.self.now p) way passed (record { at = stage_of g.H.Host.world g.H.Host.faults (run_of c.move_unit.new.core) c.args.settler.now c.args.host.now; agents = c.move_unit.new.self.agents.list.items; begun = c.move_unit.new.self.begun; used = c.move_unit.new.self.used + 1; pass = no_pass }) (run_of c.next_mover.new.core) c.next_mover.new.agents.list.items c.in-Unit.index c.pick_at-pick.result c.pick_at-pick.ensures
      (subst (IsNextMover (program_tree c.args.checked.now) (run_of c.args.core.now) (units_carried c.args.self.now.agents.list.items) c.pick_at-pick.result) c.in-Unit.is (c.in_ok-next_mover.ensures.mover way.books.doubt (way-unstopped way))) c.next_mover.ensures.same c.in_ok-next_mover.ensures.units c.in_ok-move_unit-in-Unit.ensures.moves (ap (λ (n : ℕ). n + 1) c.move_unit.ensures.used) refl c.move_unit.ensures.begun refl refl refl;
  beside = subst (λ (x : Run). TurnsBeside {T = Bool} g.H.Host.tells (stage_of g.H.Host.world g.H.Host.faults x c.args.settler.now c.args.host.now) (stage_of g.H.Host.world g.H.Host.faults (run_of c.move_unit.new.core) c.args.settler.now c.args.host.now) (Ok true)) c.next_mover.ensures.same
      (acts-beside g.H.Host.tells (run_of c.next_mover.new.core) (run_of c.move_unit.new.core) c.args.settler.now (g.H.Host.faults c.args.host.now) (g.H.Host.world c.args.host.now) (Ok true) (program_tree c.args.checked.now) (unit_at c.next_mover.new.agents.list.items c.in-Unit.index) c.move_unit.ensures.acts);
}

pub returns-in_err-settle-in-Settler-clause-turns : goal.returns-in_err-settle-in-Settler-clause-turns
returns-in_err-settle-in-Settler-clause-turns g c = record {
  says = λ o b lines width p way passed.
      let q = err_from_is_err_and c.from_residual-in_err-settle-in-Settler.result c.from_residual-in_err-settle-in-Settler.ensures.1 in
      says-lack g.H.Host.tells o (program_tree c.args.checked.now) lines width c.args.picks.now b (passing_stage (stage_of g.H.Host.world g.H.Host.faults (run_of c.args.core.now) c.args.settler.now c.args.host.now) c.args.self.now p) (record { at = stage_of g.H.Host.world g.H.Host.faults (run_of c.settle.new.core) c.settle.new.settler c.settle.new.host; agents = c.next_mover.new.agents.list.items; begun = c.args.self.now.begun; used = c.args.self.now.used; pass = no_pass }) c.from_residual-in_err-settle-in-Settler.result c.in_err-settle-in-Settler.field-0.0 (q.1 ∙ ap Err q.2)
      (settler-out-says others-keep g.H.Host.tells o (program_tree c.args.checked.now) lines width c.args.picks.now b (passing_stage (stage_of g.H.Host.world g.H.Host.faults (run_of c.args.core.now) c.args.settler.now c.args.host.now) c.args.self.now p) way passed (record { at = stage_of g.H.Host.world g.H.Host.faults (run_of c.settle.new.core) c.settle.new.settler c.settle.new.host; agents = c.next_mover.new.agents.list.items; begun = c.args.self.now.begun; used = c.args.self.now.used; pass = no_pass }) c.pick_at-pick.result c.pick_at-pick.ensures (subst (IsNextMover (program_tree c.args.checked.now) (run_of c.args.core.now) (units_carried c.args.self.now.agents.list.items) c.pick_at-pick.result) c.in-Settler.is (c.in_ok-next_mover.ensures.mover way.books.doubt (way-unstopped way)))
      (subst (λ (x : Run). SettlesBy x (run_of c.settle.new.core)) c.next_mover.ensures.same c.settle.ensures.settles) c.in_err-settle-in-Settler.field-0.0
      (subst (λ (x : Result Unit RunFault). SettledOn {T = Unit} g.H.Host.tells o b (stage_of g.H.Host.world g.H.Host.faults (run_of c.args.core.now) c.args.settler.now c.args.host.now) (stage_of g.H.Host.world g.H.Host.faults (run_of c.settle.new.core) c.settle.new.settler c.settle.new.host) x) c.in_err-settle-in-Settler.was
      (subst (λ (x : Run). SettledOn {T = Unit} g.H.Host.tells o b (stage_of g.H.Host.world g.H.Host.faults x c.args.settler.now c.args.host.now) (stage_of g.H.Host.world g.H.Host.faults (run_of c.settle.new.core) c.settle.new.settler c.settle.new.host) c.settle.result) c.next_mover.ensures.same
      (c.settle.ensures.goes o b
      (subst (CanSettle o c.args.self.now.shape) (sym c.next_mover.ensures.same) (can-settle g.H.Host.tells o (program_tree c.args.checked.now) lines width c.args.picks.now b (passing_stage (stage_of g.H.Host.world g.H.Host.faults (run_of c.args.core.now) c.args.settler.now c.args.host.now) c.args.self.now p) c.args.self.now.shape way c.requires.shape))
      (subst (λ (x : Run). AreEven c.args.settler.now.quiet b (ends x)) (sym c.next_mover.ensures.same) way.even)
      (subst (λ (x : Run). c.args.settler.now.doubted ≡ true → has_unwritten (ends x) ≡ true) (sym c.next_mover.ensures.same) way.left)
      (subst (λ (x : Run). KeepsBooks g.H.Host.tells o b (stage_of g.H.Host.world g.H.Host.faults x c.args.settler.now c.args.host.now)) (sym c.next_mover.ensures.same) way.books)))));
  beside = let q = err_from_is_err_and c.from_residual-in_err-settle-in-Settler.result c.from_residual-in_err-settle-in-Settler.ensures.1 in
      subst (λ (x : Run). TurnsBeside {T = Bool} g.H.Host.tells (stage_of g.H.Host.world g.H.Host.faults x c.args.settler.now c.args.host.now) (stage_of g.H.Host.world g.H.Host.faults (run_of c.settle.new.core) c.settle.new.settler c.settle.new.host) c.from_residual-in_err-settle-in-Settler.result) c.next_mover.ensures.same
      (beside-err g.H.Host.tells (run_of c.next_mover.new.core) (run_of c.settle.new.core) c.args.settler.now c.settle.new.settler (g.H.Host.faults c.args.host.now) (g.H.Host.faults c.settle.new.host) (g.H.Host.world c.args.host.now) (g.H.Host.world c.settle.new.host) {T = Unit} c.in_err-settle-in-Settler.field-0.0
      (subst (TurnsBeside {T = Unit} g.H.Host.tells (stage_of g.H.Host.world g.H.Host.faults (run_of c.next_mover.new.core) c.args.settler.now c.args.host.now) (stage_of g.H.Host.world g.H.Host.faults (run_of c.settle.new.core) c.settle.new.settler c.settle.new.host)) c.in_err-settle-in-Settler.was c.settle.ensures.beside)
      c.from_residual-in_err-settle-in-Settler.result (q.1 ∙ ap Err q.2));
}

pub returns-in_ok-settle-in-Settler-clause-turns : goal.returns-in_ok-settle-in-Settler-clause-turns
returns-in_ok-settle-in-Settler-clause-turns g c = record {
  says = λ o b lines width p way passed.
      settler-says others-keep g.H.Host.tells o (program_tree c.args.checked.now) lines width c.args.picks.now b (passing_stage (stage_of g.H.Host.world g.H.Host.faults (run_of c.args.core.now) c.args.settler.now c.args.host.now) c.args.self.now p) way passed (record { at = stage_of g.H.Host.world g.H.Host.faults (run_of c.settle.new.core) c.settle.new.settler c.settle.new.host; agents = c.next_mover.new.agents.list.items; begun = c.args.self.now.begun; used = c.args.self.now.used + 1; pass = no_pass }) c.pick_at-pick.result c.pick_at-pick.ensures (subst (IsNextMover (program_tree c.args.checked.now) (run_of c.args.core.now) (units_carried c.args.self.now.agents.list.items) c.pick_at-pick.result) c.in-Settler.is (c.in_ok-next_mover.ensures.mover way.books.doubt (way-unstopped way)))
      (subst (λ (x : Run). has_step (settler_step (ends x)) ≡ true → SettlesOne x (run_of c.settle.new.core)) c.next_mover.ensures.same c.in_ok-settle-in-Settler.ensures.acted)
      (subst (λ (x : Result Unit RunFault). SettledOn {T = Unit} g.H.Host.tells o b (stage_of g.H.Host.world g.H.Host.faults (run_of c.args.core.now) c.args.settler.now c.args.host.now) (stage_of g.H.Host.world g.H.Host.faults (run_of c.settle.new.core) c.settle.new.settler c.settle.new.host) x) c.in_ok-settle-in-Settler.was
      (subst (λ (x : Run). SettledOn {T = Unit} g.H.Host.tells o b (stage_of g.H.Host.world g.H.Host.faults x c.args.settler.now c.args.host.now) (stage_of g.H.Host.world g.H.Host.faults (run_of c.settle.new.core) c.settle.new.settler c.settle.new.host) c.settle.result) c.next_mover.ensures.same
      (c.settle.ensures.goes o b
      (subst (CanSettle o c.args.self.now.shape) (sym c.next_mover.ensures.same) (can-settle g.H.Host.tells o (program_tree c.args.checked.now) lines width c.args.picks.now b (passing_stage (stage_of g.H.Host.world g.H.Host.faults (run_of c.args.core.now) c.args.settler.now c.args.host.now) c.args.self.now p) c.args.self.now.shape way c.requires.shape))
      (subst (λ (x : Run). AreEven c.args.settler.now.quiet b (ends x)) (sym c.next_mover.ensures.same) way.even)
      (subst (λ (x : Run). c.args.settler.now.doubted ≡ true → has_unwritten (ends x) ≡ true) (sym c.next_mover.ensures.same) way.left)
      (subst (λ (x : Run). KeepsBooks g.H.Host.tells o b (stage_of g.H.Host.world g.H.Host.faults x c.args.settler.now c.args.host.now)) (sym c.next_mover.ensures.same) way.books))))
      (units-same c.next_mover.new.agents.list.items c.args.self.now.agents.list.items c.in_ok-next_mover.ensures.units) refl refl refl;
  beside = subst (λ (x : Run). TurnsBeside {T = Bool} g.H.Host.tells (stage_of g.H.Host.world g.H.Host.faults x c.args.settler.now c.args.host.now) (stage_of g.H.Host.world g.H.Host.faults (run_of c.settle.new.core) c.settle.new.settler c.settle.new.host) (Ok true)) c.next_mover.ensures.same
      (beside-well g.H.Host.tells (run_of c.next_mover.new.core) (run_of c.settle.new.core) c.args.settler.now c.settle.new.settler (g.H.Host.faults c.args.host.now) (g.H.Host.faults c.settle.new.host) (g.H.Host.world c.args.host.now) (g.H.Host.world c.settle.new.host) {T = Unit} {U = Bool} tt (Ok true)
      (subst (TurnsBeside {T = Unit} g.H.Host.tells (stage_of g.H.Host.world g.H.Host.faults (run_of c.next_mover.new.core) c.args.settler.now c.args.host.now) (stage_of g.H.Host.world g.H.Host.faults (run_of c.settle.new.core) c.settle.new.settler c.settle.new.host)) c.in_ok-settle-in-Settler.was c.settle.ensures.beside));
}

pub move_unit-requires-clause-within : goal.move_unit-requires-clause-within
move_unit-requires-clause-within g c = subst (λ (m : NextMover). MovesWithin m (length c.next_mover.new.agents.list.items)) c.in-Unit.is c.in_ok-next_mover.ensures.within

pub returns-in_err-next_mover-clause-units : goal.returns-in_err-next_mover-clause-units
returns-in_err-next_mover-clause-units g c = let q = err_from_is_err_and c.from_residual.result c.from_residual.ensures.1 in rw q.1 tt

pub returns-in_err-next_mover-clause-used : goal.returns-in_err-next_mover-clause-used
returns-in_err-next_mover-clause-used g c = let q = err_from_is_err_and c.from_residual.result c.from_residual.ensures.1 in rw q.1 tt

pub returns-in_err-next_mover-clause-goes : goal.returns-in_err-next_mover-clause-goes
returns-in_err-next_mover-clause-goes g c = let q = err_from_is_err_and c.from_residual.result c.from_residual.ensures.1 in rw q.1 tt

pub returns-in_err-next_mover-clause-safe : goal.returns-in_err-next_mover-clause-safe
returns-in_err-next_mover-clause-safe g c = record { safe = c.requires.safe; ready = λ file was. was }

pub returns-in-Nobody-clause-goes : goal.returns-in-Nobody-clause-goes
returns-in-Nobody-clause-goes g c = λ is. cc

pub returns-in-Nobody-clause-safe : goal.returns-in-Nobody-clause-safe
returns-in-Nobody-clause-safe g c = record { safe = c.requires.safe; ready = λ file was. was }

pub returns-in_err-settle-in-Settler-clause-units : goal.returns-in_err-settle-in-Settler-clause-units
returns-in_err-settle-in-Settler-clause-units g c = let q = err_from_is_err_and c.from_residual-in_err-settle-in-Settler.result c.from_residual-in_err-settle-in-Settler.ensures.1 in rw q.1 tt

pub returns-in_err-settle-in-Settler-clause-used : goal.returns-in_err-settle-in-Settler-clause-used
returns-in_err-settle-in-Settler-clause-used g c = let q = err_from_is_err_and c.from_residual-in_err-settle-in-Settler.result c.from_residual-in_err-settle-in-Settler.ensures.1 in rw q.1 tt

pub returns-in_err-settle-in-Settler-clause-goes : goal.returns-in_err-settle-in-Settler-clause-goes
returns-in_err-settle-in-Settler-clause-goes g c = let q = err_from_is_err_and c.from_residual-in_err-settle-in-Settler.result c.from_residual-in_err-settle-in-Settler.ensures.1 in rw q.1 tt

pub returns-in_err-settle-in-Settler-clause-safe : goal.returns-in_err-settle-in-Settler-clause-safe
returns-in_err-settle-in-Settler-clause-safe g c = c.settle.ensures.safe

pub returns-in_ok-settle-in-Settler-clause-safe : goal.returns-in_ok-settle-in-Settler-clause-safe
returns-in_ok-settle-in-Settler-clause-safe g c = c.settle.ensures.safe

pub returns-in_err-move_unit-in-Unit-clause-units : goal.returns-in_err-move_unit-in-Unit-clause-units
returns-in_err-move_unit-in-Unit-clause-units g c = let q = err_from_is_err_and c.from_residual-in_err-move_unit-in-Unit.result c.from_residual-in_err-move_unit-in-Unit.ensures.1 in rw q.1 tt

pub returns-in_err-move_unit-in-Unit-clause-used : goal.returns-in_err-move_unit-in-Unit-clause-used
returns-in_err-move_unit-in-Unit-clause-used g c = let q = err_from_is_err_and c.from_residual-in_err-move_unit-in-Unit.result c.from_residual-in_err-move_unit-in-Unit.ensures.1 in rw q.1 tt

pub returns-in_err-move_unit-in-Unit-clause-goes : goal.returns-in_err-move_unit-in-Unit-clause-goes
returns-in_err-move_unit-in-Unit-clause-goes g c = let q = err_from_is_err_and c.from_residual-in_err-move_unit-in-Unit.result c.from_residual-in_err-move_unit-in-Unit.ensures.1 in rw q.1 tt

pub returns-in_err-move_unit-in-Unit-clause-shape : goal.returns-in_err-move_unit-in-Unit-clause-shape
returns-in_err-move_unit-in-Unit-clause-shape g c = c.move_unit.ensures.shape

pub returns-in_err-move_unit-in-Unit-clause-safe : goal.returns-in_err-move_unit-in-Unit-clause-safe
returns-in_err-move_unit-in-Unit-clause-safe g c = record { safe = c.requires.safe; ready = λ file was. was }

pub returns-in_ok-move_unit-in-Unit-clause-units : goal.returns-in_ok-move_unit-in-Unit-clause-units
returns-in_ok-move_unit-in-Unit-clause-units g c = record {
  carried = c.in_ok-move_unit-in-Unit.ensures.units.carried;
  looked = c.in_ok-move_unit-in-Unit.ensures.units.looked;
  freed = c.in_ok-move_unit-in-Unit.ensures.units.freed;
  sure = c.in_ok-move_unit-in-Unit.ensures.units.sure;
}

pub returns-in_ok-move_unit-in-Unit-clause-used : goal.returns-in_ok-move_unit-in-Unit-clause-used
returns-in_ok-move_unit-in-Unit-clause-used g c = let used = c.move_unit.ensures.used in omega (arith, used)

pub returns-in_ok-move_unit-in-Unit-clause-goes : goal.returns-in_ok-move_unit-in-Unit-clause-goes
returns-in_ok-move_unit-in-Unit-clause-goes g c = λ is. let used = c.move_unit.ensures.used in let begun = c.move_unit.ensures.begun in omega (arith, used, begun)

pub returns-in_ok-move_unit-in-Unit-clause-shape : goal.returns-in_ok-move_unit-in-Unit-clause-shape
returns-in_ok-move_unit-in-Unit-clause-shape g c = c.move_unit.ensures.shape

pub returns-in_ok-move_unit-in-Unit-clause-safe : goal.returns-in_ok-move_unit-in-Unit-clause-safe
returns-in_ok-move_unit-in-Unit-clause-safe g c = record { safe = c.requires.safe; ready = λ file was. was }
