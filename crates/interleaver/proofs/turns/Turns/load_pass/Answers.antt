use Rattle.std.proofs.Common.{◌∙◌, ap, refl, subst, sym}
use Rattle.std.specs.Prelude.{Bool, Result, Ok, Err, is_some}
use Rattle.std.proofs.lemmas.Result.{err_from_is_err_and}
use Rattle.history_core.specs.Cores.{run_of}
use Rattle.script_tree.specs.Programs.{program_tree}
use Rattle.unit_carrier.specs.CarriedUnits.{units_carried}
use Rattle.run_books.specs.declared.faults.RunFault.{RunFault}
use Rattle.run_books.specs.Stages.{stage_of}
use Rattle.interleaver.specs.TurnStages.{PassGoesOn, turn_stage}
use Rattle.interleaver.proofs.PassAnswers.{missing-calm, pass-skipped}
use Rattle.interleaver.proofs.RecordFrame.{none-beside}
use Rattle.interleaver.proofs.SureTurns.{all-sure, passes-failed}
use Rattle.interleaver.proofs.SureUnits.{fewer-sure}
use Rattle.interleaver.proofs.turns.Turns.load_pass.Goals as goal

pub returns-then-not-can_miss-clause-passes : goal.returns-then-not-can_miss-clause-passes
returns-then-not-can_miss-clause-passes g c = record {
  says = λ o b lines width picks way full. pass-skipped g.H.Host.tells o (program_tree c.args.checked.now) lines width picks b (stage_of g.H.Host.world g.H.Host.faults (run_of c.args.core.now) c.args.settler.now c.args.host.now) c.args.self.now way full (sym c.can_miss.ensures ∙ c.if-not-can_miss.true);
  beside = none-beside g.H.Host.tells (run_of c.args.core.now) (run_of c.args.core.now) c.args.settler.now (g.H.Host.faults c.args.host.now) (g.H.Host.world c.args.host.now) {T = Unit} (Ok tt) refl;
}

pub ask_all-requires-clause-calm : goal.ask_all-requires-clause-calm
ask_all-requires-clause-calm g c = missing-calm (is_some (run_of c.args.core.now).capacity) c.args.settler.now.doubted (sym c.can_miss.ensures ∙ c.if-not-can_miss.false)

pub ask_all-requires-clause-units : goal.ask_all-requires-clause-units
ask_all-requires-clause-units g c = record {
  carried = c.requires.units.carried;
  looked = c.requires.units.looked;
  freed = c.requires.units.freed;
  sure = fewer-sure (program_tree c.args.checked.now) (run_of c.args.core.now) (units_carried c.args.self.now.agents.list.items) (units_carried c.args.self.now.agents.list.items) c.args.self.now.sure c.sure_with-self.result c.args.self.now.moved c.sure_with-self.ensures.below (λ u m. m) c.requires.units.sure;
}

pub returns-then-branch-clause-units : goal.returns-then-branch-clause-units
returns-then-branch-clause-units g c = record {
  carried = c.in_ok-ask_all.ensures.units.carried;
  looked = c.in_ok-ask_all.ensures.units.looked;
  freed = c.in_ok-ask_all.ensures.units.freed;
  sure = all-sure (program_tree c.args.checked.now) (run_of c.ask_all.new.core) c.ask_all.new.self.agents.list.items c.above_all-self.result c.in_ok-ask_all.ensures.units.carried c.above_all-self.ensures
      (c.in_ok-ask_all.ensures.lack c.if-branch.true);
}

pub returns-in_err-ask_all-clause-passes : goal.returns-in_err-ask_all-clause-passes
returns-in_err-ask_all-clause-passes g c =
    let q = err_from_is_err_and c.from_residual.result c.from_residual.ensures.1 in
    let failed : PassGoesOn {T = Bool} g.H.Host.tells (program_tree c.args.checked.now) (turn_stage (stage_of g.H.Host.world g.H.Host.faults (run_of c.args.core.now) c.args.settler.now c.args.host.now) c.args.self.now) (stage_of g.H.Host.world g.H.Host.faults (run_of c.ask_all.new.core) c.ask_all.new.settler c.ask_all.new.host) c.ask_all.new.self (Err c.in_err-ask_all.field-0.0) =
    subst (λ (x : Result Bool RunFault). PassGoesOn {T = Bool} g.H.Host.tells (program_tree c.args.checked.now) (turn_stage (stage_of g.H.Host.world g.H.Host.faults (run_of c.args.core.now) c.args.settler.now c.args.host.now) c.args.self.now) (stage_of g.H.Host.world g.H.Host.faults (run_of c.ask_all.new.core) c.ask_all.new.settler c.ask_all.new.host) c.ask_all.new.self x) c.in_err-ask_all.was c.ask_all.ensures.passes in
    subst (λ (x : Result Unit RunFault). PassGoesOn {T = Unit} g.H.Host.tells (program_tree c.args.checked.now) (turn_stage (stage_of g.H.Host.world g.H.Host.faults (run_of c.args.core.now) c.args.settler.now c.args.host.now) c.args.self.now) (stage_of g.H.Host.world g.H.Host.faults (run_of c.ask_all.new.core) c.ask_all.new.settler c.ask_all.new.host) c.ask_all.new.self x) (sym (q.1 ∙ ap Err q.2))
    (passes-failed {T = Bool} {U = Unit} g.H.Host.tells (program_tree c.args.checked.now) (turn_stage (stage_of g.H.Host.world g.H.Host.faults (run_of c.args.core.now) c.args.settler.now c.args.host.now) c.args.self.now) (stage_of g.H.Host.world g.H.Host.faults (run_of c.ask_all.new.core) c.ask_all.new.settler c.ask_all.new.host) c.ask_all.new.self c.in_err-ask_all.field-0.0 failed)

pub returns-then-not-can_miss-clause-units : goal.returns-then-not-can_miss-clause-units
returns-then-not-can_miss-clause-units g c = c.requires.units

pub returns-then-not-can_miss-clause-safe : goal.returns-then-not-can_miss-clause-safe
returns-then-not-can_miss-clause-safe g c = record { safe = c.requires.safe; ready = λ file was. was }

pub returns-in_err-ask_all-clause-units : goal.returns-in_err-ask_all-clause-units
returns-in_err-ask_all-clause-units g c = let q = err_from_is_err_and c.from_residual.result c.from_residual.ensures.1 in rw q.1 tt

pub returns-in_err-ask_all-clause-begun : goal.returns-in_err-ask_all-clause-begun
returns-in_err-ask_all-clause-begun g c = c.ask_all.ensures.begun

pub returns-in_err-ask_all-clause-used : goal.returns-in_err-ask_all-clause-used
returns-in_err-ask_all-clause-used g c = c.ask_all.ensures.used

pub returns-in_err-ask_all-clause-shape : goal.returns-in_err-ask_all-clause-shape
returns-in_err-ask_all-clause-shape g c = c.ask_all.ensures.shape

pub returns-in_err-ask_all-clause-safe : goal.returns-in_err-ask_all-clause-safe
returns-in_err-ask_all-clause-safe g c = c.ask_all.ensures.safe
