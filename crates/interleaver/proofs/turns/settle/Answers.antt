use Rattle.std.proofs.Common.{◌∙◌, sym, ap, subst}
use Rattle.std.specs.Prelude.{Result, Ok, Err}
use Rattle.std.proofs.lemmas.Result.{err_from_is_err_and}
use Rattle.core_model.specs.Settler.{settler_step}
use Rattle.history_core.specs.Cores.{run_of}
use Rattle.run_books.specs.declared.faults.RunFault.{RunFault}
use Rattle.run_books.specs.Stages.{stage_of}
use Rattle.run_books.proofs.BooksSettled.{settled-keeps}
use Rattle.interleaver.specs.TurnStages.{SettledOn}
use Rattle.interleaver.proofs.RecordFrame.{step-beside}
use Rattle.interleaver.proofs.EndedTurns.{answer-ended, ended-acted, left-turned, on-turned}
use Rattle.interleaver.proofs.SettlerTurns.{goes-by, on-lack, settled-said}
use Rattle.interleaver.proofs.turns.settle.Goals as goal

pub returns-in_err-turned-clause-settles : goal.returns-in_err-turned-clause-settles
returns-in_err-turned-clause-settles g c = goes-by g.H.Host.tells g.H.Host.world g.H.Host.faults c.args.shape.now settler_step (run_of c.args.core.now) (run_of c.step.new.access) c.args.settler.now c.step.new.self c.args.host.now c.step.new.host c.step.result c.step.ensures.turns

pub returns-clause-settles : goal.returns-clause-settles
returns-clause-settles g c = goes-by g.H.Host.tells g.H.Host.world g.H.Host.faults c.args.shape.now settler_step (run_of c.args.core.now) (run_of c.step.new.access) c.args.settler.now c.step.new.self c.args.host.now c.step.new.host c.step.result c.step.ensures.turns

pub returns-in_err-turned-clause-goes : goal.returns-in_err-turned-clause-goes
returns-in_err-turned-clause-goes g c = λ o b can even left books.
    on-lack g.H.Host.tells g.H.Host.world g.H.Host.faults settler_step (run_of c.args.core.now) (run_of c.step.new.access) c.args.settler.now c.step.new.self c.args.host.now c.step.new.host c.step.result o b
    (settled-said settled-keeps g.H.Host.tells g.H.Host.world g.H.Host.faults c.args.shape.now (run_of c.args.core.now) (run_of c.step.new.access) c.args.settler.now c.step.new.self c.args.host.now c.step.new.host c.step.result c.step.ensures.turns o b can even books)
    c.in_err-turned.field-0.0 c.in_err-turned.was c.from_residual.result (let p = err_from_is_err_and c.from_residual.result c.from_residual.ensures.1 in p.1 ∙ ap Err p.2)

pub returns-clause-goes : goal.returns-clause-goes
returns-clause-goes g c = λ o b can even left books.
    subst (λ (x : Result Unit RunFault). SettledOn {T = Unit} g.H.Host.tells o b (stage_of g.H.Host.world g.H.Host.faults (run_of c.args.core.now) c.args.settler.now c.args.host.now) (stage_of g.H.Host.world g.H.Host.faults (run_of c.step.new.access) c.step.new.self c.step.new.host) x) (sym c.ended_by.ensures)
    (on-turned g.H.Host.tells g.H.Host.world g.H.Host.faults settler_step (run_of c.args.core.now) (run_of c.step.new.access) c.args.settler.now c.step.new.self c.args.host.now c.step.new.host c.step.result o b
    (settled-said settled-keeps g.H.Host.tells g.H.Host.world g.H.Host.faults c.args.shape.now (run_of c.args.core.now) (run_of c.step.new.access) c.args.settler.now c.step.new.self c.args.host.now c.step.new.host c.step.result c.step.ensures.turns o b can even books)
    c.in_ok-turned.turned
    (left-turned g.H.Host.tells g.H.Host.world g.H.Host.faults c.args.shape.now (run_of c.args.core.now) (run_of c.step.new.access) c.args.settler.now c.step.new.self c.args.host.now c.step.new.host c.in_ok-turned.turned can.unstopped left c.in_ok-turned.ensures.turns)
    c.in_ok-turned.was)

pub returns-in_err-turned-clause-acted : goal.returns-in_err-turned-clause-acted
returns-in_err-turned-clause-acted g c = let q = err_from_is_err_and c.from_residual.result c.from_residual.ensures.1 in rw q.1 tt

pub returns-clause-acted : goal.returns-clause-acted
returns-clause-acted g c =
    rw c.ended_by.ensures
    (ended-acted g.H.Host.tells g.H.Host.world g.H.Host.faults c.args.shape.now (run_of c.args.core.now) (run_of c.step.new.access) c.args.settler.now c.step.new.self c.args.host.now c.step.new.host settler_step c.in_ok-turned.turned c.in_ok-turned.ensures.turns)

pub returns-in_err-turned-clause-beside : goal.returns-in_err-turned-clause-beside
returns-in_err-turned-clause-beside g c =
    step-beside g.H.Host.tells g.H.Host.world g.H.Host.faults c.args.shape.now settler_step (run_of c.args.core.now) (run_of c.step.new.access) c.args.settler.now c.step.new.self c.args.host.now c.step.new.host tt c.step.result c.step.ensures.turns
    (Err c.in_err-turned.field-0.0) c.in_err-turned.was c.from_residual.result (let p = err_from_is_err_and c.from_residual.result c.from_residual.ensures.1 in p.1 ∙ ap Err p.2)

pub returns-clause-beside : goal.returns-clause-beside
returns-clause-beside g c =
    step-beside g.H.Host.tells g.H.Host.world g.H.Host.faults c.args.shape.now settler_step (run_of c.args.core.now) (run_of c.step.new.access) c.args.settler.now c.step.new.self c.args.host.now c.step.new.host tt c.step.result c.step.ensures.turns
    (Ok c.in_ok-turned.turned) c.in_ok-turned.was c.ended_by.result (c.ended_by.ensures ∙ answer-ended c.in_ok-turned.turned)

pub returns-in_err-turned-clause-safe : goal.returns-in_err-turned-clause-safe
returns-in_err-turned-clause-safe g c = c.step.ensures.safe

pub returns-clause-safe : goal.returns-clause-safe
returns-clause-safe g c = c.step.ensures.safe
