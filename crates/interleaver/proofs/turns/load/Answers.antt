use Rattle.std.proofs.Common.{◌≡◌, ◌∙◌, sym, ap, subst, true}
use Rattle.std.specs.Prelude.{Result, Ok, Err}
use Rattle.std.proofs.lemmas.Result.{err_from_is_err_and}
use Rattle.core_model.specs.LegalRuns.{ends}
use Rattle.settle_loop.specs.SettlerStep.{has_unwritten, wanted_step}
use Rattle.history_core.specs.Cores.{run_of}
use Rattle.run_books.specs.declared.faults.RunFault.{RunFault}
use Rattle.run_books.specs.Stages.{stage_of}
use Rattle.run_books.proofs.BooksLoaded.{loaded-keeps}
use Rattle.interleaver.specs.TurnStages.{SettledOn}
use Rattle.interleaver.proofs.RecordFrame.{step-beside}
use Rattle.interleaver.proofs.EndedTurns.{answer-ended, ended-acted, on-turned, well-anyway}
use Rattle.interleaver.proofs.SettlerTurns.{calm-left, goes-by, loaded-said, loads-still, on-lack, safe-asked}
use Rattle.interleaver.proofs.turns.load.Goals as goal

pub returns-in_err-turned-clause-loads : goal.returns-in_err-turned-clause-loads
returns-in_err-turned-clause-loads g c = goes-by g.H.Host.tells g.H.Host.world g.H.Host.faults c.args.shape.now wanted_step (run_of c.args.core.now) (run_of c.load.new.access) c.args.settler.now c.load.new.self c.args.host.now c.load.new.host c.load.result c.load.ensures.turns

pub returns-clause-loads : goal.returns-clause-loads
returns-clause-loads g c = goes-by g.H.Host.tells g.H.Host.world g.H.Host.faults c.args.shape.now wanted_step (run_of c.args.core.now) (run_of c.load.new.access) c.args.settler.now c.load.new.self c.args.host.now c.load.new.host c.load.result c.load.ensures.turns

pub returns-in_err-turned-clause-goes : goal.returns-in_err-turned-clause-goes
returns-in_err-turned-clause-goes g c = λ o b can even none books.
    on-lack g.H.Host.tells g.H.Host.world g.H.Host.faults wanted_step (run_of c.args.core.now) (run_of c.load.new.access) c.args.settler.now c.load.new.self c.args.host.now c.load.new.host c.load.result o b
    (loaded-said loaded-keeps g.H.Host.tells g.H.Host.world g.H.Host.faults c.args.shape.now (run_of c.args.core.now) (run_of c.load.new.access) c.args.settler.now c.load.new.self c.args.host.now c.load.new.host c.load.result c.load.ensures.turns o b can none even books)
    c.in_err-turned.field-0.0 c.in_err-turned.was c.from_residual.result (let p = err_from_is_err_and c.from_residual.result c.from_residual.ensures.1 in p.1 ∙ ap Err p.2)

pub returns-clause-goes : goal.returns-clause-goes
returns-clause-goes g c = λ o b can even none books.
    subst (λ (x : Result Unit RunFault). SettledOn {T = Unit} g.H.Host.tells o b (stage_of g.H.Host.world g.H.Host.faults (run_of c.args.core.now) c.args.settler.now c.args.host.now) (stage_of g.H.Host.world g.H.Host.faults (run_of c.load.new.access) c.load.new.self c.load.new.host) x) (sym c.ended_by.ensures)
    (on-turned g.H.Host.tells g.H.Host.world g.H.Host.faults wanted_step (run_of c.args.core.now) (run_of c.load.new.access) c.args.settler.now c.load.new.self c.args.host.now c.load.new.host c.load.result o b
    (loaded-said loaded-keeps g.H.Host.tells g.H.Host.world g.H.Host.faults c.args.shape.now (run_of c.args.core.now) (run_of c.load.new.access) c.args.settler.now c.load.new.self c.args.host.now c.load.new.host c.load.result c.load.ensures.turns o b can none even books)
    c.in_ok-turned.turned
    (well-anyway c.in_ok-turned.turned (c.load.new.self.doubted ≡ true → has_unwritten (ends (run_of c.load.new.access)) ≡ true)
    (calm-left g.H.Host.tells o b (stage_of g.H.Host.world g.H.Host.faults (run_of c.args.core.now) c.args.settler.now c.args.host.now) (run_of c.load.new.access) c.load.new.self books none
    (loads-still g.H.Host.tells g.H.Host.world g.H.Host.faults c.args.shape.now (run_of c.args.core.now) (run_of c.load.new.access) c.args.settler.now c.load.new.self c.args.host.now c.load.new.host c.load.result c.load.ensures.turns)))
    c.in_ok-turned.was)

pub returns-in_err-turned-clause-acted : goal.returns-in_err-turned-clause-acted
returns-in_err-turned-clause-acted g c = let q = err_from_is_err_and c.from_residual.result c.from_residual.ensures.1 in rw q.1 tt

pub returns-clause-acted : goal.returns-clause-acted
returns-clause-acted g c =
    rw c.ended_by.ensures
    (ended-acted g.H.Host.tells g.H.Host.world g.H.Host.faults c.args.shape.now (run_of c.args.core.now) (run_of c.load.new.access) c.args.settler.now c.load.new.self c.args.host.now c.load.new.host wanted_step c.in_ok-turned.turned c.in_ok-turned.ensures.turns)

pub returns-in_err-turned-clause-beside : goal.returns-in_err-turned-clause-beside
returns-in_err-turned-clause-beside g c =
    step-beside g.H.Host.tells g.H.Host.world g.H.Host.faults c.args.shape.now wanted_step (run_of c.args.core.now) (run_of c.load.new.access) c.args.settler.now c.load.new.self c.args.host.now c.load.new.host tt c.load.result c.load.ensures.turns
    (Err c.in_err-turned.field-0.0) c.in_err-turned.was c.from_residual.result (let p = err_from_is_err_and c.from_residual.result c.from_residual.ensures.1 in p.1 ∙ ap Err p.2)

pub returns-clause-beside : goal.returns-clause-beside
returns-clause-beside g c =
    step-beside g.H.Host.tells g.H.Host.world g.H.Host.faults c.args.shape.now wanted_step (run_of c.args.core.now) (run_of c.load.new.access) c.args.settler.now c.load.new.self c.args.host.now c.load.new.host tt c.load.result c.load.ensures.turns
    (Ok c.in_ok-turned.turned) c.in_ok-turned.was c.ended_by.result (c.ended_by.ensures ∙ answer-ended c.in_ok-turned.turned)

pub returns-in_err-turned-clause-doubted : goal.returns-in_err-turned-clause-doubted
returns-in_err-turned-clause-doubted g c = loads-still g.H.Host.tells g.H.Host.world g.H.Host.faults c.args.shape.now (run_of c.args.core.now) (run_of c.load.new.access) c.args.settler.now c.load.new.self c.args.host.now c.load.new.host c.load.result c.load.ensures.turns

pub returns-in_err-turned-clause-safe : goal.returns-in_err-turned-clause-safe
returns-in_err-turned-clause-safe g c = record { safe = safe-asked g.H.Host.tells c.args.settler.now c.load.new.self (g.H.Host.world c.args.host.now) (g.H.Host.world c.load.new.host) c.load.ensures.writer c.load.ensures.asked c.requires.safe; ready = c.load.ensures.ready }

pub returns-clause-doubted : goal.returns-clause-doubted
returns-clause-doubted g c = loads-still g.H.Host.tells g.H.Host.world g.H.Host.faults c.args.shape.now (run_of c.args.core.now) (run_of c.load.new.access) c.args.settler.now c.load.new.self c.args.host.now c.load.new.host c.load.result c.load.ensures.turns

pub returns-clause-safe : goal.returns-clause-safe
returns-clause-safe g c = record { safe = safe-asked g.H.Host.tells c.args.settler.now c.load.new.self (g.H.Host.world c.args.host.now) (g.H.Host.world c.load.new.host) c.load.ensures.writer c.load.ensures.asked c.requires.safe; ready = c.load.ensures.ready }

pub load-requires : goal.load-requires
load-requires g c = record { fit = tt; bounds = c.requires.safe.bounds }
