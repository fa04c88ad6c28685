use Rattle.std.proofs.Common.{◌∙◌, inl, inr, refl, sym, ap, Bool, true, false}
use Rattle.std.specs.Prelude.{Ok, Err}
use Rattle.std.proofs.lemmas.Result.{err_from_is_err_and}
use Rattle.settle_loop.specs.declared.settler.Turned.TheVariants.{Stepped, Nothing, Stop}
use Rattle.settle_loop.specs.declared.settler.StopCause.TheVariants as cause
use Rattle.run_books.specs.declared.faults.RunFault.TheVariants.{InDoubt, WriteFault, LoadFault, LoadDamaged}
use Rattle.run_books.proofs.BooksShared.{shared-keep}
use Rattle.shared_settling.proofs.KeptBooks.{on-stepped, on-idle, on-idle-doubt, on-doubt, on-cut, on-unread, on-damaged, on-lack}
use Rattle.shared_settling.proofs.PassSights.{step-among, step-promise}
use Rattle.shared_settling.proofs.StepsBeside.{step-leaves, step-rests, step-doubts}
use Rattle.shared_settling.proofs.Stops.{step-knows}
use Rattle.shared_settling.proofs.steps.settle_once.Goals as goal

pub returns-in_err-step-clause-own : goal.returns-in_err-step-clause-own
returns-in_err-step-clause-own g c = step-among g.H.Host.tells g.H.Host.world g.H.Host.faults g.A.Access.may_come c.args.shape.now c.args.settler.now c.step.new.self (g.A.Access.sight c.args.access.now) (g.A.Access.sight c.step.new.access) c.args.host.now c.step.new.host c.step.result c.step.ensures.turns

pub returns-in_err-step-clause-leaves : goal.returns-in_err-step-clause-leaves
returns-in_err-step-clause-leaves g c = record {
  promise = λ basis. step-promise g.H.Host.tells g.H.Host.world g.H.Host.faults g.A.Access.may_come c.args.shape.now c.args.settler.now c.step.new.self (g.A.Access.sight c.args.access.now) (g.A.Access.sight c.step.new.access) c.args.host.now c.step.new.host c.step.result c.step.ensures.turns basis;
  books = λ o b can rely.
      on-lack g.H.Host.tells g.H.Host.world g.H.Host.faults (shared-keep _ _ g.H.Host.tells g.H.Host.world g.H.Host.faults) g.A.Access.may_come c.args.shape.now (g.A.Access.sight c.args.access.now) (g.A.Access.sight c.step.new.access) c.args.settler.now c.step.new.self c.args.host.now c.step.new.host
      c.step.result c.step.ensures.turns o b can rely c.in_err-step.field-0.0 c.in_err-step.was c.from_residual.result (let p = err_from_is_err_and c.from_residual.result c.from_residual.ensures.1 in p.1 ∙ ap Err p.2);
  beside = step-leaves {T = Bool} g.H.Host.tells g.H.Host.world g.H.Host.faults g.A.Access.may_come c.args.shape.now c.args.settler.now c.step.new.self (g.A.Access.sight c.args.access.now) (g.A.Access.sight c.step.new.access) c.args.host.now c.step.new.host c.step.result c.step.ensures.turns
      (Err c.in_err-step.field-0.0) c.in_err-step.was c.from_residual.result (let p = err_from_is_err_and c.from_residual.result c.from_residual.ensures.1 in p.1 ∙ ap Err p.2);
}

pub returns-in_err-step-clause-knows : goal.returns-in_err-step-clause-knows
returns-in_err-step-clause-knows g c = λ truly. step-knows g.H.Host.tells g.H.Host.world g.H.Host.faults g.A.Access.may_come c.args.shape.now c.args.settler.now c.step.new.self (g.A.Access.sight c.args.access.now) (g.A.Access.sight c.step.new.access) c.args.host.now c.step.new.host truly c.step.result c.step.ensures.turns

pub returns-then-doubted-clause-own : goal.returns-then-doubted-clause-own
returns-then-doubted-clause-own g c = step-among g.H.Host.tells g.H.Host.world g.H.Host.faults g.A.Access.may_come c.args.shape.now c.args.settler.now c.step.new.self (g.A.Access.sight c.args.access.now) (g.A.Access.sight c.step.new.access) c.args.host.now c.step.new.host c.step.result c.step.ensures.turns

pub returns-then-doubted-clause-leaves : goal.returns-then-doubted-clause-leaves
returns-then-doubted-clause-leaves g c = record {
  promise = λ basis. step-promise g.H.Host.tells g.H.Host.world g.H.Host.faults g.A.Access.may_come c.args.shape.now c.args.settler.now c.step.new.self (g.A.Access.sight c.args.access.now) (g.A.Access.sight c.step.new.access) c.args.host.now c.step.new.host c.step.result c.step.ensures.turns basis;
  books = λ o b can rely.
      on-idle-doubt g.H.Host.tells g.H.Host.world g.H.Host.faults (shared-keep _ _ g.H.Host.tells g.H.Host.world g.H.Host.faults) g.A.Access.may_come c.args.shape.now (g.A.Access.sight c.args.access.now) (g.A.Access.sight c.step.new.access) c.args.settler.now c.step.new.self c.args.host.now c.step.new.host
      c.step.result c.step.ensures.turns o b can rely Bool (c.in_ok-step.was ∙ ap Ok c.in-Nothing.is) (sym c.doubted.ensures ∙ c.if-doubted.true);
  beside = step-leaves {T = Bool} g.H.Host.tells g.H.Host.world g.H.Host.faults g.A.Access.may_come c.args.shape.now c.args.settler.now c.step.new.self (g.A.Access.sight c.args.access.now) (g.A.Access.sight c.step.new.access) c.args.host.now c.step.new.host c.step.result c.step.ensures.turns
      (Ok Nothing) (c.in_ok-step.was ∙ ap Ok c.in-Nothing.is) (Err InDoubt) (inr refl);
}

pub returns-then-doubted-clause-knows : goal.returns-then-doubted-clause-knows
returns-then-doubted-clause-knows g c = λ truly. step-knows g.H.Host.tells g.H.Host.world g.H.Host.faults g.A.Access.may_come c.args.shape.now c.args.settler.now c.step.new.self (g.A.Access.sight c.args.access.now) (g.A.Access.sight c.step.new.access) c.args.host.now c.step.new.host truly c.step.result c.step.ensures.turns

pub returns-in-Stepped-clause-own : goal.returns-in-Stepped-clause-own
returns-in-Stepped-clause-own g c = step-among g.H.Host.tells g.H.Host.world g.H.Host.faults g.A.Access.may_come c.args.shape.now c.args.settler.now c.step.new.self (g.A.Access.sight c.args.access.now) (g.A.Access.sight c.step.new.access) c.args.host.now c.step.new.host c.step.result c.step.ensures.turns

pub returns-in-Stepped-clause-leaves : goal.returns-in-Stepped-clause-leaves
returns-in-Stepped-clause-leaves g c = record {
  promise = λ basis. step-promise g.H.Host.tells g.H.Host.world g.H.Host.faults g.A.Access.may_come c.args.shape.now c.args.settler.now c.step.new.self (g.A.Access.sight c.args.access.now) (g.A.Access.sight c.step.new.access) c.args.host.now c.step.new.host c.step.result c.step.ensures.turns basis;
  books = λ o b can rely.
      on-stepped g.H.Host.tells g.H.Host.world g.H.Host.faults (shared-keep _ _ g.H.Host.tells g.H.Host.world g.H.Host.faults) g.A.Access.may_come c.args.shape.now (g.A.Access.sight c.args.access.now) (g.A.Access.sight c.step.new.access) c.args.settler.now c.step.new.self c.args.host.now c.step.new.host
      c.step.result c.step.ensures.turns o b can rely (c.in_ok-step.was ∙ ap Ok c.in-Stepped.is) true;
  beside = step-leaves {T = Bool} g.H.Host.tells g.H.Host.world g.H.Host.faults g.A.Access.may_come c.args.shape.now c.args.settler.now c.step.new.self (g.A.Access.sight c.args.access.now) (g.A.Access.sight c.step.new.access) c.args.host.now c.step.new.host c.step.result c.step.ensures.turns
      (Ok Stepped) (c.in_ok-step.was ∙ ap Ok c.in-Stepped.is) (Ok true) (true, refl);
}

pub returns-in-Stepped-clause-knows : goal.returns-in-Stepped-clause-knows
returns-in-Stepped-clause-knows g c = λ truly. step-knows g.H.Host.tells g.H.Host.world g.H.Host.faults g.A.Access.may_come c.args.shape.now c.args.settler.now c.step.new.self (g.A.Access.sight c.args.access.now) (g.A.Access.sight c.step.new.access) c.args.host.now c.step.new.host truly c.step.result c.step.ensures.turns

pub returns-else-doubted-clause-own : goal.returns-else-doubted-clause-own
returns-else-doubted-clause-own g c = step-among g.H.Host.tells g.H.Host.world g.H.Host.faults g.A.Access.may_come c.args.shape.now c.args.settler.now c.step.new.self (g.A.Access.sight c.args.access.now) (g.A.Access.sight c.step.new.access) c.args.host.now c.step.new.host c.step.result c.step.ensures.turns

pub returns-else-doubted-clause-leaves : goal.returns-else-doubted-clause-leaves
returns-else-doubted-clause-leaves g c = record {
  promise = λ basis. step-promise g.H.Host.tells g.H.Host.world g.H.Host.faults g.A.Access.may_come c.args.shape.now c.args.settler.now c.step.new.self (g.A.Access.sight c.args.access.now) (g.A.Access.sight c.step.new.access) c.args.host.now c.step.new.host c.step.result c.step.ensures.turns basis;
  books = λ o b can rely.
      on-idle g.H.Host.tells g.H.Host.world g.H.Host.faults (shared-keep _ _ g.H.Host.tells g.H.Host.world g.H.Host.faults) g.A.Access.may_come c.args.shape.now (g.A.Access.sight c.args.access.now) (g.A.Access.sight c.step.new.access) c.args.settler.now c.step.new.self c.args.host.now c.step.new.host
      c.step.result c.step.ensures.turns o b can rely (c.in_ok-step.was ∙ ap Ok c.in-Nothing.is) false;
  beside = step-leaves {T = Bool} g.H.Host.tells g.H.Host.world g.H.Host.faults g.A.Access.may_come c.args.shape.now c.args.settler.now c.step.new.self (g.A.Access.sight c.args.access.now) (g.A.Access.sight c.step.new.access) c.args.host.now c.step.new.host c.step.result c.step.ensures.turns
      (Ok Nothing) (c.in_ok-step.was ∙ ap Ok c.in-Nothing.is) (Ok false) (inl (false, refl));
}

pub returns-in-Stop-InDoubt-clause-own : goal.returns-in-Stop-InDoubt-clause-own
returns-in-Stop-InDoubt-clause-own g c = step-among g.H.Host.tells g.H.Host.world g.H.Host.faults g.A.Access.may_come c.args.shape.now c.args.settler.now c.step.new.self (g.A.Access.sight c.args.access.now) (g.A.Access.sight c.step.new.access) c.args.host.now c.step.new.host c.step.result c.step.ensures.turns

pub returns-in-Stop-InDoubt-clause-leaves : goal.returns-in-Stop-InDoubt-clause-leaves
returns-in-Stop-InDoubt-clause-leaves g c = record {
  promise = λ basis. step-promise g.H.Host.tells g.H.Host.world g.H.Host.faults g.A.Access.may_come c.args.shape.now c.args.settler.now c.step.new.self (g.A.Access.sight c.args.access.now) (g.A.Access.sight c.step.new.access) c.args.host.now c.step.new.host c.step.result c.step.ensures.turns basis;
  books = λ o b can rely.
      on-doubt g.H.Host.tells g.H.Host.world g.H.Host.faults (shared-keep _ _ g.H.Host.tells g.H.Host.world g.H.Host.faults) g.A.Access.may_come c.args.shape.now (g.A.Access.sight c.args.access.now) (g.A.Access.sight c.step.new.access) c.args.settler.now c.step.new.self c.args.host.now c.step.new.host
      c.step.result c.step.ensures.turns o b can rely Bool (c.in_ok-step.was ∙ ap Ok (c.in-Stop-InDoubt.is ∙ ap Stop c.in-Stop-InDoubt.field-0-is));
  beside = step-leaves {T = Bool} g.H.Host.tells g.H.Host.world g.H.Host.faults g.A.Access.may_come c.args.shape.now c.args.settler.now c.step.new.self (g.A.Access.sight c.args.access.now) (g.A.Access.sight c.step.new.access) c.args.host.now c.step.new.host c.step.result c.step.ensures.turns
      (Ok (Stop cause.InDoubt)) (c.in_ok-step.was ∙ ap Ok (c.in-Stop-InDoubt.is ∙ ap Stop c.in-Stop-InDoubt.field-0-is)) (Err InDoubt) refl;
}

pub returns-in-Stop-InDoubt-clause-knows : goal.returns-in-Stop-InDoubt-clause-knows
returns-in-Stop-InDoubt-clause-knows g c = λ truly. step-knows g.H.Host.tells g.H.Host.world g.H.Host.faults g.A.Access.may_come c.args.shape.now c.args.settler.now c.step.new.self (g.A.Access.sight c.args.access.now) (g.A.Access.sight c.step.new.access) c.args.host.now c.step.new.host truly c.step.result c.step.ensures.turns

pub returns-in-Stop-WriteFault-clause-own : goal.returns-in-Stop-WriteFault-clause-own
returns-in-Stop-WriteFault-clause-own g c = step-among g.H.Host.tells g.H.Host.world g.H.Host.faults g.A.Access.may_come c.args.shape.now c.args.settler.now c.step.new.self (g.A.Access.sight c.args.access.now) (g.A.Access.sight c.step.new.access) c.args.host.now c.step.new.host c.step.result c.step.ensures.turns

pub returns-in-Stop-WriteFault-clause-leaves : goal.returns-in-Stop-WriteFault-clause-leaves
returns-in-Stop-WriteFault-clause-leaves g c = record {
  promise = λ basis. step-promise g.H.Host.tells g.H.Host.world g.H.Host.faults g.A.Access.may_come c.args.shape.now c.args.settler.now c.step.new.self (g.A.Access.sight c.args.access.now) (g.A.Access.sight c.step.new.access) c.args.host.now c.step.new.host c.step.result c.step.ensures.turns basis;
  books = λ o b can rely.
      on-cut g.H.Host.tells g.H.Host.world g.H.Host.faults (shared-keep _ _ g.H.Host.tells g.H.Host.world g.H.Host.faults) g.A.Access.may_come c.args.shape.now (g.A.Access.sight c.args.access.now) (g.A.Access.sight c.step.new.access) c.args.settler.now c.step.new.self c.args.host.now c.step.new.host
      c.step.result c.step.ensures.turns o b can rely Bool (c.in_ok-step.was ∙ ap Ok (c.in-Stop-WriteFault.is ∙ ap Stop c.in-Stop-WriteFault.field-0-is));
  beside = step-leaves {T = Bool} g.H.Host.tells g.H.Host.world g.H.Host.faults g.A.Access.may_come c.args.shape.now c.args.settler.now c.step.new.self (g.A.Access.sight c.args.access.now) (g.A.Access.sight c.step.new.access) c.args.host.now c.step.new.host c.step.result c.step.ensures.turns
      (Ok (Stop cause.WriteFault)) (c.in_ok-step.was ∙ ap Ok (c.in-Stop-WriteFault.is ∙ ap Stop c.in-Stop-WriteFault.field-0-is)) (Err WriteFault) refl;
}

pub returns-in-Stop-WriteFault-clause-knows : goal.returns-in-Stop-WriteFault-clause-knows
returns-in-Stop-WriteFault-clause-knows g c = λ truly. step-knows g.H.Host.tells g.H.Host.world g.H.Host.faults g.A.Access.may_come c.args.shape.now c.args.settler.now c.step.new.self (g.A.Access.sight c.args.access.now) (g.A.Access.sight c.step.new.access) c.args.host.now c.step.new.host truly c.step.result c.step.ensures.turns

pub returns-in-Stop-LoadFault-clause-own : goal.returns-in-Stop-LoadFault-clause-own
returns-in-Stop-LoadFault-clause-own g c = step-among g.H.Host.tells g.H.Host.world g.H.Host.faults g.A.Access.may_come c.args.shape.now c.args.settler.now c.step.new.self (g.A.Access.sight c.args.access.now) (g.A.Access.sight c.step.new.access) c.args.host.now c.step.new.host c.step.result c.step.ensures.turns

pub returns-in-Stop-LoadFault-clause-leaves : goal.returns-in-Stop-LoadFault-clause-leaves
returns-in-Stop-LoadFault-clause-leaves g c = record {
  promise = λ basis. step-promise g.H.Host.tells g.H.Host.world g.H.Host.faults g.A.Access.may_come c.args.shape.now c.args.settler.now c.step.new.self (g.A.Access.sight c.args.access.now) (g.A.Access.sight c.step.new.access) c.args.host.now c.step.new.host c.step.result c.step.ensures.turns basis;
  books = λ o b can rely.
      on-unread g.H.Host.tells g.H.Host.world g.H.Host.faults (shared-keep _ _ g.H.Host.tells g.H.Host.world g.H.Host.faults) g.A.Access.may_come c.args.shape.now (g.A.Access.sight c.args.access.now) (g.A.Access.sight c.step.new.access) c.args.settler.now c.step.new.self c.args.host.now c.step.new.host
      c.step.result c.step.ensures.turns o b can rely Bool c.in-Stop-LoadFault.file (c.in_ok-step.was ∙ ap Ok (c.in-Stop-LoadFault.is ∙ ap Stop c.in-Stop-LoadFault.field-0-is));
  beside = step-leaves {T = Bool} g.H.Host.tells g.H.Host.world g.H.Host.faults g.A.Access.may_come c.args.shape.now c.args.settler.now c.step.new.self (g.A.Access.sight c.args.access.now) (g.A.Access.sight c.step.new.access) c.args.host.now c.step.new.host c.step.result c.step.ensures.turns
      (Ok (Stop (cause.LoadFault c.in-Stop-LoadFault.file))) (c.in_ok-step.was ∙ ap Ok (c.in-Stop-LoadFault.is ∙ ap Stop c.in-Stop-LoadFault.field-0-is)) (Err (LoadFault c.in-Stop-LoadFault.file)) refl;
}

pub returns-in-Stop-LoadFault-clause-knows : goal.returns-in-Stop-LoadFault-clause-knows
returns-in-Stop-LoadFault-clause-knows g c = λ truly. step-knows g.H.Host.tells g.H.Host.world g.H.Host.faults g.A.Access.may_come c.args.shape.now c.args.settler.now c.step.new.self (g.A.Access.sight c.args.access.now) (g.A.Access.sight c.step.new.access) c.args.host.now c.step.new.host truly c.step.result c.step.ensures.turns

pub returns-in-Stop-LoadDamaged-clause-own : goal.returns-in-Stop-LoadDamaged-clause-own
returns-in-Stop-LoadDamaged-clause-own g c = step-among g.H.Host.tells g.H.Host.world g.H.Host.faults g.A.Access.may_come c.args.shape.now c.args.settler.now c.step.new.self (g.A.Access.sight c.args.access.now) (g.A.Access.sight c.step.new.access) c.args.host.now c.step.new.host c.step.result c.step.ensures.turns

pub returns-in-Stop-LoadDamaged-clause-leaves : goal.returns-in-Stop-LoadDamaged-clause-leaves
returns-in-Stop-LoadDamaged-clause-leaves g c = record {
  promise = λ basis. step-promise g.H.Host.tells g.H.Host.world g.H.Host.faults g.A.Access.may_come c.args.shape.now c.args.settler.now c.step.new.self (g.A.Access.sight c.args.access.now) (g.A.Access.sight c.step.new.access) c.args.host.now c.step.new.host c.step.result c.step.ensures.turns basis;
  books = λ o b can rely.
      on-damaged g.H.Host.tells g.H.Host.world g.H.Host.faults (shared-keep _ _ g.H.Host.tells g.H.Host.world g.H.Host.faults) g.A.Access.may_come c.args.shape.now (g.A.Access.sight c.args.access.now) (g.A.Access.sight c.step.new.access) c.args.settler.now c.step.new.self c.args.host.now c.step.new.host
      c.step.result c.step.ensures.turns o b can rely Bool c.in-Stop-LoadDamaged.file c.in-Stop-LoadDamaged.place (c.in_ok-step.was ∙ ap Ok (c.in-Stop-LoadDamaged.is ∙ ap Stop c.in-Stop-LoadDamaged.field-0-is));
  beside = step-leaves {T = Bool} g.H.Host.tells g.H.Host.world g.H.Host.faults g.A.Access.may_come c.args.shape.now c.args.settler.now c.step.new.self (g.A.Access.sight c.args.access.now) (g.A.Access.sight c.step.new.access) c.args.host.now c.step.new.host c.step.result c.step.ensures.turns
      (Ok (Stop (cause.LoadDamaged c.in-Stop-LoadDamaged.file c.in-Stop-LoadDamaged.place))) (c.in_ok-step.was ∙ ap Ok (c.in-Stop-LoadDamaged.is ∙ ap Stop c.in-Stop-LoadDamaged.field-0-is)) (Err (LoadDamaged c.in-Stop-LoadDamaged.file c.in-Stop-LoadDamaged.place)) refl;
}

pub returns-in-Stop-LoadDamaged-clause-knows : goal.returns-in-Stop-LoadDamaged-clause-knows
returns-in-Stop-LoadDamaged-clause-knows g c = λ truly. step-knows g.H.Host.tells g.H.Host.world g.H.Host.faults g.A.Access.may_come c.args.shape.now c.args.settler.now c.step.new.self (g.A.Access.sight c.args.access.now) (g.A.Access.sight c.step.new.access) c.args.host.now c.step.new.host truly c.step.result c.step.ensures.turns

pub returns-else-doubted-clause-rests : goal.returns-else-doubted-clause-rests
returns-else-doubted-clause-rests g c = λ q. (step-rests g.H.Host.tells g.H.Host.world g.H.Host.faults g.A.Access.may_come c.args.shape.now c.args.settler.now c.step.new.self (g.A.Access.sight c.args.access.now) (g.A.Access.sight c.step.new.access) c.args.host.now c.step.new.host c.step.result c.step.ensures.turns (c.in_ok-step.was ∙ ap Ok c.in-Nothing.is), sym c.doubted.ensures ∙ c.if-doubted.false)

pub returns-then-doubted-clause-doubted : goal.returns-then-doubted-clause-doubted
returns-then-doubted-clause-doubted g c = λ q. sym c.doubted.ensures ∙ c.if-doubted.true

pub returns-in-Stop-InDoubt-clause-doubted : goal.returns-in-Stop-InDoubt-clause-doubted
returns-in-Stop-InDoubt-clause-doubted g c = λ q. step-doubts g.H.Host.tells g.H.Host.world g.H.Host.faults g.A.Access.may_come c.args.shape.now c.args.settler.now c.step.new.self (g.A.Access.sight c.args.access.now) (g.A.Access.sight c.step.new.access) c.args.host.now c.step.new.host c.step.result c.step.ensures.turns (c.in_ok-step.was ∙ ap Ok (c.in-Stop-InDoubt.is ∙ ap Stop c.in-Stop-InDoubt.field-0-is))
