use Rattle.std.proofs.Common.{inl, refl, sym, subst, ◌∙◌}
use Rattle.std.specs.Prelude.{Err}
use Rattle.core_model.specs.Settler.{settler_step}
use Rattle.batch_disk.specs.Writers.{StaysSafe}
use Rattle.batch_disk.specs.declared.writer.BatchWriter.{BatchWriter}
use Rattle.settle_loop.specs.SettlerStep.{state_shown}
use Rattle.settle_loop.proofs.StepParts.{turned, acted_event, acted_idle, stops, acted_none, none_turned}
use Rattle.settle_loop.proofs.settler.Settler.step.Goals as goal

pub returns-in_err-work-clause-turns : goal.returns-in_err-work-clause-turns
returns-in_err-work-clause-turns g c =
    let a = c.args.self.now in
    let h = c.args.host.now in
    none_turned g.H.Host.tells g.H.Host.world g.H.Host.faults g.A.Access.may_come c.args.shape.now settler_step (g.A.Access.sight c.args.access.now) (g.A.Access.sight c.look.new.access) a a h h
    c.from_residual.result c.from_residual.ensures.0 (inl (record { looked = c.look.ensures.looked; host = refl; settler = refl }))

pub returns-in-Err-clause-turns : goal.returns-in-Err-clause-turns
returns-in-Err-clause-turns g c =
    let t = g.A.Access.sight c.look.new.access in
    acted_none g.H.Host.tells g.H.Host.world g.H.Host.faults g.A.Access.may_come c.args.shape.now settler_step (g.A.Access.sight c.args.access.now) t c.args.self.now c.act.new.self c.args.host.now c.act.new.host
    c.look.ensures.looked c.act.result c.in-Err.lack (Err c.in-Err.lack) refl c.in-Err.is (c.act.ensures.made (state_shown t) c.in_ok-work.ensures.work)

pub returns-in-Event-clause-turns : goal.returns-in-Event-clause-turns
returns-in-Event-clause-turns g c =
    let t = g.A.Access.sight c.look.new.access in
    let made = acted_event g.H.Host.tells g.H.Host.world g.H.Host.faults c.args.shape.now (state_shown t) (settler_step (state_shown t)) c.args.self.now c.act.new.self c.args.host.now c.act.new.host
    c.act.result c.in-Ok.made c.in-Ok.is (c.act.ensures.made (state_shown t) c.in_ok-work.ensures.work) c.in-Event.event c.in-Event.writes c.in-Event.doubts c.in-Event.is in
    turned g.H.Host.tells g.H.Host.world g.H.Host.faults g.A.Access.may_come c.args.shape.now settler_step c.args.self.now c.act.new.self c.tell.new.self
    (g.A.Access.sight c.args.access.now) t (g.A.Access.sight c.tell.new.access) c.args.host.now c.act.new.host
    c.in-Event.event c.in-Event.writes c.in-Event.doubts c.look.ensures.looked made c.tell.ensures.writer c.tell.result c.tell.ensures.told

pub returns-in-Idle-clause-turns : goal.returns-in-Idle-clause-turns
returns-in-Idle-clause-turns g c =
    let t = g.A.Access.sight c.look.new.access in
    let made = acted_idle g.H.Host.tells g.H.Host.world g.H.Host.faults c.args.shape.now (state_shown t) (settler_step (state_shown t)) c.args.self.now c.act.new.self c.args.host.now c.act.new.host
    c.act.result c.in-Ok.made c.in-Ok.is (c.act.ensures.made (state_shown t) c.in_ok-work.ensures.work) c.in-Idle.is in
    record { looked = c.look.ensures.looked; rests = made.0; host = made.1.0; settler = made.1.1 }

pub returns-in-Stopped-clause-turns : goal.returns-in-Stopped-clause-turns
returns-in-Stopped-clause-turns g c =
    let t = g.A.Access.sight c.look.new.access in
    stops g.H.Host.tells g.H.Host.world g.H.Host.faults g.A.Access.may_come c.args.shape.now settler_step (g.A.Access.sight c.args.access.now) t c.args.self.now c.act.new.self c.args.host.now c.act.new.host
    c.look.ensures.looked c.act.result c.in-Ok.made c.in-Ok.is c.in-Stopped.cause c.in-Stopped.is (c.act.ensures.made (state_shown t) c.in_ok-work.ensures.work)

pub returns-in-Event-clause-kept : goal.returns-in-Event-clause-kept
returns-in-Event-clause-kept g c = record { fit = c.tell.ensures.kept.fit; aside = c.tell.ensures.kept.aside ∙ c.look.ensures.kept.aside }

pub returns-in-Event-clause-safe : goal.returns-in-Event-clause-safe
returns-in-Event-clause-safe g c = subst (λ (w : BatchWriter). StaysSafe g.H.Host.tells g.H.Host.is_ready g.H.Host.world w c.args.host.now c.act.new.host) (sym c.tell.ensures.writer) c.act.ensures.safe
