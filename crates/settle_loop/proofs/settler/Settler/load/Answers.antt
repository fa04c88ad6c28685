use Rattle.std.proofs.Common.{◌≡◌, inl, refl, ap, sym, ◌∙◌}
use Rattle.std.specs.Prelude.{Err}
use Rattle.core_model.specs.Settler.{Loads, Rests}
use Rattle.settle_loop.specs.SettlerStep.{state_shown, load_of, wanted_step}
use Rattle.settle_loop.proofs.StepParts.{turned, acted_event, acted_idle, stops, acted_none, none_turned}
use Rattle.settle_loop.proofs.settler.Settler.load.Goals as goal

pub returns-in_err-grain-clause-turns : goal.returns-in_err-grain-clause-turns
returns-in_err-grain-clause-turns g c =
    let a = c.args.self.now in
    let h = c.args.host.now in
    none_turned g.H.Host.tells g.H.Host.world g.H.Host.faults g.A.Access.may_come c.args.shape.now wanted_step (g.A.Access.sight c.args.access.now) (g.A.Access.sight c.see_wanted.new.access) a a h h
    c.from_residual.result c.from_residual.ensures.0 (inl (record { looked = c.see_wanted.ensures.looked; host = refl; settler = refl }))

-- nothing is wanted
pub returns-in_default-clause-turns : goal.returns-in_default-clause-turns
returns-in_default-clause-turns g c =
    let t = g.A.Access.sight c.see_wanted.new.access in
    let rests : wanted_step (state_shown t) ≡ Rests = ap load_of (sym c.in_ok-grain.ensures.wanted ∙ c.in_default.is) in
    record { looked = c.see_wanted.ensures.looked; rests = rests; host = refl; settler = refl }

pub returns-in-Err-clause-turns : goal.returns-in-Err-clause-turns
returns-in-Err-clause-turns g c =
    let t = g.A.Access.sight c.see_wanted.new.access in
    let is : wanted_step (state_shown t) ≡ Loads c.in-Some.grain = ap load_of (sym c.in_ok-grain.ensures.wanted ∙ c.in-Some.is) in
    acted_none g.H.Host.tells g.H.Host.world g.H.Host.faults g.A.Access.may_come c.args.shape.now wanted_step (g.A.Access.sight c.args.access.now) t c.args.self.now c.args.self.now c.args.host.now c.bring_in.new.host
    c.see_wanted.ensures.looked c.bring_in.result c.in-Err.lack (Err c.in-Err.lack) refl c.in-Err.is (c.bring_in.ensures.made (state_shown t) (wanted_step (state_shown t)) is)

pub returns-in-Event-clause-turns : goal.returns-in-Event-clause-turns
returns-in-Event-clause-turns g c =
    let t = g.A.Access.sight c.see_wanted.new.access in
    let is : wanted_step (state_shown t) ≡ Loads c.in-Some.grain = ap load_of (sym c.in_ok-grain.ensures.wanted ∙ c.in-Some.is) in
    let made = acted_event g.H.Host.tells g.H.Host.world g.H.Host.faults c.args.shape.now (state_shown t) (wanted_step (state_shown t)) c.args.self.now c.args.self.now c.args.host.now c.bring_in.new.host
    c.bring_in.result c.in-Ok.made c.in-Ok.is (c.bring_in.ensures.made (state_shown t) (wanted_step (state_shown t)) is) c.in-Event.event c.in-Event.writes c.in-Event.doubts c.in-Event.is in
    turned g.H.Host.tells g.H.Host.world g.H.Host.faults g.A.Access.may_come c.args.shape.now wanted_step c.args.self.now c.args.self.now c.tell.new.self
    (g.A.Access.sight c.args.access.now) t (g.A.Access.sight c.tell.new.access) c.args.host.now c.bring_in.new.host
    c.in-Event.event c.in-Event.writes c.in-Event.doubts c.see_wanted.ensures.looked made c.tell.ensures.writer c.tell.result c.tell.ensures.told

pub returns-in-Idle-clause-turns : goal.returns-in-Idle-clause-turns
returns-in-Idle-clause-turns g c =
    let t = g.A.Access.sight c.see_wanted.new.access in
    let is : wanted_step (state_shown t) ≡ Loads c.in-Some.grain = ap load_of (sym c.in_ok-grain.ensures.wanted ∙ c.in-Some.is) in
    let made = acted_idle g.H.Host.tells g.H.Host.world g.H.Host.faults c.args.shape.now (state_shown t) (wanted_step (state_shown t)) c.args.self.now c.args.self.now c.args.host.now c.bring_in.new.host
    c.bring_in.result c.in-Ok.made c.in-Ok.is (c.bring_in.ensures.made (state_shown t) (wanted_step (state_shown t)) is) c.in-Idle.is in
    record { looked = c.see_wanted.ensures.looked; rests = made.0; host = made.1.0; settler = made.1.1 }

pub returns-in-Stopped-clause-turns : goal.returns-in-Stopped-clause-turns
returns-in-Stopped-clause-turns g c =
    let t = g.A.Access.sight c.see_wanted.new.access in
    let is : wanted_step (state_shown t) ≡ Loads c.in-Some.grain = ap load_of (sym c.in_ok-grain.ensures.wanted ∙ c.in-Some.is) in
    stops g.H.Host.tells g.H.Host.world g.H.Host.faults g.A.Access.may_come c.args.shape.now wanted_step (g.A.Access.sight c.args.access.now) t c.args.self.now c.args.self.now c.args.host.now c.bring_in.new.host
    c.see_wanted.ensures.looked c.bring_in.result c.in-Ok.made c.in-Ok.is c.in-Stopped.cause c.in-Stopped.is (c.bring_in.ensures.made (state_shown t) (wanted_step (state_shown t)) is)

pub returns-in-Event-clause-kept : goal.returns-in-Event-clause-kept
returns-in-Event-clause-kept g c = record { fit = c.tell.ensures.kept.fit; aside = c.tell.ensures.kept.aside ∙ c.see_wanted.ensures.kept.aside }
