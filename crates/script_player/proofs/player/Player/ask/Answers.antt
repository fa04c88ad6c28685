use Rattle.std.proofs.Common.{◌+◌, ℕ, List, [], ◌∷◌, ◌++◌, ap, sym, ◌∙◌}
use Rattle.script_values.specs.Faults.{units, aborted}
use Rattle.script_holding.specs.Holding.{Holding, one_asked}
use Rattle.script_meaning.specs.Requests.{Requests, stop}
use Rattle.script_meaning.specs.Calls.{answered}
use Rattle.script_meaning.specs.Play.{AskedUnit}
use Rattle.script_player.specs.PlayState.{answering, heard}
use Rattle.script_player.proofs.PlayProgress.{ends_at, heard_answer, heard_abort, unit_for, no_unit_for}
use Rattle.script_player.proofs.player.Player.ask.Goals as goal

pub returns-then-not-ask_unit-clause-led : goal.returns-then-not-ask_unit-clause-led
returns-then-not-ask_unit-clause-led c = λ onto caught.
    let refused = c.if-not-ask_unit.ensures {u = tt} in
    ends_at c.args.world.now c.ask_unit.new.self c.args.self.now.progress c.stop_at.result units _ c.stop_at.ensures
    (no_unit_for c.args.call c.args.depth onto caught c.args.self.now.has refused.there ∙ ap (λ (h : Holding). stop units h) (sym refused.counted))

pub returns-in_default-clause-led : goal.returns-in_default-clause-led
returns-in_default-clause-led c = λ onto caught.
    let world = c.args.world.now in
    let has = c.args.self.now.has in
    let progress = c.args.self.now.progress in
    let granted = c.if-not-ask_unit.ensures {u = tt} in
    let here = λ (asked : List AskedUnit) (rest : Requests). heard world (record { asked = asked; reads = progress.reads; used = progress.used }) rest in
    ap (λ (asked : List AskedUnit). here asked (caught c.in_ok-fault_of.field-0 c.ask_unit.new.self)) (c.in_ok-push.ensures {u = tt}).pushed
    ∙ ap (here (progress.asked ++ ((c.args.call, c.args.depth) ∷ [])))
    (ap (λ (text : List ℕ). caught text c.ask_unit.new.self) (c.in_ok-fault_of.ensures {u = tt}) ∙ ap (caught aborted) granted.counted)
    ∙ heard_abort world progress.asked progress.reads progress.used c.args.call c.args.depth (λ outcome. answered outcome onto caught (one_asked has)) (sym (c.in_default.ensures {u = tt}))
    ∙ ap (heard world progress) (sym (unit_for c.args.call c.args.depth onto caught has granted.there))

pub returns-clause-led : goal.returns-clause-led
returns-clause-led c = λ onto caught.
    let world = c.args.world.now in
    let has = c.args.self.now.has in
    let progress = c.args.self.now.progress in
    let outcome = c.in-Some.outcome.now in
    let granted = c.if-not-ask_unit.ensures {u = tt} in
    let here = λ (asked : List AskedUnit) (rest : Requests). heard world (record { asked = asked; reads = progress.reads; used = progress.used + 1 }) rest in
    ap (λ (asked : List AskedUnit). here asked (answering c.in_ok-answered.field-0 onto caught c.ask_unit.new.self)) (c.in_ok-push.ensures {u = tt}).pushed
    ∙ ap (here (progress.asked ++ ((c.args.call, c.args.depth) ∷ [])))
    (c.in_ok-answered.ensures {u = tt} onto caught c.ask_unit.new.self ∙ ap (answered outcome onto caught) granted.counted)
    ∙ heard_answer world progress.asked progress.reads progress.used c.args.call c.args.depth (λ o. answered o onto caught (one_asked has)) outcome (sym c.in-Some.ensures)
    ∙ ap (heard world progress) (sym (unit_for c.args.call c.args.depth onto caught has granted.there))
