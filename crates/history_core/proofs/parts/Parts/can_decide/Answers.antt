use Rattle.std.proofs.Common.{◌∙◌, sym, ap, refl, ◌&&◌}
use Rattle.history_core.specs.Batches.{may_decide_in}
use Rattle.history_core.proofs.Decides.{may-decide-is}
use Rattle.core_model.specs.declared.events.CoreEvent.TheVariants.{Decide}
use Rattle.history_core.proofs.OpenBatches.{to-cases}
use Rattle.history_core.proofs.OneEvent.{tells-going}
use Rattle.history_core.proofs.parts.Parts.can_decide.Goals as goal

pub returns-then-is_going : goal.returns-then-is_going
returns-then-is_going c = λ w s r.
    let p = c.args.self.now in
    let t = may_decide_in p.batch c.args.number in
    c.may_decide.ensures ∙ ap (λ b. b && t) (sym c.if-is_going.true)
    ∙ tells-going p (Decide c.args.number) c.is_going.result t refl refl c.is_going.ensures
    (λ v k q. may-decide-is p.batch p.waiting.items v.manager.batch c.args.number (to-cases p.batch p.waiting.items v.manager.batch k.batch)) w s r
