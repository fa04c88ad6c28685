use Rattle.std.proofs.Common.{◌∙◌, sym, ap, refl, ◌&&◌}
use Rattle.core_model.specs.declared.events.CoreEvent.TheVariants.{Sealed, NotSealed, Doubt}
use Rattle.history_core.specs.Batches.{is_judged_in}
use Rattle.history_core.proofs.Seals.{judged-is}
use Rattle.history_core.proofs.OpenBatches.{to-cases}
use Rattle.history_core.proofs.OneEvent.{tells-answer}
use Rattle.history_core.proofs.parts.Parts.can_seal.Goals as goal

pub returns-then-is_known-clause-sealed : goal.returns-then-is_known-clause-sealed
returns-then-is_known-clause-sealed c = λ w s r.
    let p = c.args.self.now in
    let t = is_judged_in p.batch c.args.number in
    c.is_judged.ensures ∙ ap (λ b. b && t) (sym c.if-is_known.true)
    ∙ tells-answer p (Sealed c.args.number) c.is_known.result t refl refl c.is_known.ensures
    (λ v k q. judged-is p.batch p.waiting.items v.manager.batch c.args.number (to-cases p.batch p.waiting.items v.manager.batch k.batch)) w s r

pub returns-then-is_known-clause-not_sealed : goal.returns-then-is_known-clause-not_sealed
returns-then-is_known-clause-not_sealed c = λ w s r.
    let p = c.args.self.now in
    let t = is_judged_in p.batch c.args.number in
    c.is_judged.ensures ∙ ap (λ b. b && t) (sym c.if-is_known.true)
    ∙ tells-answer p (NotSealed c.args.number) c.is_known.result t refl refl c.is_known.ensures
    (λ v k q. judged-is p.batch p.waiting.items v.manager.batch c.args.number (to-cases p.batch p.waiting.items v.manager.batch k.batch)) w s r

pub returns-then-is_known-clause-doubt : goal.returns-then-is_known-clause-doubt
returns-then-is_known-clause-doubt c = λ w s r.
    let p = c.args.self.now in
    let t = is_judged_in p.batch c.args.number in
    c.is_judged.ensures ∙ ap (λ b. b && t) (sym c.if-is_known.true)
    ∙ tells-answer p (Doubt c.args.number) c.is_known.result t refl refl c.is_known.ensures
    (λ v k q. judged-is p.batch p.waiting.items v.manager.batch c.args.number (to-cases p.batch p.waiting.items v.manager.batch k.batch)) w s r
