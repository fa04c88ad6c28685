use Rattle.std.proofs.Common.{◌∙◌, sym, ap, refl, ◌&&◌}
use Rattle.history_core.specs.Batches.{may_vote_in}
use Rattle.history_core.proofs.Votes.{may-vote-is}
use Rattle.core_model.specs.declared.events.CoreEvent.TheVariants.{Vote}
use Rattle.history_core.proofs.OpenBatches.{to-cases}
use Rattle.history_core.proofs.OneEvent.{tells-going}
use Rattle.history_core.proofs.parts.Parts.can_vote.Goals as goal

pub returns-then-is_going : goal.returns-then-is_going
returns-then-is_going c = λ kept w s r.
    let p = c.args.self.now in
    let t = may_vote_in p.batch c.args.number c.args.grain in
    c.may_vote.ensures ∙ ap (λ b. b && t) (sym c.if-is_going.true)
    ∙ tells-going p (Vote c.args.number c.args.grain kept) c.is_going.result t refl refl c.is_going.ensures
    (λ v k q. may-vote-is p.batch p.waiting.items v.manager.batch c.args.number c.args.grain (to-cases p.batch p.waiting.items v.manager.batch k.batch)) w s r
