use Rattle.std.proofs.Common.{◌∙◌, sym, ap, refl, ◌&&◌, is_some}
use Rattle.core_model.specs.Changes.{refusal}
use Rattle.core_model.specs.declared.events.CoreEvent.TheVariants.{Refuse}
use Rattle.history_core.specs.LockAnswers.{ask_in}
use Rattle.history_core.proofs.Grants.{ask-is}
use Rattle.history_core.proofs.OneEvent.{tells-going}
use Rattle.history_core.proofs.parts.Parts.can_refuse.Goals as goal

pub returns-then-is_going : goal.returns-then-is_going
returns-then-is_going c = λ w s r.
    let p = c.args.self.now in
    let t = is_some (refusal c.args.grain (ask_in p c.args.unit c.args.grain c.args.mode)) in
    c.is_some.ensures ∙ ap is_some (c.cause_of.ensures ∙ ap (refusal c.args.grain) c.ask.ensures) ∙ ap (λ b. b && t) (sym c.if-is_going.true)
    ∙ tells-going p (Refuse c.args.unit c.args.grain c.args.mode) c.is_going.result t refl refl c.is_going.ensures
    (λ v k q. ap (λ a. is_some (refusal c.args.grain a)) (ask-is p v c.args.unit c.args.grain c.args.mode k q)) w s r
