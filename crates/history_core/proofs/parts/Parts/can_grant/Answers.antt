use Rattle.std.proofs.Common.{◌∙◌, sym, ap, refl, ◌&&◌}
use Rattle.core_model.specs.Events.{is_free_answer}
use Rattle.core_model.specs.declared.events.CoreEvent.TheVariants.{Grant}
use Rattle.history_core.specs.LockAnswers.{ask_in}
use Rattle.history_core.proofs.Grants.{ask-is}
use Rattle.history_core.proofs.OneEvent.{tells-going}
use Rattle.history_core.proofs.parts.Parts.can_grant.Goals as goal

pub returns-then-is_going : goal.returns-then-is_going
returns-then-is_going c = λ w s r.
    let p = c.args.self.now in let u = c.args.unit in let g = c.args.grain in let m = c.args.mode in
    let t = is_free_answer (ask_in p u g m) in
    c.is_free.ensures ∙ ap is_free_answer c.ask.ensures ∙ ap (λ b. b && t) (sym c.if-is_going.true)
    ∙ tells-going p (Grant u g m) c.is_going.result t refl refl c.is_going.ensures (λ v k q. ap is_free_answer (ask-is p v u g m k q)) w s r
