use Rattle.std.proofs.Common.{◌≡◌, ◌∙◌, sym, ap, refl, true}
use Rattle.std.proofs.lemmas.Bool.{cond-true}
use Rattle.core_model.specs.Events as events
use Rattle.core_model.specs.Events.{is_allowed}
use Rattle.core_model.specs.Tests.{ask_answer}
use Rattle.core_model.specs.declared.events.CoreEvent.TheVariants.{Grant}
use Rattle.core_model.specs.declared.events.CoreReply.TheVariants as reply
use Rattle.history_core.proofs.Grants.{ask-is}
use Rattle.history_core.proofs.OneEvent.{allowed-going}
use Rattle.history_core.proofs.parts.Parts.not_granted.Goals as goal

pub returns : goal.returns
returns c = λ w s r n.
    let u = c.args.unit in let g = c.args.grain in let m = c.args.mode in
    let allowed : is_allowed w (Grant u g m) ≡ true = allowed-going w (Grant u g m) refl refl ∙ sym (c.is_going.ensures w s) ∙ c.if-not-is_going.false in
    c.not_granted.ensures ∙ ap events.not_granted (c.ask.ensures ∙ ask-is c.args.self.now w u g m s r)
    ∙ sym (cond-true (is_allowed w (Grant u g m)) (events.not_granted (ask_answer w u g m)) reply.Unapplied allowed)
