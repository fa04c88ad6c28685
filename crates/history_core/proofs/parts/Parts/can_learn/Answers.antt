use Rattle.std.proofs.Common.{◌≡◌, ◌∙◌, sym, ap, refl, ◌&&◌}
use Rattle.core_model.specs.Events.{applies}
use Rattle.core_parts.specs.Pairs.{has_pair}
use Rattle.history_core.proofs.Learns.{can-learn-is}
use Rattle.core_model.specs.declared.events.CoreEvent.TheVariants.{Learn}
use Rattle.history_core.proofs.OneEvent.{tells-going}
use Rattle.history_core.proofs.parts.Parts.can_learn.Goals as goal

pub returns-then-is_going : goal.returns-then-is_going
returns-then-is_going c = λ w s r.
    c.contains.ensures ∙ ap (λ b. b && has_pair c.args.self.now.learn.pairs c.args.unit c.args.grain) (sym c.if-is_going.true)
    ∙ tells-going c.args.self.now (Learn c.args.unit c.args.grain) c.is_going.result (has_pair c.args.self.now.learn.pairs c.args.unit c.args.grain) refl refl c.is_going.ensures
    (λ v t q. ap (λ ps. has_pair ps c.args.unit c.args.grain) t.learn ∙ can-learn-is v q c.args.unit c.args.grain) w s r
