use Rattle.std.proofs.Common.{◌∙◌, sym, ap, refl, ◌&&◌}
use Rattle.core_model.specs.declared.events.CoreEvent.TheVariants.{EndPlain}
use Rattle.history_core.specs.Effects.{ends_as_plain}
use Rattle.unit_table.specs.Table.{known_in}
use Rattle.history_core.proofs.EffectTests.{can-plain-is}
use Rattle.history_core.proofs.OneEvent.{tells-going}
use Rattle.history_core.proofs.parts.Parts.can_end_plain.Goals as goal

pub returns-then-is_going : goal.returns-then-is_going
returns-then-is_going c = λ w s r.
    let p = c.args.self.now in
    let t = ends_as_plain p c.args.unit c.args.effect.now (known_in p.units c.args.unit) in
    c.has_ended.ensures ∙ ap (λ b. b && t) (sym c.if-is_going.true)
    ∙ tells-going p (EndPlain c.args.unit c.args.effect.now) c.is_going.result t refl refl c.is_going.ensures (λ v k q. can-plain-is p v c.args.unit c.args.effect.now k q) w s r
