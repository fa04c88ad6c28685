use Rattle.std.proofs.Common.{◌∙◌, sym, ap, refl, ◌&&◌}
use Rattle.core_model.specs.declared.events.CoreEvent.TheVariants.{EndSnapshot}
use Rattle.history_core.specs.Effects.{ends_as_snapshot}
use Rattle.unit_table.specs.Table.{known_in}
use Rattle.history_core.proofs.EffectTests.{can-snapshot-is}
use Rattle.history_core.proofs.OneEvent.{tells-going}
use Rattle.history_core.proofs.parts.Parts.can_end_snapshot.Goals as goal

pub returns-then-is_going : goal.returns-then-is_going
returns-then-is_going c = λ at w s r.
    let p = c.args.self.now in
    let t = ends_as_snapshot c.args.outcome.now (known_in p.units c.args.unit) in
    c.may_end_snapshot.ensures ∙ ap (λ b. b && t) (sym c.if-is_going.true)
    ∙ tells-going p (EndSnapshot c.args.unit at c.args.outcome.now) c.is_going.result t refl refl c.is_going.ensures (λ v k q. can-snapshot-is p v c.args.unit c.args.outcome.now k) w s r
