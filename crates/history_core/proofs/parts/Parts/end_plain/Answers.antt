use Rattle.std.proofs.Common.{refl, None}
use Rattle.core_model.specs.declared.events.CoreEvent.TheVariants.{EndPlain}
use Rattle.history_core.proofs.parts.Parts.end_plain.Goals as goal

pub returns-in-Ok-clause-ok : goal.returns-in-Ok-clause-ok
returns-in-Ok-clause-ok c = λ w s r a. (
  c.end.ensures.ended w (c.prepare_end.ensures.keeps w s) r (EndPlain c.args.unit c.args.effect) c.args.effect.answers None (record { can = a; ends = refl; leaves = refl }),
  refl,
)
