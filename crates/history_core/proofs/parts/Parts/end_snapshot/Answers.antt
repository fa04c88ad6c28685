use Rattle.std.proofs.Common.{refl, [], Some}
use Rattle.core_model.specs.declared.events.CoreEvent.TheVariants.{EndSnapshot}
use Rattle.history_core.proofs.parts.Parts.end_snapshot.Goals as goal

pub returns-in-Ok-clause-ok : goal.returns-in-Ok-clause-ok
returns-in-Ok-clause-ok c = λ w s r a. (
  c.end.ensures.ended w (c.prepare_end.ensures.keeps w s) r (EndSnapshot c.args.unit c.args.at c.args.outcome) [] (Some c.args.at) (record { can = a; ends = refl; leaves = refl }),
  refl,
)
