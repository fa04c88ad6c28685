use Rattle.history_core.specs.Effects.{outcome_kept}
use Rattle.history_core.proofs.EffectTests.{answered-each}
use Rattle.history_core.proofs.effects.are_answers.Goals as goal

pub returns-then-units-answers : goal.returns-then-units-answers
returns-then-units-answers c = answered-each (outcome_kept c.args.table.now) c.args.units.now c.args.answers.now c.if-units-answers.true
