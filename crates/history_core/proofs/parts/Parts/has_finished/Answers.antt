use Rattle.std.proofs.Common.{◌∙◌, sym, ap}
use Rattle.unit_table.specs.Table.{known_in}
use Rattle.history_core.specs.Effects.{finishes_as}
use Rattle.history_core.proofs.EffectTests.{finishes-not}
use Rattle.history_core.proofs.parts.Parts.has_finished.Goals as goal

pub returns-in-None : goal.returns-in-None
returns-in-None c = finishes-not c.args.self.now c.args.unit c.args.effect.now (known_in c.args.self.now.units c.args.unit) c.in-None.ensures

pub returns-in-Some : goal.returns-in-Some
returns-in-Some c = c.finishes.ensures ∙ ap (finishes_as c.args.self.now c.args.unit c.args.effect.now) (sym c.in-Some.ensures)
