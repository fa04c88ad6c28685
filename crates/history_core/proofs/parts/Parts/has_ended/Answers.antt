use Rattle.std.proofs.Common.{◌∙◌, sym, ap}
use Rattle.unit_table.specs.Table.{known_in}
use Rattle.history_core.specs.Effects.{ends_as_plain}
use Rattle.history_core.proofs.EffectTests.{plain-not}
use Rattle.history_core.proofs.parts.Parts.has_ended.Goals as goal

pub returns-in-None : goal.returns-in-None
returns-in-None c = plain-not c.args.self.now c.args.unit c.args.effect.now (known_in c.args.self.now.units c.args.unit) c.in-None.ensures

pub returns-in-Some : goal.returns-in-Some
returns-in-Some c = c.ends.ensures ∙ ap (ends_as_plain c.args.self.now c.args.unit c.args.effect.now) (sym c.in-Some.ensures)
