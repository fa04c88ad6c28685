use Rattle.std.proofs.Common.{◌∙◌, sym, ap}
use Rattle.unit_table.specs.Table.{known_in}
use Rattle.history_core.specs.Effects.{ends_as_snapshot}
use Rattle.history_core.proofs.EffectTests.{snapshot-not}
use Rattle.history_core.proofs.end_snapshot.may_end_snapshot.Goals as goal

pub returns-in-None : goal.returns-in-None
returns-in-None c = snapshot-not c.args.outcome.now (known_in c.args.units.now c.args.unit) c.in-None.ensures

pub returns-in-Some : goal.returns-in-Some
returns-in-Some c = c.may_end.ensures ∙ ap (ends_as_snapshot c.args.outcome.now) (sym c.in-Some.ensures)
