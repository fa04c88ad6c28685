use Rattle.history_core.proofs.OtherEvents.{does-halt}
use Rattle.history_core.proofs.parts.Parts.halt.Goals as goal

pub returns-clause-ok : goal.returns-clause-ok
returns-clause-ok c = does-halt c.args.self.now c.halt.new.self c.halt.ensures.units c.halt.ensures.verdict c.halt.ensures.result
