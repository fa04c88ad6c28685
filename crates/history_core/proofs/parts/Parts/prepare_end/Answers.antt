use Rattle.history_core.proofs.SameMeaning.{keeps-entries}
use Rattle.history_core.proofs.parts.Parts.prepare_end.Goals as goal

pub returns-in_err-reserve-clause-keeps : goal.returns-in_err-reserve-clause-keeps
returns-in_err-reserve-clause-keeps c = keeps-entries c.args.self.now c.reserve.new.self c.reserve.ensures.entries c.reserve.ensures.emitted c.reserve.ensures.spare

pub returns-clause-keeps : goal.returns-clause-keeps
returns-clause-keeps c = keeps-entries c.args.self.now c.reserve.new.self c.reserve.ensures.entries c.reserve.ensures.emitted c.reserve.ensures.spare
