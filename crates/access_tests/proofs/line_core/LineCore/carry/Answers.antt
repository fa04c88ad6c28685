use Rattle.std.proofs.Common.{sym, ◌∙◌}
use Rattle.access_tests.proofs.Lines.{carried-fit}
use Rattle.access_tests.proofs.line_core.LineCore.carry.Goals as goal

pub returns-clause-fit : goal.returns-clause-fit
returns-clause-fit c =
    carried-fit c.args.self.now c.count_if-applies.new.self c.args.event c.note.new.self.events c.requires
    (sym c.is_carried.ensures ∙ c.if-not-is_carried.false)
    c.count_if-applies.ensures.counted c.note.ensures
