use Rattle.std.proofs.Common.{◌≡◌, ◌∙◌, sym, true, false}
use Rattle.history_core.proofs.Learns.{cell-is-here, learnt-nothing}
use Rattle.history_core.proofs.learn.learn_in.Goals as goal

pub returns-then-has_cell-clause-away : goal.returns-then-has_cell-clause-away
returns-then-has_cell-clause-away c = λ away.
    (let z : true ≡ false = sym (cell-is-here c.args.cells.now c.args.grain (sym c.has_cell.ensures ∙ c.if-has_cell.true)) ∙ away in cc)

pub returns-else-has_cell-clause-learns : goal.returns-else-has_cell-clause-learns
returns-else-has_cell-clause-learns c = λ here.
    learnt-nothing c.args.cells.now c.args.unit c.args.grain c.args.committed c.requires (sym c.has_cell.ensures ∙ c.if-has_cell.false) here
