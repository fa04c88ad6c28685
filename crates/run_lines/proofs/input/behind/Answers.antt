use Rattle.std.proofs.Common.{arith}
use Rattle.request_wire.specs.Lines.{lines_of}
use Rattle.std.proofs.Common.{sym, ◌∙◌}
use Rattle.run_lines.proofs.Places.{drop_one_more, none_behind_none}
use Rattle.run_lines.proofs.input.behind.Goals as goal

pub returns-in-None : goal.returns-in-None
returns-in-None c =
    c.in-None.ensures.line ∙ sym (none_behind_none c.loop-line._line c.args.lines (lines_of c.args.input.now) (omega arith) (sym c.loop-line.invariant ∙ c.in-None.ensures.line))

pub loop-line-preserved : goal.loop-line-preserved
loop-line-preserved c =
    sym (drop_one_more c.loop-line._line (lines_of c.args.input.now) _ (lines_of c.in-Some.tail.now) (sym c.loop-line.invariant ∙ c.in-Some.ensures.line))
