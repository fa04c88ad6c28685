use Rattle.std.proofs.Common.{◌≡◌, drop}
use Rattle.request_wire.specs.Lines.{lines_of}
use Rattle.run_lines.proofs.input.behind.Given as goal

abbrev pub invariant-loop-line : goal.invariant-loop-line
invariant-loop-line l = lines_of l.rest ≡ drop l._line (lines_of l.fn.input)
