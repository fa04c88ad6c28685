use Rattle.std.proofs.Common.{◌≡◌, ◌-◌}
use Rattle.std.specs.Prelude.{slice_get}
use Rattle.script_values.specs.LocalNames.{names_of}
use Rattle.script_values.specs.Nodes.{named_at, end_from, way_end}
use Rattle.script_values.proofs.nodes.seek.Given as goal

abbrev pub invariant-loop-gone : goal.invariant-loop-gone
invariant-loop-gone l = end_from (named_at l.nodes (names_of l.list) l.name l.digest) (slice_get l.nodes) (31 - l.gone) l.rest l.i ≡ way_end l.nodes (names_of l.list) l.name l.digest
