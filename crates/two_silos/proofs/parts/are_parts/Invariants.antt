use Rattle.std.proofs.Common.{◌≡◌, drop}
use Rattle.std.specs.List.{list_all}
use Rattle.two_silos.specs.World.{is_part}
use Rattle.two_silos.proofs.parts.are_parts.Given as goal

abbrev pub invariant-loop-part : goal.invariant-loop-part
invariant-loop-part l = list_all (is_part l.nodes) (drop l.part-index l.parts) ≡ list_all (is_part l.nodes) l.parts
