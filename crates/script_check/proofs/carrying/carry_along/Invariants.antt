use Rattle.std.proofs.Common.{◌≡◌, ◌<◌, map, drop, length}
use Rattle.script_tree.specs.Programs.{program_tree}
use Rattle.script_check.specs.Comparison.{GoOnInTurn}
use Rattle.script_check.specs.Carrying.{carried_along, fields_of_kind}
use Rattle.script_check.proofs.carrying.carry_along.Given as goal

abbrev pub invariant-loop-next : goal.invariant-loop-next
invariant-loop-next l = record {
  follow : GoOnInTurn (program_tree l.last) (map program_tree (drop l.next-index l.later));
  there : l.kind < length (program_tree l.last);
  many : length l.current ≡ length (fields_of_kind (program_tree l.last) l.kind);
  same : carried_along (program_tree l.last) (map program_tree (drop l.next-index l.later)) l.kind l.current ≡ carried_along (program_tree l.fn.first) (map program_tree l.later) l.kind l.fn.state;
}
