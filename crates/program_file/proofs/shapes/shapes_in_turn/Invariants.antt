use Rattle.std.proofs.Common.{◌≡◌, map, take}
use Rattle.script_tree.specs.Programs.{program_tree}
use Rattle.program_file.specs.Succession.{shapes_in_turn}
use Rattle.program_file.proofs.shapes.shapes_in_turn.Given as goal

abbrev pub invariant-loop-program : goal.invariant-loop-program
invariant-loop-program l = l.shapes ≡ shapes_in_turn (map program_tree (take l.program-index l.programs))
