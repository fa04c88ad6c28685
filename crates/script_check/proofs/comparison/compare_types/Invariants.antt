use Rattle.std.proofs.Common.{◌≡◌, drop, map}
use Rattle.script_tree.specs.Programs.{type_tree}
use Rattle.script_check.specs.Comparison.{compared}
use Rattle.script_check.proofs.comparison.compare_types.Given as goal

abbrev pub invariant-loop-place : goal.invariant-loop-place
invariant-loop-place l = compared (map type_tree (drop l.place l.olds)) (map type_tree (drop l.place l.news)) l.end ≡ compared (map type_tree l.olds) (map type_tree l.news) l.end
