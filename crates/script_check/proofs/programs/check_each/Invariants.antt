use Rattle.std.proofs.Common.{map, drop}
use Rattle.script_tree.specs.Programs.{type_tree}
use Rattle.script_check.specs.Programs.{type_fault}
use Rattle.script_check.proofs.Declarations.{HasDeclared}
use Rattle.script_check.proofs.programs.check_each.Given as goal

abbrev pub invariant-loop-of_type : goal.invariant-loop-of_type
invariant-loop-of_type l = HasDeclared (λ t. t.name) (type_fault (map type_tree l.types)) (map (λ n. n.now) l.names.items) (map type_tree (drop l.of_type-index l.each)) (map type_tree l.each)
