use Rattle.std.proofs.Common.{map, drop}
use Rattle.script_tree.specs.Programs.{method_tree, type_tree}
use Rattle.script_check.specs.Programs.{method_fault}
use Rattle.script_check.proofs.Declarations.{HasDeclared}
use Rattle.script_check.proofs.programs.check_methods.Given as goal

abbrev pub invariant-loop-method : goal.invariant-loop-method
invariant-loop-method l = HasDeclared (λ m. m.name) (method_fault (map type_tree l.types) (map (λ n. n.now) l.fields)) (map (λ n. n.now) l.names.items) (map method_tree (drop l.method-index l.methods)) (map method_tree l.methods)
