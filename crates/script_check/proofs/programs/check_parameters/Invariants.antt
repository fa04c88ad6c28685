use Rattle.std.proofs.Common.{map, drop}
use Rattle.script_check.specs.Programs.{parameter_fault}
use Rattle.script_check.proofs.Declarations.{HasDeclared}
use Rattle.script_check.proofs.programs.check_parameters.Given as goal

abbrev pub invariant-loop-param : goal.invariant-loop-param
invariant-loop-param l = HasDeclared (λ n. n) (parameter_fault (map (λ n. n.now) l.fields)) (map (λ n. n.now) l.names.items) (drop l.param-index l.params) (l.params)
