use Rattle.std.proofs.Common.{map, drop}
use Rattle.script_check.specs.Programs.{field_fault}
use Rattle.script_check.proofs.Declarations.{HasDeclared}
use Rattle.script_check.proofs.programs.check_fields.Given as goal

abbrev pub invariant-loop-field : goal.invariant-loop-field
invariant-loop-field l = HasDeclared (λ f. f.name) field_fault (map (λ n. n.now) l.names.items) (drop l.field-index l.fields) (l.fields)
