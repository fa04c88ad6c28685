use Rattle.std.proofs.Common.{◌≤◌, sym, subst, List, length}
use Rattle.std.specs.List.{All}
use Rattle.script_tree.specs.declared.programs.Method.{Method}
use Rattle.script_check.proofs.shapes.type_shape.Goals as goal

pub params_of-requires : goal.params_of-requires
params_of-requires c = subst (λ (l : List Method). All (λ m. length m.params.list.items ≤ 8) l) (sym c.as_slice-2.ensures) c.requires.params
