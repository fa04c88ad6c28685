use Rattle.std.proofs.Common.{sym, subst, List}
use Rattle.std.specs.List.{All}
use Rattle.script_tree.specs.declared.programs.TypeDecl.{TypeDecl}
use Rattle.script_tree.specs.Programs.{program_tree}
use Rattle.script_check.specs.Shapes.{IsSmall}
use Rattle.script_check.proofs.WholePrograms.{program_iff}
use Rattle.script_check.proofs.TypeShapes.{program_small}
use Rattle.script_check.proofs.checked_program.Checked.shape.Goals as goal

pub shape_of-requires : goal.shape_of-requires
shape_of-requires c =
    subst (λ (l : List TypeDecl). All IsSmall l) (sym c.as_slice.ensures) (program_small c.self.inside.program.types.list.items ((program_iff (program_tree c.self.inside.program)).0 c.self.invariant))
