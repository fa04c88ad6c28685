use Rattle.std.proofs.Common.{◌≡◌, ap, ◌∙◌, List, map}
use Rattle.script_tree.specs.declared.programs.Program.{Program}
use Rattle.script_tree.specs.declared.programs.TypeDecl.{TypeDecl}
use Rattle.script_tree.specs.Programs.{type_tree, program_tree}
use Rattle.script_check.specs.Comparison.{compared}
use Rattle.script_check.proofs.ComparedNames.{accepted, not_accepted, refused_at}
use Rattle.script_check.proofs.comparison.compare.Goals as goal

-- what the names' comparison says of the programs
pub returns-clause-exact : goal.returns-clause-exact
returns-clause-exact c =
    let olds : c.as_slice.result.now ≡ c.args.old.now.types.list.items = c.as_slice.ensures ∙ ap (λ (p : Program). p.types.list.items) c.program.ensures.same in
    let news : c.as_slice-2.result.now ≡ c.args.new.now.types.list.items = c.as_slice-2.ensures ∙ ap (λ (p : Program). p.types.list.items) c.program-2.ensures.same in
    c.compare_types.ensures
    ∙ ap (λ (l : List TypeDecl). compared (map type_tree l) (map type_tree c.as_slice-2.result.now) c.args.end) olds
    ∙ ap (λ (l : List TypeDecl). compared (program_tree c.args.old.now) (map type_tree l) c.args.end) news

pub returns-clause-accepted : goal.returns-clause-accepted
returns-clause-accepted c = accepted c.compare_types.result (program_tree c.args.old.now) (program_tree c.args.new.now) c.args.end (returns-clause-exact c)

pub returns-clause-refused : goal.returns-clause-refused
returns-clause-refused c = not_accepted c.compare_types.result (program_tree c.args.old.now) (program_tree c.args.new.now) c.args.end (returns-clause-exact c)

pub returns-clause-first : goal.returns-clause-first
returns-clause-first c = refused_at c.compare_types.result (program_tree c.args.old.now) (program_tree c.args.new.now) c.args.end (returns-clause-exact c)
