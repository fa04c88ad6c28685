use Rattle.std.proofs.Common.{ap, ◌∙◌, sym, map, option_map}
use Rattle.script_tree.specs.Programs.{method_tree}
use Rattle.request_wire.specs.Names.{method_names, named}
use Rattle.request_wire.proofs.ProgramNames.{method_of-some}
use Rattle.request_wire.proofs.programs.method_in.Goals as goal

pub returns-in-Some : goal.returns-in-Some
returns-in-Some c =
    c.method_at.ensures
    ∙ ap (λ l. option_map (λ m. (m.0, m.1.1)) (named (λ m. m.0) 0 (map method_names (map method_tree l)) c.args.name.now)) c.as_slice.ensures
    ∙ sym (method_of-some c.args.program.now.types.list.items c.args.kind c.in-Some.of_type.now c.args.name.now c.in-Some.ensures)
