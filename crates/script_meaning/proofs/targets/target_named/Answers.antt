use Rattle.std.proofs.Common.{length, List, map, sym, ap, ◌∙◌, arith}
use Rattle.std.specs.Option.{option_map}
use Rattle.std.proofs.lemmas.List.{length-map}
use Rattle.script_tree.specs.Programs.{method_tree}
use Rattle.script_tree.specs.declared.programs.Method.{Method}
use Rattle.script_meaning.specs.Calls.{method_from}
use Rattle.script_meaning.specs.Targets.{target_of}
use Rattle.script_meaning.proofs.Programs.{type_there, method_named, method_unnamed}
use Rattle.script_meaning.proofs.targets.target_named.Goals as goal

pub method_number-requires : goal.method_number-requires
method_number-requires c =
    let t = c.in_ok-of_type.of_type.now in
    let one = type_there c.args.types.now c.args.kind t c.requires (sym c.in_ok-of_type.ensures) in
    omega (arith, one.few_methods, ap length c.as_slice.ensures, length-map t.methods.list.items method_tree)

pub returns-in_err-number-clause-found : goal.returns-in_err-number-clause-found
returns-in_err-number-clause-found c =
    let t = c.in_ok-of_type.of_type.now in
    let none = sym (c.in_err-number.ensures {u = tt} ∙ ap (λ (m : List Method). method_from 0 c.args.name.now (map method_tree m)) c.as_slice.ensures) in
    ap (option_map target_of) c.from_residual-in_err-number.ensures
    ∙ sym (method_unnamed c.args.types.now c.args.kind t c.args.name.now (sym c.in_ok-of_type.ensures) none)

pub returns-clause-found : goal.returns-clause-found
returns-clause-found c =
    let t = c.in_ok-of_type.of_type.now in
    let number = c.in_ok-number.number in
    let some = sym (c.in_ok-number.ensures {u = tt} ∙ ap (λ (m : List Method). method_from 0 c.args.name.now (map method_tree m)) c.as_slice.ensures) in
    c.target_at.ensures.found
    ∙ sym (method_named c.args.types.now c.args.kind t c.args.name.now number (sym c.in_ok-of_type.ensures) some)
