use Rattle.std.proofs.Common.{◌≡◌, IfOk, length, List, sym, ap, subst, ◌∙◌, arith}
use Rattle.base_types.specs.declared.calls.Value.{Value}
use Rattle.script_meaning.specs.Play.{initial_of}
use Rattle.script_holding.specs.Holding.{initial_fields}
use Rattle.script_meaning.proofs.Programs.{type_there, type_at_some, type_at_none}
use Rattle.script_meaning.proofs.first_states.initial.Goals as goal

pub initial_state-requires : goal.initial_state-requires
initial_state-requires c =
    let one = type_there c.args.program.now.types.list.items c.args.grain.kind c.in-Some.of_type.now c.requires (sym c.in-Some.ensures) in
    omega (arith, one.few_fields, ap length c.as_slice.ensures)

pub returns-in-Some : goal.returns-in-Some
returns-in-Some c =
    let at = type_at_some c.args.program.now.types.list.items c.args.grain.kind c.in-Some.of_type.now (sym c.in-Some.ensures) in
    let P : List Value → Type 0 = λ values. IfOk c.initial_state.result (λ state. state ≡ values) in
    subst P (ap initial_fields c.as_slice.ensures ∙ sym (ap initial_of at)) c.initial_state.ensures

pub returns-in-None : goal.returns-in-None
returns-in-None c =
    c.new.ensures ∙ sym (ap initial_of (type_at_none c.args.program.now.types.list.items c.args.grain.kind (sym c.in-None.ensures)))
