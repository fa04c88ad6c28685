use Rattle.std.proofs.Common.{◌≡◌, ap, sym, ◌∙◌, subst, Some, None, Option, IfOk, false, true, List, ◌-◌}
use Rattle.std.specs.Prelude.{option_map, slice_get}
use Rattle.base_types.specs.declared.calls.Value.{Value}
use Rattle.script_tree.specs.declared.options.MethodKind.TheVariants as does
use Rattle.script_tree.specs.Options.{entered}
use Rattle.script_tree.specs.declared.options.Entered.TheVariants.{NewUnit, Plain, Refused}
use Rattle.script_tree.specs.Programs.{program_tree}
use Rattle.script_meaning.specs.Requests.{Requests, stop}
use Rattle.script_meaning.specs.Calls.{numbered}
use Rattle.script_meaning.specs.Play.{at_start}
use Rattle.script_machine.specs.Callees.{target_of}
use Rattle.script_machine.specs.Machines.{first_opened, rest_at}
use Rattle.script_machine.specs.declared.callees.Callee.{Callee}
use Rattle.script_machine.proofs.Units.{unit_unknown, unit_refused, unit_plain, unit_new}
use Rattle.script_machine.proofs.starts.Start.of_call.Goals as goal

pub returns-in-None : goal.returns-in-None
returns-in-None c =
    let types = program_tree c.args.checked.now in
    let call = c.args.call.now in
    let none : numbered (slice_get types call.grain.kind) call.method ≡ None = sym c.callee_at.ensures.found ∙ ap (λ (o : Option Callee). option_map target_of o) c.in-None.is in
    subst (λ (left : Requests). IfOk c.over.result (λ start. left ≡ rest_at types start.run start.ready)) (sym (unit_unknown types call c.args.depth none)) c.over.ensures

pub returns-in-Refused : goal.returns-in-Refused
returns-in-Refused c =
    let types = program_tree c.args.checked.now in
    let call = c.args.call.now in
    let callee = c.in-Some.callee in
    let found : numbered (slice_get types call.grain.kind) call.method ≡ Some (target_of callee) = sym c.callee_at.ensures.found ∙ ap (λ (o : Option Callee). option_map target_of o) c.in-Some.is in
    let way : entered (target_of callee).method.option false ≡ Refused c.in-Refused.why = sym c.enter.ensures.table ∙ c.in-Refused.is in
    let left = unit_refused types call callee c.in-Some.ensures.there c.in-Some.ensures.grain found c.in-Refused.why c.args.depth way in
    subst (λ (left : Requests). IfOk c.over-in-Refused.result (λ start. left ≡ rest_at types start.run start.ready)) (ap (λ words. stop words at_start) c.refusal.ensures ∙ sym left) c.over-in-Refused.ensures

pub returns-in-Plain : goal.returns-in-Plain
returns-in-Plain c =
    let types = program_tree c.args.checked.now in
    let call = c.args.call.now in
    let callee = c.in-Some.callee in
    let found : numbered (slice_get types call.grain.kind) call.method ≡ Some (target_of callee) = sym c.callee_at.ensures.found ∙ ap (λ (o : Option Callee). option_map target_of o) c.in-Some.is in
    let way : entered (target_of callee).method.option false ≡ Plain c.in-Plain.context = sym c.enter.ensures.table ∙ c.in-Plain.is in
    subst (λ (left : Requests). IfOk c.begin.result (λ start. left ≡ rest_at types start.run start.ready)) (sym (unit_plain types call callee c.in-Some.ensures.there c.in-Some.ensures.grain found c.in-Plain.context c.args.depth way ∙ ap (λ (args : List Value). first_opened types (33 - c.args.depth) callee does.Plain c.in-Plain.context args c.args.depth) (sym c.as_slice-args.ensures))) c.begin.ensures

pub returns-in-NewUnit : goal.returns-in-NewUnit
returns-in-NewUnit c =
    let types = program_tree c.args.checked.now in
    let call = c.args.call.now in
    let callee = c.in-Some.callee in
    let found : numbered (slice_get types call.grain.kind) call.method ≡ Some (target_of callee) = sym c.callee_at.ensures.found ∙ ap (λ (o : Option Callee). option_map target_of o) c.in-Some.is in
    let way : entered (target_of callee).method.option false ≡ NewUnit = sym c.enter.ensures.table ∙ c.in-NewUnit.is in
    subst (λ (left : Requests). IfOk c.begin-in-NewUnit.result (λ start. left ≡ rest_at types start.run start.ready)) (sym (unit_new types call callee c.in-Some.ensures.there c.in-Some.ensures.grain found c.args.depth way ∙ ap (λ (args : List Value). first_opened types (33 - c.args.depth) callee (target_of callee).method.kind true args c.args.depth) (sym c.as_slice-args.ensures))) c.begin-in-NewUnit.ensures
