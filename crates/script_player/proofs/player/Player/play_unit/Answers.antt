use Rattle.std.proofs.Common.{◌-◌, List, map, false, ap, sym, ◌∙◌}
use Rattle.std.specs.Prelude.{slice_get}
use Rattle.base_types.specs.declared.calls.Value.{Value}
use Rattle.script_tree.specs.declared.options.Entered.{Entered}
use Rattle.script_tree.specs.declared.programs.TypeDecl.{TypeDecl}
use Rattle.script_tree.specs.Options.{entered}
use Rattle.script_tree.specs.Programs.{type_tree}
use Rattle.script_values.specs.Faults.{unknown}
use Rattle.script_holding.specs.Holding.{Holding}
use Rattle.script_meaning.specs.Requests.{stop}
use Rattle.script_meaning.specs.Calls.{enters, numbered}
use Rattle.script_meaning.specs.Statements.{deep}
use Rattle.script_meaning.specs.Play.{as_first, ends_unit, unit}
use Rattle.script_meaning.specs.Targets.{target_of}
use Rattle.script_player.specs.PlayState.{types_in, answering, heard}
use Rattle.script_player.proofs.PlayProgress.{ends_at, leads_on}
use Rattle.script_player.proofs.Steps.{unit_some, unit_none}
use Rattle.script_player.proofs.player.Player.play_unit.Goals as goal

pub returns-in_default : goal.returns-in_default
returns-in_default c =
    let types = types_in c.args.world.now in
    let call = c.args.call.now in
    let none = sym ((c.in_default.ensures {u = tt}).found ∙ ap (λ (l : List TypeDecl). numbered (slice_get (map type_tree l) call.grain.kind) call.method) c.types.ensures.same) in
    ends_at c.args.world.now c.args.self.now.has c.args.self.now.progress c.stop_at.result unknown (unit types call c.args.depth) c.stop_at.ensures
    (unit_none types call c.args.depth none ∙ ap (λ (h : Holding). stop unknown h) (sym c.requires))

pub returns : goal.returns
returns c =
    let world = c.args.world.now in
    let types = types_in world in
    let call = c.args.call.now in
    let at = c.args.depth in
    let progress = c.args.self.now.progress in
    let target = target_of c.in-Some.target in
    let run = deep types (33 - at) in
    let some = sym ((c.in-Some.ensures {u = tt}).found ∙ ap (λ (l : List TypeDecl). numbered (slice_get (map type_tree l) call.grain.kind) call.method) c.types.ensures.same) in
    let way = as_first (entered target.method.option false) in
    leads_on world c.play_target.new.self progress progress c.play_target.result (λ answer. answering answer ends_unit stop c.play_target.new.self.has)
    (enters run c.as_first-way.result at call.grain target c.in_ok-args.args ends_unit stop c.args.self.now.has)
    (unit types call at)
    (c.play_target.ensures.led ends_unit stop)
    (ap (λ (w : Entered). heard world progress (enters run w at call.grain target c.in_ok-args.args ends_unit stop c.args.self.now.has)) (c.as_first-way.ensures ∙ ap as_first c.enter.ensures.table)
    ∙ ap (λ (args : List Value). heard world progress (enters run way at call.grain target args ends_unit stop c.args.self.now.has)) (c.in_ok-args.ensures {u = tt})
    ∙ ap (λ (h : Holding). heard world progress (enters run way at call.grain target call.args ends_unit stop h)) c.requires
    ∙ ap (heard world progress) (sym (unit_some types call at target some)))
