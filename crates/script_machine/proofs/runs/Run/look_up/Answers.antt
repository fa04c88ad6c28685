use Rattle.std.proofs.Common.{◌≡◌, rules}
use Rattle.script_tree.specs.Programs.{program_tree}
use Rattle.script_values.specs.Faults.{unknown}
use Rattle.script_meaning.specs.Requests.{stop}
use Rattle.script_meaning.specs.Calls.{to_type, type_from}
use Rattle.script_machine.specs.Frames.{runner_of, site_of}
use Rattle.script_machine.specs.Runs.{back_here, caught_here}
use Rattle.script_machine.proofs.Stops.{left_at}
use Rattle.script_machine.proofs.runs.Run.look_up.Goals as goal

pub returns-in_default-clause-tree : goal.returns-in_default-clause-tree
returns-in_default-clause-tree c =
    let run = c.args.self.now in
    let types = program_tree c.args.checked.now in
    let call = c.args.call.now in
    let ends : to_type types (runner_of types run.top.post) (site_of types run.top.post) (type_from 0 call.target.text types) c.args.key call.method.text c.args.args (back_here types run) (caught_here types run) run.has ≡ stop unknown run.has = search rules in
    left_at _ _ c.stop_at.ensures _ run ends

pub returns-in_default-callee_named-clause-tree : goal.returns-in_default-callee_named-clause-tree
returns-in_default-callee_named-clause-tree c =
    let run = c.args.self.now in
    let types = program_tree c.args.checked.now in
    let call = c.args.call.now in
    let ends : to_type types (runner_of types run.top.post) (site_of types run.top.post) (type_from 0 call.target.text types) c.args.key call.method.text c.args.args (back_here types run) (caught_here types run) run.has ≡ stop unknown run.has = search rules in
    left_at _ _ c.stop_at-in_default-callee_named.ensures _ run ends
