use Rattle.std.proofs.Common.{◌≡◌, sym, subst, OnOk}
use Rattle.script_tree.specs.Programs.{program_tree}
use Rattle.script_meaning.specs.Requests.{Requests}
use Rattle.script_machine.specs.Runs.{rest_of_run}
use Rattle.script_machine.proofs.runs.Run.feed_value.Goals as goal

pub returns : goal.returns
returns c =
    let types = program_tree c.args.checked.now in
    subst (λ (left : Requests). OnOk c.go.result (left ≡ rest_of_run types c.go.new.self)) (sym c.in_ok-receive.ensures.tree) c.go.ensures
