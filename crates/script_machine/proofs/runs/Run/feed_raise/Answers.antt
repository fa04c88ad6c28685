use Rattle.std.proofs.Common.{◌≡◌, subst, OnOk}
use Rattle.script_tree.specs.Programs.{program_tree}
use Rattle.script_holding.specs.Holding.{Holding}
use Rattle.script_machine.specs.Frames.{goes_on}
use Rattle.script_machine.specs.Runs.{back_of, rest_of_run}
use Rattle.script_machine.proofs.runs.Run.feed_raise.Goals as goal

pub returns : goal.returns
returns c =
    let run = c.args.self.now in
    let types = program_tree c.args.checked.now in
    subst (λ (has : Holding). OnOk c.go.result (goes_on types run.top (back_of types run) has ≡ rest_of_run types c.go.new.self)) c.raise.ensures c.go.ensures
