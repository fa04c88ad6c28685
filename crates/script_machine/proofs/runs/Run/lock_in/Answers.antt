use Rattle.std.proofs.Common.{◌≡◌, rules}
use Rattle.std.specs.Prelude.{slice_get}
use Rattle.script_values.specs.Faults.{grains}
use Rattle.script_holding.specs.Holding.{mode_at}
use Rattle.script_meaning.specs.Requests.{stop}
use Rattle.script_meaning.specs.Calls.{locked}
use Rattle.script_machine.specs.Frames.{fields_of, goes_on}
use Rattle.script_machine.specs.Runs.{back_of}
use Rattle.script_machine.proofs.Stops.{left_at}
use Rattle.script_machine.proofs.runs.Run.lock_in.Goals as goal

pub returns-then-not-has_room-clause-tree : goal.returns-then-not-has_room-clause-tree
returns-then-not-has_room-clause-tree c types =
    let run = c.args.self.now in
    let grain = c.args.grain in
    let ends : locked (mode_at grain run.has.held) c.args.mode grain (fields_of (slice_get types grain.kind)) (goes_on types run.top (back_of types run)) run.has ≡ stop grains run.has = search rules in
    left_at _ _ c.stop_at.ensures _ run ends
