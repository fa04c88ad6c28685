use Rattle.std.proofs.Common.{ap, ◌∙◌, subst}
use Rattle.std.specs.Prelude.{slice_get}
use Rattle.script_values.specs.declared.stops.Stop.{Stop}
use Rattle.script_meaning.specs.Calls.{joined}
use Rattle.script_machine.specs.Frames.{fields_of, goes_on}
use Rattle.script_machine.specs.Runs.{Left, back_of, stays}
use Rattle.script_machine.proofs.runs.Run.lock_first.Goals as goal

pub returns-in-Err-Fault : goal.returns-in-Err-Fault
returns-in-Err-Fault c types =
    let run = c.args.self.now in
    let left = joined c.args.kind c.args.grain (fields_of (slice_get types c.args.grain.kind)) (goes_on types run.top (back_of types run)) run.has in
    let stopped = subst (λ (why : Stop). Left left c.lock.new.self why) c.in-Err-Fault.field-0-is (c.in-Err-Fault.ensures.tree types) in
    stopped ∙ c.end.ensures.tree types ∙ ap (stays types c.end.new.self) c.end.ensures.paused
