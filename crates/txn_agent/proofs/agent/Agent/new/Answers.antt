use Rattle.std.proofs.Common.{◌∙◌, rules}
use Rattle.script_tree.specs.Programs.{program_tree}
use Rattle.txn_agent.proofs.ResumedScripts.{new_known}
use Rattle.txn_agent.proofs.agent.Agent.new.Goals as goal

pub returns-clause-knows : goal.returns-clause-knows
returns-clause-knows c = λ s new.
    let on = c.in_ok-work.ensures in
    new_known (program_tree c.args.checked.now) s (record { unit = c.args.unit; origin = c.args.origin; plain = c.args.plain }) c.args.call c.in_ok-machine.machine
    c.in_ok-work.work c.in_ok-work.pause (search rules) on.machine on.call (on.held ∙ search rules) (on.sources ∙ search rules) on.kids new
