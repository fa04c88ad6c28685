use Rattle.std.proofs.Common.{rules, ◌≡◌, ◌-◌, Some, length}
use Rattle.std.specs.Prelude.{slice_get}
use Rattle.script_tree.specs.Programs.{program_tree}
use Rattle.log_reading.proofs.EntriesAdded.{in_force_some}
use Rattle.log_reading.proofs.entries.in_force.Goals as goal

pub returns-in-Some : goal.returns-in-Some
returns-in-Some c =
    let is : slice_get c.args.later.now (length c.args.later.now - 1) ≡ Some c.in-Some.last.now = search rules in
    in_force_some (program_tree c.args.first.now) c.args.later.now c.in-Some.last.now is
