use Rattle.std.proofs.Common.{ap}
use Rattle.base_types.specs.declared.calls.Value.{Value}
use Rattle.script_values.specs.Faults.{kind}
use Rattle.script_meaning.specs.Statements.{by_truth}
use Rattle.script_player.proofs.PlayProgress.{ends_at}
use Rattle.script_player.proofs.player.Player.truth_of.Goals as goal

pub returns-in-Text : goal.returns-in-Text
returns-in-Text c = λ world first second.
    ends_at world c.args.self.now.has c.args.self.now.progress c.stop_at.result kind (by_truth c.args.value.now c.args.self.now.has first second) c.stop_at.ensures
    (ap (λ (value : Value). by_truth value c.args.self.now.has first second) c.in-Text.is)
