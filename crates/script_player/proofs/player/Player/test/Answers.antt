use Rattle.std.proofs.Common.{ap, sym}
use Rattle.std.specs.Prelude.{if◌then◌else◌}
use Rattle.script_values.specs.Values.{ValueOrFault}
use Rattle.script_meaning.specs.Requests.{with_value}
use Rattle.script_meaning.specs.Statements.{by_truth}
use Rattle.script_player.specs.PlayState.{heard}
use Rattle.script_player.proofs.PlayProgress.{leads_on}
use Rattle.script_player.proofs.player.Player.test.Goals as goal

pub returns : goal.returns
returns c = λ world first second.
    let player = c.args.self.now in
    leads_on world player player.progress player.progress c.truth_of.result (λ holds. if holds then first else second) (by_truth c.in_ok-value.value player.has first second) _
    (c.truth_of.ensures world first second)
    (ap (λ (g : ValueOrFault). heard world player.progress (with_value g player.has (λ value. by_truth value player.has first second))) (sym (c.in_ok-value.ensures {u = tt})))
