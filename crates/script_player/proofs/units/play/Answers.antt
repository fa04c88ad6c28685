use Rattle.std.proofs.Common.{List, ap, sym, ◌∙◌}
use Rattle.script_tree.specs.Programs.{program_tree}
use Rattle.script_meaning.specs.Play.{GrainState, Played, unit, play, play_over}
use Rattle.script_player.specs.PlayState.{heard}
use Rattle.script_player.specs.declared.frames.World.{World}
use Rattle.script_player.specs.declared.player.Progress.{Progress}
use Rattle.script_player.proofs.PlayProgress.{heard_first, heard_end}
use Rattle.script_player.proofs.units.play.Goals as goal

pub returns : goal.returns
unfolding play play_over
returns c =
    let world : World = record { program = c.args.checked; store = c.args.store; answers = c.args.answers } in
    let run = unit (program_tree c.args.checked.now) c.args.call.now c.args.depth in
    let player = c.play_unit-end.new.self in
    let result = c.in_ok-result.result in
    let shown = λ (writes : List GrainState). let played : Played = record { result = result; asked = player.progress.asked; reads = player.progress.reads; writes = writes } in played in
    ap shown (c.in_ok-writes.ensures {u = tt} player.has (sym c.held.ensures))
    ∙ sym (heard_end world player.progress result player.has)
    ∙ c.in_ok-result.ensures {u = tt} world player c.new-player.result.progress run c.play_unit-end.ensures
    ∙ ap (λ (progress : Progress). heard world progress run) c.new-player.ensures.progress
    ∙ heard_first world run
