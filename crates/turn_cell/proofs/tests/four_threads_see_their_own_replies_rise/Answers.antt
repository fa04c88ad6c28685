use Rattle.std.proofs.Common.{rules, ◌≡◌}
use Rattle.std.specs.Prelude.{⊤}
use Rattle.turn_cell.specs.Hands.{first_hand}
use Rattle.turn_cell.proofs.CallSums.{whole_gathered}
use Rattle.turn_cell.proofs.tests.four_threads_see_their_own_replies_rise.Goals as goal

pub close-tally-requires : goal.close-tally-requires
close-tally-requires g c =
    let start : c.in_ok-cell.pass.me.0.hand ≡ first_hand = search rules in
    (c.crowd-pass.ensures.own, whole_gathered (λ _. ⊤) c.in_ok-cell.pass.me.0 c.crowd-pass.result.0.me.0 start c.crowd-pass.ensures.carried)
