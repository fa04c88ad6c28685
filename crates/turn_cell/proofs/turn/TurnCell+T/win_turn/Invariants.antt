use Rattle.std.proofs.Common.{◌≡◌}
use Rattle.turn_cell.specs.Passes.{IsSameSeat}
use Rattle.turn_cell.proofs.turn.TurnCell+T.win_turn.Given as goal

abbrev pub invariant-loop : goal.invariant-loop
invariant-loop g l = IsSameSeat l.initial.pass l.pass × (l.pass.me ≡ l.initial.pass.me)
