use Rattle.std.proofs.Common.{◌≡◌, ◌+◌, ◌≤◌}
use Rattle.std.specs.Prelude.{vec_len, vec_capacity}
use Rattle.script_meaning.specs.Play.{states_set}
use Rattle.script_machine.proofs.Orders.{onto}
use Rattle.script_machine.proofs.writes.ascending.Given as goal

abbrev pub invariant-loop-one : goal.invariant-loop-one
invariant-loop-one l = record {
  order : onto l.held.items l.writes.items ≡ states_set l.fn.held.items;
  room : vec_len l.held + vec_len l.writes ≤ vec_capacity l.writes;
}

abbrev pub decreases-loop-one : goal.decreases-loop-one
decreases-loop-one l = vec_len l.held
