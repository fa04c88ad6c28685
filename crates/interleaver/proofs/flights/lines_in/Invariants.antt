use Rattle.std.proofs.Common.{◌≡◌, count_by, take, ◌≤◌}
use Rattle.promise_spec.specs.TurnRule.{is_line}
use Rattle.txn_agent.specs.declared.agent.Agent.{Agent as AnAgent}
use Rattle.interleaver.proofs.flights.lines_in.Given as goal

abbrev pub invariant-loop-agent : goal.invariant-loop-agent
invariant-loop-agent l = record {
  count : l.found ≡ count_by (λ (a : AnAgent). is_line a.carried.origin) (take l.agent-index l.agent-items);
  few : l.found ≤ l.agent-index;
}
