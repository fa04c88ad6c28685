use Rattle.std.proofs.Common.{◌≡◌, count_by, take, ◌≤◌}
use Rattle.txn_agent.specs.declared.agent.Agent.{Agent as AnAgent}
use Rattle.txn_agent.specs.AgentStep.{is_freeing}
use Rattle.unit_crew.proofs.crew.freeing_in.Given as goal

abbrev pub invariant-loop-agent : goal.invariant-loop-agent
invariant-loop-agent l = record {
  count : l.found ≡ count_by (λ (a : AnAgent). is_freeing a.doing) (take l.agent-index l.agent-items);
  few : l.found ≤ l.agent-index;
}
