use Rattle.std.proofs.Common.{◌≡◌, count_by, take, ◌≤◌}
use Rattle.core_model.specs.LegalRuns.{ends}
use Rattle.history_core.specs.Cores.{run_of}
use Rattle.interleaver.specs.Flights.{is_flown}
use Rattle.interleaver.proofs.flights.flown_in.Given as goal

abbrev pub invariant-loop-agent : goal.invariant-loop-agent
invariant-loop-agent l = record {
  count : l.found ≡ count_by (is_flown (ends (run_of l.core))) (take l.agent-index l.agent-items);
  few : l.found ≤ l.agent-index;
}
