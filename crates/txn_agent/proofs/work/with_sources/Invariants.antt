use Rattle.std.proofs.Common.{◌≡◌, length, map, take}
use Rattle.txn_agent.specs.MachineState.{found_by, source_of}
use Rattle.txn_agent.proofs.work.with_sources.Given as goal

abbrev pub invariant-loop-grain : goal.invariant-loop-grain
invariant-loop-grain l = record {
  found : map found_by l.reads.items ≡ l.yielded;
  sources : map source_of l.reads.items ≡ take (length l.yielded) l.sources;
}
