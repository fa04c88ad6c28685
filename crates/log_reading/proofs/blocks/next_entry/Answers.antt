use Rattle.std.proofs.Common.{rules, arith, length, ap}
use Rattle.log_reading.proofs.StepFaults.{quiet_fault}
use Rattle.log_reading.proofs.blocks.next_entry.Goals as goal

pub returns-in-Ok-clause-further : goal.returns-in-Ok-clause-further
returns-in-Ok-clause-further g c =
    let few = c.in-Ok.ensures.few in
    let same = ap length c.as_slice.ensures in
    let size = c.len.ensures in
    (omega (arith, few, same, size), search rules)

pub returns-clause-calls : goal.returns-clause-calls
returns-clause-calls g c = record {
  ready = c.read_block.ensures.calls.ready;
  calm = tt;
  fault = quiet_fault c.in-Err.fault _ _ (λ file is. c.in-Err.ensures.failed file is) c.in-Ok-Some.ensures.calls.calm;
}
