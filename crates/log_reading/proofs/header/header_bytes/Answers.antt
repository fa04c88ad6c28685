use Rattle.host_trait.proofs.Runs.{asked_then}
use Rattle.log_reading.proofs.header.header_bytes.Goals as goal

pub returns-in_err-zero-clause-asked : goal.returns-in_err-zero-clause-asked
returns-in_err-zero-clause-asked g c told = asked_then _ _ _ (c.byte_at.ensures.asked told) (c.byte_at-2.ensures.asked told)

pub returns-clause-asked : goal.returns-clause-asked
returns-clause-asked g c told = asked_then _ _ _ (c.byte_at.ensures.asked told) (c.byte_at-2.ensures.asked told)
