use Rattle.promise_examples.proofs.BatchRules.{both_end, one_ends_none}
use Rattle.promise_examples.proofs.WrittenDoubt.{sound_at_entry}
use Rattle.promise_examples.proofs.WrittenBatch.{block_spelled, batched_shows, batched_keeps, batched_promises, is_hosted}
use Rattle.promise_examples.proofs.examples.a_batch_is_written_out.Goals as goal

pub returns-clause-sound : goal.returns-clause-sound
returns-clause-sound c = sound_at_entry

pub returns-clause-block : goal.returns-clause-block
returns-clause-block c = block_spelled

pub returns-clause-whole : goal.returns-clause-whole
returns-clause-whole c = both_end

pub returns-clause-cut : goal.returns-clause-cut
returns-clause-cut c = one_ends_none

pub returns-clause-shown : goal.returns-clause-shown
returns-clause-shown c = batched_shows

pub returns-clause-kept : goal.returns-clause-kept
returns-clause-kept c = batched_keeps

pub returns-clause-promised : goal.returns-clause-promised
returns-clause-promised c = batched_promises

pub returns-clause-hosted : goal.returns-clause-hosted
returns-clause-hosted c = is_hosted
