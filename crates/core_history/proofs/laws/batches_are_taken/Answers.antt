use Rattle.core_history.specs.Histories.{history_of}
use Rattle.core_model.specs.LegalRuns.{ends}
use Rattle.core_history.proofs.AnyEvents.{tells-ends}
use Rattle.core_history.proofs.BatchPlaces.{open-batch, open-member}
use Rattle.core_history.proofs.laws.batches_are_taken.Goals as goal

pub returns : goal.returns
returns c = record {
  taken = λ r. (tells-ends r).batches;
  in_open = λ r b q u. (open-batch (history_of r) (ends r) b (tells-ends r) q u, open-member (history_of r) (ends r) b (tells-ends r) q u);
}
