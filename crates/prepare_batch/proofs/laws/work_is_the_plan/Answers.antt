use Rattle.prepare_batch.proofs.CoreWork.{core-work}
use Rattle.prepare_batch.proofs.GatheredPieces.{work_ascends}
use Rattle.prepare_batch.proofs.laws.work_is_the_plan.Goals as goal

pub returns : goal.returns
returns c = record {
  ascending = λ at effects. work_ascends at effects;
  planned = λ plays r l once b q undecided at. core-work plays r l once b q undecided at;
}
