use Rattle.cell_model.specs.Sources.{is_among}
use Rattle.cell_model.proofs.Sources.{sources-follow, first-oldest}
use Rattle.cell_model.proofs.laws.sources_are_a_set.Goals as goal

pub returns : goal.returns
returns c = record {
  kept = λ sources source a. sources-follow sources source a;
  first = λ sources aborted a. first-oldest (is_among aborted) sources a;
}
