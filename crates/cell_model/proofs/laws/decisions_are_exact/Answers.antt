use Rattle.cell_model.proofs.Decisions.{decided-length, commits-exactly, in-order}
use Rattle.cell_model.proofs.laws.decisions_are_exact.Goals as goal

pub returns : goal.returns
returns c = record {
  count = λ dead batch. decided-length dead batch;
  commits = λ dead p. commits-exactly dead p;
  in_order = λ dead before p later. in-order dead before p later;
}
