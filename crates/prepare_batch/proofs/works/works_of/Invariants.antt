use Rattle.std.proofs.Common.{◌≡◌, [], length}
use Rattle.std.specs.Vec.Iter.{into_iter_items, into_iter_len}
use Rattle.prepare_batch.specs.Work.{ends_by}
use Rattle.prepare_batch.specs.Pieces.{with_pieces}
use Rattle.prepare_batch.proofs.works.works_of.Given as goal

abbrev pub invariant-loop-piece : goal.invariant-loop-piece
invariant-loop-piece l = record {
  grown : with_pieces (ends_by l.ends) l.works.items (into_iter_items l.piece-iterator) ≡ with_pieces (ends_by l.ends) [] (into_iter_items l.initial.piece-iterator);
  left : into_iter_len l.piece-iterator ≡ length (into_iter_items l.piece-iterator);
}
