use Rattle.std.proofs.Common.{◌∙◌, ap, [], List}
use Rattle.prepare_batch.specs.declared.pieces.Piece.{Piece}
use Rattle.prepare_batch.specs.Work.{ends_by}
use Rattle.prepare_batch.specs.Pieces.{with_pieces, pieces_by_grain, batch_pieces}
use Rattle.prepare_batch.proofs.GatheredPieces.{gathered}
use Rattle.prepare_batch.proofs.works.plan.Goals as goal

pub returns : goal.returns
returns c =
    let at = ends_by c.args.ends.now in
    c.from_vec.ensures
    ∙ c.in_ok-works.ensures
    ∙ ap (λ (ps : List Piece). with_pieces at [] ps) c.in_ok-sort_by_grain.ensures
    ∙ ap (λ (ps : List Piece). with_pieces at [] (pieces_by_grain ps)) c.in_ok-pieces.ensures
    ∙ (λ i. with_pieces at [] (pieces_by_grain (batch_pieces (c.as_slice-2.ensures i) (c.as_slice.ensures i))))
    ∙ gathered at c.args.aborted.now c.args.batch.now
