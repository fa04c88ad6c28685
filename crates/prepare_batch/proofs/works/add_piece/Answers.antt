use Rattle.std.proofs.Common.{rules, ◌≡◌, ◌∙◌, sym, ap, ◌++◌, ◌∷◌, [], List}
use Rattle.core_model.specs.CoreState.{Version}
use Rattle.prepare_batch.specs.declared.works.FileWork.{FileWork}
use Rattle.prepare_batch.specs.Work.{ends_by}
use Rattle.prepare_batch.specs.Pieces.{with_piece}
use Rattle.prepare_batch.proofs.JoinedPieces.{piece_more, piece_other}
use Rattle.prepare_batch.proofs.works.add_piece.Goals as goal

pub returns-then-is_same : goal.returns-then-is_same
returns-then-is_same c =
    let at = ends_by c.args.ends.now in
    let rest = c.pop.new.self.items in
    let work = c.in-Some.work in
    let pushed : c.push-then-is_same.new.self ≡ work.versions ++ c.args.piece.version ∷ [] = search rules in
    c.in_ok-push-3.ensures.items
    ∙ ap (λ (l : List Version). rest ++ record { grain = work.grain; at = work.at; versions = l } ∷ []) pushed
    ∙ sym (piece_more at rest work c.args.piece (sym c.is_same.ensures ∙ c.if-is_same.true))
    ∙ ap (λ (l : List FileWork). with_piece at l c.args.piece) (sym c.in-Some.ensures.items)

pub returns : goal.returns
returns c =
    let at = ends_by c.args.ends.now in
    let rest = c.pop.new.self.items in
    let work = c.in-Some.work in
    c.in_ok-push-5.ensures.items
    ∙ ap (λ (l : List FileWork). l ++ c.in_ok-begin_work-2.field-0 ∷ []) c.in_ok-push-4.ensures.items
    ∙ ap (λ (x : FileWork). (rest ++ work ∷ []) ++ x ∷ []) c.in_ok-begin_work-2.ensures
    ∙ sym (piece_other at rest work c.args.piece (sym c.is_same.ensures ∙ c.if-is_same.false))
    ∙ ap (λ (l : List FileWork). with_piece at l c.args.piece) (sym c.in-Some.ensures.items)
