use Rattle.std.proofs.Common.{◌≡◌, ◌∙◌, sym, ap, refl, Some}
use Rattle.cell_model.specs.Cells.{cell_learned}
use Rattle.core_model.specs.CoreState.{put_grain}
use Rattle.core_model.specs.Tests.{is_committed}
use Rattle.cell_table.specs.Table.{cell_in, cells_kept}
use Rattle.history_core.proofs.Learns.{does-learn, somebody}
use Rattle.history_core.proofs.parts.Parts.learn.Goals as goal

pub learn_in-requires : goal.learn_in-requires
learn_in-requires c = somebody c.args.self.now c.args.unit c.args.grain c.requires.can

pub returns-clause-ok : goal.returns-clause-ok
returns-clause-ok c =
    let old = c.args.self.now in
    let g = c.args.grain in
    does-learn old c.args.unit g c.learn_in.new.cells c.evict.new.self c.forget.new.learn c.wants.result.now
    (λ here. c.learn_in.ensures.learns here ∙ ap (λ b. put_grain (cells_kept old.cells) g (Some (cell_learned (cell_in old.cells g) c.args.unit b))) (c.is_committed-committed.ensures ∙ ap is_committed c.verdict.ensures))
    c.learn_in.ensures.away c.learn_in.ensures.recent c.learn_in.ensures.opens
    c.forget.ensures.pairs c.forget.ensures.spare c.wants.ensures c.evict.ensures.evicts c.evict.ensures.recent c.evict.ensures.opens
