use Rattle.std.proofs.Common.{◌∙◌, ap, Some, [], ◌∷◌, List}
use Rattle.core_model.specs.CoreState.{put_grain, Value}
use Rattle.cell_table.specs.Table.{cells_kept}
use Rattle.history_core.proofs.SameMeaning.{always-err, keeps-cells}
use Rattle.history_core.proofs.Loads.{does-load, load-away}
use Rattle.history_core.proofs.parts.Parts.load.Goals as goal

pub load-requires : goal.load-requires
load-requires c = load-away c.args.self.now c.args.grain c.args.unit c.args.state.now c.requires.can

pub returns-in_err-left-clause-err : goal.returns-in_err-left-clause-err
returns-in_err-left-clause-err c =
    always-err c.from_residual-in_err-left.result _ (keeps-cells c.args.self.now c.load.new.self c.in_err-left.ensures.kept c.in_err-left.ensures.unused c.load.ensures.opens)

pub returns-clause-ok : goal.returns-clause-ok
returns-clause-ok c =
    let old = c.args.self.now in
    let g = c.args.grain in
    does-load old g c.args.unit c.args.state.now c.load.new.self c.evict_left.new.cells c.in_ok-left.left c.wants.result.now
    (load-away old g c.args.unit c.args.state.now c.requires.can)
    (c.in_ok-left.ensures.loads ∙ ap (λ (v : List Value). put_grain (cells_kept old.cells) g (Some (record { stack = record { unit = c.args.unit; state = v } ∷ []; holds = []; readings = [] }))) c.in_ok-state.ensures)
    c.in_ok-left.ensures.used c.load.ensures.opens c.in_ok-left.ensures.left c.wants.ensures
    c.evict_left.ensures.evicts c.evict_left.ensures.recent c.evict_left.ensures.opens
