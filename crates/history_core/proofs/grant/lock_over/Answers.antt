use Rattle.std.proofs.Common.{◌≡◌, ◌∙◌, sym, ap, false, Some, Option}
use Rattle.base_types.specs.declared.calls.GrainId.{GrainId}
use Rattle.base_types.specs.declared.calls.UnitNo.{UnitNo}
use Rattle.cell_model.specs.Cells.{Cell, cell_granted, cell_learned}
use Rattle.cell_model.specs.Locks.{ask}
use Rattle.core_model.specs.CoreState.{put_grain}
use Rattle.core_laws.proofs.Puts.{grain-same}
use Rattle.cell_memory.specs.KeptCells.{CellsKept}
use Rattle.cell_table.specs.Table.{cell_in, cells_kept}
use Rattle.cell_table.proofs.Cells.{in-put}
use Rattle.history_core.specs.Grants.{cell_without}
use Rattle.history_core.proofs.Grants.{put-twice}
use Rattle.history_core.proofs.grant.lock_over.Goals as goal

pub lock-requires-in-Some-clause-free : goal.lock-requires-in-Some-clause-free
lock-requires-in-Some-clause-free c =
    let t = c.args.cells.now in
    let g = c.args.grain in
    let k = cell_learned (cell_in t g) c.in-Some.gone false in
    ap (λ (C : GrainId → Cell). ask (C g).holds c.args.unit c.args.mode) (in-put t c.learn.new.self g k c.learn.ensures.learns c.learn.ensures.opens)
    ∙ ap (λ (x : Cell). ask x.holds c.args.unit c.args.mode) (grain-same (cell_in t) g k)
    ∙ c.requires.free

pub returns-in-Some-clause-locks : goal.returns-in-Some-clause-locks
returns-in-Some-clause-locks c =
    let t = c.args.cells.now in
    let g = c.args.grain in
    let k = cell_learned (cell_in t g) c.in-Some.gone false in
    let here : cell_in c.learn.new.self g ≡ k = ap (λ (C : GrainId → Cell). C g) (in-put t c.learn.new.self g k c.learn.ensures.learns c.learn.ensures.opens) ∙ grain-same (cell_in t) g k in
    c.lock-in-Some.ensures.locks
    ∙ (λ i. put_grain (c.learn.ensures.learns i) g (Some (cell_granted (here i) c.args.unit c.args.mode)))
    ∙ put-twice (cells_kept t) g (Some k) (Some (cell_granted k c.args.unit c.args.mode))
    ∙ ap (λ (a : Option UnitNo). put_grain (cells_kept t) g (Some (cell_granted (cell_without (cell_in t g) a) c.args.unit c.args.mode))) (sym c.in-Some.is)
