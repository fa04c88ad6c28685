use Rattle.std.proofs.Common.{◌∙◌, ap, sym, Option}
use Rattle.base_types.specs.declared.calls.GrainId.{GrainId}
use Rattle.cell_memory.specs.LeavingGrains.{evicted_by}
use Rattle.cell_table.specs.Table.{cells_kept, limit_of, used_of}
use Rattle.cell_table.proofs.LeavingGrains.{none-leave}
use Rattle.history_core.specs.Evictions.{these}
use Rattle.history_core.proofs.evictions.evict_left.Goals as goal

pub returns-in-Some-clause-evicts : goal.returns-in-Some-clause-evicts
returns-in-Some-clause-evicts c =
    let t = c.args.cells.now in
    c.evict.ensures.evicts ∙ ap (λ (o : Option GrainId). evicted_by (limit_of t.recent) c.args.wants.now (used_of t.recent) (these o) (cells_kept t)) (sym c.in-Some.is)

pub returns-in-None-clause-evicts : goal.returns-in-None-clause-evicts
returns-in-None-clause-evicts c =
    let t = c.args.cells.now in
    sym (ap (λ (o : Option GrainId). evicted_by (limit_of t.recent) c.args.wants.now (used_of t.recent) (these o) (cells_kept t)) c.in-None.is
    ∙ none-leave (limit_of t.recent) c.args.wants.now (used_of t.recent) (cells_kept t))
