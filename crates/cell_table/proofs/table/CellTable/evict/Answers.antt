use Rattle.std.proofs.Common.{◌∙◌, sym, ◌∷◌, []}
use Rattle.cell_table.specs.Table.{cells_kept, used_of}
use Rattle.cell_table.proofs.LeavingGrains.{one-leaves, without-limit}
use Rattle.cell_table.proofs.table.CellTable.evict.Goals as goal

pub returns-then-has_limit-clause-evicts : goal.returns-then-has_limit-clause-evicts
returns-then-has_limit-clause-evicts c =
    c.evict_unless.ensures.evicts ∙ one-leaves c.args.self.now.recent c.args.wants.now c.is_wanted.result c.args.grain (cells_kept c.args.self.now) c.is_wanted.ensures

pub returns-else-has_limit-clause-evicts : goal.returns-else-has_limit-clause-evicts
returns-else-has_limit-clause-evicts c =
    without-limit c.args.self.now.recent c.args.wants.now (used_of c.args.self.now.recent) (c.args.grain ∷ []) (cells_kept c.args.self.now) (sym c.has_limit.ensures ∙ c.if-has_limit.false)
