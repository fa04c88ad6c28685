use Rattle.std.proofs.Common.{◌≡◌, drop}
use Rattle.core_model.specs.Changes.{without_wants}
use Rattle.cell_memory.specs.LeavingGrains.{evicted_by, wanted_of}
use Rattle.cell_table.specs.Table.{cells_kept, limit_of, opens_with, used_of}
use Rattle.cell_table.proofs.table.CellTable.evict_wanted.Given as goal

abbrev pub invariant-loop-want : goal.invariant-loop-want
invariant-loop-want l = record {
  rest : evicted_by (limit_of l.initial.self.recent) (without_wants l.unit l.wants) (used_of l.initial.self.recent) (wanted_of l.unit (drop l.want-index l.wants)) (cells_kept l.self)
      ≡ evicted_by (limit_of l.initial.self.recent) (without_wants l.unit l.wants) (used_of l.initial.self.recent) (wanted_of l.unit l.wants) (cells_kept l.initial.self);
  recent : l.self.recent ≡ l.initial.self.recent;
  opens : opens_with l.self ≡ opens_with l.initial.self;
}
