use Rattle.std.proofs.Common.{◌≡◌, drop, not}
use Rattle.std.specs.List.{list_all}
use Rattle.cell_model.specs.Locks.{holds_lock}
use Rattle.cell_table.specs.Table.{cell_in}
use Rattle.core_model.specs.declared.effects.Read.{Read}
use Rattle.history_core.proofs.take.is_free.Given as goal

abbrev pub invariant-loop-read : goal.invariant-loop-read
invariant-loop-read l =
    list_all (λ (r : Read). not (holds_lock l.unit (cell_in l.cells r.grain).holds)) (drop l.read-index l.reads)
    ≡ list_all (λ (r : Read). not (holds_lock l.unit (cell_in l.cells r.grain).holds)) l.reads
