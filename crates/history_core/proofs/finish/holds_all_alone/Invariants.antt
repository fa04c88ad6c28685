use Rattle.std.proofs.Common.{◌≡◌, drop}
use Rattle.std.specs.List.{list_all}
use Rattle.core_model.specs.CoreState.{Write}
use Rattle.rw_locks.specs.LockView.{holds_alone}
use Rattle.cell_table.specs.Table.{cell_in}
use Rattle.history_core.proofs.finish.holds_all_alone.Given as goal

abbrev pub invariant-loop-write : goal.invariant-loop-write
invariant-loop-write l =
    list_all (λ (x : Write). holds_alone l.unit (cell_in l.cells x.0).holds) (drop l.write-index l.writes) ≡ list_all (λ (x : Write). holds_alone l.unit (cell_in l.cells x.0).holds) l.writes
