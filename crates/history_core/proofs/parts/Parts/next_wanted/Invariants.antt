use Rattle.std.proofs.Common.{◌≡◌, ◌≤◌, drop, filter, length, map, not}
use Rattle.base_types.specs.declared.calls.GrainId.{GrainId}
use Rattle.base_types.specs.declared.calls.UnitNo.{UnitNo}
use Rattle.core_model.specs.Tests.{first_grain}
use Rattle.cell_table.specs.Table.{here_in}
use Rattle.history_core.proofs.parts.Parts.next_wanted.Given as goal

abbrev pub decreases-loop-at : goal.decreases-loop-at
decreases-loop-at l = l.at

abbrev pub invariant-loop-at : goal.invariant-loop-at
invariant-loop-at l = record {
  rest : l.first ≡ first_grain (filter (λ (g : GrainId). not (here_in l.self.cells g)) (map (λ (t : UnitNo × GrainId). t.1) (drop l.at l.wants)));
  within : l.at ≤ length l.wants;
}
