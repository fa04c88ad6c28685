use Rattle.std.proofs.Common.{◌≡◌, ◌≤◌, drop, length}
use Rattle.base_types.specs.declared.calls.UnitNo.{UnitNo}
use Rattle.base_types.specs.declared.calls.GrainId.{GrainId}
use Rattle.core_parts.specs.States.{handed_in}
use Rattle.history_core.specs.HandedWrites.{with_writes}
use Rattle.history_core.proofs.finish.hand.Given as goal

abbrev pub decreases-loop-at : goal.decreases-loop-at
decreases-loop-at l = l.at

abbrev pub invariant-loop-at : goal.invariant-loop-at
invariant-loop-at l = record {
  rest : handed_in l.handed ≡ with_writes (handed_in l.initial.handed) l.unit (drop l.at l.writes);
  within : l.at ≤ length l.writes;
  others : (x : UnitNo) (g : GrainId) → (x ≡ l.unit → ⊥) → handed_in l.handed x g ≡ handed_in l.initial.handed x g;
}
