use Rattle.std.proofs.Common.{◌≡◌, drop}
use Rattle.base_types.specs.declared.calls.UnitNo.{UnitNo}
use Rattle.base_types.specs.declared.calls.GrainId.{GrainId}
use Rattle.core_parts.specs.States.{handed_in}
use Rattle.history_core.specs.HandedWrites.{cleared}
use Rattle.history_core.proofs.finish.clear.Given as goal

abbrev pub invariant-loop-read : goal.invariant-loop-read
invariant-loop-read l = record {
  rest : cleared (handed_in l.handed) l.unit (drop l.read-index l.reads) ≡ cleared (handed_in l.initial.handed) l.unit l.reads;
  others : (x : UnitNo) (g : GrainId) → (x ≡ l.unit → ⊥) → handed_in l.handed x g ≡ handed_in l.initial.handed x g;
}
