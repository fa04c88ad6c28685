use Rattle.std.proofs.Common.{◌≡◌, drop, true, Bool}
use Rattle.base_types.specs.declared.calls.GrainId.{GrainId}
use Rattle.core_parts.specs.States.{last_in, has_place, KeepsPlaces}
use Rattle.history_core.specs.KeptParts.{AllPlaced}
use Rattle.history_core.proofs.take.place_all.Given as goal

abbrev pub invariant-loop-member : goal.invariant-loop-member
invariant-loop-member l = record {
  same : (g : GrainId) → last_in l.last g ≡ last_in l.initial.last g;
  places : KeepsPlaces l.initial.last l.last;
  placed : (test : GrainId → Bool) → ((g : GrainId) → has_place l.last g ≡ true → test g ≡ true) → AllPlaced test (drop l.member-index l.members) → AllPlaced test l.members;
}
