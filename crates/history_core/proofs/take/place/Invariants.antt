use Rattle.std.proofs.Common.{◌≡◌, drop, true, Bool}
use Rattle.base_types.specs.declared.calls.GrainId.{GrainId}
use Rattle.core_parts.specs.States.{last_in, has_place, KeepsPlaces}
use Rattle.history_core.specs.ClosedUnits.{ArePlaced}
use Rattle.history_core.proofs.take.place.Given as goal

abbrev pub invariant-loop-write : goal.invariant-loop-write
invariant-loop-write l = record {
  same : (g : GrainId) → last_in l.last g ≡ last_in l.initial.last g;
  places : KeepsPlaces l.initial.last l.last;
  placed : (test : GrainId → Bool) → ((g : GrainId) → has_place l.last g ≡ true → test g ≡ true) → ArePlaced test (drop l.write-index l.writes) → ArePlaced test l.writes;
}
