use Rattle.std.proofs.Common.{◌≡◌, length}
use Rattle.base_types.specs.declared.calls.GrainId.{GrainId}
use Rattle.core_parts.specs.States.{last_in, has_place, KeepsPlaces}
use Rattle.core_model.specs.Tests.{state_written}
use Rattle.history_core.specs.ClosedUnits.{ArePlaced, or_else}
use Rattle.history_core.proofs.batch_closing.keep.Given as goal

abbrev pub decreases-loop-grain : goal.decreases-loop-grain
decreases-loop-grain l = length l.writes.items

abbrev pub invariant-loop-grain : goal.invariant-loop-grain
invariant-loop-grain l = record {
  last : (g : GrainId) → or_else (state_written g l.writes.items) (last_in l.last g) ≡ or_else (state_written g l.fn.writes) (last_in l.fn.last g);
  places : KeepsPlaces l.fn.last l.last;
  placed : ArePlaced (has_place l.last) l.writes.items;
}
