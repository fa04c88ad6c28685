-- One grain's place is written.
use Rattle.std.proofs.Common.{ap, Some}
use Rattle.std.specs.Option.{option_flatten}
use Rattle.base_types.specs.MapEntries.{SetsValue}
use Rattle.base_types.specs.declared.calls.GrainId.{GrainId}
use Rattle.base_types.specs.declared.places.Placed.{Placed}
use Rattle.base_types.specs.declared.places.Places.{Places}
use Rattle.base_types.specs.Stores.{grain_cmp}
use Rattle.base_types.specs.Places.{PutsPlaced}
use Rattle.base_types.proofs.Grains.{other_grain}

pub puts_placed : (old new : Places) (grain : GrainId) (placed : Placed) → SetsValue grain_cmp old.places new.places grain (Some placed) → PutsPlaced old new grain placed
puts_placed old new grain placed sets = record {
  put = ap option_flatten sets.1;
  others = λ other differs. ap option_flatten (sets.2 other (other_grain grain other differs));
}
