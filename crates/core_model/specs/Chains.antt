-- Stacks as chains: each version was made from the one below it.
use Rattle.std.specs.Prelude.{◌≡◌, ◌⊎◌, List, [], ◌∷◌, Some}
use Rattle.core_model.specs.CoreState.{UnitNo, GrainId, nobody, Member, Version, Value, Read, Write, Phase, Finished, Verdict, Committed}
use Rattle.core_model.specs.Tests.{state_written}

-- the bottom version meets B, and each other one has a link to the version below it
abbrev pub Chain : (Version → Type 0) → (Version → Version → Type 0) → List Version → Type 0
Chain B L [] = ⊥
Chain B L (x ∷ []) = B x
Chain B L (x ∷ y ∷ ys) = L x y × Chain B L (y ∷ ys)

-- the unit wrote the grain
abbrev pub WroteGrain : (UnitNo → List Write) → UnitNo → GrainId → Type 0
WroteGrain writes u g = (v : List Value) × (state_written g (writes u) ≡ Some v)

-- a version is what a finished unit wrote
abbrev pub IsVersion : (UnitNo → Phase) → (UnitNo → List Write) → GrainId → Version → Type 0
IsVersion phase writes g x = (phase x.unit ≡ Finished) × (state_written g (writes x.unit) ≡ Some x.state)

-- the bottom is the opening state or a committed version
abbrev pub IsBottom : (GrainId → List Value) → (UnitNo → Phase) → (UnitNo → List Write) → (UnitNo → Verdict) → GrainId → Version → Type 0
IsBottom opening phase writes verdict g x =
    ((x.unit ≡ nobody) × (x.state ≡ opening g)) ⊎ ((verdict x.unit ≡ Committed) × IsVersion phase writes g x)

-- the writer of x read y there
abbrev pub IsLink : (UnitNo → Phase) → (UnitNo → List Write) → (UnitNo → List Read) → GrainId → Version → Version → Type 0
IsLink phase writes reads g x y =
    IsVersion phase writes g x × ((r : Read) × Member r (reads x.unit) × (r.grain ≡ g) × (r.source ≡ y.unit))
