-- What the types of an entry's parts say of their values.
use Rattle.std.specs.Prelude.{◌<◌, ◌^◌, ⊤}
use Rattle.base_types.specs.declared.calls.Outcome.{Outcome}
use Rattle.base_types.specs.declared.calls.Outcome.TheVariants as outcome
use Rattle.base_types.specs.declared.entries.Entry.{Entry}
use Rattle.base_types.specs.declared.entries.Settled.{Settled}
use Rattle.base_types.specs.declared.entries.Settled.TheVariants.{Done, Lock, Vote, Dependency, Disk, InDoubt, Bad}
use Rattle.field_codec.specs.declared.formats.Format.TheVariants.{Two}
use Rattle.field_codec.specs.Spelling.{TextFits, ValueFits}

-- a number, or a text, that its type can hold
abbrev pub IsOutcomeInRange : Outcome → Type 0
IsOutcomeInRange outcome.Aborted = ⊤
IsOutcomeInRange (outcome.Value value) = ValueFits Two value
IsOutcomeInRange (outcome.Fault text) = TextFits Two text

-- what is said has values that its types can hold
abbrev pub IsSaidInRange : Settled → Type 0
IsSaidInRange (Done result) = IsOutcomeInRange result
IsSaidInRange (Lock by grain) = (by.0 < 2 ^ 64) × (grain.key < 2 ^ 32)
IsSaidInRange (Vote grain) = grain.key < 2 ^ 32
IsSaidInRange (Dependency on) = on.0 < 2 ^ 64
IsSaidInRange Disk = ⊤
IsSaidInRange InDoubt = ⊤
IsSaidInRange (Bad why) = ⊤

-- so has the whole entry
pub record IsEntryInRange (x : Entry) : Type 0 where
  pub line : x.line < 2 ^ 32
  pub unit : x.unit.0 < 2 ^ 64
  pub said : IsSaidInRange x.what
