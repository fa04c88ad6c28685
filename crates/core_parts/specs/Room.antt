-- What contracts see of the lists that grow in room made before.
use Rattle.std.specs.Prelude.{ℕ, ◌-◌, ◌^◌, min, List}
use Rattle.base_types.specs.declared.calls.UnitNo.{UnitNo}
use Rattle.base_types.specs.declared.calls.GrainId.{GrainId}
use Rattle.base_types.specs.declared.entries.Entry.{Entry}

-- the entries, how many of them are emitted, and how many more fit without memory
pub record EntriesInRoom : Type 0 where
  pub entries : List Entry
  pub emitted : ℕ
  pub spare : ℕ

-- how many more entries may come, where there is room for so many, and so many came
abbrev pub spare_for : ℕ → ℕ → ℕ
spare_for room came = min room (2 ^ 64 - 1 - came)

-- the pairs in the order in which they came, and how many more of them fit without memory
pub record PairsInRoom : Type 0 where
  pub pairs : List (UnitNo × GrainId)
  pub spare : ℕ
