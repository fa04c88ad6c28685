-- A file's state as data.
use Rattle.std.specs.Prelude.{◌≡◌, ◌≤◌, max, length}
use Rattle.host_trait.specs.Disk.{FileState}
use Rattle.host_memory.specs.declared.crash.Draft.{Draft}

-- the state of a file that a draft stands for
abbrev pub drafted : Draft → FileState
drafted d = record { base = d.base.items; seen = d.seen.items; ranges = d.ranges.items; longest = max (length d.base.items) d.longest }

-- a draft of this state, which may allow less length
pub record IsDraft (d : Draft) (file : FileState) : Type 0 where
  pub base : d.base.items ≡ file.base
  pub seen : d.seen.items ≡ file.seen
  pub ranges : d.ranges.items ≡ file.ranges
  pub longest : d.longest ≤ file.longest
