-- How lines came to their ends.
use Rattle.std.specs.Prelude.{ℕ, ◌+◌, ◌≤◌, List, Bool, true, false, if◌then◌else◌, length, count_by}
use Rattle.base_types.specs.declared.calls.Outcome.TheVariants.{Value, Fault, Aborted}
use Rattle.base_types.specs.declared.entries.Entry.{Entry}
use Rattle.base_types.specs.declared.entries.Settled.{Settled}
use Rattle.base_types.specs.declared.entries.Settled.TheVariants.{Done, Lock, Vote, Dependency, Disk, InDoubt, Bad}
use Rattle.core_parts.specs.declared.line_ends.LineEnds.{LineEnds}

-- the line came to a value
abbrev pub ends_in_value : Settled → Bool
ends_in_value (Done (Value v)) = true
ends_in_value (Done (Fault f)) = false
ends_in_value (Done Aborted) = false
ends_in_value (Lock by grain) = false
ends_in_value (Vote grain) = false
ends_in_value (Dependency on) = false
ends_in_value Disk = false
ends_in_value InDoubt = false
ends_in_value (Bad why) = false

-- the line came to a fault
abbrev pub ends_in_fault : Settled → Bool
ends_in_fault (Done (Value v)) = false
ends_in_fault (Done (Fault f)) = true
ends_in_fault (Done Aborted) = false
ends_in_fault (Lock by grain) = false
ends_in_fault (Vote grain) = false
ends_in_fault (Dependency on) = false
ends_in_fault Disk = false
ends_in_fault InDoubt = false
ends_in_fault (Bad why) = false

-- the line was aborted
abbrev pub ends_in_abort : Settled → Bool
ends_in_abort (Done (Value v)) = false
ends_in_abort (Done (Fault f)) = false
ends_in_abort (Done Aborted) = false
ends_in_abort (Lock by grain) = true
ends_in_abort (Vote grain) = true
ends_in_abort (Dependency on) = true
ends_in_abort Disk = true
ends_in_abort InDoubt = false
ends_in_abort (Bad why) = false

-- how many of these entries are of a line that ended so
abbrev pub count_of : (Settled → Bool) → List Entry → ℕ
count_of is entries = count_by (λ (e : Entry). is e.what) entries

-- how the lines of these entries ended
abbrev pub ends_of : List Entry → LineEnds
ends_of entries = record {
  all = length entries;
  values = count_of ends_in_value entries;
  faults = count_of ends_in_fault entries;
  aborts = count_of ends_in_abort entries;
}

-- one more where the line ended so
abbrev pub one_more : Bool → ℕ → ℕ
one_more ended n = if ended then n + 1 else n

-- one line more, which ended so
abbrev pub ends_with : LineEnds → Settled → LineEnds
ends_with ends what = record {
  all = ends.all + 1;
  values = one_more (ends_in_value what) ends.values;
  faults = one_more (ends_in_fault what) ends.faults;
  aborts = one_more (ends_in_abort what) ends.aborts;
}

-- no count is above the number of lines
pub record CountsWithin (ends : LineEnds) : Type 0 where
  pub values : ends.values ≤ ends.all
  pub faults : ends.faults ≤ ends.all
  pub aborts : ends.aborts ≤ ends.all
