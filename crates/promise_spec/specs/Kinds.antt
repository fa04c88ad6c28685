-- How a line ended, in short.
use Rattle.std.specs.Prelude.{Bool, true, false}
use Rattle.base_types.specs.declared.calls.Outcome.{Outcome}
use Rattle.base_types.specs.declared.calls.Outcome.TheVariants as outcome
use Rattle.base_types.specs.declared.entries.Settled.{Settled}
use Rattle.base_types.specs.declared.entries.Settled.TheVariants.{Done, Lock, InDoubt, Bad}

-- What an entry says: its call gave a value, or a fault; its unit was aborted, for a lock or for another cause; and a fault of a
-- file has a part in it.
pub record Kind : Type 0 where
  pub valued : Bool
  pub faulted : Bool
  pub aborted : Bool
  pub locked : Bool
  pub disturbed : Bool

-- what a bad line's entry says: none of these
abbrev pub no_kind : Kind
no_kind = record { valued = false; faulted = false; aborted = false; locked = false; disturbed = false }

-- the outcome is a value, or a fault
abbrev pub is_value : Outcome → Bool
is_value (outcome.Value value) = true
is_value _ = false

-- the outcome is a fault
abbrev pub is_fault : Outcome → Bool
is_fault (outcome.Fault text) = true
is_fault _ = false

-- the table of entries
abbrev pub kind_of : Settled → Kind
kind_of (Done outcome) = record no_kind { valued = is_value outcome; faulted = is_fault outcome }
kind_of (Bad why) = no_kind
kind_of (Lock by grain) = record no_kind { aborted = true; locked = true }
kind_of InDoubt = record no_kind { disturbed = true }
kind_of _ = record no_kind { aborted = true; disturbed = true }
