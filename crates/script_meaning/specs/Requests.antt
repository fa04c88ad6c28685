-- A unit's run as a tree of what it asks for.
use Rattle.std.specs.Prelude.{ℕ, List, Result, Ok, Err}
use Rattle.base_types.specs.declared.calls.Call.{Call}
use Rattle.base_types.specs.declared.calls.GrainId.{GrainId}
use Rattle.base_types.specs.declared.calls.Mode.{Mode}
use Rattle.base_types.specs.declared.calls.Outcome.{Outcome}
use Rattle.base_types.specs.declared.calls.Outcome.TheVariants.{Fault}
use Rattle.base_types.specs.declared.calls.Value.{Value}
use Rattle.script_values.specs.Values.{ValueOrFault}
use Rattle.script_holding.specs.Holding.{Holding}

-- A run has ended, or it asks for something and goes on with what it is given: for a grain's lock, which comes
-- with the grain's state; for an exclusive lock in place of a shared one; for a unit of its own at a depth,
-- which comes with that unit's outcome.
pub data Requests : Type 0 where
  End : Outcome → Holding → Requests
  AskLock : GrainId → Mode → (List Value → Requests) → Requests
  AskRaise : GrainId → Requests → Requests
  AskUnit : Call → ℕ → (Outcome → Requests) → Requests

-- what follows a value
abbrev pub Back : Type 0
Back = Value → Holding → Requests

-- what follows a fault
abbrev pub Caught : Type 0
Caught = List ℕ → Holding → Requests

-- a fault ends the unit
abbrev pub stop : Caught
stop fault has = End (Fault fault) has

-- what follows an expression's value; its fault ends the unit
abbrev pub with_value : ValueOrFault → Holding → (Value → Requests) → Requests
with_value (Err fault) has go = stop fault has
with_value (Ok value) has go = go value

-- what follows the values of arguments
abbrev pub with_values : Result (List Value) (List ℕ) → Holding → (List Value → Requests) → Requests
with_values (Err fault) has go = stop fault has
with_values (Ok values) has go = go values
