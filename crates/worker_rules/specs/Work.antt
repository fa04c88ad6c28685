-- Which events are a worker's: those of lines and of units.
use Rattle.std.specs.Prelude.{◌≡◌, Bool, true, false, List}
use Rattle.base_types.specs.Lists.{Member}
use Rattle.core_model.specs.declared.events.CoreEvent.{CoreEvent}
use Rattle.promise_spec.specs.TurnRule.{Mover, OfLine, OfWant, OfLoad, OfUnit, OfSettler, mover_of}
use Rattle.core_access.specs.Histories.{Told}

-- the move of a line or of a unit, also one that wants a grain to be in memory
abbrev pub is_of_worker : Mover → Bool
is_of_worker OfLine = true
is_of_worker (OfWant u) = true
is_of_worker OfLoad = false
is_of_worker (OfUnit u) = true
is_of_worker OfSettler = false

-- an event that a worker puts: of a line, or of a unit
abbrev pub is_work : CoreEvent → Bool
is_work e = is_of_worker (mover_of e)

-- each of these entries is of such an event
abbrev pub OnlyWorks : List Told → Type 0
OnlyWorks mine = (e : Told) → Member e mine → is_work e.event ≡ true
